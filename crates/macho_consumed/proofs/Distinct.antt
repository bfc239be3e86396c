-- Starts of rows, from the last row to the first.
--
-- The keys that are held are the starts of the rows behind a place. Where the start of the row before is among them, a later row has
-- it too; where it isn't, it differs from all of them, so the rows with it are apart as those behind were.
use Rattle.std.proofs.Common.{◌≡◌, ◌≢◌, ℕ, ◌+◌, ◌-◌, ◌<◌, ◌≤◌, Bool, true, false, cond, not, ◌==◌, ◌||◌, List, [], ◌∷◌, ◌++◌, length, get_or, inl, inr, Option, Some, None, refl, sym, ap, ◌∙◌, subst, arith}
use Rattle.std.proofs.lemmas.Bool.Decides.{Decides-eqb}
use Rattle.std.proofs.lemmas.Bool.{cases_lt}
use Rattle.std.proofs.lemmas.List.{get_or_default}
use Rattle.std.proofs.lemmas.List.Folds.{list_any-append}
use Rattle.std.specs.List.{AllPairs, list_any}
use Rattle.macho_model.specs.declared.rules.UnwindRule.TheVariants.{U6}
use Rattle.macho_consumed.specs.declared.rows.UnwindEntry.{UnwindEntry}
use Rattle.macho_consumed.specs.declared.starts.StartKey.{StartKey}
use Rattle.macho_consumed.specs.declared.fault.ConsumedFault.{ConsumedFault}
use Rattle.macho_consumed.specs.declared.fault.ConsumedFault.TheVariants.{BadUnwind}
use Rattle.macho_consumed.specs.contracts.starts.StartKeyPartialEq.TheImpl as start_keys
use Rattle.macho_consumed.specs.steps.Checked.{start_key, IsAgain}
use Rattle.macho_bytes.proofs.Bools.{and_left, and_right, and_both}

-- the test of keys
abbrev pub key_eq : StartKey → StartKey → Bool
key_eq a b = start_keys.eq-value.it a b

key_same : (a b : StartKey) → key_eq a b ≡ true → a ≡ b
key_same a b e =
    let file : a.file ≡ b.file = (Decides-eqb a.file b.file).0 (and_left _ _ e) in
    let rest = and_right (a.file == b.file) _ e in
    let section : a.section ≡ b.section = (Decides-eqb a.section b.section).0 (and_left _ _ rest) in
    let offset : a.offset ≡ b.offset = (Decides-eqb a.offset b.offset).0 (and_right (a.section == b.section) _ rest) in
    λ i. record { file = file i; section = section i; offset = offset i }

key_self : (a : StartKey) → key_eq a a ≡ true
key_self a = and_both _ _ ((Decides-eqb a.file a.file).1 refl) (and_both _ _ ((Decides-eqb a.section a.section).1 refl)
    ((Decides-eqb a.offset a.offset).1 refl))

-- what is held, and what is put
abbrev pub is_held : List StartKey → StartKey → Bool
is_held keys k = list_any (key_eq k) keys

abbrev pub put : List StartKey → StartKey → List StartKey
put keys k = cond (is_held keys k) keys (keys ++ k ∷ [])

one_more : (keys : List StartKey) (q k : StartKey) → is_held (keys ++ q ∷ []) k ≡ (is_held keys k || (key_eq k q || false))
one_more keys q k = list_any-append (key_eq k) keys (q ∷ [])

held_still : (keys : List StartKey) (q k : StartKey) → is_held keys k ≡ true → is_held (put keys q) k ≡ true
held_still keys q k held = by (is_held keys q)
  where
    by : (t : Bool) → is_held (cond t keys (keys ++ q ∷ [])) k ≡ true
    by true = held
    by false = one_more keys q k ∙ ap (λ (t : Bool). t || (key_eq k q || false)) held

held_now : (keys : List StartKey) (q : StartKey) → is_held (put keys q) q ≡ true
held_now keys q = by (is_held keys q) refl
  where
    or_true : (t : Bool) → (t || true) ≡ true
    or_true true = refl
    or_true false = refl

    by : (t : Bool) → is_held keys q ≡ t → is_held (cond t keys (keys ++ q ∷ [])) q ≡ true
    by true held = held
    by false new = one_more keys q q ∙ ap (λ (t : Bool). is_held keys q || (t || false)) (key_self q) ∙ or_true (is_held keys q)

-- one that is held was held before, or is the new one
held_before : (G : Type 0) (keys : List StartKey) (q k : StartKey) → is_held (put keys q) k ≡ true → (is_held keys k ≡ true → G)
    → (k ≡ q → G) → G
held_before G keys q k held old new = by (is_held keys q) held
  where
    or_of : (t u : Bool) → is_held keys k ≡ t → key_eq k q ≡ u → (t || (u || false)) ≡ true → G
    or_of true u was is all = old was
    or_of false true was is all = new (key_same k q is)
    or_of false false was is all = cc

    by : (t : Bool) → is_held (cond t keys (keys ++ q ∷ [])) k ≡ true → G
    by true now = old now
    by false now = or_of (is_held keys k) (key_eq k q) refl refl (sym (one_more keys q k) ∙ now)

-- The keys are the starts of the rows from a place on.
pub record AreHeld (rows : List UnwindEntry) (from : ℕ) (keys : List StartKey) : Type 0 where
  pub each : (j : ℕ) (d : UnwindEntry) → from ≤ j → j < length rows → is_held keys (start_key (get_or rows j d)) ≡ true
  pub come : (k : StartKey) → is_held keys k ≡ true
      → (j : ℕ) × (from ≤ j) × (j < length rows) × ((d : UnwindEntry) → start_key (get_or rows j d) ≡ k)

-- the row at a place, whatever stands for a missing one
at_place : (rows : List UnwindEntry) (p : ℕ) (row d : UnwindEntry) → row ≡ get_or rows p row → p < length rows → get_or rows p d ≡ row
at_place rows p row d is lt = get_or_default rows p d row lt ∙ sym is

pub held_more : (rows : List UnwindEntry) (p : ℕ) (row : UnwindEntry) (k : StartKey) (keys next : List StartKey) → AreHeld rows (p + 1) keys
    → p < length rows → row ≡ get_or rows p row → k ≡ start_key row → next ≡ put keys k → AreHeld rows p next
held_more rows p row k keys next held lt is key put_is = record {
  each = λ j d le below. subst (λ (ks : List StartKey). is_held ks (start_key (get_or rows j d)) ≡ true) (sym put_is)
      (elim (cases_lt p j) [
        | inl more ↦ held_still keys k (start_key (get_or rows j d)) (held.each j d (omega (arith, more)) below)
        | inr least ↦ (let same : j ≡ p = omega (arith, le, least) in
            let here : start_key (get_or rows j d) ≡ k = ap (λ (m : ℕ). start_key (get_or rows m d)) same
            ∙ ap start_key (at_place rows p row d is lt) ∙ sym key in
            subst (λ (q : StartKey). is_held (put keys k) q ≡ true) (sym here) (held_now keys k))
      ]);
  come = λ q now. held_before ((j : ℕ) × (p ≤ j) × (j < length rows) × ((d : UnwindEntry) → start_key (get_or rows j d) ≡ q)) keys k q
      (subst (λ (ks : List StartKey). is_held ks q ≡ true) put_is now)
      (λ was. let old = held.come q was in (old.0, omega (arith, old.1), old.2, old.3))
      (λ new. (p, omega arith, lt, λ d. ap start_key (at_place rows p row d is lt) ∙ sym key ∙ sym new));
}

-- No two rows from a place on have one start, as long as none is told.
abbrev pub AreApart : List UnwindEntry → ℕ → Option UnwindEntry → Type 0
AreApart rows from (Some row) = Unit {0}
AreApart rows from None = (i j : ℕ) (d : UnwindEntry) → from ≤ i → i < j → j < length rows
    → start_key (get_or rows i d) ≢ start_key (get_or rows j d)

pub apart_more : (rows : List UnwindEntry) (p : ℕ) (row : UnwindEntry) (k : StartKey) (keys : List StartKey) (added : Bool)
    (again : Option UnwindEntry) → AreHeld rows (p + 1) keys → AreApart rows (p + 1) again → p < length rows → row ≡ get_or rows p row
    → k ≡ start_key row → added ≡ not (is_held keys k) → added ≡ true → AreApart rows p again
apart_more rows p row k keys added (Some told) held apart lt is key says new = tt
apart_more rows p row k keys added None held apart lt is key says new = λ i j d le less below same.
    elim (cases_lt p i) [
      | inl more ↦ apart i j d (omega (arith, more)) less below same
      | inr least ↦ (let first : i ≡ p = omega (arith, le, least) in
          let here : start_key (get_or rows j d) ≡ k = sym same ∙ ap (λ (m : ℕ). start_key (get_or rows m d)) first
          ∙ ap start_key (at_place rows p row d is lt) ∙ sym key in
          let was : is_held keys k ≡ true = subst (λ (q : StartKey). is_held keys q ≡ true) here
          (held.each j d (omega (arith, less, first)) below) in
          let clash : true ≡ false = sym new ∙ says ∙ ap not was in
          cc)
    ]

-- A row that is told has the start of a later one.
pub record IsShared (rows : List UnwindEntry) (row : UnwindEntry) : Type 0 where
  pub place : ℕ
  pub later : ℕ
  pub before : place < later
  pub there : later < length rows
  pub is : get_or rows place row ≡ row
  pub same : start_key (get_or rows later row) ≡ start_key row

abbrev pub AreShared : List UnwindEntry → Option UnwindEntry → Type 0
AreShared rows None = Unit {0}
AreShared rows (Some row) = IsShared rows row

pub shared_at : (rows : List UnwindEntry) (p : ℕ) (row : UnwindEntry) (k : StartKey) (keys : List StartKey) (added : Bool)
    → AreHeld rows (p + 1) keys → p < length rows → row ≡ get_or rows p row → k ≡ start_key row → added ≡ not (is_held keys k)
    → added ≡ false → IsShared rows row
shared_at rows p row k keys added held lt is key says no_more =
    let other = held.come k (by (is_held keys k) (sym says ∙ no_more)) in
    record {
      place = p;
      later = other.0;
      before = omega (arith, other.1);
      there = other.2;
      is = sym is;
      same = other.3 row ∙ key;
    }
  where
    by : (t : Bool) → not t ≡ false → t ≡ true
    by true e = refl
    by false e = cc

-- the same by the number of rows that were looked at
before_that : (n i : ℕ) → i < n → n - i ≡ n - (i + 1) + 1
before_that n i lt = omega arith

pub held_step : (rows : List UnwindEntry) (i : ℕ) (row : UnwindEntry) (k : StartKey) (keys next : List StartKey)
    → AreHeld rows (length rows - i) keys → i < length rows → row ≡ get_or rows (length rows - 1 - i) row → k ≡ start_key row
    → next ≡ put keys k → AreHeld rows (length rows - (i + 1)) next
held_step rows i row k keys next held lt is key put_is =
    let place : length rows - 1 - i ≡ length rows - (i + 1) = omega arith in
    held_more rows (length rows - (i + 1)) row k keys next (subst (λ (m : ℕ). AreHeld rows m keys) (before_that (length rows) i lt) held)
    (omega (arith, lt)) (is ∙ ap (λ (m : ℕ). get_or rows m row) place) key put_is

pub apart_step : (rows : List UnwindEntry) (i : ℕ) (row : UnwindEntry) (k : StartKey) (keys : List StartKey) (added : Bool)
    (again : Option UnwindEntry) → AreHeld rows (length rows - i) keys → AreApart rows (length rows - i) again → i < length rows
    → row ≡ get_or rows (length rows - 1 - i) row → k ≡ start_key row → added ≡ not (is_held keys k) → added ≡ true
    → AreApart rows (length rows - (i + 1)) again
apart_step rows i row k keys added again held apart lt is key says new =
    let place : length rows - 1 - i ≡ length rows - (i + 1) = omega arith in
    let here = before_that (length rows) i lt in
    apart_more rows (length rows - (i + 1)) row k keys added again (subst (λ (m : ℕ). AreHeld rows m keys) here held)
    (subst (λ (m : ℕ). AreApart rows m again) here apart) (omega (arith, lt)) (is ∙ ap (λ (m : ℕ). get_or rows m row) place) key says new

pub shared_step : (rows : List UnwindEntry) (i : ℕ) (row : UnwindEntry) (k : StartKey) (keys : List StartKey) (added : Bool)
    → AreHeld rows (length rows - i) keys → i < length rows → row ≡ get_or rows (length rows - 1 - i) row → k ≡ start_key row
    → added ≡ not (is_held keys k) → added ≡ false → IsShared rows row
shared_step rows i row k keys added held lt is key says no_more =
    let place : length rows - 1 - i ≡ length rows - (i + 1) = omega arith in
    shared_at rows (length rows - (i + 1)) row k keys added (subst (λ (m : ℕ). AreHeld rows m keys) (before_that (length rows) i lt) held)
    (omega (arith, lt)) (is ∙ ap (λ (m : ℕ). get_or rows m row) place) key says no_more

abbrev pub no_row : UnwindEntry
no_row = record {
  file = 0;
  section = 0;
  entry = 0;
  start = record { section = 0; offset = 0 };
  length = 0;
  encoding = 0;
  personality = None;
  lsda = None;
}

-- the row that a loop is at
pub row_here : (rows : List UnwindEntry) (i : ℕ) → i < length rows
    → get_or rows (length rows - 1 - i) no_row ≡ get_or rows (length rows - 1 - i) (get_or rows (length rows - 1 - i) no_row)
row_here rows i lt = get_or_default rows (length rows - 1 - i) no_row (get_or rows (length rows - 1 - i) no_row) (omega (arith, lt))
