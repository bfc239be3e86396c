-- What entries give to the parts of a plan.
--
-- Ids rise and are those that entries name, so the number of lesser ones is an id's own place, below their count; codes then have
-- 32 bits, since an encoding's bits 28 and 29 are clear. The ranks are the codes that stand in the list at all. All this is said of
-- each entry, and so of each entry of the sorted run.
use Rattle.std.proofs.Common.{◌≡◌, ℕ, zero, suc, ◌+◌, ◌-◌, ◌*◌, ◌^◌, ◌<◌, ◌≤◌, ◌==◌, ◌||◌, Bool, true, false, nat_lt, cond, Option, None, Some, IfSome, option_map, List, [], ◌∷◌, length, map, get_or, slice_index, Contains, IsPermutation, refl, sym, ap, subst, ◌∙◌, arith, inl, inr}
use Rattle.std.specs.List.{All, AllPairs}
use Rattle.std.proofs.lemmas.Bool.{cases_Bool, cases_lt, eqb-true, eq-eqb, lt-ltb, le-ltb, ltb-true}
use Rattle.std.proofs.lemmas.List.{get_or-map, length-map, get_or_default}
use Rattle.std.proofs.lemmas.List.Folds.{list_any_at}
use Rattle.std.proofs.lemmas.List.Sums.{sum_by-cons}
use Rattle.std.proofs.lemmas.List.Sorted.{All-permutation}
use Rattle.macho_unwind_pages.specs.declared.entries.UnwindInput.{UnwindInput}
use Rattle.macho_unwind_pages.specs.declared.entries.Personality.{Personality}
use Rattle.macho_unwind_pages.specs.declared.entries.ResolvedUnwindInfo.{ResolvedUnwindInfo}
use Rattle.macho_unwind_pages.specs.Entries.{AreEntries, IsLast, input_of, inputs_of, ids_of, place_in, number_in, code_in, codes_of}
use Rattle.macho_unwind_pages.specs.steps.Entries.{named_by, named_ids, ranks_before}
use Rattle.macho_unwind_pages.specs.steps.Ranks.{ranked, IsNumberOf}
use Rattle.macho_unwind_pages.specs.Plans.{Row}
use Rattle.macho_unwind_pages.specs.steps.Planning.{IsBehind, IsNumbered, AreAlike, HasShortCode}
use Rattle.macho_unwind_pages.proofs.Orders.{Above, Rises, has, nat_lt-strict, rises-in_order, has-in_order}
use Rattle.macho_unwind_pages.proofs.Naming.{is_in}
use Rattle.macho_unwind_pages.specs.steps.Plans.{row_from}

-- nothing lesser stands among numbers above
none_lesser : (x : ℕ) (xs : List ℕ) → Above nat_lt x xs → place_in xs x ≡ 0
none_lesser x [] above = refl
none_lesser x (y ∷ ys) above =
    let low = ltb-true x y above.0 in
    sum_by-cons (λ other. cond (nat_lt other x) 1 0) y ys
    ∙ ap (λ (b : Bool). cond b 1 0 + place_in ys x) (le-ltb y x (omega arith)) ∙ (let none = none_lesser x ys above.1 in omega arith)

above_has : (x y : ℕ) (ys : List ℕ) → Above nat_lt x ys → has y ys ≡ true → x < y
above_has x y [] above there = absurd (cc)
above_has x y (z ∷ ys) above there =
    elim (cases_Bool (y == z)) [
      | inl e ↦ let low = ltb-true x z above.0 in omega (arith, eqb-true y z e)
      | inr n ↦ above_has x y ys above.1 (rw n at there)
    ]

-- the place of a number among rising ones
pub place_at : (xs : List ℕ) (x : ℕ) → Rises nat_lt xs → has x xs ≡ true → IsNumberOf xs x (place_in xs x)
place_at [] x rises there = absurd (cc)
place_at (y ∷ ys) x rises there =
    elim (cases_Bool (x == y)) [
      | inl e ↦
          let same : x ≡ y = eqb-true x y e in
          let first : place_in (y ∷ ys) x ≡ 0
          = sum_by-cons (λ other. cond (nat_lt other x) 1 0) y ys
          ∙ ap (λ (b : Bool). cond b 1 0 + place_in ys x) (le-ltb y x (omega arith))
          ∙ (let none = none_lesser x ys (subst (λ (w : ℕ). Above nat_lt w ys) (sym same) rises.0) in omega arith) in
          (omega (arith, first), ap (slice_index (y ∷ ys)) first ∙ sym same)
      | inr n ↦
          let rest : has x ys ≡ true = rw n at there in
          let low : y < x = above_has y x ys rises.0 rest in
          let behind = place_at ys x rises.1 rest in
          let next : place_in (y ∷ ys) x ≡ suc (place_in ys x)
          = sum_by-cons (λ other. cond (nat_lt other x) 1 0) y ys
          ∙ ap (λ (b : Bool). cond b 1 0 + place_in ys x) (lt-ltb y x low) ∙ omega arith in
          (omega (arith, next, behind.0), ap (slice_index (y ∷ ys)) next ∙ behind.1)
    ]

-- an id that an entry names
named_has : (entries : List UnwindInput) (k : ℕ) (d : UnwindInput) (id : ℕ) → k < length entries
    → (get_or entries k d).personality ≡ Some id → has id (named_ids entries) ≡ true
unfolding named_ids
named_has [] k d id within is = absurd (omega arith)
named_has (e ∷ entries) zero d id within is =
    ap (λ (o : Option ℕ). has id (named_by o (named_ids entries))) is ∙ rw (eq-eqb id id refl) refl
named_has (e ∷ entries) (suc k) d id within is = go e.personality (named_has entries k d id (omega arith) is)
  where
    go : (o : Option ℕ) → has id (named_ids entries) ≡ true → has id (named_by o (named_ids entries)) ≡ true
    go None there = there
    go (Some other) there = ap (λ b. (id == other) || b) there ∙ or_true (id == other)
      where
        or_true : (b : Bool) → (b || true) ≡ true
        or_true true = refl
        or_true false = refl

-- an entry to read where there is none
abbrev pub none : ResolvedUnwindInfo
none = record { start = 0; length = 0; encoding = 0; personality = None; lsda = None }

input_at : (entries : List ResolvedUnwindInfo) (k : ℕ) (d : ResolvedUnwindInfo) → k < length entries
    → get_or (inputs_of entries) k (input_of d) ≡ input_of (get_or entries k d)
input_at entries k d within = get_or-map input_of entries k d (input_of d) within

-- the id of each entry's personality stands at its number among the ids of all
pub numbered : (entries : List ResolvedUnwindInfo) → All (IsNumbered (ids_of (inputs_of entries))) entries
numbered entries k d within =
    go (get_or entries k d).personality refl
  where
    go : (o : Option Personality) → (get_or entries k d).personality ≡ o
        → IfSome o (λ p. IsNumberOf (ids_of (inputs_of entries)) p.id (place_in (ids_of (inputs_of entries)) p.id))
    go None is = tt
    go (Some p) is =
        place_at (ids_of (inputs_of entries)) p.id (rises-in_order nat_lt (named_ids (inputs_of entries)) nat_lt-strict)
        (has-in_order nat_lt p.id (named_ids (inputs_of entries))
        ∙ named_has (inputs_of entries) k (input_of d) p.id (omega (arith, length-map entries input_of))
        (ap (λ (e : UnwindInput). e.personality) (input_at entries k d within) ∙ ap (option_map (λ (q : Personality). q.id)) is))

-- codes have 32 bits: an encoding has bits 28 and 29 clear, and a number is at most 3
pub short_codes : (text : ℕ) (entries : List ResolvedUnwindInfo) → AreEntries text entries → length (ids_of (inputs_of entries)) ≤ 3
    → All (λ e. e.encoding < 2 ^ 32) entries → All (HasShortCode (ids_of (inputs_of entries))) entries
short_codes text entries are few ranges k d within =
    go (get_or entries k d).personality (numbered entries k d within)
  where
    go : (o : Option Personality)
        → IfSome o (λ p. IsNumberOf (ids_of (inputs_of entries)) p.id (place_in (ids_of (inputs_of entries)) p.id))
        → (get_or entries k d).encoding
        + 2 ^ 28 * number_in (ids_of (inputs_of entries)) (option_map (λ (p : Personality). p.id) o) < 2 ^ 32
    go None at = omega (arith, ranges k d within)
    go (Some p) at = omega (arith, at.0, few, ranges k d within, are.clear k d within)

-- no address of an entry is below the text's
pub behind : (text : ℕ) (entries : List ResolvedUnwindInfo) → AreEntries text entries → All (IsBehind text) entries
behind text entries are k d within = record { start = are.starts k d within; slot = are.slots k d within; lsda = are.lsdas k d within }

-- one id has one slot over a permutation of the entries too
pub alike : (text : ℕ) (entries run : List ResolvedUnwindInfo) → AreEntries text entries → IsPermutation entries run
    → All (λ e. All (AreAlike e) run) run
alike text entries run are moved =
    All-permutation (λ e. All (AreAlike e) run) entries run moved
    (λ k d h. All-permutation (AreAlike (get_or entries k d)) entries run moved (are.alike k d h))

-- each entry's code stands in the list, and is ranked
pub ranked_codes : (entries : List ResolvedUnwindInfo)
    → All (λ e. has (code_in (ids_of (inputs_of entries)) (input_of e)) (ranked (codes_of (inputs_of entries))) ≡ true) entries
ranked_codes entries k d within =
    let codes = codes_of (inputs_of entries) in
    let code = code_in (ids_of (inputs_of entries)) (input_of (get_or entries k d)) in
    has-in_order (ranks_before codes) code codes
    ∙ list_any_at (λ other. code == other) codes k 0 here (eq-eqb code (get_or codes k 0) (sym at))
  where
    here : k < length (codes_of (inputs_of entries))
    here = omega (arith, length-map entries input_of, length-map (inputs_of entries) (code_in (ids_of (inputs_of entries))))

    at : get_or (codes_of (inputs_of entries)) k 0 ≡ code_in (ids_of (inputs_of entries)) (input_of (get_or entries k d))
    at = get_or-map (code_in (ids_of (inputs_of entries))) (inputs_of entries) k (input_of d) 0 (omega (arith, length-map entries input_of))
        ∙ ap (code_in (ids_of (inputs_of entries))) (input_at entries k d within)

-- ranks have 32 bits where the codes do
pub short_ranks : (codes : List ℕ) → All (λ code. code < 2 ^ 32) codes → All (λ code. code < 2 ^ 32) (ranked codes)
short_ranks codes short k d within =
    let z : ℕ = get_or (ranked codes) k d in
    let there : has z (ranked codes) ≡ true = list_any_at (λ other. z == other) (ranked codes) k d within (eq-eqb z z refl) in
    let in_codes = is_in codes z (sym (has-in_order (ranks_before codes) z codes) ∙ there) in
    subst (λ (n : ℕ). n < 2 ^ 32) in_codes.2 (short in_codes.0 z in_codes.1)

-- the rows of a run
pub rows_rise : (text : ℕ) (ids : List ℕ) (run : List ResolvedUnwindInfo) → All (IsBehind text) run
    → AllPairs (λ e f. e.start < f.start) run → AllPairs (λ r s. r.start < s.start) (map (row_from text ids) run)
rows_rise text ids run above rising i j d low within =
    let long = length-map run (row_from text ids) in
    let first : (get_or (map (row_from text ids) run) i d).start ≡ (get_or run i none).start - text
    = ap (λ (r : Row). r.start) (get_or-map (row_from text ids) run i none d (omega arith)) in
    let second : (get_or (map (row_from text ids) run) j d).start ≡ (get_or run j none).start - text
    = ap (λ (r : Row). r.start) (get_or-map (row_from text ids) run j none d (omega arith)) in
    omega (arith, first, second, rising i j none low (omega arith), (above i none (omega arith)).start)

-- the last of a run
pub is_last : (run : List ResolvedUnwindInfo) (i : ℕ) (d : ResolvedUnwindInfo)
    → AllPairs (λ e f. e.start < f.start) run → i + 1 ≡ length run → IsLast run (get_or run i d)
is_last run i d rising at k e within =
    elim (cases_lt k i) [
      | inl low ↦
          let there : get_or run i e ≡ get_or run i d = get_or_default run i e d (omega arith) in
          omega (arith, rising k i e low (omega arith), ap (λ (f : ResolvedUnwindInfo). f.start) there)
      | inr high ↦
          let same : k ≡ i = omega arith in
          let there : get_or run k e ≡ get_or run i d = ap (λ j. get_or run j e) same ∙ get_or_default run i e d (omega arith) in
          omega (arith, ap (λ (f : ResolvedUnwindInfo). f.start) there)
    ]

-- a run has the entry that is read at a place in it
pub contains_at : (run : List ResolvedUnwindInfo) (i : ℕ) (d : ResolvedUnwindInfo) → i < length run → Contains run (get_or run i d)
contains_at run i d within = (i, within, get_or_default run i (get_or run i d) d within)
