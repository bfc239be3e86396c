-- Matching by the first place of what stands between two stars.
--
-- An entry of plain bytes and a star matches a name that begins with these bytes, and whose rest ends with what matches
-- behind the star (`front`). Behind a star any place may be taken. Where plain bytes l and a star stand there, and l stands
-- in the name first at a place: behind it the rest must match behind the second star. Every other place of l is later, and
-- what matches some end of a later rest matches an end of this one too (`behind_later`), so the first place is enough.
use Rattle.std.proofs.Common.{◌≡◌, ℕ, ◌+◌, ◌-◌, ◌<◌, ◌≤◌, ◌==◌, ◌&&◌, true, false, Bool, List, [], ◌∷◌, ◌++◌, length, get_or, take, drop, refl, ap, sym, ◌∙◌, arith, suc, min, inl, inr, length-drop, take-append-drop, length-take, drop-drop}
use Rattle.std.proofs.lemmas.Bool.{false_from_ne_true, and_parts, and_from, both_ways, cases_lt, eqb-true}
use Rattle.std.proofs.lemmas.Bool.Decides.{nat_tests}
use Rattle.std.proofs.lemmas.List.{drop_more, drop_all, length-take-le, get_or-take, get_or_default}
use Rattle.std.proofs.lemmas.List.FromFn.{length-range_with_len, get_or-range_with_len}
use Rattle.std.proofs.lemmas.List.Folds.{list_any_at, Any-from_list_any}
use Rattle.std.proofs.lemmas.Slice.Eq.{bytes_eq-Decides}
use Rattle.std.specs.Prelude.{All}
use Rattle.std.specs.List.{range_with_len}
use Rattle.std.specs.Str.{bytes_eq}
use Rattle.memchr.specs.Find.{Nowhere, NoneBefore, Passes, OccursAt, is_byte}
use Rattle.memchr.proofs.lemmas.MatchLemmas.{OccursAt-part, OccursAt-from_part}
use Rattle.macho_model.specs.ExportLists.{STAR, matches}
use Rattle.macho_export_lists.specs.steps.Matching.{matches_behind}
use Rattle.macho_bytes.proofs.Comparing.{eq_turn}

-- no byte is a star
abbrev pub IsPlain : List ℕ → Type 0
IsPlain xs = All (λ b. (b == STAR) ≡ false) xs

pub rest_plain : (c : ℕ) (xs : List ℕ) → IsPlain (c ∷ xs) → IsPlain xs
rest_plain c xs plain k d h = plain (suc k) d (omega (arith, h))

and_true : (a b : Bool) → ((a && true) && b) ≡ (a && b)
and_true true b = refl
and_true false b = refl

and_assoc : (a b c : Bool) → (a && (b && c)) ≡ ((a && b) && c)
and_assoc true b c = refl
and_assoc false b c = refl

-- one plain byte of an entry
pub one_byte : (c : ℕ) (entry : List ℕ) (y : ℕ) (name : List ℕ) → (c == STAR) ≡ false
    → matches (c ∷ entry) (y ∷ name) ≡ ((c == y) && matches entry name)
one_byte c entry y name plain = rw plain (and_true (y == c) (matches entry name) ∙ ap (λ t. t && matches entry name) (eq_turn y c))

pub no_byte : (c : ℕ) (entry : List ℕ) → (c == STAR) ≡ false → matches (c ∷ entry) [] ≡ false
no_byte c entry plain = rw plain refl

-- a plain entry matches itself alone
pub plain_entry : (entry name : List ℕ) → IsPlain entry → matches entry name ≡ bytes_eq entry name
plain_entry [] [] plain = refl
plain_entry [] (y ∷ name) plain = grind (arith, nat_tests)
plain_entry (c ∷ entry) [] plain = no_byte c entry (plain 0 c (omega arith))
plain_entry (c ∷ entry) (y ∷ name) plain =
    one_byte c entry y name (plain 0 c (omega arith)) ∙ ap (λ t. (c == y) && t) (plain_entry entry name (rest_plain c entry plain))

-- plain bytes in front of a star
pub front : (xs rest name : List ℕ) → IsPlain xs
    → matches (xs ++ STAR ∷ rest) name ≡ (bytes_eq xs (take (length xs) name) && matches_behind rest (drop (length xs) name))
unfolding matches_behind
front [] rest name plain = refl
front (c ∷ xs) rest [] plain = no_byte c (xs ++ STAR ∷ rest) (plain 0 c (omega arith))
front (c ∷ xs) rest (y ∷ name) plain =
    one_byte c (xs ++ STAR ∷ rest) y name (plain 0 c (omega arith)) ∙ ap (λ t. (c == y) && t) (front xs rest name (rest_plain c xs plain))
    ∙ and_assoc (c == y) (bytes_eq xs (take (length xs) name)) (matches_behind rest (drop (length xs) name))

-- a rest of the name that matches is one of those that are tried, and the other way round
pub behind_at : (rest name : List ℕ) (k : ℕ) → k ≤ length name → matches rest (drop k name) ≡ true → matches_behind rest name ≡ true
unfolding matches_behind
behind_at rest name k within matched =
    list_any_at (λ j. matches rest (drop j name)) (range_with_len 0 (length name + 1)) k 0
    (omega (arith, length-range_with_len 0 (length name + 1)))
    (ap (λ j. matches rest (drop j name)) (get_or-range_with_len 0 (length name + 1) k 0 (omega arith) ∙ omega arith) ∙ matched)

pub record SomeRest (rest name : List ℕ) : Type 0 where
  pub at : ℕ
  pub within : at ≤ length name
  pub matched : matches rest (drop at name) ≡ true

pub behind_some : (rest name : List ℕ) → matches_behind rest name ≡ true → SomeRest rest name
unfolding matches_behind
behind_some rest name is =
    let some = Any-from_list_any (λ j. matches rest (drop j name)) (range_with_len 0 (length name + 1)) is in
    let place : some.0 < length name + 1 = omega (arith, some.2, length-range_with_len 0 (length name + 1)) in
    let value : some.1 ≡ some.0 = sym some.3 ∙ get_or-range_with_len 0 (length name + 1) some.0 some.1 place ∙ omega arith in
    record { at = some.0; within = omega (arith, place); matched = ap (λ j. matches rest (drop j name)) (sym value) ∙ some.4 }

-- what matches an end of a later rest matches an end of the name
pub behind_later : (rest name : List ℕ) (j : ℕ) → matches_behind rest (drop j name) ≡ true → matches_behind rest name ≡ true
behind_later rest name j is = of (behind_some rest (drop j name) is)
  where
    of : SomeRest rest (drop j name) → matches_behind rest name ≡ true
    of some = elim (cases_lt (length name) j) [
      | inl past ↦
          let none : drop j name ≡ [] = drop_all j name (omega (arith, past)) in
          let end : drop (length name) name ≡ [] = drop_all (length name) name (omega arith) in
          let first : some.at ≡ 0 = omega (arith, some.within, ap length none) in
          behind_at rest name (length name) (omega arith)
          (ap (matches rest) (end ∙ sym (ap (λ k. drop k (drop j name)) first ∙ none)) ∙ some.matched)
      | inr before ↦
          behind_at rest name (j + some.at) (omega (arith, before, some.within, length-drop j name))
          (ap (matches rest) (sym (drop-drop some.at j name)) ∙ some.matched)
    ]

-- behind the last star the name ends with what is left of the entry
pub last_star : (rest name : List ℕ) → IsPlain rest → matches_behind rest name ≡ bytes_eq rest (drop (length name - length rest) name)
last_star rest name plain = of (bytes_eq rest (drop (length name - length rest) name)) refl
  where
    place : (at : ℕ) → at ≤ length name → matches rest (drop at name) ≡ true → bytes_eq rest (drop (length name - length rest) name) ≡ true
    place at within matched =
        let same : rest ≡ drop at name = (bytes_eq-Decides rest (drop at name)).0 (sym (plain_entry rest (drop at name) plain) ∙ matched) in
        let there : at ≡ length name - length rest = omega (arith, ap length same, length-drop at name, within) in
        (bytes_eq-Decides rest (drop (length name - length rest) name)).1 (same ∙ ap (λ k. drop k name) there)

    of : (t : Bool) → bytes_eq rest (drop (length name - length rest) name) ≡ t
        → matches_behind rest name ≡ bytes_eq rest (drop (length name - length rest) name)
    of true is = behind_at rest name (length name - length rest) (omega arith)
        (plain_entry rest (drop (length name - length rest) name) plain ∙ is) ∙ sym is
    of false is =
        false_from_ne_true (matches_behind rest name)
        (λ some. let r = behind_some rest name some in both_ways _ is (place r.at r.within r.matched)) ∙ sym is

-- bytes stand at a place where the name's rest begins with them
stands : (xs name : List ℕ) (k : ℕ) → k ≤ length name → bytes_eq xs (take (length xs) (drop k name)) ≡ true → OccursAt name xs k
stands xs name k within is =
    let same : xs ≡ take (length xs) (drop k name) = (bytes_eq-Decides xs (take (length xs) (drop k name))).0 is in
    let long : length xs ≡ min (length xs) (length name - k) = ap length same ∙ length-take (length xs) (drop k name)
    ∙ ap (min (length xs)) (length-drop k name) in
    OccursAt-from_part name xs k (omega (arith, long, within)) (sym same)

-- plain bytes between two stars that stand nowhere in the name
pub nowhere_star : (xs rest name : List ℕ) → IsPlain xs → Nowhere (OccursAt name xs) 0 (length name + 1)
    → matches_behind (xs ++ STAR ∷ rest) name ≡ false
nowhere_star xs rest name plain none =
    false_from_ne_true (matches_behind (xs ++ STAR ∷ rest) name) (λ is. let r = behind_some (xs ++ STAR ∷ rest) name is in
    let both = and_parts _ _ (sym (front xs rest (drop r.at name) plain) ∙ r.matched) in
    none r.at (omega arith) (omega (arith, r.within)) (stands xs name r.at r.within both.0))

-- plain bytes between two stars that stand in the name first at a place
pub next_star : (xs rest name : List ℕ) (at : ℕ) → IsPlain xs → NoneBefore (OccursAt name xs) 0 (length name + 1) at → OccursAt name xs at
    → matches_behind (xs ++ STAR ∷ rest) name ≡ matches_behind rest (drop (at + length xs) name)
next_star xs rest name at plain first here = of (matches_behind rest (drop (at + length xs) name)) refl
  where
    begins : bytes_eq xs (take (length xs) (drop at name)) ≡ true
    begins = (bytes_eq-Decides xs (take (length xs) (drop at name))).1 (sym (OccursAt-part name xs at here))

    later : (k : ℕ) → at ≤ k → matches_behind rest (drop (length xs) (drop k name)) ≡ true
        → matches_behind rest (drop (at + length xs) name) ≡ true
    later k behind is =
        let both : drop (k - at) (drop (at + length xs) name) ≡ drop (length xs) (drop k name) =
        drop-drop (k - at) (at + length xs) name ∙ ap (λ n. drop n name) (omega arith) ∙ sym (drop-drop (length xs) k name) in
        behind_later rest (drop (at + length xs) name) (k - at) (ap (matches_behind rest) both ∙ is)

    of : (t : Bool) → matches_behind rest (drop (at + length xs) name) ≡ t
        → matches_behind (xs ++ STAR ∷ rest) name ≡ matches_behind rest (drop (at + length xs) name)
    of true is =
        let rests : matches_behind rest (drop (length xs) (drop at name)) ≡ true = ap (matches_behind rest)
        (drop-drop (length xs) at name) ∙ is in
        behind_at (xs ++ STAR ∷ rest) name at (omega (arith, here.fits)) (front xs rest (drop at name) plain ∙ and_from _ _ begins rests)
        ∙ sym is
    of false is =
        false_from_ne_true (matches_behind (xs ++ STAR ∷ rest) name) (λ some. let r = behind_some (xs ++ STAR ∷ rest) name some in
        let both = and_parts _ _ (sym (front xs rest (drop r.at name) plain) ∙ r.matched) in
        let there = stands xs name r.at r.within both.0 in
        elim (cases_lt r.at at) [
          | inl before ↦ first.before r.at (omega arith) before there
          | inr behind ↦ both_ways _ is (later r.at behind both.1)
        ])
        ∙ sym is

-- an entry by its first star
pub starless : (xs : List ℕ) (n : ℕ) → NoneBefore (Passes (is_byte STAR) xs) 0 (length xs) n → IsPlain (take n xs)
starless xs n first k d h =
    let short : length (take n xs) ≡ n = length-take-le n xs (omega (arith, first.high)) in
    let below : k < n = omega (arith, h, short) in
    let same : get_or (take n xs) k d ≡ get_or xs k 0 = get_or-take n xs k d below
    ∙ get_or_default xs k d 0 (omega (arith, below, first.high)) in
    ap (λ b. b == STAR) same ∙ false_from_ne_true (get_or xs k 0 == STAR) (first.before k (omega arith) below)

pub plain_from : (xs : List ℕ) → Nowhere (Passes (is_byte STAR) xs) 0 (length xs) → IsPlain xs
plain_from xs none k d h = false_from_ne_true (get_or xs k d == STAR)
    (λ is. none k (omega arith) h (ap (λ b. b == STAR) (get_or_default xs k 0 d h) ∙ is))

pub at_star : (xs : List ℕ) (n : ℕ) → n < length xs → Passes (is_byte STAR) xs n → xs ≡ take n xs ++ STAR ∷ drop (n + 1) xs
at_star xs n within star =
    sym (take-append-drop n xs)
    ∙ ap (λ ys. take n xs ++ ys) (drop_more xs n 0 within ∙ ap (λ b. b ∷ drop (n + 1) xs) (eqb-true (get_or xs n 0) STAR star))

-- the steps of a search, by the places that were found
pub step : (entry name : List ℕ) (star at : ℕ) → NoneBefore (Passes (is_byte STAR) entry) 0 (length entry) star
    → Passes (is_byte STAR) entry star
    → NoneBefore (OccursAt name (take star entry)) 0 (length name + 1) at → OccursAt name (take star entry) at
    → matches_behind entry name ≡ matches_behind (drop (star + 1) entry) (drop (at + star) name)
step entry name star at first here found there =
    let short : length (take star entry) ≡ star = length-take-le star entry (omega (arith, first.high)) in
    ap (λ e. matches_behind e name) (at_star entry star first.high here)
    ∙ next_star (take star entry) (drop (star + 1) entry) name at (starless entry star first) found there
    ∙ ap (λ n. matches_behind (drop (star + 1) entry) (drop (at + n) name)) short

pub missed : (entry name : List ℕ) (star : ℕ) → NoneBefore (Passes (is_byte STAR) entry) 0 (length entry) star
    → Passes (is_byte STAR) entry star
    → Nowhere (OccursAt name (take star entry)) 0 (length name + 1) → matches_behind entry name ≡ false
missed entry name star first here none =
    ap (λ e. matches_behind e name) (at_star entry star first.high here)
    ∙ nowhere_star (take star entry) (drop (star + 1) entry) name (starless entry star first) none

pub whole : (entry name : List ℕ) (star : ℕ) → NoneBefore (Passes (is_byte STAR) entry) 0 (length entry) star
    → Passes (is_byte STAR) entry star
    → matches entry name ≡
    (bytes_eq (take star entry) (take (length (take star entry)) name) && matches_behind (drop (star + 1) entry) (drop star name))
whole entry name star first here =
    let short : length (take star entry) ≡ star = length-take-le star entry (omega (arith, first.high)) in
    ap (λ e. matches e name) (at_star entry star first.high here)
    ∙ front (take star entry) (drop (star + 1) entry) name (starless entry star first)
    ∙ ap (λ n. bytes_eq (take star entry) (take (length (take star entry)) name) && matches_behind (drop (star + 1) entry)
    (drop n name)) short
