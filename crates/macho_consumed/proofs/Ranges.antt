-- Ranges of numbers, and what a filter keeps of them.
--
-- A range of one number more is the range with that number behind it. So a filter of it is the filter of the range, and the
-- number where it passes.
use Rattle.std.proofs.Common.{◌≡◌, ℕ, ◌+◌, Bool, true, false, cond, List, [], ◌∷◌, ◌++◌, filter, map, refl, sym, ap, ◌∙◌, arith}
use Rattle.std.specs.List.{range_with_len, flat_map}
use Rattle.std.proofs.lemmas.List.Elements.{filter-append}
use Rattle.std.proofs.lemmas.Grind.{flat_map-append}
use Rattle.std.proofs.lemmas.List.{append-nil}
use Rattle.macho_bytes.proofs.Maps.{range_push}

-- what a filter keeps of one number
abbrev pub kept_one : (ℕ → Bool) → ℕ → List ℕ
kept_one p n = cond (p n) (n ∷ []) []

filter_one : (p : ℕ → Bool) (n : ℕ) (t : Bool) → p n ≡ t → filter p (n ∷ []) ≡ kept_one p n
filter_one p n true e = rw e refl
filter_one p n false e = rw e refl

pub filter_range_more : (p : ℕ → Bool) (n : ℕ) → filter p (range_with_len 0 (n + 1)) ≡ filter p (range_with_len 0 n) ++ kept_one p n
filter_range_more p n =
    ap (filter p) (range_push n) ∙ filter-append p (range_with_len 0 n) (n ∷ [])
    ∙ ap (λ xs. filter p (range_with_len 0 n) ++ xs) (filter_one p n (p n) refl)

-- texts of a range, one more
pub flat_map_range_more : {X : Type 0} (f : ℕ → List X) (n : ℕ)
    → flat_map f (range_with_len 0 (n + 1)) ≡ flat_map f (range_with_len 0 n) ++ f n
flat_map_range_more {X = X} f n =
    ap (flat_map f) (range_push n) ∙ flat_map-append f (range_with_len 0 n) (n ∷ [])
    ∙ ap (λ (xs : List X). flat_map f (range_with_len 0 n) ++ xs) (append-nil (f n))
