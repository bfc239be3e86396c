-- The file offset of an address: the first segment that has it in its file part tells it.
--
-- What a filter keeps begins with the first element that passes, so the model's first number is that of the segment at which
-- a search from the front ends; and it is 0 where none passes.
use Rattle.std.proofs.Common.{◌≡◌, ℕ, zero, suc, ◌+◌, ◌-◌, ◌%◌, ◌^◌, ◌<◌, ◌≤◌, cond, Bool, true, false, List, [], ◌∷◌, filter, length, get_or, refl, sym, ap, ◌∙◌, arith, ◌⊎◌, inl, inr}
use Rattle.std.specs.Prelude.{◌≢◌}
use Rattle.std.proofs.lemmas.Bool.{cases_eq}
use Rattle.std.proofs.lemmas.List.{get_or_default}
use Rattle.macho_model.specs.declared.placed.PlacedSegment.{PlacedSegment}
use Rattle.macho_model.specs.Placement.{Placed}
use Rattle.macho_model.specs.Lists.{of_first}
use Rattle.macho_model.specs.Addresses.{offset_in_file}
use Rattle.macho_places.specs.steps.Segments.{HaveNot, has_in_file}

abbrev pub offset_by : ℕ → PlacedSegment → ℕ
offset_by a s = s.file_offset + (a - s.address)

first_found : (a : ℕ) (xs : List PlacedSegment) (i : ℕ) (d : PlacedSegment) → i < length xs
    → ((k : ℕ) (e : PlacedSegment) → k < i → has_in_file a (get_or xs k e) ≡ false) → has_in_file a (get_or xs i d) ≡ true
    → of_first 0 (offset_by a) (filter (has_in_file a) xs) ≡ offset_by a (get_or xs i d)
first_found a [] i d lt none here = absurd (omega (arith, lt))
first_found a (x ∷ xs) zero d lt none here =
    ap (λ (b : Bool). of_first 0 (offset_by a) (cond b (x ∷ filter (has_in_file a) xs) (filter (has_in_file a) xs))) here
first_found a (x ∷ xs) (suc i) d lt none here =
    ap (λ (b : Bool). of_first 0 (offset_by a) (cond b (x ∷ filter (has_in_file a) xs) (filter (has_in_file a) xs)))
    (none 0 x (omega arith))
    ∙ first_found a xs i d (omega (arith, lt)) (λ k e low. none (suc k) e (omega (arith, low))) here

none_found : (a : ℕ) (xs : List PlacedSegment)
    → ((k : ℕ) (e : PlacedSegment) → k < length xs → has_in_file a (get_or xs k e) ≡ false)
    → of_first 0 (offset_by a) (filter (has_in_file a) xs) ≡ 0
none_found a [] none = refl
none_found a (x ∷ xs) none =
    ap (λ (b : Bool). of_first 0 (offset_by a) (cond b (x ∷ filter (has_in_file a) xs) (filter (has_in_file a) xs)))
    (none 0 x (omega arith))
    ∙ none_found a xs (λ k e low. none (suc k) e (omega (arith, low)))

-- where the search ends, by the segments of a placement
pub found_is : (p : Placed) (a : ℕ) (xs : List PlacedSegment) (i : ℕ) (d : PlacedSegment) → xs ≡ p.segments → i < length xs
    → HaveNot a xs i
    → has_in_file a (get_or xs i d) ≡ true → offset_by a (get_or xs i d) ≡ offset_in_file p a
unfolding offset_in_file
found_is p a xs i d same lt before here =
    sym (first_found a xs i d lt before.none here)
    ∙ ap (λ (ss : List PlacedSegment). of_first 0 (offset_by a) (filter (has_in_file a) ss)) same

pub none_is : (p : Placed) (a : ℕ) (xs : List PlacedSegment) (n : ℕ) → xs ≡ p.segments → length xs ≤ n → HaveNot a xs n
    → 0 ≡ offset_in_file p a
unfolding offset_in_file
none_is p a xs n same all before =
    sym (none_found a xs (λ k e low. before.none k e (omega (arith, low, all))))
    ∙ ap (λ (ss : List PlacedSegment). of_first 0 (offset_by a) (filter (has_in_file a) ss)) same

-- none of one more
pub none_more : (a : ℕ) (xs : List PlacedSegment) (n : ℕ) (d : PlacedSegment) → n < length xs → HaveNot a xs n
    → has_in_file a (get_or xs n d) ≡ false
    → HaveNot a xs (n + 1)
none_more a xs n d lt before here = record {
  none = λ k e low. by k e low (cases_eq k n);
}
  where
    by : (k : ℕ) (e : PlacedSegment) → k < n + 1 → (k ≡ n) ⊎ (k ≢ n) → has_in_file a (get_or xs k e) ≡ false
    by k e low (inl same) =
        ap (λ (j : ℕ). has_in_file a (get_or xs j e)) same ∙ ap (has_in_file a) (get_or_default xs n e d lt) ∙ here
    by k e low (inr other) = before.none k e (omega (arith, low, other))

pub low_mod : (n : ℕ) → n < 2 ^ 64 → n % 2 ^ 64 ≡ n
low_mod n low = omega (arith, low)
