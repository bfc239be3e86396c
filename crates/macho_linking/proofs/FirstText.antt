-- The bytes of `__TEXT` in the file, found from the front.
--
-- What a filter keeps of a list is what it keeps of the rest where the first element fails, and begins with the first element where
-- that passes. The segments of a link have different names, so the first one of a name is any one of it.
use Rattle.std.proofs.Common.{◌≡◌, ℕ, ◌+◌, ◌<◌, ◌≤◌, cond, Bool, true, false, List, [], ◌∷◌, filter, length, get_or, drop, refl, sym, ap, subst, ◌∙◌}
use Rattle.std.specs.Prelude.{Contains}
use Rattle.std.proofs.lemmas.List.{drop_more}
use Rattle.std.proofs.Math.ListN.{drop_of_length-le}
use Rattle.macho_bytes.proofs.Members.{contains_filter, filter_contains, contains_first, nil_contains}
use Rattle.macho_model.specs.declared.placed.PlacedSegment.{PlacedSegment}
use Rattle.macho_model.specs.Links.{Link}
use Rattle.macho_model.specs.Segments.{TEXT}
use Rattle.macho_model.specs.Placement.{is_segment_named, Follows}
use Rattle.macho_model.specs.Lists.{EachNext, of_first}
use Rattle.macho_model.proofs.Sections.{one_named}

unfoldable pub first_size : List PlacedSegment → ℕ
first_size segments = of_first 0 (λ s. s.file_size) (filter (is_segment_named TEXT) segments)

-- the first of a list, by whether its front is named so
abbrev size_by : PlacedSegment → List PlacedSegment → Bool → ℕ
size_by s segments b =
    of_first 0 (λ t. t.file_size) (cond b (s ∷ filter (is_segment_named TEXT) segments) (filter (is_segment_named TEXT) segments))

with_first : (s : PlacedSegment) (segments : List PlacedSegment) (b : Bool) → is_segment_named TEXT s ≡ b
    → first_size (s ∷ segments) ≡ size_by s segments b
unfolding first_size
with_first s segments b is = ap (size_by s segments) is

-- at the one that is named so
pub size_here : (segments : List PlacedSegment) (i : ℕ) (d : PlacedSegment) → i < length segments
    → first_size segments ≡ first_size (drop i segments) → is_segment_named TEXT (get_or segments i d) ≡ true
    → (get_or segments i d).file_size ≡ first_size segments
size_here segments i d lt left is =
    sym (left ∙ ap first_size (drop_more segments i d lt) ∙ with_first (get_or segments i d) (drop (i + 1) segments) true is)

-- behind one that is not
pub size_behind : (segments : List PlacedSegment) (i : ℕ) (d : PlacedSegment) → i < length segments
    → first_size segments ≡ first_size (drop i segments) → is_segment_named TEXT (get_or segments i d) ≡ false
    → first_size segments ≡ first_size (drop (i + 1) segments)
unfolding first_size
size_behind segments i d lt left is =
    left ∙ ap first_size (drop_more segments i d lt) ∙ with_first (get_or segments i d) (drop (i + 1) segments) false is

-- where none is left
pub size_nowhere : (segments : List PlacedSegment) (i : ℕ) → length segments ≤ i → first_size segments ≡ first_size (drop i segments)
    → 0 ≡ first_size segments
unfolding first_size
size_nowhere segments i all left = sym (left ∙ ap first_size (drop_of_length-le segments all))

-- THE size of any `__TEXT` of a link
pub size_of_text : (l : Link) (segments : List PlacedSegment) (s : PlacedSegment) → EachNext (Follows l) segments → Contains segments s
    → is_segment_named TEXT s ≡ true → first_size segments ≡ s.file_size
unfolding first_size
size_of_text l segments s follow has named = by (filter (is_segment_named TEXT) segments) refl
  where
    there : Contains (filter (is_segment_named TEXT) segments) s
    there = contains_filter (is_segment_named TEXT) segments s has named

    by : (found : List PlacedSegment) → filter (is_segment_named TEXT) segments ≡ found
        → of_first 0 (λ t. t.file_size) found ≡ s.file_size
    by [] e = absurd (nil_contains s (subst (λ (ss : List PlacedSegment). Contains ss s) e there))
    by (t ∷ found) e =
        let of = filter_contains (is_segment_named TEXT) segments t
        (subst (λ (ss : List PlacedSegment). Contains ss t) (sym e) (contains_first t found)) in
        ap (λ (u : PlacedSegment). u.file_size) (one_named l segments TEXT t s follow of.0 has of.1 named)
