-- What has a place has one place.
--
-- Files are numbered by their places among the inputs, and sections of a file by theirs, so no two sections of a link are
-- equal; nor are two carried ones, nor two placed ones, which are the same in another order. Commons are numbered by theirs.
use Rattle.std.proofs.Common.{◌≡◌, ◌≢◌, ℕ, ◌≤◌, List, map, length, get_or, sym, ap, ◌∙◌, arith, inl, inr}
use Rattle.std.specs.Prelude.{AllPairs, Contains}
use Rattle.std.specs.List.{enumerate_from, range_with_len}
use Rattle.std.proofs.lemmas.Bool.{cases_lt}
use Rattle.std.proofs.lemmas.List.{get_or_default}
use Rattle.std.proofs.lemmas.List.FromFn.{length-range_with_len, get_or-range_with_len, length-enumerate_from, get_or-enumerate_from}
use Rattle.std.proofs.lemmas.List.Kept.{AllPairs-filter}
use Rattle.std.proofs.lemmas.List.Sorted.{IsPermutation-sym}
use Rattle.macho_model.specs.declared.placed.PlacedSection.{PlacedSection}
use Rattle.macho_model.specs.declared.placed.PlacedCommon.{PlacedCommon}
use Rattle.macho_model.specs.Objects.{num_sections}
use Rattle.macho_model.specs.Links.{Input, Object, Dylib, Stub, Link, SectionId, header_at, is_carried, sections_of_file, sections_of, carried_of}
use Rattle.macho_model.specs.Resolution.{chosen_commons}
use Rattle.macho_model.specs.Placement.{Placed, id_of, IsWholeList}
use Rattle.macho_linkedit.proofs.Pairs.{pairs_weaker, pairs_flat_map, pairs_permuted}
use Rattle.macho_model.proofs.Parts.{same_order}
use Rattle.macho_bytes.proofs.Pairs.{pairs_nil, pairs_map, pairs_unmap}
use Rattle.macho_model.proofs.Sections.{file_of_section}

-- one of two equal keys in a list of different ones
pub unique_in : {X Y : Type 0} (f : X → Y) (xs : List X) (x y : X) → AllPairs (λ a b. f a ≢ f b) xs → Contains xs x → Contains xs y
    → f x ≡ f y → x ≡ y
unique_in {X} {Y} f xs x y differ (i, i_in, i_is) (j, j_in, j_is) same =
    elim (cases_lt i j) [
      | inl below ↦ absurd (differ i j x below j_in (at_x ∙ same ∙ sym at_y))
      | inr past ↦ elim (cases_lt j i) [
        | inl above ↦ absurd (differ j i x above i_in (at_y ∙ sym same ∙ sym at_x))
        | inr most ↦ sym i_is ∙ ap (λ (n : ℕ). get_or xs n x) (both past most) ∙ get_or_default xs j x y j_in ∙ j_is
      ]
    ]
  where
    both : j ≤ i → i ≤ j → i ≡ j
    both a b = omega arith

    at_x : f (get_or xs i x) ≡ f x
    at_x = ap f i_is

    at_y : f (get_or xs j x) ≡ f y
    at_y = ap f (get_or_default xs j x y j_in ∙ j_is)

-- numbers of a range, and those of a list's places, differ
range_differs : (a n : ℕ) → AllPairs (λ x y. x ≢ y) (range_with_len a n)
range_differs a n i j d below within same =
    omega (
      arith,
      get_or-range_with_len a n i d (omega (arith, length-range_with_len a n)),
      get_or-range_with_len a n j d (omega (arith, length-range_with_len a n)),
    )

enumerate_differs : {X : Type 0} (n : ℕ) (xs : List X) → AllPairs (λ x y. x.0 ≢ y.0) (enumerate_from n xs)
enumerate_differs {X} n xs i j d below within same =
    let first = ap (λ (p : ℕ × X). p.0) (get_or-enumerate_from n xs i d (omega (arith, length-enumerate_from n xs))) in
    let second = ap (λ (p : ℕ × X). p.0) (get_or-enumerate_from n xs j d (omega (arith, length-enumerate_from n xs))) in
    omega (arith, first, second, same)

-- sections of one file, and of two
of_file : (file : ℕ) (x : Input) → AllPairs (λ s t. s ≢ t) (sections_of_file file x)
of_file file (Object bytes) =
    pairs_map (λ s t. s ≢ t) s (range_with_len 0 (num_sections bytes))
    (pairs_weaker (λ x y. x ≢ y) (λ x y. s x ≢ s y) (range_with_len 0 (num_sections bytes)) (range_differs 0 (num_sections bytes))
    (λ x y in_x in_y apart same. apart (ap (λ (t : SectionId). t.section) same)))
  where
    s : ℕ → SectionId
    s k = record { file = file; section = k }
of_file file (Dylib bytes) = pairs_nil (λ s t. s ≢ t)
of_file file (Stub text says) = pairs_nil (λ s t. s ≢ t)

sections_differ : (l : Link) → AllPairs (λ s t. s ≢ t) (sections_of l)
unfolding sections_of
sections_differ l =
    pairs_flat_map (λ a b. a.0 ≢ b.0) (λ s t. s ≢ t) (λ i. sections_of_file i.0 i.1) (enumerate_from 0 l.inputs)
    (enumerate_differs 0 l.inputs)
    (λ i c. of_file i.0 i.1)
    (λ i j s t in_i in_j apart in_s in_t same. apart
    (sym (file_of_section i.0 i.1 s in_s) ∙ ap (λ (u : SectionId). u.file) same ∙ file_of_section j.0 j.1 t in_t))

carried_differ : (l : Link) → AllPairs (λ s t. s ≢ t) (carried_of l)
unfolding carried_of
carried_differ l = AllPairs-filter (λ s t. s ≢ t) (λ s. is_carried (header_at l s)) (sections_of l) (sections_differ l)

-- THE places of sections and of commons.
pub one_section : (l : Link) (p : Placed) (q r : PlacedSection) → IsWholeList l p → Contains p.sections q → Contains p.sections r
    → id_of q ≡ id_of r → q ≡ r
one_section l p q r whole in_q in_r same =
    unique_in id_of p.sections q r
    (pairs_unmap (λ s t. s ≢ t) id_of p.sections
    (pairs_permuted (λ s t. s ≢ t) (λ x y apart same. apart (sym same)) (carried_of l) (map id_of p.sections)
    (IsPermutation-sym (map id_of p.sections) (carried_of l) (same_order whole.sections)) (carried_differ l)))
    in_q in_r same

pub one_common : (l : Link) (p : Placed) (c d : PlacedCommon) → IsWholeList l p → Contains p.commons c → Contains p.commons d
    → c.id ≡ d.id → c ≡ d
one_common l p c d whole in_c in_d same =
    unique_in (λ e. e.id) p.commons c d
    (pairs_unmap (λ x y. x ≢ y) (λ e. e.id) p.commons
    (pairs_permuted (λ x y. x ≢ y) (λ x y apart same. apart (sym same)) (range_with_len 0 (length (chosen_commons l)))
    (map (λ e. e.id) p.commons)
    (IsPermutation-sym (map (λ e. e.id) p.commons) (range_with_len 0 (length (chosen_commons l))) (same_order whole.commons))
    (range_differs 0 (length (chosen_commons l)))))
    in_c in_d same
