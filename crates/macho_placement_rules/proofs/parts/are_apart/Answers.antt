-- Whether no two parts share an address.
--
-- The sort moves the parts, and their starts don't fall. That two parts share no address holds in any order of the list.
use Rattle.std.proofs.Common.{map, refl, inl, inr}
use Rattle.std.specs.List.{AllPairs}
use Rattle.std.proofs.lemmas.Bool.{OnTrue_at, OnTrue_from}
use Rattle.std.proofs.lemmas.List.Sorted.{IsNonDecreasingBy-from_sort_by_key, IsPermutation-sym}
use Rattle.macho_bytes.proofs.Pairs.{pairs_map, pairs_unmap}
use Rattle.macho_linkedit.proofs.Pairs.{pairs_permuted}
use Rattle.macho_model.specs.Placement.{AreApart}
use Rattle.macho_placement_rules.specs.declared.parts.Part.{Part}
use Rattle.macho_placement_rules.specs.Parts.{piece_of}
use Rattle.macho_placement_rules.specs.steps.Parts.{ArePartsApart}
use Rattle.macho_placement_rules.proofs.parts.are_apart.Goals as goal

-- being apart goes both ways
turned : (p q : Part) → ArePartsApart p q → ArePartsApart q p
turned p q h = elim h [
  | inl first ↦ inr (inl first)
  | inr (inl second) ↦ inl second
  | inr (inr (inl before)) ↦ inr (inr (inr before))
  | inr (inr (inr behind)) ↦ inr (inr (inl behind))
]

pub none_reaches_the_next-requires : goal.none_reaches_the_next-requires
none_reaches_the_next-requires c =
    IsNonDecreasingBy-from_sort_by_key (λ (p : Part). p.start) c.sort_unstable_by_key.new.self c.sort_unstable_by_key.ensures.sorted
    (λ a r f' called. (called.met, refl))

pub returns-clause-found : goal.returns-clause-found
returns-clause-found c = OnTrue_from c.none_reaches_the_next.result (AllPairs AreApart (map piece_of c.args.parts.now)) (λ yes.
    pairs_map AreApart piece_of c.args.parts.now (pairs_permuted ArePartsApart turned c.sort_unstable_by_key.new.self c.args.parts.now
    (IsPermutation-sym c.args.parts.now c.sort_unstable_by_key.new.self c.sort_unstable_by_key.ensures.permutation)
    (OnTrue_at yes c.none_reaches_the_next.ensures.found)))

pub returns-clause-only : goal.returns-clause-only
returns-clause-only c = λ apart.
    c.none_reaches_the_next.ensures.only (pairs_permuted ArePartsApart turned c.args.parts.now c.sort_unstable_by_key.new.self
    c.sort_unstable_by_key.ensures.permutation (pairs_unmap AreApart piece_of c.args.parts.now apart))
