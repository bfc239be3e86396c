-- Which rules of parts and segments a placement keeps.
--
-- The parts that were made are the pieces of the placement, so what the answers say of them is what the rules say. The others speak of the
-- placement's own lists.
use Rattle.std.proofs.Common.{◌≡◌, ℕ, ◌+◌, ◌%◌, ◌^◌, ◌≤◌, List, All, AllPairs, map, refl, sym, ap, ◌∙◌, subst}
use Rattle.macho_model.specs.declared.placed.PlacedSegment.{PlacedSegment}
use Rattle.macho_model.specs.Placement.{Piece, AreApart, pieces_with}
use Rattle.macho_layout.specs.Placements.{placed_of}
use Rattle.macho_placement_rules.specs.Parts.{piece_of}
use Rattle.macho_placement_rules.specs.Rules.{Rule}
use Rattle.macho_placement_rules.specs.steps.Rules.{Tells}
use Rattle.macho_placement_rules.proofs.Rooms.{on_weaker}
use Rattle.macho_placement_rules.proofs.First.{tells_equal}
use Rattle.macho_placement_rules.proofs.rules.rules_kept.Goals as goal

pub returns : goal.returns
unfolding Rule
returns c = λ l are sum whole.
    let p = placed_of c.args.placement.now in
    let made : map piece_of c.in_ok-parts.parts.items ≡ pieces_with l c.args.counts.now p p.sections
    = c.in_ok-parts.ensures.found l _ are.plan refl refl whole in
    record {
      aligned = tells_equal (λ (cs : List Piece). All (λ c. c.start % 2 ^ c.exponent ≡ 0) cs) _ _ c.are_aligned-aligned.result
          (ap (map piece_of) c.as_slice.ensures.value ∙ made) c.are_aligned-aligned.ensures.found c.are_aligned-aligned.ensures.only;
      in_segment = record {
        found = c.in_ok-in_segment.ensures.found l are whole;
        only = c.in_ok-in_segment.ensures.only l are whole;
      };
      apart = tells_equal (AllPairs AreApart) _ _ c.are_apart-apart.result
          (ap (map piece_of) c.as_mut_slice.ensures.value ∙ made) c.are_apart-apart.ensures.found c.are_apart-apart.ensures.only;
      in_order = record {
        found = on_weaker c.are_in_order-in_order.result (λ ordered. (ordered.paged, ordered.follow, ordered.begins))
            (c.are_in_order-in_order.ensures.found l are);
        only = λ rules. c.are_in_order-in_order.ensures.only l are
            (record { paged = rules.0; follow = rules.1; begins = rules.2 });
      };
      template = record {
        found = c.template_holds-template.ensures.found l c.args.counts.now are.plan.sections whole.sections
            (ap (map piece_of) c.as_slice-2.ensures.value ∙ made);
        only = c.template_holds-template.ensures.only l c.args.counts.now are.plan.sections whole.sections
            (ap (map piece_of) c.as_slice-2.ensures.value ∙ made);
      };
      within_sum = subst (λ (n : ℕ). Tells (All (λ s. s.address + s.size ≤ p.base + n) p.segments) c.are_within-within_sum.result) (sym sum)
          (tells_equal (λ (gs : List PlacedSegment). All (λ s. s.address + s.size ≤ p.base + c.args.sum) gs) _ _
          c.are_within-within_sum.result c.as_slice-3.ensures.value c.are_within-within_sum.ensures.found
          c.are_within-within_sum.ensures.only);
    }
