-- A placement has each thing of a plan exactly where its lists are the plan's.
--
-- Each list of the placement is read as a slice, which is the same list. The commons are as many as the plan has, and the plan has as many
-- as the link.
use Rattle.std.proofs.Common.{◌≡◌, List, map, length, sym, ap, ◌∙◌, subst}
use Rattle.std.specs.List.{range_with_len, enumerate_from}
use Rattle.std.proofs.lemmas.List.{length-map}
use Rattle.std.proofs.lemmas.List.FromFn.{length-enumerate_from}
use Rattle.macho_model.specs.declared.placed.PlacedSection.{PlacedSection}
use Rattle.macho_model.specs.declared.placed.PlacedCommon.{PlacedCommon}
use Rattle.macho_model.specs.declared.placed.Slot.{Slot}
use Rattle.macho_model.specs.declared.placed.Stub.{Stub}
use Rattle.macho_model.specs.Links.{Link, carried_of}
use Rattle.macho_model.specs.Resolution.{chosen_commons}
use Rattle.macho_model.specs.Placement.{Placed, IsWholeList, id_of}
use Rattle.macho_layout.specs.Plans.{common_spec_of}
use Rattle.macho_placement_rules.specs.declared.rules.PlanLists.{PlanLists}
use Rattle.macho_placement_rules.specs.Lists.{AreStubs}
use Rattle.macho_placement_rules.specs.Rules.{AreListsOf}

module _ (l : Link) (q : Placed) (lists : PlanLists) (are : AreListsOf l lists) where
  as_many : length lists.commons.now ≡ length (chosen_commons l)
  as_many =
      ap length are.plan.commons ∙ length-map (enumerate_from 0 (chosen_commons l)) (common_spec_of l)
      ∙ length-enumerate_from 0 (chosen_commons l)

  pub commons_are : (cs : List PlacedCommon) → cs ≡ q.commons → IsWholeList l q
      → map (λ c. c.id) cs ≡ range_with_len 0 (length lists.commons.now)
  commons_are cs same whole =
      ap (map (λ (c : PlacedCommon). c.id)) same ∙ whole.commons ∙ ap (range_with_len 0) (sym as_many)

  pub whole_is : (ss : List PlacedSection) (cs : List PlacedCommon) (gs : List Slot) (ts : List Stub) → ss ≡ q.sections → cs ≡ q.commons
      → gs ≡ q.slots → ts ≡ q.stubs → map id_of ss ≡ carried_of l → map (λ c. c.id) cs ≡ range_with_len 0 (length lists.commons.now)
      → map (λ s. s.target) gs ≡ lists.slots.now → AreStubs l ts → IsWholeList l q
  whole_is ss cs gs ts sections commons slots stubs ids numbers targets told =
      let those : AreStubs l q.stubs = subst (AreStubs l) stubs told in
      record {
        sections = sym (ap (map id_of) sections) ∙ ids;
        commons = sym (ap (map (λ (c : PlacedCommon). c.id)) commons) ∙ numbers ∙ ap (range_with_len 0) as_many;
        slots = sym (ap (map (λ (s : Slot). s.target)) slots) ∙ targets ∙ are.plan.slots;
        stubs = those.stubs_are;
        stub_slots = those.slots_are;
      }
