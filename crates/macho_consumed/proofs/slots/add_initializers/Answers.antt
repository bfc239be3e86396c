use Rattle.std.proofs.Common.{◌≡◌, inl, inr, true, ap, ◌∙◌, sym, subst, arith, List, ◌++◌, ◌∷◌, []}
use Rattle.macho_object.specs.Views.{RelocationBytes}
use Rattle.macho_consumed.specs.declared.rows.Initializer.{Initializer}
use Rattle.macho_model.specs.Consumed.{initializer_section_fits}
use Rattle.macho_consumed.specs.declared.fault.ConsumedFault.TheVariants.{BadInitializer}
use Rattle.macho_consumed.specs.steps.Alone.{alone, own}
use Rattle.macho_consumed.specs.steps.Places.{ArePlaces}
use Rattle.macho_consumed.specs.steps.Slots.{SlotBreaks, SlotIs}
use Rattle.macho_consumed.proofs.InSlots.{slots_none, slots_more, rows_none, rows_more, leads_none, leads_more, strays, pointer_named, bad_slot, bad_between, slot_within, slot_cell, none_at_start, section_fits}
use Rattle.macho_consumed.proofs.slots.add_initializers.Goals as goal

pub loop-slot-init : goal.loop-slot-init
loop-slot-init c = record { fit = slots_none _ _; rows = rows_none _ _ _ _; lead = leads_none _ _ _ _; none = none_at_start _ _ }

pub pointer_in_slot-requires-clause-cell : goal.pointer_in_slot-requires-clause-cell
pointer_in_slot-requires-clause-cell c =
    slot_cell _ _ _ _ _ c.in_ok-places.ensures.table (omega (arith, c.loop-slot-test.true, c.len-slot-end.ensures)) c.index.ensures

pub returns-in_default-clause-why : goal.returns-in_default-clause-why
returns-in_default-clause-why c =
    let e = c.section_of-source.ensures.is in
    let places = subst (λ (s : RelocationBytes). ArePlaces s.bytes s.section c.in_ok-places.places) e c.in_ok-places.ensures in
    let breaks = subst (λ (s : RelocationBytes). SlotBreaks s.bytes s.section c.loop-slot.slot) e c.in_default.ensures in
    bad_slot _ _ _ _ c.loop-slot.slot _ (slot_within _ _ _ _ _ places.table (omega arith)) (inl breaks) c.bad_initializer-in_default.ensures

pub leads_into-requires : goal.leads_into-requires
leads_into-requires c =
    let e = c.section_of-source.ensures.is in
    let is = subst (λ (s : RelocationBytes). SlotIs s.bytes s.section c.loop-slot.slot (c.in-Some.index, c.in-Some.relocation)) e
    c.in-Some.ensures in
    pointer_named c.args.symbols.now _ _ _ _ _ is c.section_of-source.ensures.symbols c.requires.named

pub returns-then-not-leads_into-clause-why : goal.returns-then-not-leads_into-clause-why
returns-then-not-leads_into-clause-why c =
    let e = c.section_of-source.ensures.is in
    let places = subst (λ (s : RelocationBytes). ArePlaces s.bytes s.section c.in_ok-places.places) e c.in_ok-places.ensures in
    let is = subst (λ (s : RelocationBytes). SlotIs s.bytes s.section c.loop-slot.slot (c.in-Some.index, c.in-Some.relocation)) e
    c.in-Some.ensures in
    bad_slot _ _ _ _ c.loop-slot.slot _ (slot_within _ _ _ _ _ places.table (omega arith))
    (inr (strays _ _ _ _ _ _ _ is c.leads_into.ensures c.if-not-leads_into.true)) c.bad_initializer-then-not-leads_into.ensures

pub returns-in-Some-between_below-clause-why : goal.returns-in-Some-between_below-clause-why
returns-in-Some-between_below-clause-why c =
    let e = c.section_of-source.ensures.is in
    let places = subst (λ (s : RelocationBytes). ArePlaces s.bytes s.section c.in_ok-places.places) e c.in_ok-places.ensures in
    let below = c.in-Some-between_below.ensures _ _ places in
    bad_between _ _ _ _ _ _ below.0
    (c.bad_initializer-in-Some-between_below.ensures ∙ ap (BadInitializer c.args.number c.args.section) c.from.ensures)

pub loop-slot-preserved : goal.loop-slot-preserved
loop-slot-preserved c =
    let e = c.section_of-source.ensures.is in
    let places = subst (λ (s : RelocationBytes). ArePlaces s.bytes s.section c.in_ok-places.places) e c.in_ok-places.ensures in
    let is = subst (λ (s : RelocationBytes). SlotIs s.bytes s.section c.loop-slot.slot
    (c.in-Some.index, c.in-Some.relocation)) e c.in-Some.ensures in
    let row : Initializer = record
    { file = c.args.number; section = c.args.section; number = c.in-Some.index; relocation = c.in-Some.relocation } in
    record {
      fit = slots_more _ _ _ _ c.loop-slot.invariant.fit is;
      rows = c.in_ok-push.ensures.items ∙ ap (λ (rows : List Initializer). rows ++ row ∷ []) c.loop-slot.invariant.rows
          ∙ rows_more _ _ _ _ _ _ is;
      lead = leads_more _ _ _ _ _ _ _ c.loop-slot.invariant.lead is c.leads_into.ensures c.if-not-leads_into.false;
      none = λ r lt below. c.in_default-between_below.ensures _ _ places r lt (omega (arith, below));
    }

pub returns-clause-found : goal.returns-clause-found
returns-clause-found c =
    let e = c.section_of-source.ensures.is in
    let places = subst (λ (s : RelocationBytes). ArePlaces s.bytes s.section c.in_ok-places.places) e c.in_ok-places.ensures in
    section_fits _ _ _ _ c.loop-slot.slot _
    (subst (λ (s : RelocationBytes). initializer_section_fits (alone s.bytes) (own s.section) ≡ true)
    e (sym c.if-not-has_slots.ensures)) places.table c.loop-slot.invariant.fit c.loop-slot.invariant.lead c.loop-slot.invariant.none
    c.section_of-source.ensures.inside (omega (arith, c.loop-slot-test.false, c.len-slot-end.ensures))
