use Rattle.std.proofs.Common.{◌≡◌, ◌*◌, ◌++◌}
use Rattle.macho_model.specs.Objects.{section_at}
use Rattle.macho_consumed.specs.steps.Places.{NoneBelow}
use Rattle.macho_consumed.specs.steps.Slots.{SlotsFit, SlotsLead, slot_rows}
use Rattle.macho_consumed.proofs.slots.add_initializers.Given as goal

abbrev pub invariant-loop-slot : goal.invariant-loop-slot
invariant-loop-slot l = record {
  fit : SlotsFit l.file.bytes l.section l.slot;
  rows : l.rows.items ≡ l.initial.rows.items ++ slot_rows l.file.bytes l.number l.section l.slot;
  lead : SlotsLead l.symbols l.file.bytes l.number l.section l.slot;
  none : NoneBelow l.file.bytes l.section (section_at l.file.bytes l.section).nreloc (8 * l.slot);
}
