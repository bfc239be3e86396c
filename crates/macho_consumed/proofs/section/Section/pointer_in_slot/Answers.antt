use Rattle.std.proofs.Common.{◌≡◌}
use Rattle.macho_consumed.proofs.InSlots.{in_cell, slots_have_bytes, slot_bytes}
use Rattle.macho_consumed.proofs.section.Section.pointer_in_slot.Goals as goal

pub relocation-relocation-requires : goal.relocation-relocation-requires
relocation-relocation-requires c = in_cell _ _ _ _ _ _ c.requires.cell c.in-One.is

pub little_at-content-requires : goal.little_at-content-requires
little_at-content-requires c =
    let v : c.self.inside.relocations ≡ c.args.self.now = c.self.view_is in
    let inv = c.self.invariant in
    let plain = (slots_have_bytes _ _ c.requires.whole).0 in
    slot_bytes _ _ _ _ v inv.object inv.among inv.content plain c.requires.within
