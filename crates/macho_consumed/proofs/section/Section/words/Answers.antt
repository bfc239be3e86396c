use Rattle.std.proofs.Common.{◌≡◌}
use Rattle.macho_consumed.proofs.InSlots.{entry_bytes, entry_is_read}
use Rattle.macho_consumed.proofs.section.Section.words.Goals as goal

pub unreachable-requires : goal.unreachable-requires
unreachable-requires c =
    let v : c.self.inside.relocations ≡ c.args.self.now = c.self.view_is in
    let inv = c.self.invariant in
    entry_is_read _ _ (entry_bytes _ _ _ _ v inv.object inv.among inv.content c.requires.bytes c.requires.within) c.in-None.ensures
