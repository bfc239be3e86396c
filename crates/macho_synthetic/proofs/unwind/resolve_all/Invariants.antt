-- The entries so far are resolved.
use Rattle.std.proofs.Common.{◌≡◌, map, take}
use Rattle.macho_synthetic.specs.Entries.{resolved_row}
use Rattle.macho_synthetic.proofs.unwind.resolve_all.Given as goal

abbrev pub invariant-loop-entry : goal.invariant-loop-entry
invariant-loop-entry g l = l.resolved.items ≡ map (resolved_row (g.P.Places.look l.places) l.tables.slots) (take l.entry-index l.entries)
