-- The addresses of sections: what holds before step k is that the last k are in the table.
use Rattle.std.proofs.Common.{◌-◌, drop, length}
use Rattle.macho_places.specs.Lookups.{HoldsSections}
use Rattle.macho_places.proofs.addresses.section_table.Given as goal

abbrev pub invariant-loop-done : goal.invariant-loop-done
invariant-loop-done l = HoldsSections l.table (drop (length l.sections - l.done) l.sections)
