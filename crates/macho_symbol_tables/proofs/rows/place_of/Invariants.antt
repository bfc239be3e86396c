use Rattle.std.proofs.Common.{◌-◌}
use Rattle.macho_symbol_tables.proofs.Numbered.{IsBetween}
use Rattle.macho_symbol_tables.proofs.rows.place_of.Given as goal

abbrev pub invariant-loop-low : goal.invariant-loop-low
invariant-loop-low l = IsBetween l.objects l.number l.low l.high

abbrev pub decreases-loop-low : goal.decreases-loop-low
decreases-loop-low l = l.high - l.low
