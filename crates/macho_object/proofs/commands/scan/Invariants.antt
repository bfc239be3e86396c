use Rattle.std.proofs.Common.{◌-◌}
use Rattle.macho_object.proofs.Passes.{IsPassed}
use Rattle.macho_object.proofs.commands.scan.Given as goal

abbrev pub invariant-loop-number : goal.invariant-loop-number
invariant-loop-number l = IsPassed l.is_dynamic l.input (l._number-end - l._number) l.at l.tally
