use Rattle.std.proofs.Common.{◌-◌, length}
use Rattle.macho_consumed.proofs.Distinct.{AreHeld, AreApart, AreShared}
use Rattle.macho_consumed.proofs.starts.check_starts.Given as goal

abbrev pub invariant-loop-index : goal.invariant-loop-index
invariant-loop-index l = record {
  held : AreHeld l.entries (length l.entries - l.index) l.starts.keys;
  apart : AreApart l.entries (length l.entries - l.index) l.again;
  shared : AreShared l.entries l.again;
}
