-- What holds before number k: the first k have been added.
use Rattle.std.proofs.Common.{◌≡◌, ◌++◌, map, take}
use Rattle.macho_placement_rules.specs.steps.Pieces.{stub_part}
use Rattle.macho_placement_rules.proofs.pieces.push_stubs.Given as goal

abbrev pub invariant-loop-stub : goal.invariant-loop-stub
invariant-loop-stub l = l.parts.items ≡ l.initial.parts.items ++ map stub_part (take l.stub-index l.stubs)
