use Rattle.std.proofs.Common.{◌≡◌, drop}
use Rattle.std.specs.Str.{bytes_eq}
use Rattle.macho_stub_lines.specs.Lists.{texts}
use Rattle.macho_stub.specs.steps.Checks.{all_same}
use Rattle.macho_stub.proofs.library.same_names.Given as goal

abbrev pub invariant-loop-i : goal.invariant-loop-i
invariant-loop-i l = all_same bytes_eq (drop l.i (texts l.left)) (drop l.i (texts l.right))
    ≡ all_same bytes_eq (texts l.left) (texts l.right)
