use Rattle.std.proofs.Common.{arith}
use Rattle.macho_bytes.proofs.Ulebs.{uleb_value-part}
use Rattle.macho_wire.proofs.uleb.number_of.Goals as goal

pub returns-in_err-value : goal.returns-in_err-value
returns-in_err-value c =
    let part =
    uleb_value-part c.args.groups.now c.loop-left.left c.loop-left.value c.loop-left-test.true c.loop-left.invariant.0
    c.loop-left.invariant.1 in
    rw c.from_residual.ensures (omega (arith, part, c.in_err-value.ensures))
