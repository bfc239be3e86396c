use Rattle.std.proofs.Common.{◌≡◌, ◌-◌, ◌+◌, ℕ, length, ap, arith}
use Rattle.macho_bytes.specs.Uleb.{uleb_of, groups_of, MOST_GROUPS}
use Rattle.macho_bytes.proofs.Ulebs.{size-step, groups_last, length-groups}
use Rattle.macho_wire.proofs.uleb.uleb_size.Goals as goal

pub loop-size-init : goal.loop-size-init
unfolding uleb_of
loop-size-init c = omega arith

pub loop-size-preserved : goal.loop-size-preserved
loop-size-preserved c =
    size-step (MOST_GROUPS - c.loop-size.size) (MOST_GROUPS - (c.loop-size.size + 1)) c.loop-size.size c.loop-size.rest
    (length (uleb_of c.args.value))
    (omega arith) c.if-rest-lt128.false c.loop-size.invariant

pub returns-then-rest-lt128 : goal.returns-then-rest-lt128
returns-then-rest-lt128 c =
    let last = ap length (groups_last (MOST_GROUPS - c.loop-size.size) c.loop-size.rest c.if-rest-lt128.true) in
    omega (arith, c.loop-size.invariant, last)

pub returns : goal.returns
returns c =
    let none : MOST_GROUPS - c.loop-size.size ≡ 0 = omega arith in
    let some = length-groups 0 c.loop-size.rest in
    omega (arith, c.loop-size.invariant, ap (λ (k : ℕ). length (groups_of k c.loop-size.rest)) none, some.0, some.1)
