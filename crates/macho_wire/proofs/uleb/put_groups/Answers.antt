use Rattle.std.proofs.Common.{◌≡◌, ◌-◌, ◌+◌, ◌<◌, ℕ, subst, refl, arith}
use Rattle.macho_bytes.specs.Uleb.{uleb_of, MOST_GROUPS}
use Rattle.macho_bytes.proofs.Ulebs.{FitsGroups, write-step, write-ends, fits-ten, fits-last}
use Rattle.macho_wire.proofs.uleb.put_groups.Goals as goal

pub loop-count-init : goal.loop-count-init
unfolding uleb_of
loop-count-init c = (refl, fits-ten c.args.value (omega arith))

pub loop-count-preserved : goal.loop-count-preserved
loop-count-preserved c =
    write-step (MOST_GROUPS - 1 - c.loop-count.count) (MOST_GROUPS - 1 - (c.loop-count.count + 1)) c.loop-count.count c.loop-count.rest
    (uleb_of c.args.value) c.loop-count.groups (omega arith) c.if-rest-lt128.false
    (omega arith) c.loop-count.invariant.1 c.loop-count.invariant.0

pub returns-then-rest-lt128-clause-written : goal.returns-then-rest-lt128-clause-written
returns-then-rest-lt128-clause-written c =
    write-ends (MOST_GROUPS - 1 - c.loop-count.count) c.loop-count.count c.loop-count.rest (uleb_of c.args.value) c.loop-count.groups
    c.if-rest-lt128.true (omega arith) c.loop-count.invariant.0

-- the last rest is a last group
last_rest : (left rest : ℕ) → left ≡ 0 → FitsGroups left rest → rest < 128
last_rest left rest none fits = fits-last rest (subst (λ (k : ℕ). FitsGroups k rest) none fits)

pub overflow_cast-groups-2 : goal.overflow_cast-groups-2
overflow_cast-groups-2 c =
    let small = last_rest (MOST_GROUPS - 1 - c.loop-count.count) c.loop-count.rest (omega arith) c.loop-count.invariant.1 in omega arith

pub returns-clause-written : goal.returns-clause-written
returns-clause-written c =
    let here : c.loop-count.count ≡ 9 = omega arith in
    let small = last_rest (MOST_GROUPS - 1 - c.loop-count.count) c.loop-count.rest (omega arith) c.loop-count.invariant.1 in
    rw here at (write-ends (MOST_GROUPS - 1 - c.loop-count.count) c.loop-count.count c.loop-count.rest
    (uleb_of c.args.value) c.loop-count.groups
    small (omega arith) c.loop-count.invariant.0)
