-- The walk stands at a command; what has passed of the list is counted.
use Rattle.std.proofs.Common.{◌+◌, arith, sym, ap, subst, ◌∙◌}
use Rattle.std.specs.Prelude.{unwrap_or}
use Rattle.macho_image_walks.specs.Readings.{IsNth}
use Rattle.macho_image_walks.proofs.NthWalk.{Passed, none_passed, listed_passed, other_passed, nth_here, all_passed}
use Rattle.macho_image_walks.proofs.walk.nth.Goals as goal
use Rattle.macho_image_walks.proofs.walk.nth.Goals.{then-is_listed+else-left-eq0, else-is_listed}

pub loop-i-init : goal.loop-i-init
loop-i-init c = none_passed c.args.list c.args.bytes.now c.args.number

pub returns-then-left-eq0-clause-found : goal.returns-then-left-eq0-clause-found
returns-then-left-eq0-clause-found c place is =
    let count = c.count_of-i-end.ensures in
    let within = c.loop-i-test.true in
    subst (λ p. IsNth c.args.list c.args.bytes.now c.args.number p) (ap (λ o. unwrap_or o place) is)
    (nth_here c.args.list c.args.bytes.now c.args.number c.loop-i.i c.loop-i.place (omega (arith, count, within))
    (subst (λ n. Passed c.args.list c.args.bytes.now c.args.number c.loop-i.i c.loop-i.place n) c.if-left-eq0.true c.loop-i.invariant)
    (sym c.is_listed.ensures ∙ c.if-is_listed.true))

pub loop-i-preserved : goal.loop-i-preserved
loop-i-preserved c =
    let count = c.count_of-i-end.ensures in
    let within = c.loop-i-test.true in
    elim c.if-is_listed.branch [
      | then-is_listed+else-left-eq0 w ↦
          let some = w.if-left-eq0.false in
          subst (λ n. Passed c.args.list c.args.bytes.now c.args.number (c.loop-i.i + 1) (c.loop-i.place + c.u32_from.result) n)
          (sym w.left-is)
          (listed_passed c.args.list c.args.bytes.now c.args.number c.loop-i.i c.loop-i.place c.loop-i.left c.u32_from.result
          (omega (arith, count, within))
          c.loop-i.invariant c.u32_from.ensures (omega (arith, c.u32_from.type_inv)) (sym c.is_listed.ensures ∙ w.if-is_listed.true)
          (grind (arith, some)))
      | else-is_listed w ↦
          subst (λ n. Passed c.args.list c.args.bytes.now c.args.number (c.loop-i.i + 1) (c.loop-i.place + c.u32_from.result) n)
          (sym w.left-is)
          (other_passed c.args.list c.args.bytes.now c.args.number c.loop-i.i c.loop-i.place c.loop-i.left c.u32_from.result
          (omega (arith, count, within))
          c.loop-i.invariant c.u32_from.ensures (omega (arith, c.u32_from.type_inv)) (sym c.is_listed.ensures ∙ w.if-is_listed.false))
    ]

pub returns-clause-only : goal.returns-clause-only
returns-clause-only c none =
    let count = c.count_of-i-end.ensures in
    let past = c.loop-i-test.false in
    all_passed c.args.list c.args.bytes.now c.args.number c.loop-i.i c.loop-i.place c.loop-i.left (omega (arith, count, past))
    c.loop-i.invariant
