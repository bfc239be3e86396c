-- Either a step leads on to the end, or none does, and a chain leads upwards only.
use Rattle.std.proofs.Common.{◌+◌, refl, sym, subst, arith}
use Rattle.std.proofs.lemmas.Bool.Decides.{nat_tests}
use Rattle.macho_image_walks.specs.steps.Walks.{Leads}
use Rattle.macho_image_walks.proofs.WordWalk.{step_leads, leads_here, leads_no_lower, leads_nowhere, one_leads_nowhere, some_is}
use Rattle.macho_image_walks.proofs.chain_words.+reaches.Goals as goal
use Rattle.macho_image_walks.proofs.chain_words.+reaches.Goals.{in-Some+else-step-to, else-step-to-via-then-step-to+else-reaches}
use Rattle.macho_image_walks.proofs.chain_words.+reaches.Goals.{else-step-to-via-else-step-to, in_default}

pub returns-then-from-to-clause-found : goal.returns-then-from-to-clause-found
returns-then-from-to-clause-found t c is = leads_here c.args.bytes.now c.args.from c.args.to (grind (arith, nat_tests))

pub returns-then-from-to-clause-only : goal.returns-then-from-to-clause-only
returns-then-from-to-clause-only t c is leads =
    let past = c.if-from-to.true in
    leads_no_lower c.args.bytes.now c.args.from c.args.to (grind (arith, nat_tests, past, is)) leads

pub returns-then-reaches-clause-found : goal.returns-then-reaches-clause-found
returns-then-reaches-clause-found t c _ =
    step_leads c.args.bytes.now c.loop-number.number c.args.from c.in-Some.step c.args.to (c.in-Some.ensures.found c.in-Some.step refl)
    (c.reaches.ensures.found c.if-reaches.true)

pub loop-number-preserved : goal.loop-number-preserved
loop-number-preserved t c =
    one_leads_nowhere c.args.bytes.now c.loop-number.number c.args.from c.args.to c.loop-number.invariant
    (elim c.match-step_in.branch [
      | in-Some+else-step-to w ↦ λ n step leads.
          elim w.else-step-to.branch [
            | else-step-to-via-then-step-to+else-reaches v ↦
                let same = some_is w.in-Some.step n (w.in-Some.ensures.only n step) in
                v.reaches.ensures.only v.if-reaches.false (subst (λ m. Leads c.args.bytes.now (c.args.from + m) c.args.to) (sym same) leads)
            | else-step-to-via-else-step-to v ↦
                let same = some_is w.in-Some.step n (w.in-Some.ensures.only n step) in
                let far = v.if-step-to.false in
                leads_no_lower c.args.bytes.now (c.args.from + n) c.args.to (omega (arith, same, far)) leads
          ]
      | in_default w ↦ λ n step leads. w.in_default.not-Some n (c.step_in.ensures.only n step)
    ])

pub returns-clause-only : goal.returns-clause-only
returns-clause-only t c _ leads =
    let past = c.loop-number-test.false in
    let end = c.count_of-number-end.ensures in
    let before = c.if-from-to.false in
    leads_nowhere c.args.bytes.now c.args.from c.args.to (omega (arith, before))
    (λ number n within step rest. c.loop-number.invariant number n (omega (arith, past, end, within)) step rest) leads
