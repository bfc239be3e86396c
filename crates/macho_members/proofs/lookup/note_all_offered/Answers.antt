-- With no input the table is as before; what each offers comes behind.
use Rattle.std.proofs.Common.{map, take, arith}
use Rattle.std.specs.List.{enumerate_from}
use Rattle.std.specs.HashMap.{get}
use Rattle.macho_members.specs.steps.Tables.{same_text, first_of, behind, offered_by}
use Rattle.macho_members.proofs.Noted.{finds_none, finds_numbered_more, finds_numbered}
use Rattle.macho_members.proofs.lookup.note_all_offered.Goals as goal

pub loop-number-init : goal.loop-number-init
loop-number-init c = λ known finds. finds_none (get same_text c.args.table.now) known finds

pub loop-number-preserved : goal.loop-number-preserved
loop-number-preserved c = λ known finds.
    finds_numbered_more (get same_text c.note_offered.new.table) known offered_by c.args.inputs.now c.loop-number.number _
    c.loop-number-test.true
    (c.in_ok-note_offered.ensures
    (behind known (first_of (map offered_by (take c.loop-number.number (enumerate_from 0 c.args.inputs.now)))))
    (c.loop-number.invariant known finds))

pub returns : goal.returns
returns c = λ known finds.
    finds_numbered (get same_text c.loop-number.table) known offered_by c.args.inputs.now c.loop-number.number
    (omega (arith, c.loop-number-test.false)) (c.loop-number.invariant known finds)
