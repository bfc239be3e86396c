-- With no input the table is as before; what each settles comes behind.
use Rattle.std.proofs.Common.{map, take}
use Rattle.std.specs.HashMap.{get}
use Rattle.macho_members.specs.steps.Tables.{same_text, settled_by, behind, first_of}
use Rattle.macho_members.proofs.Noted.{finds_none, finds_more}
use Rattle.macho_members.proofs.lookup.note_all_settled.Goals as goal

pub loop-input-init : goal.loop-input-init
loop-input-init c = λ known finds. finds_none (get same_text c.args.table.now) known finds

pub loop-input-preserved : goal.loop-input-preserved
loop-input-preserved c = λ known finds.
    finds_more (get same_text c.note_settled.new.table) known settled_by c.args.inputs.now c.loop-input.input-index _
    c.loop-input-test.true
    (c.in_ok-note_settled.ensures
    (behind known (first_of (map settled_by (take c.loop-input.input-index c.args.inputs.now))))
    (c.loop-input.invariant known finds))
