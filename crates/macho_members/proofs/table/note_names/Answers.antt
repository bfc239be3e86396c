-- With no name the table is as before; each name is one that comes behind.
use Rattle.std.proofs.Common.{map, take}
use Rattle.std.specs.HashMap.{get}
use Rattle.macho_members.specs.steps.Tables.{same_text, named, behind, first_of}
use Rattle.macho_members.proofs.Noted.{finds_none, finds_more}
use Rattle.macho_members.proofs.table.note_names.Goals as goal

pub loop-name-init : goal.loop-name-init
loop-name-init c = λ known finds. finds_none (get same_text c.args.table.now) known finds

pub loop-name-preserved : goal.loop-name-preserved
loop-name-preserved c = λ known finds.
    finds_more (get same_text c.note_name.new.table) known (λ n. named c.args.place n.now) c.args.names.now c.loop-name.name-index _
    c.loop-name-test.true
    (c.in_ok-note_name.ensures
    (behind known (first_of (map (λ n. named c.args.place n.now) (take c.loop-name.name-index c.args.names.now))))
    (c.loop-name.invariant known finds))
