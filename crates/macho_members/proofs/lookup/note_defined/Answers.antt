-- With no member the table is as before; each member's names come behind.
use Rattle.std.proofs.Common.{map, take}
use Rattle.std.specs.HashMap.{get}
use Rattle.macho_members.specs.steps.Tables.{same_text, none_known, behind, first_of}
use Rattle.macho_members.proofs.Noted.{finds_none, finds_more}
use Rattle.macho_members.proofs.lookup.note_defined.Goals as goal

pub loop-names-init : goal.loop-names-init
loop-names-init c = λ known finds. finds_none (get same_text c.args.table.now) known finds

pub loop-names-preserved : goal.loop-names-preserved
loop-names-preserved c = λ known finds.
    finds_more (get same_text c.note_names.new.table) known none_known c.args.members.now c.loop-names.names-index _
    c.loop-names-test.true
    (c.in_ok-note_names.ensures
    (behind known (first_of (map none_known (take c.loop-names.names-index c.args.members.now))))
    (c.loop-names.invariant known finds))
