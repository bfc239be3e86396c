-- With no member the table is as before; each member's names come behind.
use Rattle.std.proofs.Common.{map, take, arith}
use Rattle.std.specs.List.{enumerate_from}
use Rattle.std.specs.HashMap.{get}
use Rattle.macho_members.specs.steps.Tables.{same_text, first_of, behind, member_known}
use Rattle.macho_members.proofs.Noted.{finds_none, finds_numbered_more, finds_numbered}
use Rattle.macho_members.proofs.table.note_members.Goals as goal

pub loop-member-init : goal.loop-member-init
loop-member-init c = λ known finds. finds_none (get same_text c.args.table.now) known finds

pub loop-member-preserved : goal.loop-member-preserved
loop-member-preserved c = λ known finds.
    finds_numbered_more (get same_text c.note_names.new.table) known (member_known c.args.archive) c.args.members.now c.loop-member.member _
    c.loop-member-test.true
    (c.in_ok-note_names.ensures
    (behind known (first_of (map (member_known c.args.archive)
    (take c.loop-member.member (enumerate_from 0 c.args.members.now)))))
    (c.loop-member.invariant known finds))

pub returns : goal.returns
returns c = λ known finds.
    finds_numbered (get same_text c.loop-member.table) known (member_known c.args.archive) c.args.members.now c.loop-member.member
    (omega (arith, c.loop-member-test.false)) (c.loop-member.invariant known finds)
