-- Each member's names come behind.
use Rattle.std.proofs.Common.{sym, ap, ◌∙◌, append-nil}
use Rattle.std.proofs.lemmas.List.{map-append}
use Rattle.macho_members.specs.Views.{texts}
use Rattle.macho_members.proofs.Starts.{starts_more}
use Rattle.macho_members.proofs.needed.add_used.Goals as goal

pub loop-member-init : goal.loop-member-init
loop-member-init c = sym (append-nil (texts c.args.names.now.items))

pub loop-member-preserved : goal.loop-member-preserved
loop-member-preserved c =
    starts_more (λ m. texts m.used.now) c.args.members.now c.loop-member.member-index _ (texts c.args.names.now.items)
    (texts c.loop-member.names.items) (texts c.extend_from_slice.new.self.items) c.loop-member-test.true c.loop-member.invariant
    (ap texts c.in_ok-extend_from_slice.ensures.items ∙ map-append (λ n. n.now) c.loop-member.names.items _)
