-- Member by member, and at last none is left.
use Rattle.std.proofs.Common.{arith}
use Rattle.macho_members.specs.Views.{places_of}
use Rattle.macho_members.proofs.Listing.{next_listed}
use Rattle.macho_members.proofs.needed.list_archive.Goals as goal

pub loop-member-init : goal.loop-member-init
loop-member-init c = λ inputs was in_it is. was

pub loop-member-preserved : goal.loop-member-preserved
loop-member-preserved c = λ inputs was in_it is.
    let m = c.loop-member.member in
    c.in_ok-list_member.ensures inputs (c.loop-member.invariant inputs was in_it is)
    ((λ needed. (in_it m needed).1), (λ h. is m c.loop-member-test.true h))

pub returns : goal.returns
returns c = λ inputs was in_it is.
    next_listed inputs c.args.archive c.loop-member.member (places_of c.loop-member.places.items)
    (λ n needed. omega (arith, (in_it n needed).0, c.loop-member-test.false)) (c.loop-member.invariant inputs was in_it is)
