-- A member that is taken anew brings up what it uses; of one that was taken before the name is done with.
use Rattle.std.proofs.Common.{◌≡◌, true, not, sym, ap, subst, ◌∙◌}
use Rattle.macho_bytes.proofs.Bools.{not_false, true_or_false}
use Rattle.macho_members.specs.Views.{inputs_of, texts}
use Rattle.macho_members.specs.steps.Held.{held}
use Rattle.macho_members.specs.steps.Taken.{AreUnderway}
use Rattle.macho_members.proofs.Places.{held_still, held_now, held_before, held_again}
use Rattle.macho_members.proofs.Least.{one_member}
use Rattle.macho_members.proofs.Search.{name_done, member_taken}
use Rattle.macho_members.proofs.taking.take_member.Goals as goal

pub returns-in_ok-add_used_by-clause-step : goal.returns-in_ok-add_used_by-clause-step
returns-in_ok-add_used_by-clause-step c = λ name brings was.
    let ins = inputs_of c.args.inputs.now in
    let next = held c.insert.new.self.keys in
    let was_held = held c.args.taken.now.keys in
    let place = c.args.place in
    let is = c.in_ok-insert.ensures.updates.0 in
    subst (AreUnderway ins next) (sym c.in_ok-add_used_by.ensures)
    (member_taken ins was_held next (texts c.args.pending.now.items) name place.archive place.member
    (held_still was_held next place is) (held_now was_held next place is) (held_before was_held next place is) brings was)

pub returns-else-branch-clause-step : goal.returns-else-branch-clause-step
returns-else-branch-clause-step c = λ name brings was.
    let ins = inputs_of c.args.inputs.now in
    let next = held c.insert.new.self.keys in
    let was_held = held c.args.taken.now.keys in
    let place = c.args.place in
    let is = c.in_ok-insert.ensures.updates.0 in
    name_done ins was_held next (texts c.args.pending.now.items) name (held_still was_held next place is)
    (held_again was_held next place is
    (not_false (was_held place.archive place.member) (λ no.
    true_or_false (not (was_held place.archive place.member)) (ap not no) (sym c.in_ok-insert.ensures.added ∙ c.if-branch.false))))
    (λ i m brought. let one = one_member ins name i m place.archive place.member brought brings in
    subst (λ j. next j m ≡ true) (sym one.0) (subst (λ n. next place.archive n ≡ true) (sym one.1) (held_now was_held next place is)))
    was
