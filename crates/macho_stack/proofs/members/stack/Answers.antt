-- Members in their cells.
--
-- No member is stacked in cells that have begun. The cell of the next member costs at most what all members so far cost, so the member
-- fits, and then one member more is stacked.
use Rattle.std.proofs.Common.{◌≡◌, ℕ, ◌+◌, ◌<◌, ◌≤◌, ◌^◌, List, [], ◌∷◌, ◌++◌, length, sum_by, take, get_or, sym, ap, subst, ◌∙◌, arith}
use Rattle.std.proofs.lemmas.List.{take_more}
use Rattle.std.proofs.lemmas.List.Sums.{get_or-le-sum_by, sum_by_more_le}
use Rattle.macho_stack.specs.declared.members.Member.{Member}
use Rattle.macho_stack.specs.declared.members.Extent.{Extent}
use Rattle.macho_stack.specs.declared.members.PlacedMember.{PlacedMember}
use Rattle.macho_stack.specs.Costs.{cost_of, extent_cost}
use Rattle.macho_stack.specs.Stacks.{AreStacked, empty_extent, extent_at, begun}
use Rattle.macho_stack.proofs.Stacking.{stacked_none, stacked_more, put_member}
use Rattle.macho_stack.proofs.members.stack.Goals as goal

pub loop-member-init : goal.loop-member-init
loop-member-init c =
    subst (λ (es : List Extent). AreStacked c.args.flags.now [] es c.new-placed.result.items) (sym c.in_ok-extents.ensures)
    (subst (λ (qs : List PlacedMember). AreStacked c.args.flags.now [] (begun c.args.flags.now) qs) (sym c.new-placed.ensures.items)
    (stacked_none c.args.flags.now))

-- the cell of a member costs at most what the members before it cost
room : (flags : List ℕ) (members : List Member) (extents : List Extent) (placed : List PlacedMember) (i : ℕ) (d : Member)
    → i < length members
    → (get_or members i d).cell < length flags → AreStacked flags (take i members) extents placed → sum_by cost_of members + 2 ^ 14 ≤ 2 ^ 64
    → (extent_at extents (get_or members i d).cell).size + cost_of (get_or members i d) + 2 ^ 14 ≤ 2 ^ 64
room flags members extents placed i d low there s fits =
    let cell : ℕ = (get_or members i d).cell in
    let one = get_or-le-sum_by extent_cost extents (get_or members i d).cell (empty_extent 0) (omega (arith, s.many)) in
    omega (arith, one, s.within, sum_by_more_le cost_of members i d low, fits)

pub join-offset-requires-clause-room : goal.join-offset-requires-clause-room
join-offset-requires-clause-room c =
    room c.args.flags.now c.args.members.now c.loop-member.extents.items c.loop-member.placed.items c.loop-member.member-index _
    c.loop-member-test.true
    (c.requires.there c.loop-member.member-index _ c.loop-member-test.true) c.loop-member.invariant c.requires.room

pub loop-member-preserved : goal.loop-member-preserved
loop-member-preserved c =
    let members = c.args.members.now in
    let i = c.loop-member.member-index in
    let low = c.loop-member-test.true in
    let m : Member = get_or c.args.members.now c.loop-member.member-index (record { cell = 0; exponent = 0; flags = 0; size = 0 }) in
    let next = stacked_more c.args.flags.now (take i members) c.loop-member.extents.items c.join-offset.new.extents.items
    c.loop-member.placed.items m
    (c.requires.there i _ low) c.join-offset.ensures.joined c.loop-member.invariant in
    let more : c.push.new.self.items ≡ c.loop-member.placed.items ++ put_member c.loop-member.extents.items m ∷ []
    = c.in_ok-push.ensures.items ∙ ap (λ (n : ℕ). c.loop-member.placed.items ++ record { member = m; offset = n } ∷ [])
    c.join-offset.ensures.offset in
    rw (take_more members i (record { cell = 0; exponent = 0; flags = 0; size = 0 }) low, more) next
