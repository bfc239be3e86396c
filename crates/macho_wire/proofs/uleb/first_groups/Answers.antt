use Rattle.std.proofs.Common.{◌≤◌, ◌<◌, length, slice_index, sym, rules, inl, inr}
use Rattle.macho_bytes.proofs.Ulebs.{no_last_group, has_last_group-at}
use Rattle.macho_wire.proofs.uleb.first_groups.Goals as goal

pub returns-in_err-get : goal.returns-in_err-get
returns-in_err-get c =
    let past : length c.args.bytes.now ≤ c.loop-count.count = search rules in
    rw c.from_residual.ensures
    (no_last_group c.args.bytes.now c.loop-count.count (inl past) (λ k early within. c.loop-count.invariant.1 k early))

pub returns-then-branch-lt128 : goal.returns-then-branch-lt128
returns-then-branch-lt128 c =
    let within : c.loop-count.count < length c.args.bytes.now = search rules in
    let small : slice_index c.args.bytes.now c.loop-count.count < 128 = search rules in
    let both = has_last_group-at c.args.bytes.now c.loop-count.count c.loop-count-test.true within c.loop-count.invariant.1 small in
    (both.0, sym both.1)

pub returns : goal.returns
returns c = no_last_group c.args.bytes.now c.loop-count.count (inr c.loop-count-test.false)
    (λ k early within. c.loop-count.invariant.1 k early)
