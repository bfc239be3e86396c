-- Whether the slots are those of a list of targets: they are as many, and each leads to that of its number.
use Rattle.std.proofs.Common.{arith}
use Rattle.macho_model.specs.declared.targets.Target.TheVariants as target
use Rattle.macho_placement_rules.proofs.SameStubs.{slots_same}
use Rattle.macho_placement_rules.proofs.lists.are_all_slots.Goals as goal

pub returns-clause-found : goal.returns-clause-found
returns-clause-found c =
    slots_same c.args.slots.now c.args.targets.now (record { target = target.None; address = 0 }) target.None (omega arith)
    (λ k low. c.loop-number.invariant k (record { target = target.None; address = 0 }) target.None (omega arith))
