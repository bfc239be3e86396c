-- Each input's names come behind.
use Rattle.std.proofs.Common.{[]}
use Rattle.macho_members.specs.Views.{texts}
use Rattle.macho_members.specs.steps.Held.{starts_in}
use Rattle.macho_members.proofs.Starts.{starts_more}
use Rattle.macho_members.proofs.needed.start_names.Goals as goal

pub loop-input-preserved : goal.loop-input-preserved
loop-input-preserved c =
    starts_more starts_in c.args.inputs.now c.loop-input.input-index _ [] (texts c.loop-input.names.items)
    (texts c.add_starts.new.names.items) c.loop-input-test.true c.loop-input.invariant c.in_ok-add_starts.ensures
