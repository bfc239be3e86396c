-- All inputs were taken in, and the refusal of their symbols is one of the link's.
use Rattle.std.proofs.Common.{arith}
use Rattle.macho_inputs.proofs.Growing.{all_kept}
use Rattle.macho_inputs.proofs.Duplicates.{duplicate_stands}
use Rattle.macho_inputs.proofs.resolving.resolve_inputs.Goals as goal

pub returns-in-Err-clause-why : goal.returns-in-Err-clause-why
returns-in-Err-clause-why c = λ l counts held.
    rw c.from.ensures (duplicate_stands l counts c.in-Err.fault
    (c.in-Err.ensures.why l
    (all_kept c.args.inputs.now c.loop-input.input-index l.inputs c.loop-input.resolver (omega arith) held c.loop-input.invariant)))
