use Rattle.macho_refusal_laws.proofs.Inputs.{inputs_are_read, inputs_are_bytes, inputs_are_plain}
use Rattle.macho_refusal_laws.proofs.laws.inputs_are_read.Goals as goal

pub returns : goal.returns
returns c = record { objects = inputs_are_read; bytes = inputs_are_bytes; stubs = inputs_are_plain }
