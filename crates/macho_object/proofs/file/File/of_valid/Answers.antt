-- A file that keeps every rule breaks none, so its outline is read, and it is whole.
use Rattle.macho_object.proofs.Wholes.{is_whole}
use Rattle.macho_object.proofs.Refusals.{no_file}
use Rattle.macho_object.proofs.file.File.of_valid.Goals as goal

pub unreachable-requires : goal.unreachable-requires
unreachable-requires c = no_file _ _ _ _ c.in-Err.ensures.why c.requires

pub invariant_of-result : goal.invariant_of-result
invariant_of-result c = is_whole _ c.in-Ok.ensures.found (rw (c.in-Ok.ensures.kind, c.in-Ok.ensures.input) c.requires)
