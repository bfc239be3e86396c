use Rattle.std.proofs.Common.{◌≡◌}
use Rattle.macho_model.specs.Objects.{install_name_of}
use Rattle.macho_tbd.specs.steps.Gathered.{Gathers}
use Rattle.macho_tbd.proofs.library.library_of.Given as goal

abbrev pub invariant-loop-index : goal.invariant-loop-index
invariant-loop-index l = record {
  gathers : Gathers l.file.bytes l.index l.gathered;
  install_name : l.gathered.library.install_name.now ≡ install_name_of l.file.bytes;
}
