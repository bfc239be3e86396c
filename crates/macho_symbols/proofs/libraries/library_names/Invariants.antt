use Rattle.std.proofs.Common.{◌≡◌, map, take}
use Rattle.std.specs.List.{filter_map}
use Rattle.macho_symbols.specs.steps.Solved.{install_name_in}
use Rattle.macho_symbols.proofs.libraries.library_names.Given as goal

abbrev pub invariant-loop-file : goal.invariant-loop-file
invariant-loop-file l = map (λ n. n.now) l.names.items ≡ filter_map install_name_in (take l.file-index l.files)
