use Rattle.std.proofs.Common.{◌≡◌, map, filter}
use Rattle.macho_symbol_names.specs.Events.{events_of}
use Rattle.macho_symbols.specs.steps.Targets.{is_chosen_in}
use Rattle.macho_symbols.specs.steps.Solved.{common_told}
use Rattle.macho_symbols.proofs.choosing.chosen_commons.Given as goal

abbrev pub invariant-loop-file : goal.invariant-loop-file
invariant-loop-file l = l.commons.items ≡ map common_told (filter (is_chosen_in l.files) (events_of l.files l.file))
