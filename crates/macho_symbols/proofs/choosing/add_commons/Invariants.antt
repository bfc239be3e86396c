use Rattle.std.proofs.Common.{◌≡◌, ◌++◌, map, filter}
use Rattle.macho_symbol_names.specs.Events.{events_of_file}
use Rattle.macho_symbols.specs.steps.Targets.{is_chosen_in}
use Rattle.macho_symbols.specs.steps.Solved.{common_told}
use Rattle.macho_symbols.proofs.choosing.add_commons.Given as goal

abbrev pub invariant-loop-row : goal.invariant-loop-row
invariant-loop-row l = l.commons.items ≡ l.initial.commons.items ++ map common_told
    (filter (is_chosen_in l.files) (events_of_file l.files l.file l.row))
