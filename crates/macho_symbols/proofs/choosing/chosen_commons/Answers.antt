use Rattle.std.proofs.Common.{◌≡◌, ◌∙◌, ap, arith, length, map, filter}
use Rattle.macho_symbols.specs.steps.Solved.{common_told}
use Rattle.macho_symbol_names.specs.Events.{events_of}
use Rattle.macho_symbols.specs.steps.Targets.{is_chosen_in}
use Rattle.macho_symbols.specs.Targets.{chosen_in}
use Rattle.macho_symbol_names.proofs.Taking.{files_none}
use Rattle.macho_symbols.proofs.ChosenOnes.{chosen_files_more}
use Rattle.macho_symbols.proofs.choosing.chosen_commons.Goals as goal

pub loop-file-init : goal.loop-file-init
loop-file-init c = rw (files_none c.args.files.now) c.new-commons.ensures.items

pub loop-file-preserved : goal.loop-file-preserved
loop-file-preserved c =
    rw (c.in_ok-add_commons.ensures.added, c.loop-file.invariant) (chosen_files_more c.args.files.now _)

pub returns-clause-commons : goal.returns-clause-commons
unfolding chosen_in
returns-clause-commons c =
    let all : c.loop-file.file ≡ length c.args.files.now = omega arith in
    c.loop-file.invariant ∙ ap (λ n. map common_told (filter (is_chosen_in c.args.files.now) (events_of c.args.files.now n))) all
