-- The word and the name of its fault.
use Rattle.macho_report.proofs.report.print_bad_word.Goals as goal

pub returns : goal.returns
returns g c = rw (c.from.ensures, c.kind_of_word-word.ensures.word, c.kind_of_word-word.ensures.kind) at c.print_numbered.ensures
