-- The program's rows are those of the definition, one by one.
use Rattle.ld64_words.specs.Rows.{OTHERS}
use Rattle.ld64_words.proofs.table.other_row.Goals as goal

pub returns : goal.returns
unfolding OTHERS
returns c = c.first_row.ensures
