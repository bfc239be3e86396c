-- The program's rows are those of the definition, one by one.
use Rattle.ld64_words.specs.Rows.{TAKEN}
use Rattle.ld64_words.proofs.table.taken_row.Goals as goal

pub returns : goal.returns
unfolding TAKEN
returns c = c.first_row.ensures
