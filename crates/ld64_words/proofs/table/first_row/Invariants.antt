-- The rows so far don't fit.
use Rattle.std.proofs.Common.{◌≡◌, map, drop}
use Rattle.std.specs.List.{find}
use Rattle.ld64_words.specs.Rows.{fits}
use Rattle.ld64_words.specs.steps.Rows.{plain_row}
use Rattle.ld64_words.proofs.table.first_row.Given as goal

abbrev pub invariant-loop-row : goal.invariant-loop-row
invariant-loop-row l =
    find (fits l.word l.first) (map plain_row (drop l.row-index l.rows)) ≡ find (fits l.word l.first) (map plain_row l.rows)
