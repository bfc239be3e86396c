-- The rows of the program's table as those of the definition.
use Rattle.std.specs.Prelude.{ℕ, List}
use Rattle.std.specs.Borrow.{Bor}
use Rattle.ld64_words.specs.declared.effects.Effect.{Effect}
use Rattle.ld64_words.specs.declared.table.Operands.{Operands}
use Rattle.ld64_words.specs.Rows.{OptionRow, row}

-- a row of the program's table, without where its texts lie in memory
abbrev pub plain_row : Bor (List ℕ) × Bor (List ℕ) × Operands × Effect → OptionRow
plain_row (name, first, operands, effect) = row operands effect first.now name.now
