-- The rows of the program's table as those of the definition.
use Rattle.std.specs.Prelude.{ℕ, List}
use Rattle.std.specs.Borrow.{Bor}
use Rattle.macho_args.specs.declared.options.LinkOption.{LinkOption}

-- a row of the program's table, without where its name lies in memory
abbrev pub plain_row : Bor (List ℕ) × LinkOption → List ℕ × LinkOption
plain_row row = (row.0.now, row.1)
