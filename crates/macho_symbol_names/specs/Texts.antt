-- The bytes in which the names of an input stand.
use Rattle.std.specs.Prelude.{ℕ, List}
use Rattle.macho_symbol_names.specs.declared.files.Text.{Text}
use Rattle.macho_symbol_names.specs.declared.files.Text.TheVariants.{Input, Joined}

-- a string table is the input's, and the names of a stub are joined into a text that is kept here
abbrev pub bytes_of : Text → List ℕ
bytes_of (Input strings) = strings.now
bytes_of (Joined names) = names.items
