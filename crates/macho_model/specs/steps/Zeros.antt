-- Parts of the definitions of `Zeros`, by names that proofs use.
use Rattle.std.specs.Prelude.{ℕ, ◌+◌, List, length}
use Rattle.macho_model.specs.Links.{Link}
use Rattle.macho_model.specs.Images.{Table, fixups_header}
use Rattle.macho_model.specs.ImportTable.{names_text}
use Rattle.macho_model.specs.Zeros.{Span}

-- the content of a fixup table ends with its names, that of another table with its range
abbrev pub fixups_content : Link → List ℕ → Table → Span
fixups_content l b t = record { start = t.at; size = (fixups_header b t).symbols_offset + length (names_text l) }
