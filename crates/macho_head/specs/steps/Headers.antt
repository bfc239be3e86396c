-- The section headers of a segment, by its name.
use Rattle.std.specs.Prelude.{ℕ, Bool, List}
use Rattle.std.specs.Str.{bytes_eq}
use Rattle.macho_bytes.specs.Texts.{name_of}
use Rattle.macho_records.specs.declared.header.SectionHeader.{SectionHeader}

-- a header is of a segment of this name
abbrev pub is_header_of : List ℕ → SectionHeader → Bool
is_header_of name h = bytes_eq (name_of h.segname) name
