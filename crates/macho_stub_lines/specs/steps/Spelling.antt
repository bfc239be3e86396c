-- The text of a scalar, whatever its quotes.
use Rattle.std.specs.Prelude.{ℕ, List}
use Rattle.macho_stub_lines.specs.Spelling.{ScalarTree, Plain, Single, Double}

-- its text, and how it is spelled
abbrev pub text_of : ScalarTree → List ℕ
text_of (Plain text) = text
text_of (Single text) = text
text_of (Double text) = text
