-- The answer as the reader finds it.
use Rattle.std.specs.Prelude.{ℕ, List}
use Rattle.macho_stub_lines.specs.Faults.{Reading, ◌>>=◌}
use Rattle.macho_stub.specs.steps.Reader.{documents_of}
use Rattle.macho_stub.specs.Library.{LibraryFields}
use Rattle.macho_stub.specs.steps.Checks.{library_of}

-- The documents of a text, and then the library that they make.
unfoldable pub answer_of : List ℕ → Reading LibraryFields
answer_of text = documents_of text >>= library_of
