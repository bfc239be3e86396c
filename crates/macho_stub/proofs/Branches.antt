-- What the reading of a line goes on with, once a test on the line has answered.
-- A line behind the keys of a document is the head of another, an end, or an entry; one behind an item begins the next
-- item, or is a line of the document. The reader's definitions write what follows each test in place. Here each such
-- continuation has a name, so that the lemmas on a step (what it gives, what it refuses, what its success says of the
-- line) speak of the same one. They are abbreviations, so they compute to what the reader says.
use Rattle.std.proofs.Common.{ℕ, List, None, Ok}
use Rattle.macho_stub_lines.specs.declared.keys.ItemKind.{ItemKind}
use Rattle.macho_stub_lines.specs.Faults.{Reading}
use Rattle.macho_stub_lines.specs.Keys.{Entry, top_key}
use Rattle.macho_stub.specs.Documents.{ItemFields, DocumentFields}
use Rattle.macho_stub.specs.steps.Opened.{OpenDocumentFields, head_at, with_items}
use Rattle.macho_stub.specs.steps.Reader.{Keys, InsideFields, Outside, Within, StateFields, stays, first_line, top_entry, within, top_line}

-- behind the documents, at the head of another
abbrev pub at_head : ℕ → List DocumentFields → Reading StateFields
at_head line all = Ok (record { documents = all; place = Within (stays (head_at line) None Keys) })

-- behind them, outside
abbrev pub at_end : List DocumentFields → Reading StateFields
at_end all = Ok (record { documents = all; place = Outside })

-- behind an entry of a document
abbrev pub at_entry : List DocumentFields → OpenDocumentFields → ℕ → Entry → Reading StateFields
at_entry before document line entry = within before (top_entry document line (top_key entry.key) entry.value)

-- inside a document, behind others
abbrev pub inside_of_document : List DocumentFields → InsideFields → Reading StateFields
inside_of_document before inside = Ok (record { documents = before; place = Within inside })

-- the line begins a next item, behind these items
abbrev pub then_first : List DocumentFields → OpenDocumentFields → ItemKind → ℕ → List ℕ → List ItemFields → Reading StateFields
then_first before document kind line text items = within before (first_line document kind items line text)

-- the line is one of the document, with these items in it
abbrev pub then_top : List DocumentFields → OpenDocumentFields → ItemKind → ℕ → List ℕ → List ItemFields → Reading StateFields
then_top before document kind line text items = top_line before (with_items kind items document) line text
