-- What the reader asks of an item or a document where it ends: that no key is lacking which it must have.
use Rattle.std.specs.Prelude.{ℕ, List, [], Option, Some, None, Ok, unwrap_or}
use Rattle.macho_stub_lines.specs.declared.keys.ItemKind.{ItemKind}
use Rattle.macho_stub_lines.specs.declared.keys.ItemKind.TheVariants.{Libraries, Exports, Reexports}
use Rattle.macho_stub_lines.specs.declared.fault.StubRule.TheVariants.{S2}
use Rattle.macho_stub_lines.specs.Faults.{Reading, broken, ◌>>=◌}
use Rattle.macho_stub.specs.Documents.{ItemFields, DocumentFields}
use Rattle.macho_stub.specs.steps.Opened.{OpenItemFields, OpenDocumentFields}

-- what must be there, or the document at this line lacks it
abbrev pub wanted : {A : Type 0} → ℕ → Option A → Reading A
wanted line None = broken line S2
wanted line (Some x) = Ok x

-- The names of a whole item: an item of libraries must have them, an item of symbols may lack them.
abbrev pub wanted_names : ℕ → ItemKind → Option (List (List ℕ)) → Reading (List (List ℕ))
wanted_names line Libraries names = wanted line names
wanted_names line Exports names = Ok (unwrap_or names [])
wanted_names line Reexports names = Ok (unwrap_or names [])

-- A whole item, of the document at this line: it has targets.
unfoldable pub whole_item : ℕ → ItemKind → OpenItemFields → Reading ItemFields
whole_item line kind item = do
  targets ← wanted line item.targets
  names ← wanted_names line kind item.names
  Ok (record { targets = targets; names = names; weak_names = unwrap_or item.weak_names [] })

-- A whole document: it has a version, targets and an install name.
unfoldable pub whole_document : OpenDocumentFields → Reading DocumentFields
whole_document document = do
  version ← wanted document.line document.version
  targets ← wanted document.line document.targets
  install_name ← wanted document.line document.install_name
  Ok (record {
    line = document.line;
    version = version;
    targets = targets;
    install_name = install_name;
    current_version = unwrap_or document.current_version [];
    libraries = unwrap_or document.libraries [];
    exports = unwrap_or document.exports [];
    reexports = unwrap_or document.reexports [];
  })
