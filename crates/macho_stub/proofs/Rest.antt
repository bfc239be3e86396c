-- What lines must be that finish a text from where the reading stands: trees for what is still open there, and
-- documents behind them. Each relation says which documents the text then has, `total`, behind those `before`.
-- There is one for each place of the reading: outside documents, where a key of a document or of an item may stand, in a
-- skipped value, in a flow list, and where an item must stand. Each has the trees of what is open up to its end. An item, a
-- skipped value and a flow list hand the lines behind that, the `tail`, to the relation of the place where the reading goes
-- on; what stands behind a document are the trees of the others.
use Rattle.std.proofs.Common.{◌≡◌, ◌≢◌, ℕ, true, List, [], ◌∷◌, ◌++◌, Option, Some, None, Ok}
use Rattle.std.specs.List.{AllByRecursion}
use Rattle.macho_stub_lines.specs.declared.keys.ItemKind.{ItemKind}
use Rattle.macho_stub_lines.specs.declared.keys.ItemKey.{ItemKey}
use Rattle.macho_stub_lines.specs.declared.list.Expect.TheVariants.{Closed}
use Rattle.macho_stub_lines.specs.Faults.{Reading, ◌>>=◌}
use Rattle.macho_stub_lines.specs.Lists.{ListPart}
use Rattle.macho_stub.specs.Documents.{ItemFields, DocumentFields}
use Rattle.macho_stub.specs.steps.Opened.{OpenItemFields, OpenDocumentFields, with_items}
use Rattle.macho_stub.specs.steps.Whole.{whole_item, whole_document}
use Rattle.macho_stub.specs.steps.Reader.{ItemListFields, ModeFields, Keys, Skipped, Names, NoItem, InsideFields, PlaceFields, Outside, Within, with_names, belongs, content_line, ended}
use Rattle.macho_stub_lines.specs.ReadLists.{ReadLine, GoesOn}
use Rattle.macho_stub.proofs.Readings.{ItemEntry, entries_then, ItemEntries, ItemTree, items_then, AreItems, TopEntry, top_entries_then, TopEntries, DocumentTree, end_then, documents_then, AreDocuments}
use Rattle.macho_stub_lines.specs.Bytes.{end}

-- the reading of the lines with content
abbrev pub run : List DocumentFields → PlaceFields → List ReadLine → Reading (List DocumentFields)
run before place [] = ended before place
run before place (line ∷ rest) = content_line before place line.number line.text >>= λ next. run next.documents next.place rest

-- outside documents
pub record RestOutside (before : List DocumentFields) (rest : List ReadLine) (total : List DocumentFields) : Type 0 where
  pub trees : List DocumentTree
  pub says : List DocumentFields
  pub lines_of : rest ≡ documents_then trees
  pub documents : AreDocuments trees says
  pub all : total ≡ before ++ says

-- inside a document, where a key of its own may stand
pub record RestTop (before : List DocumentFields) (document : OpenDocumentFields) (rest : List ReadLine)
    (total : List DocumentFields) : Type 0 where
  pub entries : List TopEntry
  pub after : OpenDocumentFields
  pub ended_at : Option ℕ
  pub trees : List DocumentTree
  pub whole : DocumentFields
  pub says : List DocumentFields
  pub lines_of : rest ≡ top_entries_then entries (end_then ended_at (documents_then trees))
  pub reads : TopEntries entries document after
  pub is_whole : whole_document after ≡ Ok whole
  pub documents : AreDocuments trees says
  pub all : total ≡ before ++ whole ∷ says

-- inside an item, where a key of the item may stand
pub record RestItem (before : List DocumentFields) (document : OpenDocumentFields) (list : ItemListFields) (rest : List ReadLine)
    (total : List DocumentFields) : Type 0 where
  pub entries : List ItemEntry
  pub after : OpenItemFields
  pub one : ItemFields
  pub trees : List ItemTree
  pub says : List ItemFields
  pub tail : List ReadLine
  pub lines_of : rest ≡ entries_then list.column entries (items_then list.dash trees tail)
  pub reads : ItemEntries list.kind list.column entries list.item after
  pub is_whole : whole_item document.line list.kind after ≡ Ok one
  pub items : AreItems document.line list.kind list.dash trees says
  pub top : RestTop before (with_items list.kind (list.items ++ one ∷ says) document) tail total

-- where a key may stand
abbrev pub RestKeys : List DocumentFields → OpenDocumentFields → Option ItemListFields → List ReadLine → List DocumentFields → Type 0
RestKeys before document None rest total = RestTop before document rest total
RestKeys before document (Some list) rest total = RestItem before document list rest total

-- in a skipped value
pub record RestSkipped (before : List DocumentFields) (document : OpenDocumentFields) (list : Option ItemListFields) (rest : List ReadLine)
    (total : List DocumentFields) : Type 0 where
  pub more : List ReadLine
  pub tail : List ReadLine
  pub lines_of : rest ≡ more ++ tail
  pub belong : AllByRecursion (λ line. belongs list line.text ≡ true) more
  pub keys : RestKeys before document list tail total

-- where a key may stand, behind what the reading is inside of
abbrev pub RestBehind : List DocumentFields → InsideFields → List ReadLine → List DocumentFields → Type 0
RestBehind before inside rest total = RestKeys before inside.document inside.list rest total

-- in a flow list
pub record RestNames (before : List DocumentFields) (document : OpenDocumentFields) (list : Option ItemListFields) (key : ItemKey)
    (part : ListPart) (rest : List ReadLine) (total : List DocumentFields) : Type 0 where
  pub names : List (List ℕ)
  pub more : List ReadLine
  pub tail : List ReadLine
  pub lines_of : rest ≡ more ++ tail
  pub goes_on : GoesOn part more names
  pub inside : AllByRecursion (λ line. line.text ≢ end) more
  pub keys : RestBehind before (with_names document list key names) tail total

-- behind other items, where an item must stand
pub record RestItems (before : List DocumentFields) (document : OpenDocumentFields) (kind : ItemKind) (items : List ItemFields) (at : ℕ)
    (rest : List ReadLine) (total : List DocumentFields) : Type 0 where
  pub tree : ItemTree
  pub trees : List ItemTree
  pub one : ItemFields
  pub says : List ItemFields
  pub tail : List ReadLine
  pub lines_of : rest ≡ items_then at (tree ∷ trees) tail
  pub are_items : AreItems document.line kind at (tree ∷ trees) (one ∷ says)
  pub top : RestTop before (with_items kind (items ++ one ∷ says) document) tail total

-- inside a document
abbrev pub RestMode : List DocumentFields → OpenDocumentFields → Option ItemListFields → ModeFields → List ReadLine → List DocumentFields
    → Type 0
RestMode before document list Keys rest total = RestKeys before document list rest total
RestMode before document list Skipped rest total = RestSkipped before document list rest total
RestMode before document list (Names names) rest total = names.part.expect ≢ Closed
    → RestNames before document list names.key names.part rest total
RestMode before document list (NoItem kind line) rest total = (at : ℕ) × RestItems before document kind [] at rest total

-- the same from inside a document
abbrev pub RestInside : List DocumentFields → InsideFields → List ReadLine → List DocumentFields → Type 0
RestInside before inside rest total = RestMode before inside.document inside.list inside.mode rest total

-- lines that finish the text from a place
abbrev pub Rest : List DocumentFields → PlaceFields → List ReadLine → List DocumentFields → Type 0
Rest before Outside rest total = RestOutside before rest total
Rest before (Within inside) rest total = RestInside before inside rest total
