-- What the code computes of documents, from their texts alone: the symbols that are gathered, whether two documents say
-- the same, and the rules one after the other. `specs/Rules` says what the rules are.
use Rattle.std.specs.Prelude.{ℕ, Bool, true, false, ◌&&◌, ◌||◌, not, List, [], ◌∷◌, ◌++◌, length, Ok, ◌==◌, if◌then◌else◌, codes}
use Rattle.std.specs.List.{flat_map, list_any}
use Rattle.std.specs.Str.{bytes_eq}
use Rattle.std.specs.Borrow.{Bor}
use Rattle.std.specs.Ordering.{nat_cmp}
use Rattle.std.specs.Cmp.Lexicographic.{slice_cmp}
use Rattle.std.specs.BTreeSet.{BTreeSet, contains_by}
use Rattle.macho_stub_lines.specs.declared.fault.StubRule.TheVariants.{S2, S4, S5, S6, S7, S8, S9}
use Rattle.macho_stub_lines.specs.Faults.{Reading, broken, ◌>>=◌}
use Rattle.macho_stub.specs.Documents.{ItemFields, DocumentFields}
use Rattle.macho_stub.specs.Library.{has_target, LibraryFields}

-- the symbols of an item, or its weak ones
abbrev pub picked : Bool → ItemFields → List (List ℕ)
picked false item = item.names
picked true item = item.weak_names

-- the same, if the item is for the target
abbrev pub texts_for_target : Bool → ItemFields → List (List ℕ)
texts_for_target weak item = if has_target item.targets then picked weak item else []

-- those of a document: of its exports, and then of its reexports
abbrev pub texts_of_document : Bool → DocumentFields → List (List ℕ)
texts_of_document weak document = flat_map (texts_for_target weak) document.exports ++ flat_map
    (texts_for_target weak) document.reexports

-- those of all documents
unfoldable pub gathered_texts : Bool → List DocumentFields → List (List ℕ)
gathered_texts weak documents = flat_map (texts_of_document weak) documents

-- the lists are as long, and the same place by place
unfoldable pub all_same : {X : Type 0} → (X → X → Bool) → List X → List X → Bool
all_same same [] [] = true
all_same same [] (y ∷ ys) = false
all_same same (x ∷ xs) [] = false
all_same same (x ∷ xs) (y ∷ ys) = same x y && all_same same xs ys

-- the names are the same
unfoldable pub same_names : List (List ℕ) → List (List ℕ) → Bool
same_names left right = all_same bytes_eq left right

-- the items say the same
unfoldable pub same_item : ItemFields → ItemFields → Bool
same_item a b = same_names a.targets b.targets && same_names a.names b.names && same_names a.weak_names b.weak_names

unfoldable pub same_items : List ItemFields → List ItemFields → Bool
same_items left right = all_same same_item left right

-- the documents say the same
unfoldable pub same_document : DocumentFields → DocumentFields → Bool
same_document a b =
    bytes_eq a.version b.version && same_names a.targets b.targets && bytes_eq a.install_name b.install_name &&
    bytes_eq a.current_version b.current_version
    && same_items a.libraries b.libraries && same_items a.exports b.exports && same_items a.reexports b.reexports

-- an item lists the library
unfoldable pub is_listed : List ℕ → List ItemFields → Bool
is_listed name items = list_any (λ item. list_any (λ other. bytes_eq other name) item.names) items

-- the set has the name
abbrev pub holds : BTreeSet (Bor (List ℕ)) → List ℕ → Bool
holds names name = contains_by (λ other. slice_cmp nat_cmp name other.now) names

-- the one group of reexported libraries, if there is one, is for the target
abbrev pub checked_libraries : ℕ → List ItemFields → Reading (Unit {0})
checked_libraries line [] = Ok tt
checked_libraries line (item ∷ []) = if has_target item.targets then Ok tt else broken line S8
checked_libraries line (item ∷ other ∷ items) = broken line S7

-- The main library is for the target, it has a current version, and at most one group of reexported libraries.
unfoldable pub checked_main : DocumentFields → Reading (Unit {0})
checked_main main =
    if not (has_target main.targets) then broken main.line S5
    else (if length main.current_version == 0 then broken main.line S6 else checked_libraries main.line
    main.libraries)

-- A document has version 4, and it says what the main one says or is one of its reexported libraries.
unfoldable pub checked_document : DocumentFields → DocumentFields → Reading (Unit {0})
checked_document main document =
    if not (bytes_eq document.version (codes "4")) then broken document.line S4
    else (if same_document document main || is_listed document.install_name main.libraries then Ok tt else broken
    document.line S9)

-- each of the documents, in their order
unfoldable pub checked_documents : DocumentFields → List DocumentFields → Reading (Unit {0})
checked_documents main [] = Ok tt
checked_documents main (document ∷ documents) = do
  _ ← checked_document main document
  checked_documents main documents

-- The library that the documents make: the first is the main one.
unfoldable pub library_of : List DocumentFields → Reading LibraryFields
library_of [] = broken 1 S2
library_of (main ∷ others) = do
  _ ← checked_main main
  _ ← checked_documents main (main ∷ others)
  Ok (record {
    install_name = main.install_name;
    current_version = main.current_version;
    symbols = gathered_texts false (main ∷ others);
    weak_symbols = gathered_texts true (main ∷ others);
  })
