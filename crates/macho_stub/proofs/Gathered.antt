-- The symbols as the code gathers them are those that the definition gathers: item by item, where the item is for the target,
-- or of all items that are for it.
use Rattle.std.proofs.Common.{◌≡◌, ℕ, Bool, true, false, cond, List, [], ◌∷◌, ◌++◌, refl, sym, ap, ◌∙◌}
use Rattle.std.proofs.lemmas.Grind.{flat_map-append}
use Rattle.std.proofs.lemmas.List.Elements.{filter-append}
use Rattle.std.specs.List.{flat_map, filter}
use Rattle.macho_stub.specs.Documents.{ItemFields, DocumentFields}
use Rattle.macho_stub.specs.Library.{has_target, gathered}
use Rattle.macho_stub.specs.steps.Checks.{picked, texts_for_target, texts_of_document, gathered_texts}

-- an item is for the target
abbrev pub is_wanted : ItemFields → Bool
is_wanted item = has_target item.targets

items_gather : (weak : Bool) (items : List ItemFields) → flat_map (texts_for_target weak) items
    ≡ flat_map (picked weak) (filter is_wanted items)
items_gather weak [] = refl
items_gather weak (item ∷ items) =
    by (is_wanted item) (flat_map (texts_for_target weak) items) (filter is_wanted items) (items_gather weak items)
  where
    by : (b : Bool) (rest : List (List ℕ)) (others : List ItemFields) → rest ≡ flat_map (picked weak) others
        → cond b (picked weak item) [] ++ rest ≡ flat_map (picked weak) (cond b (item ∷ others) others)
    by true rest others e = ap (λ (all : List (List ℕ)). picked weak item ++ all) e
    by false rest others e = e

document_gathers : (weak : Bool) (document : DocumentFields) → texts_of_document weak document
    ≡ flat_map (picked weak) (filter is_wanted (document.exports ++ document.reexports))
document_gathers weak document =
    ap (λ (front : List (List ℕ)). front ++ flat_map (texts_for_target weak) document.reexports) (items_gather weak document.exports)
    ∙ ap (λ (rest : List (List ℕ)). flat_map (picked weak) (filter is_wanted document.exports) ++ rest)
    (items_gather weak document.reexports)
    ∙ sym (flat_map-append (picked weak) (filter is_wanted document.exports) (filter is_wanted document.reexports))
    ∙ ap (flat_map (picked weak)) (sym (filter-append is_wanted document.exports document.reexports))

all_gather : (weak : Bool) (documents : List DocumentFields) → gathered_texts weak documents ≡ gathered (picked weak) documents
unfolding gathered_texts
all_gather weak [] = refl
all_gather weak (document ∷ documents) =
    ap (λ (front : List (List ℕ)). front ++ flat_map (texts_of_document weak) documents) (document_gathers weak document)
    ∙ ap (λ (rest : List (List ℕ)). flat_map (picked weak) (filter is_wanted (document.exports ++ document.reexports)) ++ rest)
    (all_gather weak documents)

pub gathers : (documents : List DocumentFields) → gathered_texts false documents ≡ gathered (λ item. item.names) documents
gathers documents = all_gather false documents

pub weak_gathers : (documents : List DocumentFields) → gathered_texts true documents ≡ gathered (λ item. item.weak_names) documents
weak_gathers documents = all_gather true documents
