-- No text of a library that is answered holds a NUL.
--
-- No line of a text in the grammar has a byte that is barred, and NUL is one. The lines are the parts between line feeds,
-- but for a carriage return at their ends, so no part holds a NUL, and the whole text is the parts and the line feeds. What
-- the documents say are slices of the text, so no slice holds one; and what the library has are texts of these slices.
use Rattle.std.proofs.Common.{◌≡◌, ◌≢◌, ℕ, suc, ◌+◌, ◌-◌, ◌<◌, ◌==◌, Bool, true, false, List, [], ◌∷◌, ◌++◌, length, map, cond, take, drop, slice_range, slice_index, get_or, sym, ap, subst, ◌∙◌, arith, inl, inr, Result, Ok, Err}
use Rattle.std.specs.Prelude.{IfOk}
use Rattle.std.specs.List.{All, AllByRecursion, flat_map, filter, slice_split, onto_first}
use Rattle.std.proofs.lemmas.List.Elements.{All-from_recursion, filter-append}
use Rattle.std.proofs.lemmas.Grind.{flat_map-append}
use Rattle.std.specs.Str.Lines.{strip_carriage_return}
use Rattle.std.proofs.lemmas.Bool.{cases_Bool, cases_lt, eqb-true}
use Rattle.std.proofs.lemmas.List.{get_or-take, get_or-drop, get_or_default, length-take, length-drop}
use Rattle.macho_stub_lines.specs.Bytes.{line_feed, has_barred}
use Rattle.macho_stub_lines.specs.Slices.{Slice, StandsIn, texts_of, Line, lines_of_parts}
use Rattle.macho_stub_lines.proofs.Runs.{all_append}
use Rattle.macho_stub_lines.proofs.NoNuls.{plain_cons, unbarred}
use Rattle.macho_stub.specs.Documents.{ItemOf, ItemFields, DocumentOf, DocumentFields, item_texts, document_texts, documents_texts}
use Rattle.macho_stub.specs.Places.{IsStubText}
use Rattle.macho_stub.proofs.Trees.{in_places}
use Rattle.macho_stub.specs.Library.{LibraryFields, gathered}
use Rattle.macho_stub.specs.steps.Checks.{picked}
use Rattle.macho_stub.proofs.Gathered.{is_wanted}
use Rattle.macho_stub.specs.Answer.{IsStub, ItemStands, DocumentStands, HasNoNul}
use Rattle.macho_stub.proofs.TreesStand.{text_stands}

-- bytes without a NUL
abbrev Plain : List ℕ → Type 0
Plain bytes = All (λ b. b ≢ 0) bytes

-- a line with its carriage return
with_return : (part : List ℕ) → Plain (strip_carriage_return part) → Plain part
with_return part h =
    elim (cases_Bool (slice_index part (length part - 1) == 13)) [
      | inl ends ↦ behind (eqb-true (slice_index part (length part - 1)) 13 ends) (rw ends at h)
      | inr other ↦ rw other at h
    ]
  where
    behind : slice_index part (length part - 1) ≡ 13 → Plain (take (length part - 1) part) → Plain part
    behind last front k d lt = elim (cases_lt k (length part - 1)) [
      | inl before ↦ λ is. front k d (omega (arith, length-take (length part - 1) part))
          (get_or-take (length part - 1) part k d before ∙ is)
      | inr at ↦
          λ is. let here : k ≡ length part - 1 = omega arith in
          let value : get_or part k d ≡ 13 = get_or_default part k d 0 lt ∙ ap (λ (i : ℕ). get_or part i 0) here ∙ last in
          omega (arith, is, value)
    ]

-- the parts of a text whose lines are clean
parts_plain : (number at : ℕ) (parts : List (List ℕ))
    → AllByRecursion (λ line. has_barred line.text ≡ false) (lines_of_parts number at parts)
    → AllByRecursion Plain parts
parts_plain number at [] clean = tt
parts_plain number at (part ∷ []) clean =
    elim (cases_Bool (length part == 0)) [
      | inl none ↦ (λ k d lt. let empty : length part ≡ 0 = eqb-true (length part) 0 none in absurd (omega arith), tt)
      | inr some ↦ let line : AllByRecursion (λ l. has_barred l.text ≡ false) (only ∷ []) = rw some at clean in (unbarred part line.0, tt)
    ]
  where
    only : Line
    only = record { number = number; at = at; text = part }
parts_plain number at (part ∷ next ∷ parts) clean = (
  with_return part (unbarred (strip_carriage_return part) clean.0),
  parts_plain (number + 1) (at + length part + 1)
      (next ∷ parts) clean.1,
)

-- a text whose parts between line feeds hold no NUL
onto : (x : ℕ) (parts : List (List ℕ)) → AllByRecursion Plain (onto_first x parts) → (x ≢ 0) × AllByRecursion Plain parts
onto x [] h = (h.0 0 x (omega arith), tt)
onto x (part ∷ parts) h = (h.0 0 x (omega arith), (λ k d lt. h.0 (suc k) d (omega arith), h.1))

joined : (bytes : List ℕ) → AllByRecursion Plain (slice_split (λ b. b == line_feed) bytes) → Plain bytes
joined [] h = λ k d lt. absurd (omega arith)
joined (x ∷ bytes) h =
    elim (cases_Bool (x == line_feed)) [
      | inl feed ↦
          let line : AllByRecursion Plain ([] ∷ slice_split (λ b. b == line_feed) bytes) = rw feed at h in
          plain_cons x bytes (λ is. let at : x ≡ line_feed = eqb-true x line_feed feed in omega (arith, is, at)) (joined bytes line.1)
      | inr other ↦
          let parts : AllByRecursion Plain (onto_first x (slice_split (λ b. b == line_feed) bytes)) = rw other at h in
          let both = onto x (slice_split (λ b. b == line_feed) bytes) parts in
          plain_cons x bytes both.0 (joined bytes both.1)
    ]

pub text_plain : (text : List ℕ) (says : List (DocumentOf Slice)) → IsStubText text says → Plain text
text_plain text says is = joined text (parts_plain 1 0 (slice_split (λ b. b == line_feed) text) is.clean)

-- a slice of it
slice_plain : (text : List ℕ) (slice : Slice) → Plain text → StandsIn text slice → Plain slice.text
slice_plain text slice plain stands =
    subst Plain stands part
  where
    part : Plain (slice_range text slice.at (slice.at + length slice.text))
    part k d lt is =
        let count = slice.at + length slice.text - slice.at in
        let few : k < length (take count (drop slice.at text)) = lt in
        let within : slice.at + k < length text = omega (arith, few, length-take count (drop slice.at text), length-drop slice.at text) in
        plain (slice.at + k) d within
        (sym (get_or-take count (drop slice.at text) k d (omega (arith, few, length-take count (drop slice.at text)))
        ∙ get_or-drop slice.at text k d) ∙ is)

-- ---- the symbols

-- what each slice of the text has, their texts have
abbrev pub HasEach : List ℕ → (List ℕ → Type 0) → Type 0
HasEach text P = (slice : Slice) → StandsIn text slice → P slice.text

texts_have : (text : List ℕ) (P : List ℕ → Type 0) → HasEach text P → (slices : List Slice) → AllByRecursion (StandsIn text) slices
    → AllByRecursion P (texts_of slices)
texts_have text P each [] stand = tt
texts_have text P each (slice ∷ slices) stand = (each slice stand.0, texts_have text P each slices stand.1)

picked_have : (text : List ℕ) (P : List ℕ → Type 0) → HasEach text P → (weak : Bool) (item : ItemOf Slice) → ItemStands text item
    → AllByRecursion P (picked weak (item_texts item))
picked_have text P each false item s = texts_have text P each item.names s.names
picked_have text P each true item s = texts_have text P each item.weak_names s.weak_names

items_have : (text : List ℕ) (P : List ℕ → Type 0) → HasEach text P → (weak : Bool) (items : List (ItemOf Slice))
    → AllByRecursion (ItemStands text) items → AllByRecursion P (flat_map (picked weak) (filter is_wanted (map item_texts items)))
items_have text P each weak [] s = tt
items_have text P each weak (item ∷ items) s =
    by (is_wanted (item_texts item)) (filter is_wanted (map item_texts items)) (items_have text P each weak items s.1)
  where
    by : (b : Bool) (others : List ItemFields) → AllByRecursion P (flat_map (picked weak) others)
        → AllByRecursion P (flat_map (picked weak) (cond b (item_texts item ∷ others) others))
    by true others all = all_append P (picked weak (item_texts item)) (flat_map (picked weak) others)
        (picked_have text P each weak item s.0) all
    by false others all = all

all_have : (text : List ℕ) (P : List ℕ → Type 0) → HasEach text P → (weak : Bool) (documents : List (DocumentOf Slice))
    → AllByRecursion (DocumentStands text) documents → AllByRecursion P (gathered (picked weak) (documents_texts documents))
all_have text P each weak [] s = tt
all_have text P each weak (document ∷ documents) s =
    all_append P (flat_map (picked weak) (filter is_wanted (exports ++ reexports)))
    (gathered (picked weak) (documents_texts documents)) (subst (AllByRecursion P) both parts) (all_have text P each weak documents s.1)
  where
    exports : List ItemFields
    exports = map item_texts document.exports

    reexports : List ItemFields
    reexports = map item_texts document.reexports

    parts : AllByRecursion P (flat_map (picked weak) (filter is_wanted exports) ++ flat_map (picked weak) (filter is_wanted reexports))
    parts = all_append P (flat_map (picked weak) (filter is_wanted exports)) (flat_map (picked weak) (filter is_wanted reexports))
        (items_have text P each weak document.exports s.0.exports) (items_have text P each weak document.reexports s.0.reexports)

    both : flat_map (picked weak) (filter is_wanted exports) ++ flat_map (picked weak) (filter is_wanted reexports)
        ≡ flat_map (picked weak) (filter is_wanted (exports ++ reexports))
    both = sym (flat_map-append (picked weak) (filter is_wanted exports) (filter is_wanted reexports))
        ∙ ap (flat_map (picked weak)) (sym (filter-append is_wanted exports reexports))

-- What each slice of a text has, the symbols have that are gathered of its documents.
pub symbols_have : (text : List ℕ) (P : List ℕ → Type 0) → HasEach text P → (documents : List (DocumentOf Slice))
    → AllByRecursion (DocumentStands text) documents → All P (gathered (λ item. item.names) (documents_texts documents))
symbols_have text P each documents s = All-from_recursion P _ (all_have text P each false documents s)

pub weak_symbols_have : (text : List ℕ) (P : List ℕ → Type 0) → HasEach text P → (documents : List (DocumentOf Slice))
    → AllByRecursion (DocumentStands text) documents → All P (gathered (λ item. item.weak_names) (documents_texts documents))
weak_symbols_have text P each documents s = All-from_recursion P _ (all_have text P each true documents s)

-- the main library, of documents in slices
main_stands : (text : List ℕ) (documents : List (DocumentOf Slice)) (main : DocumentFields) (others : List DocumentFields)
    → documents_texts documents ≡ main ∷ others → AllByRecursion (DocumentStands text) documents
    → (document : DocumentOf Slice) × DocumentStands text document × (document_texts document ≡ main)
main_stands text [] main others first s = absurd cc
main_stands text (document ∷ documents) main others first s = (document, s.0, cc)

-- THE library has no NUL.
pub library_plain : (text : List ℕ) (library : LibraryFields) → IsStub text library → HasNoNul library
library_plain text library stub =
    let p = in_places text (stub.main ∷ stub.others) stub.in_grammar in
    let plain = text_plain text p.0 p.1 in
    let stand = text_stands text p.0 p.1 in
    let each : HasEach text Plain = λ slice s. slice_plain text slice plain s in
    let main = main_stands text p.0 stub.main stub.others p.2 stand in
    let N : List DocumentFields → Type 0 = λ d. All (All (λ b. b ≢ 0)) (gathered (λ item. item.names) d) in
    let W : List DocumentFields → Type 0 = λ d. All (All (λ b. b ≢ 0)) (gathered (λ item. item.weak_names) d) in
    record {
      install_name = subst Plain (ap (λ (d : DocumentFields). d.install_name) main.2 ∙ sym stub.install_name)
          (each main.0.install_name main.1.install_name);
      current_version = subst Plain (ap (λ (d : DocumentFields). d.current_version) main.2 ∙ sym stub.current_version)
          (each main.0.current_version main.1.current_version);
      symbols = subst (All Plain) (sym stub.symbols) (subst N p.2 (symbols_have text Plain each p.0 stand));
      weak_symbols = subst (All Plain) (sym stub.weak_symbols) (subst W p.2 (weak_symbols_have text Plain each p.0 stand));
    }

-- and so has one that is answered
pub plain_answer : {V E : Type 0} (fields : V → LibraryFields) (text : List ℕ) (r : Result V E) → IfOk r (λ v. IsStub text (fields v))
    → IfOk r (λ v. HasNoNul (fields v))
plain_answer fields text (Ok v) is = library_plain text (fields v) is
plain_answer fields text (Err e) is = tt
