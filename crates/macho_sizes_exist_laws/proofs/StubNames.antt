-- The symbols that a stub names are spelled.
--
-- Its text is UTF-8 and holds no NUL, so each of its bytes is one of 1 to 255. The names of its documents are slices of the text, and the
-- symbols of its library are some of these names.
use Rattle.std.proofs.Common.{ℕ, ◌+◌, ◌-◌, ◌<◌, ◌≤◌, List, ◌∷◌, length, drop, ◌≡◌, ap, ◌∙◌, sym, subst, arith, All}
use Rattle.std.specs.List.{AllByRecursion}
use Rattle.std.proofs.lemmas.List.Elements.{All-take, All-drop}
use Rattle.macho_stub_lines.specs.Slices.{Slice, StandsIn}
use Rattle.macho_stub.specs.Documents.{DocumentOf, DocumentFields, documents_texts}
use Rattle.macho_stub.specs.Library.{gathered}
use Rattle.macho_stub.specs.Places.{IsStubText}
use Rattle.macho_stub.proofs.Trees.{in_places}
use Rattle.macho_stub.specs.Answer.{DocumentStands}
use Rattle.macho_stub.proofs.NoNuls.{HasEach, text_plain, symbols_have, weak_symbols_have}
use Rattle.macho_stub.proofs.TreesStand.{text_stands}
use Rattle.macho_model.specs.Links.{StubReading}
use Rattle.macho_promise.specs.Inputs.{IsStubInput}
use Rattle.macho_sizes_exist_laws.proofs.Utf8.{of_utf8}

-- a byte of a name that is spelled
abbrev pub IsLetter : ℕ → Type 0
IsLetter b = (1 ≤ b) × (b < 256)

slice_keeps : (text : List ℕ) (slice : Slice) → All IsLetter text → StandsIn text slice → All IsLetter slice.text
slice_keeps text slice all stands =
    subst (All IsLetter) stands
    (All-take IsLetter (slice.at + length slice.text - slice.at) (drop slice.at text) (All-drop IsLetter slice.at text all))

-- Each symbol of a stub is spelled.
pub record NamesLetters (says : StubReading) : Type 0 where
  pub names : All (All IsLetter) says.names
  pub weak_names : All (All IsLetter) says.weak_names

pub stub_names : (text : List ℕ) (says : StubReading) → IsStubInput text says → NamesLetters says
stub_names text says s = record {
  names = subst (All (All IsLetter)) (ap (gathered (λ item. item.names)) placed.2 ∙ sym s.names)
      (symbols_have text (All IsLetter) each placed.0 stand);
  weak_names = subst (All (All IsLetter)) (ap (gathered (λ item. item.weak_names)) placed.2 ∙ sym s.weak_names)
      (weak_symbols_have text (All IsLetter) each placed.0 stand);
}
  where
    documents : List DocumentFields
    documents = s.main ∷ s.others

    placed : (slices : List (DocumentOf Slice)) × IsStubText text slices × (documents_texts slices ≡ documents)
    placed = in_places text documents s.in_grammar

    stand : AllByRecursion (DocumentStands text) placed.0
    stand = text_stands text placed.0 placed.1

    letters : All IsLetter text
    letters k d within =
        let some = text_plain text placed.0 placed.1 k d within in
        let small = of_utf8 text s.utf8 k d within in
        (omega (arith, some), small)

    each : HasEach text (All IsLetter)
    each slice stands = slice_keeps text slice letters stands
