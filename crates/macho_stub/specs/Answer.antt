-- What the reading of a stub text answers.
use Rattle.std.specs.Prelude.{◌≡◌, ◌≢◌, ◌⊎◌, ℕ, List, ◌∷◌, All}
use Rattle.std.specs.List.{AllByRecursion}
use Rattle.macho_stub_lines.specs.declared.fault.StubFault.{StubFault}
use Rattle.macho_stub_lines.specs.declared.fault.StubFault.TheVariants.{Rule, OutOfMemory}
use Rattle.macho_stub_lines.specs.Slices.{Slice, StandsIn}
use Rattle.std.specs.Str.Lines.{lines}
use Rattle.macho_stub.specs.Documents.{ItemOf, DocumentOf, DocumentFields, documents_texts}
use Rattle.macho_stub.specs.Grammar.{IsStubLines}
use Rattle.macho_stub.specs.Places.{IsStubText}
use Rattle.macho_stub.specs.Library.{LibraryFields, gathered}
use Rattle.macho_stub.specs.Rules.{Breaks, rules_of, IsTold}
use Rattle.macho_stub.specs.Order.{StopsAt, StopsAtEnd}

-- The text is in the grammar, its documents keep the rules, the first is the main library, and the library is what they say.
pub record IsStub (text : List ℕ) (library : LibraryFields) : Type 0 where
  pub main : DocumentFields
  pub others : List DocumentFields
  pub in_grammar : IsStubLines (lines text) (main ∷ others)
  pub sound : AllByRecursion (λ rule. Breaks rule.0 main rule.1 → ⊥) (rules_of main (main ∷ others))
  pub install_name : library.install_name ≡ main.install_name
  pub current_version : library.current_version ≡ main.current_version
  pub symbols : library.symbols ≡ gathered (λ item. item.names) (main ∷ others)
  pub weak_symbols : library.weak_symbols ≡ gathered (λ item. item.weak_names) (main ∷ others)

-- The texts of an item stand in the text at their places, and so do those of a document.
pub record ItemStands (text : List ℕ) (item : ItemOf Slice) : Type 0 where
  pub targets : AllByRecursion (StandsIn text) item.targets
  pub names : AllByRecursion (StandsIn text) item.names
  pub weak_names : AllByRecursion (StandsIn text) item.weak_names

pub record DocumentStands (text : List ℕ) (document : DocumentOf Slice) : Type 0 where
  pub version : StandsIn text document.version
  pub targets : AllByRecursion (StandsIn text) document.targets
  pub install_name : StandsIn text document.install_name
  pub current_version : StandsIn text document.current_version
  pub libraries : AllByRecursion (ItemStands text) document.libraries
  pub exports : AllByRecursion (ItemStands text) document.exports
  pub reexports : AllByRecursion (ItemStands text) document.reexports

-- Each text that `IsStubLines` says of a text is a slice of it: the text is in the grammar with places (`IsStubText`) exactly where it is
-- in the grammar without, it says the same, and each slice stands at its place.
pub record SaysSlices (text : List ℕ) : Type 0 where
  pub has : (says : List DocumentFields) → IsStubLines (lines text) says
      → (slices : List (DocumentOf Slice)) × IsStubText text slices × (documents_texts slices ≡ says)
  pub in_grammar : (slices : List (DocumentOf Slice)) → IsStubText text slices → IsStubLines (lines text) (documents_texts slices)
  pub stand : (slices : List (DocumentOf Slice)) → IsStubText text slices → AllByRecursion (DocumentStands text) slices

-- The texts of a library hold no NUL.
pub record HasNoNul (library : LibraryFields) : Type 0 where
  pub install_name : All (λ b. b ≢ 0) library.install_name
  pub current_version : All (λ b. b ≢ 0) library.current_version
  pub symbols : All (All (λ b. b ≢ 0)) library.symbols
  pub weak_symbols : All (All (λ b. b ≢ 0)) library.weak_symbols

-- A fault that is told: memory ran out; or the text is in the grammar, and the rule is the one that is told of its
-- documents; or the text breaks off, at a line or at its end.
abbrev pub IsToldOfText : List ℕ → StubFault → Type 0
IsToldOfText text OutOfMemory = Unit {0}
IsToldOfText text (Rule line rule) =
    ((says : List DocumentFields) × IsStubLines (lines text) says × IsTold rule line says)
    ⊎ (StopsAt (lines text) line rule ⊎ StopsAtEnd text line rule)
