-- Parts of the rules, by name.
use Rattle.std.specs.Prelude.{◌≡◌, ℕ, List, [], ◌∷◌, ◌++◌}
use Rattle.macho_stub_lines.specs.declared.fault.StubRule.{StubRule}
use Rattle.macho_stub_lines.specs.declared.fault.StubRule.TheVariants.{S2}
use Rattle.macho_stub.specs.Documents.{DocumentFields}
use Rattle.macho_stub.specs.Library.{LibraryFields, gathered}
use Rattle.macho_stub.specs.Rules.{Breaks, rules_of}
use Rattle.std.specs.List.{AllByRecursion}

-- none of these rules is broken
abbrev pub KeepsAll : DocumentFields → List (StubRule × DocumentFields) → Type 0
KeepsAll main rules = AllByRecursion (λ rule. Breaks rule.0 main rule.1 → ⊥) rules

-- The documents say the same: they differ at most in where they stand.
abbrev pub SaySame : DocumentFields → DocumentFields → Type 0
SaySame a b = a ≡ record b { line = a.line }

-- The documents keep the rules, the first is the main library, and the library is what they say.
pub record MakesLibrary (documents : List DocumentFields) (library : LibraryFields) : Type 0 where
  pub main : DocumentFields
  pub others : List DocumentFields
  pub first : documents ≡ main ∷ others
  pub sound : KeepsAll main (rules_of main documents)
  pub install_name : library.install_name ≡ main.install_name
  pub current_version : library.current_version ≡ main.current_version
  pub symbols : library.symbols ≡ gathered (λ item. item.names) documents
  pub weak_symbols : library.weak_symbols ≡ gathered (λ item. item.weak_names) documents

-- The first of these rules that is broken is this one, of a document at this line.
pub record IsFirstBroken (main : DocumentFields) (rules : List (StubRule × DocumentFields)) (rule : StubRule) (line : ℕ) : Type 0 where
  pub before : List (StubRule × DocumentFields)
  pub document : DocumentFields
  pub behind : List (StubRule × DocumentFields)
  pub parts : rules ≡ before ++ (rule, document) ∷ behind
  pub kept : KeepsAll main before
  pub breaks : Breaks rule main document
  pub here : line ≡ document.line

-- The rule that is told of the documents, at the line: that there is one, or the first on what they say.
abbrev pub IsTold : StubRule → ℕ → List DocumentFields → Type 0
IsTold rule line [] = (rule ≡ S2) × (line ≡ 1)
IsTold rule line (main ∷ others) = IsFirstBroken main (rules_of main (main ∷ others)) rule line
