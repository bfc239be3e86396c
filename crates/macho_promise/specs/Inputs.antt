-- What joins the text of a stub to what the link holds of it (a text stub of format 4).
use Rattle.std.specs.Prelude.{◌≡◌, ℕ, List, ◌∷◌}
use Rattle.std.specs.List.{AllByRecursion}
use Rattle.std.specs.Str.{IsUtf8}
use Rattle.std.specs.Str.Lines.{lines}
use Rattle.macho_stub.specs.Documents.{DocumentFields}
use Rattle.macho_stub.specs.Grammar.{IsStubLines}
use Rattle.macho_stub.specs.Library.{gathered}
use Rattle.macho_stub.specs.Rules.{Breaks, rules_of}
use Rattle.macho_model.specs.Links.{StubReading, Input, Object, Dylib, Stub}
use Rattle.macho_model.specs.Grammar.{IsObject, IsDylib}

-- A text is a stub that says this: it is UTF-8 and in the grammar, its documents keep the rules, and the first is the main library. It says
-- that one's install name, and the names and weak names of all documents that are for the target.
pub record IsStubInput (text : List ℕ) (says : StubReading) : Type 0 where
  pub utf8 : IsUtf8 text
  pub main : DocumentFields
  pub others : List DocumentFields
  pub in_grammar : IsStubLines (lines text) (main ∷ others)
  pub sound : AllByRecursion (λ rule. Breaks rule.0 main rule.1 → ⊥) (rules_of main (main ∷ others))
  pub install_name : says.install_name ≡ main.install_name
  pub names : says.names ≡ gathered (λ item. item.names) (main ∷ others)
  pub weak_names : says.weak_names ≡ gathered (λ item. item.weak_names) (main ∷ others)

-- An input is what its bytes are.
abbrev pub IsInput : Input → Type 0
IsInput (Object bytes) = IsObject bytes
IsInput (Dylib bytes) = IsDylib bytes
IsInput (Stub text says) = IsStubInput text says
