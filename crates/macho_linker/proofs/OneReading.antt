-- A text that is known to be a stub.
--
-- It says one thing: so what was read of it is that. And what is in the grammar is read, so that a text that is a stub is refused
-- for want of memory alone.
use Rattle.std.proofs.Common.{◌≡◌, ℕ, List, sym, ap, ◌∙◌, Ok}
use Rattle.std.proofs.Math.Logic.{∥∥₁_elim}
use mathlib.Core.HLevel.{⊥_prop}
use Rattle.macho_stub_lines.specs.declared.fault.StubRule.{StubRule}
use Rattle.macho_stub_lines.specs.Faults.{broken}
use Rattle.macho_stub.specs.Answer.{IsStub}
use Rattle.macho_stub.specs.Library.{LibraryFields}
use Rattle.macho_model.specs.Links.{StubReading}
use Rattle.macho_promise.specs.Inputs.{IsStubInput}
use Rattle.macho_promise.proofs.Stubs.{reading_of, library_of, stub_of}
use Rattle.macho_stub.proofs.Answered.{answer_only}
use Rattle.macho_stub_lines.proofs.Bind.{same_ok}
use Rattle.macho_linker.specs.Readings.{SaysOneThing}
use Rattle.macho_linker.specs.steps.OneReading.{same_readings}

-- what was read is what the text says
pub read_says : (text : List ℕ) (one : SaysOneThing text) (library : LibraryFields) → IsStub text library → reading_of library ≡ one.0
read_says text one library stub =
    ∥∥₁_elim one.1.0 (same_readings (reading_of library) one.0) (λ is.
    sym (one.1.1 (reading_of library) (stub_of text library is.utf8 stub)))

-- no rule is told of a text that is a stub
pub none_told : (text : List ℕ) (line : ℕ) (rule : StubRule) → SaysOneThing text
    → ((library : LibraryFields) → IsStub text library → Ok library ≡ broken line rule) → ⊥
none_told text line rule one only = ∥∥₁_elim one.1.0 ⊥_prop (λ is.
    let it = library_of text one.0 is in none_of (only it.library it.in_grammar))
  where
    none_of : {library : LibraryFields} → Ok library ≡ broken line rule → ⊥
    none_of e = cc

-- a text says one thing
pub one_reading : (text : List ℕ) (a b : StubReading) → IsStubInput text a → IsStubInput text b → a ≡ b
one_reading text a b one other =
    let x = library_of text a one in
    let y = library_of text b other in
    let same : Ok x.library ≡ Ok y.library = sym (answer_only text x.library x.in_grammar) ∙ answer_only text y.library y.in_grammar in
    x.is ∙ (ap reading_of (same_ok x.library y.library same) ∙ sym y.is)
