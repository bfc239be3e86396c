-- When each refusal of a linker stands.
use Rattle.std.specs.Prelude.{◌≡◌, ℕ, true, List, IsUtf8}
use Rattle.macho_stub.specs.Answer.{IsToldOfText}
use Rattle.macho_stub_lines.specs.declared.fault.StubFault.TheVariants.{Rule}
use Rattle.macho_model.specs.Grammar.{ObjectBreaks, DylibBreaks}
use Rattle.macho_model.specs.Links.{Link, StubReading}
use Rattle.macho_model.specs.Faults.{bad_name}
use Rattle.macho_promise.specs.Inputs.{IsStubInput}
use Rattle.macho_answer.specs.declared.fault.LinkError.{LinkError}
use Rattle.macho_answer.specs.declared.fault.LinkError.TheVariants as error
use Rattle.macho_answer.specs.declared.fault.InputFault.TheVariants as input

-- The refusal of an object: it breaks the rule that is told, at the place that is told. So it is no object.
abbrev pub ObjectRefused : List ℕ → LinkError → Type 0
ObjectRefused b (error.BadInput (input.Object fault)) = ObjectBreaks b fault.rule fault.place
ObjectRefused b error.OutOfMemory = Unit {0}
ObjectRefused b refusal = ⊥

-- the same of a dynamic library
abbrev pub DylibRefused : List ℕ → LinkError → Type 0
DylibRefused b (error.BadInput (input.Object fault)) = DylibBreaks b fault.rule fault.place
DylibRefused b error.OutOfMemory = Unit {0}
DylibRefused b refusal = ⊥

-- the same of a stub's text, which is UTF-8: the rule is the one that is told of the text, at its line
abbrev pub StubRefused : List ℕ → LinkError → Type 0
StubRefused text (error.BadInput (input.Stub line rule)) =
    IsUtf8 text × IsToldOfText text (Rule line rule) × ((says : StubReading) → IsStubInput text says → ⊥)
StubRefused text error.OutOfMemory = Unit {0}
StubRefused text refusal = ⊥

-- the refusal of arguments: of the paths that are written, or for want of memory
abbrev pub ArgsRefused : Link → LinkError → Type 0
ArgsRefused l error.BadName = bad_name l ≡ true
ArgsRefused l error.OutOfMemory = Unit {0}
ArgsRefused l fault = ⊥
