-- How a stub's text is taken, and its refusal as a linker tells it.
use Rattle.std.specs.Prelude.{ℕ, List}
use Rattle.macho_linker.specs.Readings.{SaysOneThing}
use Rattle.macho_promise.specs.Inputs.{IsStubInput}
use Rattle.macho_stub_lines.specs.declared.fault.StubFault.{StubFault}
use Rattle.macho_stub_lines.specs.declared.fault.StubFault.TheVariants as stub
use Rattle.macho_answer.specs.declared.fault.LinkError.{LinkError}
use Rattle.macho_answer.specs.declared.fault.LinkError.TheVariants as error
use Rattle.macho_answer.specs.declared.fault.InputFault.TheVariants as input

-- A text was read as a stub: it says one thing.
pub record IsReadStub (text : List ℕ) : Type 0 where
  pub one : SaysOneThing text
  pub stub : IsStubInput text one.0

-- the rule with its line; want of memory is want of memory
abbrev pub stub_refusal : StubFault → LinkError
stub_refusal (stub.Rule line rule) = error.BadInput (input.Stub line rule)
stub_refusal stub.OutOfMemory = error.OutOfMemory
