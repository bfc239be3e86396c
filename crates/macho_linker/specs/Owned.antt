-- An input as it is owned, without where it lies in memory.
use Rattle.std.specs.String.{string_bytes}
use Rattle.macho_model.specs.Links.{Input, StubReading}
use Rattle.macho_model.specs.Links as model
use Rattle.macho_linker.specs.declared.owned.StubText.{StubText}
use Rattle.macho_linker.specs.declared.owned.OwnedInput.{OwnedInput}
use Rattle.macho_linker.specs.declared.owned.OwnedInput.TheVariants as owned

-- what the text of a stub says
abbrev pub says_of : StubText → StubReading
says_of stub = stub.reading.0

-- the input that is owned; of a stub what its text says
abbrev pub input_of : OwnedInput → Input
input_of (owned.Object object) = model.Object object.bytes.items
input_of (owned.Dylib bytes) = model.Dylib bytes.items
input_of (owned.Stub stub) = model.Stub (string_bytes stub.text) (says_of stub)
