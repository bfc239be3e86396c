-- What holds of a link whose inputs are what their bytes are.
use Rattle.std.specs.Prelude.{◌<◌, All}
use Rattle.macho_model.specs.Links.{Link, Input, Object, Dylib, Stub}
use Rattle.macho_promise.specs.Inputs.{IsInput}
use Rattle.macho_model.specs.Grammar.{ObjectsAreRead}
use Rattle.macho_writing_laws.specs.Valid.{ObjectsAreBytes}
use Rattle.macho_writing_laws.specs.Names.{StubsArePlain}

-- the bytes of an object are numbers below 256
abbrev pub HasBytes : Input → Type 0
HasBytes (Object bytes) = All (λ x. x < 256) bytes
HasBytes (Dylib bytes) = Unit {0}
HasBytes (Stub text says) = Unit {0}

-- objects keep their rules, objects are made of bytes, and the texts of stubs hold no NUL
abbrev pub InputsAreRead : Type 0
InputsAreRead = (l : Link) → All IsInput l.inputs → ObjectsAreRead l

abbrev pub InputsAreBytes : Type 0
InputsAreBytes = (l : Link) → All HasBytes l.inputs → ObjectsAreBytes l

abbrev pub InputsArePlain : Type 0
InputsArePlain = (l : Link) → All IsInput l.inputs → StubsArePlain l
