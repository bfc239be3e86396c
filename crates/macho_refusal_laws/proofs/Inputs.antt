-- What holds of a link whose inputs are what their bytes are.
--
-- Each is said of an input by its number. A stub says what the library of its documents says, whose texts hold no NUL.
use Rattle.std.proofs.Common.{ℕ, List, sym, subst, All}
use Rattle.macho_bytes.proofs.Members.{all_contains}
use Rattle.macho_model.specs.Links.{Link, Input, Object, Stub, StubReading}
use Rattle.macho_model.specs.Lists.{IsNumber}
use Rattle.macho_promise.specs.Inputs.{IsInput, IsStubInput}
use Rattle.macho_promise.proofs.Stubs.{library_of}
use Rattle.macho_stub.proofs.NoNuls.{library_plain}
use Rattle.macho_writing_laws.specs.Names.{IsPlainReading}
use Rattle.macho_refusal_laws.specs.Inputs.{HasBytes, InputsAreRead, InputsAreBytes, InputsArePlain}

-- what holds of all inputs holds of that of a number
numbered : (P : Input → Type 0) (l : Link) (file : ℕ) (x : Input) → All P l.inputs → IsNumber l.inputs file x → P x
numbered P l file x each number = all_contains P l.inputs x each (file, number.0, number.1)

pub inputs_are_read : InputsAreRead
inputs_are_read l each file b number = numbered IsInput l file (Object b) each number

pub inputs_are_bytes : InputsAreBytes
inputs_are_bytes l each file b number = numbered HasBytes l file (Object b) each number

reading_plain : (text : List ℕ) (says : StubReading) → IsStubInput text says → IsPlainReading says
reading_plain text says of =
    let it = library_of text says of in
    let plain = library_plain text it.library it.in_grammar in
    subst IsPlainReading (sym it.is) (record { install_name = plain.install_name; names = plain.symbols; weak_names = plain.weak_symbols })

pub inputs_are_plain : InputsArePlain
inputs_are_plain l each file text says number = reading_plain text says (numbered IsInput l file (Stub text says) each number)
