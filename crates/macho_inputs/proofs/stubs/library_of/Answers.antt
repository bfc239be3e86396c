-- What was read says what the text says, and no rule is told of a stub.
use Rattle.std.proofs.Common.{List, ℕ, sym, subst}
use Rattle.macho_stub.specs.Answer.{IsStub}
use Rattle.macho_stub.specs.Library.{library_fields}
use Rattle.macho_linker.proofs.OneReading.{read_says, none_told}
use Rattle.macho_inputs.proofs.stubs.library_of.Goals as goal

pub unreachable-requires : goal.unreachable-requires
unreachable-requires c =
    let only = rw c.in-Err-Rule.field-0-is at c.in-Err-Rule.ensures.only in
    none_told _ c.in-Err-Rule.field-0-0 c.in-Err-Rule.field-0-1 c.args.stub.now.reading
    (λ library stub. only library (subst (λ (text : List ℕ). IsStub text library) (sym c.as_str.ensures.value) stub))

pub returns-in-Ok : goal.returns-in-Ok
returns-in-Ok c =
    let library = library_fields c.in-Ok.library in
    read_says _ c.args.stub.now.reading library
    (subst (λ (text : List ℕ). IsStub text library) c.as_str.ensures.value c.in-Ok.ensures.found)
