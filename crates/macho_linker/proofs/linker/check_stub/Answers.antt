-- What is read is a stub, and what is refused is none.
use Rattle.macho_linker.proofs.Taking.{stub_read, stub_refused}
use Rattle.macho_linker.proofs.linker.check_stub.Goals as goal

pub returns-in-Err-clause-why : goal.returns-in-Err-clause-why
returns-in-Err-clause-why c =
    rw c.refusal_of_stub.ensures (stub_refused c.args.text.now c.in-Err.fault c.utf8.text c.in-Err.ensures.fault
    (λ library stub. c.in-Err.ensures.only library stub))

pub returns-clause-found : goal.returns-clause-found
returns-clause-found c = stub_read c.args.text.now _ c.utf8.text c.in_default.ensures.found
