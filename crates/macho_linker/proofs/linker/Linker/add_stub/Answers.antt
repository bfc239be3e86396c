-- The input stands behind those before it, and is what its kind says: the text was read as a stub, and says one thing.
use Rattle.std.proofs.Common.{ap, subst}
use Rattle.macho_model.specs.Links.{Link}
use Rattle.macho_linker.specs.contracts.linker.Linker.{the_view}
use Rattle.macho_linker.specs.steps.StubRefusals.{IsReadStub}
use Rattle.macho_linker.proofs.Taking.{taken_stub, takes_stub}
use Rattle.macho_linker.proofs.linker.Linker.add_stub.Goals as goal

pub invariant_of-push : goal.invariant_of-push
invariant_of-push c = record { reading = (subst IsReadStub c.as_str.ensures.value c.in_ok-check_stub.ensures.found).one }

pub invariant_of-self-2 : goal.invariant_of-self-2
invariant_of-self-2 c =
    let read = subst IsReadStub c.as_str.ensures.value c.in_ok-check_stub.ensures.found in
    let more = taken_stub c.self.inside.inputs.items c.push.new.self.items _ c.args.self.now.inputs
    c.in_ok-push.ensures.items c.self.invariant.0 read
    (ap (λ (l : Link). l.inputs) c.self.view_is) c.requires.few in
    (more.0, more.1, c.self.invariant.2)

pub returns-clause-added : goal.returns-clause-added
returns-clause-added c =
    takes_stub c.self.inside.inputs.items c.push.new.self.items _ (the_view c.self.inside) c.args.self.now c.in_ok-push.ensures.items
    (subst IsReadStub c.as_str.ensures.value c.in_ok-check_stub.ensures.found) c.self.view_is
