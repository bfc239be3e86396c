-- The input stands behind those before it, and is what its kind says.
use Rattle.std.proofs.Common.{ap, rules}
use Rattle.macho_model.specs.Links.{Link}
use Rattle.macho_linker.specs.declared.owned.OwnedInput.{OwnedInput}
use Rattle.macho_promise.specs.Inputs.{IsInput}
use Rattle.macho_linker.specs.Owned.{input_of}
use Rattle.macho_linker.proofs.Taking.{taken_more}
use Rattle.macho_linker.proofs.linker.Linker.add_dylib.Goals as goal

pub invariant_of-self-2 : goal.invariant_of-self-2
invariant_of-self-2 c =
    let more = taken_more (λ (i : OwnedInput). IsInput (input_of i)) c.self.inside.inputs.items c.push.new.self.items _
    c.args.self.now.inputs
    c.in_ok-push.ensures.items c.self.invariant.0 (search (rules, c.in_default.ensures.found))
    (ap (λ (l : Link). l.inputs) c.self.view_is) c.requires.few in
    (more.0, more.1, c.self.invariant.2)
