-- What a linker holds keeps its invariant: its inputs are what their kinds say, and few; and its names can be written.
use Rattle.std.proofs.Common.{subst, arith}
use Rattle.std.proofs.lemmas.List.{length-map}
use Rattle.std.proofs.lemmas.List.Elements.{All-map}
use Rattle.macho_promise.specs.Inputs.{IsInput}
use Rattle.macho_linker.specs.Owned.{input_of}
use Rattle.macho_linker.specs.Held.{IsHeld}
use Rattle.macho_linker.proofs.linker.Linker.inputs.Goals as goal

pub returns-clause-held : goal.returns-clause-held
returns-clause-held c =
    let inputs = c.self.inside.inputs.items in
    let kept = c.self.invariant in
    subst IsHeld c.self.view_is (record {
      inputs = All-map IsInput input_of inputs kept.0;
      few = omega (arith, length-map inputs input_of, kept.1);
      names = kept.2;
    })
