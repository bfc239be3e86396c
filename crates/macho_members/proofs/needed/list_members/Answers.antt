-- Input by input, and at last no member is left.
use Rattle.std.proofs.Common.{sym, subst, arith}
use Rattle.std.proofs.lemmas.List.{get_or_default}
use Rattle.macho_members.specs.Views.{inputs_of, places_of}
use Rattle.macho_members.specs.steps.Taken.{AreListed}
use Rattle.macho_members.proofs.Listing.{none_listed, all_listed}
use Rattle.macho_members.proofs.Archives.{linked_within}
use Rattle.macho_members.proofs.needed.list_members.Goals as goal

pub loop-number-init : goal.loop-number-init
loop-number-init c = λ done.
    subst (λ places. AreListed (inputs_of c.args.inputs.now) 0 0 (places_of places)) (sym c.new-places.ensures.items)
    (none_listed (inputs_of c.args.inputs.now))

pub loop-number-preserved : goal.loop-number-preserved
loop-number-preserved c = λ done.
    c.in_ok-list_input.ensures c.args.inputs.now done c.loop-number-test.true
    (get_or_default c.args.inputs.now c.loop-number.number _ _ c.loop-number-test.true)
    (c.loop-number.invariant done)

pub returns : goal.returns
returns c = λ done.
    all_listed (inputs_of c.args.inputs.now) c.loop-number.number (places_of c.loop-number.places.items)
    (λ i m needed. linked_within c.args.inputs.now _ c.loop-number.number done (omega (arith, c.loop-number-test.false)) i m needed)
    (c.loop-number.invariant done)
