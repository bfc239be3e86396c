-- A table has the import, or none has.
use Rattle.std.proofs.Common.{◌≡◌, refl, subst, arith, inl, inr}
use Rattle.std.proofs.lemmas.Bool.{cases_lt}
use Rattle.macho_model.specs.Memory.{IsBound}
use Rattle.macho_image_walks.specs.steps.Made.{BoundByNth}
use Rattle.macho_image_walks.proofs.WordWalk.{some_is}
use Rattle.macho_image_walks.proofs.LoadedMemory.{bound_found, bound_lacks}
use Rattle.macho_image_walks.proofs.fixed.bound.Goals as goal

pub returns-in-Some-clause-found : goal.returns-in-Some-clause-found
returns-in-Some-clause-found c v is choice gives =
    subst (λ u. IsBound c.args.bytes.now choice c.args.word u) (some_is c.in-Some.value v is)
    (bound_found c.args.bytes.now c.loop-number.number c.args.addresses.now c.args.word c.in-Some.value choice
    (c.in-Some.ensures.found c.in-Some.value refl) gives)

pub loop-number-preserved : goal.loop-number-preserved
loop-number-preserved c k v within by =
    elim (cases_lt k c.loop-number.number) [
      | inl lt ↦ c.loop-number.invariant k v lt by
      | inr le ↦
          let same : k ≡ c.loop-number.number = omega (arith, le, within) in
          c.in_default.not-Some v (c.bound_by_nth.ensures.only v
          (subst (λ j. BoundByNth c.args.bytes.now j c.args.addresses.now c.args.word v) same by))
    ]

pub returns-clause-only : goal.returns-clause-only
returns-clause-only c _ v choice gives bound =
    let past = c.loop-number-test.false in
    let end = c.count_of-number-end.ensures in
    bound_lacks c.args.bytes.now c.args.addresses.now c.args.word v choice
    (λ k u within by. c.loop-number.invariant k u (omega (arith, past, end, within)) by) gives bound
