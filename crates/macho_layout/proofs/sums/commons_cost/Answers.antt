-- What commons cost: where the next one doesn't fit any more, neither do all.
use Rattle.std.proofs.Common.{ℕ, ◌+◌, List, sum_by, ap, ◌∙◌, arith}
use Rattle.std.proofs.lemmas.List.{take_all}
use Rattle.std.proofs.lemmas.List.Sums.{sum_by_more, sum_by_more_le}
use Rattle.macho_layout.specs.declared.spec.CommonSpec.{CommonSpec}
use Rattle.macho_layout.specs.Sums.{section_cost}
use Rattle.macho_layout.proofs.Costs.{fitting-none, fitting-some, fitting-is, fitting-below}
use Rattle.macho_layout.proofs.sums.commons_cost.Goals as goal

abbrev blank : CommonSpec
blank = record { id = 0; size = 0; align = 0 }

abbrev cost : CommonSpec → ℕ
cost c = section_cost c.size c.align

pub returns-in_err-sum : goal.returns-in_err-sum
returns-in_err-sum c =
    c.from_residual.ensures
    ∙ fitting-none _ (c.args.before + sum_by cost c.args.commons.now) c.in_err-sum.ensures
    (omega (
      arith,
      c.loop-common.invariant.value,
      sum_by_more_le cost c.args.commons.now c.loop-common.common-index blank
          c.loop-common-test.true,
    ))

pub loop-common-preserved : goal.loop-common-preserved
loop-common-preserved c = record {
  value = fitting-some _ _ c.in_ok-sum.ensures ∙ omega (
    arith,
    c.loop-common.invariant.value,
    sum_by_more cost c.args.commons.now
        c.loop-common.common-index blank c.loop-common-test.true,
  );
  fits = omega (arith, fitting-below _ _ c.in_ok-sum.ensures, fitting-some _ _ c.in_ok-sum.ensures);
}

pub returns : goal.returns
returns c =
    fitting-is _ _ (c.loop-common.invariant.value ∙ ap (λ (cs : List CommonSpec). c.args.before + sum_by cost cs)
    (take_all c.loop-common.common-index c.args.commons.now (omega arith))) c.loop-common.invariant.fits
