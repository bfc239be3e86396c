-- What sections cost: where the next one doesn't fit any more, neither do all.
use Rattle.std.proofs.Common.{ℕ, [], sum_by, get_or, ap, ◌∙◌, arith}
use Rattle.std.proofs.lemmas.List.{take_all}
use Rattle.std.proofs.lemmas.List.Sums.{sum_by_more, sum_by_more_le}
use Rattle.macho_layout.specs.declared.spec.Planned.{Planned}
use Rattle.macho_layout.specs.Members.{placed_align}
use Rattle.macho_layout.specs.Sums.{section_cost}
use Rattle.macho_layout.proofs.Costs.{fitting-none, fitting-some, fitting-is, fitting-below}
use Rattle.macho_layout.proofs.sums.sections_cost.Goals as goal

abbrev blank : Planned
blank = record {
  spec = record { file = 0; section = 0; segment = record { 0 = [] }; name = []; flags = 0; align = 0; size = 0 };
  output = 0;
}

abbrev cost : ℕ → Planned → ℕ
cost template s = section_cost s.spec.size (placed_align template s.spec)

pub returns-in_err-sum : goal.returns-in_err-sum
returns-in_err-sum c =
    c.from_residual.ensures
    ∙ fitting-none _ (sum_by (cost c.args.template) c.args.sections.now) c.in_err-sum.ensures
    (omega (
      arith,
      c.loop-section.invariant.value,
      ap (λ (n : ℕ). section_cost
          (get_or c.args.sections.now c.loop-section.section-index blank).spec.size n) c.placed_align-align.ensures,
      sum_by_more_le
          (cost c.args.template) c.args.sections.now c.loop-section.section-index blank c.loop-section-test.true,
    ))

pub loop-section-preserved : goal.loop-section-preserved
loop-section-preserved c = record {
  value = fitting-some _ _ c.in_ok-sum.ensures ∙ omega (
    arith,
    c.loop-section.invariant.value,
    ap
        (λ (n : ℕ). section_cost (get_or c.args.sections.now c.loop-section.section-index blank).spec.size n) c.placed_align-align.ensures,
    sum_by_more (cost c.args.template) c.args.sections.now c.loop-section.section-index blank c.loop-section-test.true,
  );
  fits = omega (arith, fitting-below _ _ c.in_ok-sum.ensures, fitting-some _ _ c.in_ok-sum.ensures);
}

pub returns : goal.returns
returns c =
    fitting-is _ _ (c.loop-section.invariant.value ∙ ap (sum_by (cost c.args.template))
    (take_all c.loop-section.section-index c.args.sections.now (omega arith))) c.loop-section.invariant.fits
