-- The span of an object: where the next section doesn't fit any more, neither do all.
use Rattle.std.proofs.Common.{ℕ, Bool, ◌+◌, ◌≤◌, sym, ap, subst, ◌∙◌, arith, sum_by}
use Rattle.std.specs.List.{range_with_len}
use Rattle.std.proofs.lemmas.Bool.{leb-true}
use Rattle.std.proofs.lemmas.List.{take_all}
use Rattle.std.proofs.lemmas.List.FromFn.{length-range_with_len}
use Rattle.macho_records.specs.declared.header.SectionHeader.{SectionHeader}
use Rattle.macho_model.specs.Objects.{num_sections, section_at}
use Rattle.macho_model.proofs.ObjectLaws.{object_keeps}
use Rattle.macho_object.specs.Views.{section_count}
use Rattle.macho_layout.proofs.Costs.{fitting-none, fitting-some, fitting-is, fitting-below}
use Rattle.macho_sizing.proofs.Standing.{header_viewed}
use Rattle.macho_sizing.specs.steps.Spans.{span_of, span_below}
use Rattle.macho_sizing.proofs.Spans.{below_more, below_less}
use Rattle.macho_sizing.proofs.span.with_object.Goals as goal

pub with_section-requires : goal.with_section-requires
with_section-requires c =
    let b = c.args.object.now.bytes in
    let k = c.loop-section.section in
    let seen = header_viewed c.args.object.now k c.in-Some.header c.requires.object c.in-Some.ensures in
    subst (λ (h : SectionHeader). h.align ≤ 14) (sym seen.0)
    (leb-true (section_at b k).align 14 ((object_keeps c.requires.rules).o7 k seen.1))

pub returns-in_err-span : goal.returns-in_err-span
returns-in_err-span c =
    let b = c.args.object.now.bytes in
    let k = c.loop-section.section in
    let f : ℕ → ℕ = λ n. span_of (section_at b n) in
    let seen = header_viewed c.args.object.now k c.in-Some.header c.requires.object c.in-Some.ensures in
    c.from_residual.ensures
    ∙ fitting-none _ (c.args.before + span_below b (num_sections b)) c.in_err-span.ensures
    (omega (arith, c.loop-section.invariant.value, ap span_of seen.0, below_less f (num_sections b) k seen.1))

pub loop-section-preserved : goal.loop-section-preserved
loop-section-preserved c =
    let b = c.args.object.now.bytes in
    let k = c.loop-section.section in
    let f : ℕ → ℕ = λ n. span_of (section_at b n) in
    let seen = header_viewed c.args.object.now k c.in-Some.header c.requires.object c.in-Some.ensures in
    record {
      value = fitting-some _ _ c.in_ok-span.ensures
          ∙ omega (arith, c.loop-section.invariant.value, ap span_of seen.0, below_more f (num_sections b) k seen.1);
      fits = omega (arith, fitting-below _ _ c.in_ok-span.ensures, fitting-some _ _ c.in_ok-span.ensures);
    }

pub returns : goal.returns
returns c =
    let b = c.args.object.now.bytes in
    let f : ℕ → ℕ = λ n. span_of (section_at b n) in
    fitting-is _ _ (c.loop-section.invariant.value ∙ ap (λ ks. c.args.before + sum_by f ks)
    (take_all c.loop-section.section (range_with_len 0 (num_sections b)) (omega (
      arith,
      length-range_with_len 0 (num_sections b),
      c.loop-section-test.false,
      c.num_sections-section-end.ensures,
      ap (λ (d : Bool). section_count d b) c.requires.object,
      c.loop-section.auto.section-end,
    ))))
    c.loop-section.invariant.fits
