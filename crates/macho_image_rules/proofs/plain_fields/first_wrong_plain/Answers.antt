-- The fields of one more section say what they are to.
use Rattle.std.proofs.Common.{◌≡◌, ℕ, ◌<◌, get_or, length, sym, subst, ap, ◌∙◌, arith, inl, inr}
use Rattle.std.proofs.lemmas.Bool.{cases_lt}
use Rattle.std.proofs.lemmas.List.{get_or_default}
use Rattle.macho_layout.specs.Placements.{placed_of}
use Rattle.macho_image_rules.specs.PlainFields.{PlainFieldsSay}
use Rattle.macho_image_rules.proofs.plain_fields.first_wrong_plain.Goals as goal

pub loop-index-preserved : goal.loop-index-preserved
loop-index-preserved g c = λ link at k d low.
    let p = placed_of c.args.placement.now in
    let i = c.loop-index.index in
    let q = c.index-place.result.now in
    let lt : i < length p.sections = omega (arith, c.loop-index-test.true, c.len-index-end.ensures) in
    elim (cases_lt k i) [
      | inl before ↦ c.loop-index.invariant link at k d before
      | inr behind ↦
          let same : i ≡ k = omega (arith, low, behind) in
          subst (PlainFieldsSay link c.args.image.now p)
          (c.index-place.ensures ∙ get_or_default p.sections i q d lt ∙ ap (λ (j : ℕ). get_or p.sections j d) same)
          (c.wrong_field_in.ensures.found link at (i, lt, sym c.index-place.ensures) c.in_default.is)
    ]

pub returns-clause-found : goal.returns-clause-found
returns-clause-found g c = λ l at none k d low.
    c.loop-index.invariant l at k d (omega (arith, low, c.loop-index-test.false, c.len-index-end.ensures))
