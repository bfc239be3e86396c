-- Each page's start is read in the segment's record.
use Rattle.std.proofs.Common.{ℕ, ◌≡◌, sym, ◌∙◌, arith, inl, inr, subst, slice_index}
use Rattle.std.proofs.lemmas.Bool.{cases_lt}
use Rattle.macho_model.specs.Images.{NO_START}
use Rattle.macho_image_walks.specs.Readings.{starts_of}
use Rattle.macho_loader.proofs.BlankRecords.{start_there}
use Rattle.macho_loader.proofs.ChainWalks.{pages_found}
use Rattle.macho_loader.proofs.blank.has_no_start.Goals as goal

pub loop-page-preserved : goal.loop-page-preserved
loop-page-preserved c k lt =
    let b = c.args.bytes.now in
    let s = c.args.segment in
    let within = c.loop-page-test.true in
    let end = c.pages_in-page-end.ensures in
    let here : slice_index (starts_of b s.number) c.loop-page.page ≡ NO_START =
    start_there b s.table s.number c.args.at c.loop-page.page NO_START c.requires.table c.requires.at (omega (arith, within, end))
    (sym c.if-u16_from.false ∙ c.u16_from.ensures) in
    elim (cases_lt k c.loop-page.page) [
      | inl before ↦ c.loop-page.invariant k before
      | inr ge ↦
          let same : c.loop-page.page ≡ k = omega (arith, ge, lt) in
          subst (λ (n : ℕ). slice_index (starts_of b s.number) n ≡ NO_START) same here
    ]

pub returns : goal.returns
returns c _ page within =
    let past = c.loop-page-test.false in
    let end = c.pages_in-page-end.ensures in
    let long = pages_found c.args.bytes.now c.args.segment.number c.args.segment.table c.requires.table in
    c.loop-page.invariant page (omega (arith, past, end, long, within))
