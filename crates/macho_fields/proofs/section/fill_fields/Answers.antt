-- The fields so far are filled, and the relocation in front of the next one was read.
use Rattle.std.proofs.Common.{◌+◌, ℕ, refl, sym, subst}
use Rattle.std.proofs.lemmas.Result.{err_from_is_err_and}
use Rattle.macho_fields.specs.steps.Sections.{IsFilledTo}
use Rattle.macho_fields.proofs.Nexts.{copied, count_is}
use Rattle.macho_fields.proofs.section.fill_fields.Goals as goal

pub loop-index-init : goal.loop-index-init
loop-index-init g c = record {
  filled = λ l p fill. copied l p (g.P.Places.look c.args.places.now) c.args.source.now c.args.out.now c.args.run.now.items
      c.requires.source fill c.requires.copied;
  front = record { is = refl; bits = tt };
}

pub returns-in_err-fill_one-clause-why : goal.returns-in_err-fill_one-clause-why
returns-in_err-fill_one-clause-why g c l p fill =
    let e = err_from_is_err_and c.from_residual.result c.from_residual.ensures.1 in
    rw (e.1, e.2)
    (c.in_err-fill_one.ensures.why l p c.args.run.now.items fill
    (subst (λ (r : ℕ). IsFilledTo l p c.args.source.now.place r c.args.run.now.items c.loop-index.out c.loop-index.run.items)
    (sym c.near_at-near.ensures.near.index) (c.loop-index.invariant.filled l p fill)))

pub loop-index-preserved : goal.loop-index-preserved
loop-index-preserved g c = record {
  filled = λ l p fill. subst
      (λ (r : ℕ). IsFilledTo l p c.args.source.now.place (r + 1) c.args.run.now.items c.fill_one.new.out c.fill_one.new.run.items)
      c.near_at-near.ensures.near.index
      (c.in_ok-fill_one.ensures.done l p c.args.run.now.items fill
      (subst (λ (r : ℕ). IsFilledTo l p c.args.source.now.place r c.args.run.now.items c.loop-index.out c.loop-index.run.items)
      (sym c.near_at-near.ensures.near.index) (c.loop-index.invariant.filled l p fill)));
  front = c.near_at-near.ensures.front;
}

pub returns-clause-done : goal.returns-clause-done
returns-clause-done g c =
    λ l p fill. subst (λ (k : ℕ). IsFilledTo l p c.args.source.now.place k c.args.run.now.items c.loop-index.out c.loop-index.run.items)
    (count_is c.args.source.now c.num_relocations-index-end.result c.loop-index.index c.requires.source
    c.num_relocations-index-end.ensures c.loop-index-test.false
    c.loop-index.auto.index-end)
    (c.loop-index.invariant.filled l p fill)
