-- The pointers so far are told, and the relocation in front of the next one was read.
use Rattle.std.proofs.Common.{◌+◌, ℕ, refl, sym, subst}
use Rattle.macho_fields.specs.steps.Pointers.{ArePointersTo}
use Rattle.macho_fields.proofs.Nexts.{count_is}
use Rattle.macho_fields.proofs.Pointed.{pointed_none}
use Rattle.macho_fields.proofs.pointers.push_all.Goals as goal

pub loop-index-init : goal.loop-index-init
loop-index-init g c = record {
  pointed = λ l p fill. pointed_none l c.args.source.now.place c.args.run.now.items;
  front = record { is = refl; bits = tt };
}

pub loop-index-preserved : goal.loop-index-preserved
loop-index-preserved g c = record {
  pointed = λ l p fill. subst
      (λ (r : ℕ). ArePointersTo l c.args.source.now.place (r + 1) c.args.run.now.items c.push_one.new.run.items)
      c.near_at-near.ensures.near.index
      (c.in_ok-push_one.ensures.done l p c.args.run.now.items fill
      (subst (λ (r : ℕ). ArePointersTo l c.args.source.now.place r c.args.run.now.items c.loop-index.run.items)
      (sym c.near_at-near.ensures.near.index) (c.loop-index.invariant.pointed l p fill)));
  front = c.near_at-near.ensures.front;
}

pub returns : goal.returns
returns g c = record {
  done =
      λ l p fill. subst (λ (k : ℕ). ArePointersTo l c.args.source.now.place k c.args.run.now.items c.loop-index.run.items)
      (count_is c.args.source.now c.num_relocations-index-end.result c.loop-index.index c.requires.source
      c.num_relocations-index-end.ensures c.loop-index-test.false
      c.loop-index.auto.index-end)
      (c.loop-index.invariant.pointed l p fill);
}
