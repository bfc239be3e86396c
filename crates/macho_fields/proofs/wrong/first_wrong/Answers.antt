-- The fields so far read as they are to, and the next one is the first that doesn't, or reads so too.
use Rattle.std.proofs.Common.{◌≡◌, ℕ, ◌+◌, ◌<◌, sym, subst, ap, ◌∙◌, arith}
use Rattle.macho_object.specs.Views.{RelocationBytes}
use Rattle.macho_model.specs.Objects.{section_at}
use Rattle.macho_fields.specs.declared.source.Source.{Source}
use Rattle.macho_fields.specs.steps.Filled.{IsSource}
use Rattle.macho_fields.specs.steps.Reads.{ReadTo, IsWrong}
use Rattle.macho_fields.proofs.Nexts.{count_is}
use Rattle.macho_fields.proofs.Judging.{read_all, first_of}
use Rattle.macho_fields.proofs.wrong.first_wrong.Goals as goal

below_count : (s : Source) (n i : ℕ) → IsSource s → n ≡ (section_at s.list.bytes s.list.section).nreloc → i < n
    → i < (section_at s.file.now.bytes s.place.section).nreloc
below_count s n i source is lt =
    let same : n ≡ (section_at s.file.now.bytes s.place.section).nreloc =
    is ∙ ap (λ (v : RelocationBytes). (section_at v.bytes v.section).nreloc) source.list in
    omega (arith, same, lt)

pub returns-then-is_wrong-clause-why : goal.returns-then-is_wrong-clause-why
returns-then-is_wrong-clause-why g c =
    λ l p fill. first_of l p c.args.source.now.place (g.P.Places.look c.args.places.now) c.args.source.now.file.now.bytes
    c.loop-index.index c.args.bytes.now fill
    (below_count c.args.source.now c.num_relocations-index-end.result c.loop-index.index c.requires.source
    c.num_relocations-index-end.ensures c.loop-index-test.true)
    (c.loop-index.invariant.right l p fill)
    (subst (λ (r : ℕ). IsWrong l p c.args.source.now.place r c.args.bytes.now) c.near_at-near.ensures.near.index
    (c.is_wrong.ensures.wrong l p fill c.if-is_wrong.true))

pub loop-index-preserved : goal.loop-index-preserved
loop-index-preserved g c = record {
  right = λ l p fill. subst (λ (r : ℕ). ReadTo l p c.args.source.now.place (r + 1) c.args.bytes.now) c.near_at-near.ensures.near.index
      (c.is_wrong.ensures.right l p fill c.if-is_wrong.false
      (subst (λ (r : ℕ). ReadTo l p c.args.source.now.place r c.args.bytes.now) (sym c.near_at-near.ensures.near.index)
      (c.loop-index.invariant.right l p fill)));
  front = c.near_at-near.ensures.front;
}

pub returns-clause-found : goal.returns-clause-found
returns-clause-found g c =
    λ l p fill. read_all l p c.args.source.now.place c.args.source.now.file.now.bytes c.args.bytes.now fill.object
    (subst (λ (k : ℕ). ReadTo l p c.args.source.now.place k c.args.bytes.now)
    (count_is c.args.source.now c.num_relocations-index-end.result c.loop-index.index c.requires.source
    c.num_relocations-index-end.ensures c.loop-index-test.false
    c.loop-index.auto.index-end)
    (c.loop-index.invariant.right l p fill))
