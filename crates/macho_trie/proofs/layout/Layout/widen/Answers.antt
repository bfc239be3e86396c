use Rattle.std.proofs.Common.{ℕ, ◌+◌, ◌∙◌, length, set, slice_index, refl, sym, ap, subst, arith}
use Rattle.macho_trie.specs.Encoding.{place_of}
use Rattle.macho_trie.specs.steps.Layouts.{names_at, size_at, tree_at}
use Rattle.macho_trie.proofs.Building.{node_count-rows}
use Rattle.macho_trie.proofs.Widths.{length-places}
use Rattle.macho_trie.proofs.Raising.{AreWidening, widening_first, widening_more}
use Rattle.macho_trie.proofs.Parents.{sizes_more, parent_sized}
use Rattle.macho_trie.proofs.layout.Layout.widen.Goals as goal

pub loop-child-init : goal.loop-child-init
loop-child-init c = record {
  wider = widening_first (size_at c.args.self.now) (tree_at c.args.self.now) c.args.places.now c.args.list.now c.args.widths.now
      (length c.args.self.now.rows.now) c.requires.low.low c.requires.places c.requires.list;
  sizes = c.requires.sizes;
}

pub bounds-places-child : goal.bounds-places-child
bounds-places-child c =
    omega (
      arith,
      (c.requires.list.child c.loop-child.child-index 0 (omega arith)).1,
      length-places (place_of (size_at c.args.self.now) (slice_index c.args.widths.now) (tree_at c.args.self.now)) c.args.places.now
          (length c.args.self.now.rows.now) c.requires.places,
    )

pub bounds-sizes-parent : goal.bounds-sizes-parent
bounds-sizes-parent c =
    let here = c.requires.list.child c.loop-child.child-index 0 c.loop-child-test.true in
    parent_sized c.args.self.now (slice_index c.loop-child.widths) c.args.parents.now c.loop-child.sizes
    (slice_index c.args.list.now c.loop-child.child-index) c.requires.parents c.loop-child.invariant.sizes here.0 here.1

pub bounds-sizes-parent-in-loop-child : goal.bounds-sizes-parent-in-loop-child
bounds-sizes-parent-in-loop-child c =
    let here = c.requires.list.child c.loop-child.child-index 0 c.loop-child-test.true in
    parent_sized c.args.self.now (slice_index c.loop-child.widths) c.args.parents.now c.loop-child.sizes
    (slice_index c.args.list.now c.loop-child.child-index) c.requires.parents c.loop-child.invariant.sizes here.0 here.1

pub loop-child-preserved : goal.loop-child-preserved
loop-child-preserved c =
    let child : ℕ = slice_index c.args.list.now c.loop-child.child-index in
    let more = widening_more (size_at c.args.self.now) (tree_at c.args.self.now) c.args.places.now c.args.list.now c.args.widths.now
    c.loop-child.widths c.widen_edge-more.new.widths c.loop-child.child-index (length c.args.self.now.rows.now) c.in_ok-place.place
    child c.loop-child.growth c.widen_edge-more.result c.requires.root
    (node_count-rows (names_at c.args.self.now) c.args.self.now.rows.now) c.requires.low.long c.requires.list c.loop-child-test.true refl
    c.in_ok-place.ensures c.widen_edge-more.ensures c.loop-child.invariant.wider in
    let W : ℕ → Type 0 = λ n. AreWidening (size_at c.args.self.now) (tree_at c.args.self.now) c.args.places.now c.args.list.now
    c.args.widths.now
    c.widen_edge-more.new.widths (c.loop-child.child-index + 1) n in
    let here = c.requires.list.child c.loop-child.child-index 0 c.loop-child-test.true in
    record {
      wider = subst W (sym c.in_ok-growth.ensures) more;
      sizes = sizes_more c.args.self.now c.loop-child.widths c.widen_edge-more.new.widths c.args.parents.now c.loop-child.sizes _ child
          c.in_ok-place.place c.widen_edge-more.result c.requires.sound c.requires.root c.requires.parents
          (c.loop-child.invariant.wider.long ∙ c.requires.low.long) here.0 here.1 c.widen_edge-more.ensures
          (ap (λ (n : ℕ). set c.loop-child.sizes (slice_index c.args.parents.now child) n) c.in_ok-sizes.ensures)
          c.loop-child.invariant.sizes;
    }
