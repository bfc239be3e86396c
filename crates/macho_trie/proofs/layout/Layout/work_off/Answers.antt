use Rattle.std.proofs.Common.{◌≤◌, length, slice_index, sym, inr, arith}
use Rattle.std.proofs.lemmas.Bool.{eqb-false}
use Rattle.macho_trie.proofs.Parents.{sums_are_places}
use Rattle.macho_trie.proofs.Looks.{list_grows, list_ends, moved_listed, moved_long}
use Rattle.macho_trie.proofs.layout.Layout.work_off.Goals as goal

pub moved_edges-requires-clause-same : goal.moved_edges-requires-clause-same
moved_edges-requires-clause-same c =
    moved_long c.args.self.now c.list.widths c.widen.new.widths c.list.places.items c.in_ok-moved.moved.items c.deref-in-list-2.result.now
    c.deref-in-list-3.result.now c.list.invariant.placed
    (sums_are_places c.args.self.now (slice_index c.widen.new.widths) c.widen.new.sizes c.in_ok-moved.moved.items
    c.in_ok-widen.ensures.sizes c.in_ok-moved.ensures) c.deref-in-list-2.ensures.value c.deref-in-list-3.ensures.value

pub list-smaller : goal.list-smaller
list-smaller c =
    let some : 1 ≤ length c.list.list.items = let left = eqb-false _ 0 (sym c.list-test.ensures) in omega (arith, left, c.list.list.ok.0) in
    list_ends c.args.self.now c.list.widths c.widen.new.widths c.list.places.items c.in_ok-moved.moved.items c.deref-in-list-2.result.now
    c.deref-in-list-3.result.now c.list.list.items c.in_ok-list.list.items c.in_ok-widen.ensures.low some c.list.invariant.placed
    (sums_are_places c.args.self.now (slice_index c.widen.new.widths) c.widen.new.sizes c.in_ok-moved.moved.items
    c.in_ok-widen.ensures.sizes c.in_ok-moved.ensures)
    c.deref-in-list-2.ensures.value c.deref-in-list-3.ensures.value c.in_ok-list.ensures.none c.in_ok-widen.ensures.grown

pub list-preserved : goal.list-preserved
list-preserved c =
    let some : 1 ≤ length c.list.list.items = let left = eqb-false _ 0 (sym c.list-test.ensures) in omega (arith, left, c.list.list.ok.0) in
    let placed = sums_are_places c.args.self.now (slice_index c.widen.new.widths) c.widen.new.sizes c.in_ok-moved.moved.items
    c.in_ok-widen.ensures.sizes c.in_ok-moved.ensures in
    record {
      placed = placed;
      sizes = c.in_ok-widen.ensures.sizes;
      low = c.in_ok-widen.ensures.low;
      listed = moved_listed c.args.self.now c.widen.new.widths c.in_ok-moved.moved.items c.deref-in-list-3.result.now
          c.in_ok-list.list.items placed c.deref-in-list-3.ensures.value c.in_ok-list.ensures.list;
      grown = inr (list_grows c.args.widths.now c.list.widths c.widen.new.widths c.list.places.items c.deref.result.now c.list.list.items
          c.deref-in-list.result.now c.list.invariant.grown c.deref.ensures.value c.deref-in-list.ensures.value some
          c.in_ok-widen.ensures.first
          c.in_ok-widen.ensures.grown);
    }
