use Rattle.std.proofs.Common.{◌-◌, slice_index, arith}
use Rattle.macho_trie.specs.Tables.{row_at}
use Rattle.macho_trie.specs.steps.Layouts.{names_at}
use Rattle.macho_trie.proofs.Spells.{spelling_first, spelling_more, spelling_at, spelling_last}
use Rattle.macho_trie.proofs.layout.Layout.write_edges.Goals as goal

pub loop-edge-init : goal.loop-edge-init
loop-edge-init c =
    spelling_first (names_at c.args.self.now) c.args.self.now.rows.now (slice_index c.args.places.now) c.args.row _ c.args.out.now.items
    c.requires.sound c.requires.here (omega arith)

pub bounds-self-child : goal.bounds-self-child
bounds-self-child c =
    (spelling_at (names_at c.args.self.now) c.args.self.now.rows.now (slice_index c.args.places.now) c.args.row _ c.loop-edge.child
    c.args.out.now.items c.loop-edge.out.items c.requires.sound (omega arith) c.loop-edge.invariant).within

pub bounds-places-child : goal.bounds-places-child
bounds-places-child c =
    let at = spelling_at (names_at c.args.self.now) c.args.self.now.rows.now (slice_index c.args.places.now) c.args.row _ c.loop-edge.child
    c.args.out.now.items c.loop-edge.out.items c.requires.sound (omega arith) c.loop-edge.invariant in
    omega (arith, at.within)

pub write_edge-requires-clause-symbol : goal.write_edge-requires-clause-symbol
write_edge-requires-clause-symbol c =
    (spelling_at (names_at c.args.self.now) c.args.self.now.rows.now (slice_index c.args.places.now) c.args.row _ c.loop-edge.child
    c.args.out.now.items c.loop-edge.out.items c.requires.sound (omega arith) c.loop-edge.invariant).sound.symbol

pub write_edge-requires-clause-label : goal.write_edge-requires-clause-label
write_edge-requires-clause-label c =
    (spelling_at (names_at c.args.self.now) c.args.self.now.rows.now (slice_index c.args.places.now) c.args.row _ c.loop-edge.child
    c.args.out.now.items c.loop-edge.out.items c.requires.sound (omega arith) c.loop-edge.invariant).sound.label

pub loop-edge-preserved : goal.loop-edge-preserved
loop-edge-preserved c =
    spelling_more (names_at c.args.self.now) c.args.self.now.rows.now (slice_index c.args.places.now) c.args.row
    ((row_at c.args.self.now.rows.now c.args.row).children - c.loop-edge.edge) _ c.loop-edge.child c.args.out.now.items
    c.loop-edge.out.items
    c.write_edge.new.out.items c.requires.sound (omega arith) c.loop-edge.invariant c.in_ok-write_edge.ensures

pub returns : goal.returns
returns c =
    spelling_last (names_at c.args.self.now) c.args.self.now.rows.now (slice_index c.args.places.now) c.args.row
    ((row_at c.args.self.now.rows.now c.args.row).children - c.loop-edge.edge) c.loop-edge.child c.args.out.now.items
    c.loop-edge.out.items (omega arith)
    c.loop-edge.invariant
