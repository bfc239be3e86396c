use Rattle.std.proofs.Common.{◌++◌, ℕ, List, slice_index, arith, ap, ◌∙◌}
use Rattle.std.proofs.lemmas.List.{drop_all}
use Rattle.macho_bytes.proofs.Writes.{put_mid-whole}
use Rattle.macho_trie.specs.Tables.{trees_of, symbol_at, row_at, children_at}
use Rattle.macho_trie.specs.declared.table.Row.{Row}
use Rattle.macho_trie.specs.Encoding.{node_bytes, tree_bytes}
use Rattle.macho_trie.specs.steps.Layouts.{names_at, says_at, tree_at}
use Rattle.macho_trie.proofs.Spells.{spelled_first, node_fits, spelled_more, spelled_last}
use Rattle.macho_trie.proofs.layout.Layout.spell.Goals as goal

pub loop-row-init : goal.loop-row-init
loop-row-init c = spelled_first (tree_bytes (says_at c.args.self.now) (slice_index c.args.places.now) 0 (tree_at c.args.self.now)) c.args.at
    c.args.out.now (omega (arith, c.requires.room))

pub loop-row-preserved : goal.loop-row-preserved
loop-row-preserved c =
    let whole : List ℕ = tree_bytes (says_at c.args.self.now) (slice_index c.args.places.now) 0 (tree_at c.args.self.now) in
    let node = c.in_ok-write_node.ensures ∙ ap (λ (xs : List ℕ). xs ++ node_bytes (says_at c.args.self.now) (slice_index
    c.args.places.now) c.loop-row.row (symbol_at (row_at c.args.self.now.rows.now c.loop-row.row)) (children_at (names_at
    c.args.self.now) c.args.self.now.rows.now c.loop-row.row)) c.clear.ensures.items in
    let fits = node_fits (says_at c.args.self.now) (slice_index c.args.places.now) c.loop-row.row (names_at c.args.self.now)
    c.args.self.now.rows.now whole c.args.at c.args.out.now c.loop-row.out c.write_node.new.out.items c.loop-row.place (omega arith)
    c.requires.room c.loop-row.invariant node in
    spelled_more (says_at c.args.self.now) (slice_index c.args.places.now) c.loop-row.row (names_at c.args.self.now)
    c.args.self.now.rows.now whole c.args.at c.args.out.now c.loop-row.out c.write_node.new.out.items _ c.loop-row.place _ (omega arith)
    c.requires.room c.loop-row.invariant node
    (put_mid-whole c.loop-row.place _ c.loop-row.out c.write_node.new.out.items c.copy_from_slice.new.self
    (omega (arith, c.len.ensures, c.write_node.new.out.ok.0)) fits (c.copy_from_slice.ensures.after ∙ c.deref.ensures.value))
    (omega (arith, c.len-place.ensures, c.write_node.new.out.ok.0))

pub returns-clause-done : goal.returns-clause-done
returns-clause-done c =
    spelled_last
    (tree_bytes (says_at c.args.self.now) (slice_index c.args.places.now) 0 (tree_at c.args.self.now)) c.args.at _ c.args.out.now
    c.loop-row.out c.loop-row.place c.loop-row.invariant
    (ap (λ (rs : List Row). tree_bytes (says_at c.args.self.now) (slice_index c.args.places.now) c.loop-row.row
    (trees_of (names_at c.args.self.now) rs)) (drop_all c.loop-row.row c.args.self.now.rows.now c.loop-row-test.false))
