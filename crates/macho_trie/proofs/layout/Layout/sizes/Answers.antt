use Rattle.std.proofs.Common.{◌≡◌, ◌<◌, ◌∷◌, ◌++◌, [], ◌∙◌, ap, sym, arith, length, slice_index, take, ℕ, List}
use Rattle.std.proofs.lemmas.List.{take_all, take_more}
use Rattle.macho_trie.specs.Encoding.{node_sizes}
use Rattle.macho_trie.specs.steps.Layouts.{names_at, size_at, tree_at}
use Rattle.macho_trie.proofs.Building.{node_count-rows}
use Rattle.macho_trie.proofs.Cursor.{row_sound}
use Rattle.macho_trie.proofs.Sizes.{node_size_at, length-node_sizes}
use Rattle.macho_trie.proofs.Parents.{named_first, named_more, named_all}
use Rattle.macho_trie.proofs.layout.Layout.sizes.Goals as goal

pub loop-row-init : goal.loop-row-init
loop-row-init c = record {
  first = c.in_ok-sizes.ensures.items;
  named = named_first c.args.self.now c.args.parents.now c.requires.parents;
}

pub terminal_size-requires : goal.terminal_size-requires
terminal_size-requires c = (row_sound (names_at c.args.self.now) c.args.self.now.rows.now c.loop-row.row _ c.requires.sound.trees
    (omega arith)).symbol

pub loop-row-preserved : goal.loop-row-preserved
loop-row-preserved c =
    let within : c.loop-row.row < length c.args.self.now.rows.now = omega arith in
    let all : List ℕ = node_sizes (size_at c.args.self.now) (slice_index c.args.widths.now) 0 (tree_at c.args.self.now) in
    let inside : c.loop-row.row < length all = omega (
      arith,
      length-node_sizes (size_at c.args.self.now) (slice_index c.args.widths.now) 0 (tree_at c.args.self.now),
      node_count-rows (names_at c.args.self.now) c.args.self.now.rows.now,
    ) in
    let here = node_size_at (size_at c.args.self.now) (slice_index c.args.widths.now) c.loop-row.row (names_at c.args.self.now)
    c.args.self.now.rows.now c.requires.sound within in
    let size : c.in_ok-added.field-0 ≡ slice_index all c.loop-row.row = omega (
      arith,
      here,
      c.in_ok-added.ensures,
      c.in_ok-front.ensures,
      c.in_ok-terminal_size.ensures,
      c.in_ok-edges.ensures.size,
    ) in
    record {
      first = c.in_ok-push.ensures.items
          ∙ ap (λ (xs : List ℕ). xs ++ c.in_ok-added.field-0 ∷ []) c.loop-row.invariant.first
          ∙ ap (λ (n : ℕ). take c.loop-row.row all ++ n ∷ []) size
          ∙ sym (take_more all c.loop-row.row 0 inside);
      named = named_more c.args.self.now c.loop-row.parents c.edges_size.new.parents c.loop-row.row within c.in_ok-edges.ensures.named
          c.loop-row.invariant.named;
    }

pub returns : goal.returns
returns c =
    let end : c.loop-row.row ≡ length c.args.self.now.rows.now = omega arith in
    let all : List ℕ = node_sizes (size_at c.args.self.now) (slice_index c.args.widths.now) 0 (tree_at c.args.self.now) in
    record {
      sizes = c.loop-row.invariant.first ∙ take_all c.loop-row.row all (omega (
        arith,
        end,
        length-node_sizes (size_at c.args.self.now) (slice_index c.args.widths.now) 0 (tree_at c.args.self.now),
        node_count-rows (names_at c.args.self.now) c.args.self.now.rows.now,
      ));
      parents = named_all c.args.self.now c.loop-row.parents c.loop-row.row end c.requires.sound c.requires.root c.loop-row.invariant.named;
    }
