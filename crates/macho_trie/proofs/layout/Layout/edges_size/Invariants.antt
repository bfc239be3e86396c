use Rattle.std.proofs.Common.{◌-◌, slice_index}
use Rattle.macho_trie.specs.Symbols.{names_of}
use Rattle.macho_trie.specs.Tables.{row_at}
use Rattle.macho_trie.proofs.Sizes.{IsCounted}
use Rattle.macho_trie.proofs.Parents.{AreNaming}
use Rattle.macho_trie.proofs.layout.Layout.edges_size.Given as goal

-- the edges so far are counted, and their children are named
abbrev pub invariant-loop-edge : goal.invariant-loop-edge
invariant-loop-edge l = record {
  counted : IsCounted (names_of l.self.symbols.now) l.self.rows.now (slice_index l.widths) l.row ((row_at l.self.rows.now
      l.row).children - l.edge) l.child l.size;
  named : AreNaming (names_of l.self.symbols.now) l.self.rows.now l.row ((row_at l.self.rows.now l.row).children - l.edge) l.child
      l.initial.parents l.parents;
}
