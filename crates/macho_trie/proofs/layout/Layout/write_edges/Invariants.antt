use Rattle.std.proofs.Common.{◌-◌, slice_index}
use Rattle.macho_trie.specs.Tables.{row_at}
use Rattle.macho_trie.specs.steps.Layouts.{names_at}
use Rattle.macho_trie.proofs.Spells.{IsSpelling}
use Rattle.macho_trie.proofs.layout.Layout.write_edges.Given as goal

abbrev pub invariant-loop-edge : goal.invariant-loop-edge
invariant-loop-edge l =
    IsSpelling (names_at l.self) l.self.rows.now (slice_index l.places) l.row ((row_at l.self.rows.now l.row).children - l.edge)
    l.child l.fn.out.items l.out.items
