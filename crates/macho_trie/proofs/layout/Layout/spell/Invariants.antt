use Rattle.std.proofs.Common.{slice_index}
use Rattle.macho_trie.specs.Tables.{trees_from}
use Rattle.macho_trie.specs.Encoding.{tree_bytes}
use Rattle.macho_trie.specs.steps.Layouts.{names_at, says_at, tree_at}
use Rattle.macho_trie.proofs.Spells.{IsSpelled}
use Rattle.macho_trie.proofs.layout.Layout.spell.Given as goal

-- the nodes of the rows so far are put, and the bytes of the other rows are left
abbrev pub invariant-loop-row : goal.invariant-loop-row
invariant-loop-row l =
    IsSpelled (tree_bytes (says_at l.self) (slice_index l.places) 0 (tree_at l.self)) l.at
    (tree_bytes (says_at l.self) (slice_index l.places) l.row (trees_from (names_at l.self) l.self.rows.now l.row)) l.fn.out l.out l.place
