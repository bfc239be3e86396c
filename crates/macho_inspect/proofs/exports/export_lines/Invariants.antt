-- The lines so far are those of the names that were taken, in front of those that are left.
use Rattle.std.proofs.Common.{◌≡◌, ◌++◌, map, length}
use Rattle.std.specs.Vec.Iter.{into_iter_items, into_iter_len}
use Rattle.macho_trie.specs.Lists.{line_of}
use Rattle.macho_inspect.specs.Reports.{exported_by}
use Rattle.macho_inspect.proofs.exports.export_lines.Given as goal

abbrev pub invariant-loop-named : goal.invariant-loop-named
invariant-loop-named l =
    (map exported_by l.lines.items ++ map line_of (into_iter_items l.rest) ≡ map line_of l.fn.names.items)
    × (into_iter_len l.rest ≡ length (into_iter_items l.rest))

abbrev pub decreases-loop-named : goal.decreases-loop-named
decreases-loop-named l = into_iter_len l.rest
