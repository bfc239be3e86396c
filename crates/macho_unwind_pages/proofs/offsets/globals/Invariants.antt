-- The codes that every page may name are the first 224 of the ranks, or all where they are fewer.
--
-- What holds after k steps: the list is the first k keys of the table of ranks. The key that the next step adds is the one
-- at place k.
use Rattle.std.proofs.Common.{◌≡◌, take}
use Rattle.indexmap.specs.IndexMap.{keys}
use Rattle.macho_unwind_pages.proofs.offsets.globals.Given as goal

abbrev pub invariant-loop-index : goal.invariant-loop-index
invariant-loop-index l = l.globals.items ≡ take l.index (keys l.ranks)
