-- The language-specific data of a run of entries.
--
-- What holds before entry k: the list has the data of the first k entries, joined in their order: of each entry one pair of
-- offsets, or none. When no entry is left, the first k are all of them.
use Rattle.std.proofs.Common.{◌≡◌, take}
use Rattle.std.specs.List.{flat_map}
use Rattle.macho_unwind_pages.specs.steps.Planning.{lsda_list}
use Rattle.macho_unwind_pages.proofs.offsets.lsdas.Given as goal

abbrev pub invariant-loop-entry : goal.invariant-loop-entry
invariant-loop-entry l = l.lsdas.items ≡ flat_map (lsda_list l.text_start) (take l.entry-index l.run)
