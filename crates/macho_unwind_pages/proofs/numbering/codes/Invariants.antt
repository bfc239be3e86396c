-- The code of each entry.
--
-- What holds before entry k: the list has the codes of the first k entries, in their order. When no entry is left, the first
-- k are all of them.
use Rattle.std.proofs.Common.{◌≡◌, take, map}
use Rattle.macho_unwind_pages.specs.Entries.{code_in}
use Rattle.macho_unwind_pages.proofs.numbering.codes.Given as goal

abbrev pub invariant-loop-entry : goal.invariant-loop-entry
invariant-loop-entry l = l.codes.items ≡ map (code_in l.ids) (take l.entry-index l.entries)
