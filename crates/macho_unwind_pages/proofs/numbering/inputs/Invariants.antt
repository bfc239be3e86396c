-- Entries without their addresses.
--
-- What holds before entry k: the list has the first k entries without their addresses, in their order. When no entry is
-- left, the first k are all of them.
use Rattle.std.proofs.Common.{◌≡◌, take}
use Rattle.macho_unwind_pages.specs.Entries.{inputs_of}
use Rattle.macho_unwind_pages.proofs.numbering.inputs.Given as goal

abbrev pub invariant-loop-entry : goal.invariant-loop-entry
invariant-loop-entry l = l.inputs.items ≡ inputs_of (take l.entry-index l.entries)
