-- The ids that entries name, rising and each once.
--
-- What holds before entry k: the ids are those of the first k entries, and they are three at most, since more are refused as
-- soon as they stand there.
use Rattle.std.proofs.Common.{◌≡◌, ◌≤◌, take, length}
use Rattle.macho_unwind_pages.specs.Entries.{MOST_PERSONALITIES, ids_of}
use Rattle.macho_unwind_pages.proofs.numbering.personality_ids.Given as goal

abbrev pub invariant-loop-entry : goal.invariant-loop-entry
invariant-loop-entry l = record {
  value : l.ids.items ≡ ids_of (take l.entry-index l.entries);
  few : length l.ids.items ≤ MOST_PERSONALITIES;
}
