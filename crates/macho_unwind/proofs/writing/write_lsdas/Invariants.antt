-- The LSDA entries of a plan are written one behind the other.
--
-- What holds before entry k: the next place is at + 8k, and the bytes are the first ones with the first k entries put in,
-- which end at that place.
use Rattle.std.proofs.Common.{◌≡◌, ◌+◌, ◌*◌, take}
use Rattle.macho_bytes.proofs.Sequences.{MoreTexts}
use Rattle.macho_unwind.specs.steps.Tables.{lsda_text}
use Rattle.macho_unwind.proofs.writing.write_lsdas.Given as goal

-- the entries so far are put
abbrev pub invariant-loop-lsda : goal.invariant-loop-lsda
invariant-loop-lsda l =
    (l.place ≡ l.at + 8 * l.lsda-index) × MoreTexts lsda_text l.at l.place (take l.lsda-index l.lsdas) l.initial.out l.out
