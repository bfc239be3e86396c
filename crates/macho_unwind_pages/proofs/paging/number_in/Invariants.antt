-- The first place of a code in a list.
--
-- What holds before place k: the code is at none of the first k places. So where it is at place k, that is its number, and
-- where no place is left, it is not in the list.
use Rattle.std.proofs.Common.{◌≡◌, ◌==◌, false, take}
use Rattle.std.specs.List.{list_any}
use Rattle.macho_unwind_pages.proofs.paging.number_in.Given as goal

abbrev pub invariant-loop-number : goal.invariant-loop-number
invariant-loop-number l = list_any (λ other. l.code == other) (take l.number l.codes) ≡ false
