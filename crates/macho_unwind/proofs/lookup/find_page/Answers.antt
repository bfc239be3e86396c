-- The last page entry whose first address is not above an offset.
--
-- The best one of the first k entries is known. The step compares entry k with it, and the step's contract holds for any
-- numbers that have the one that was read at k: here the first address of entry k. So the best of the first k + 1 is known.
use Rattle.std.proofs.Common.{sym, ap}
use Rattle.macho_unwind.specs.Sections.{first_at}
use Rattle.macho_unwind.specs.declared.records.PageEntry.{PageEntry}
use Rattle.macho_unwind.proofs.lookup.find_page.Goals as goal

pub loop-k-preserved : goal.loop-k-preserved
loop-k-preserved c =
    c.greater-best.ensures (first_at c.args.bytes.now) (sym (ap (λ (e : PageEntry). e.first_address) c.read_entry-entry.ensures))
    c.loop-k.invariant
