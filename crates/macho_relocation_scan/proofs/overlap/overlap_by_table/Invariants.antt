use Rattle.std.proofs.Common.{nat_eq}
use Rattle.indexmap.specs.IndexMap.{get}
use Rattle.macho_relocation_scan.specs.steps.Windows.{IsLast}
use Rattle.macho_relocation_scan.specs.steps.Overlaps.{IsTable, AreApart}
use Rattle.macho_relocation_scan.proofs.overlap.overlap_by_table.Given as goal

abbrev pub invariant-loop-index : goal.invariant-loop-index
invariant-loop-index l =
    record {
      table : IsTable l.list.bytes l.list.section l.index (λ p. get nat_eq l.table p);
      apart : AreApart l.list.bytes l.list.section l.index;
      last : IsLast l.list.bytes l.list.section l.index l.last;
    }
