use Rattle.std.proofs.Common.{nat_eq}
use Rattle.indexmap.specs.IndexMap.{get}
use Rattle.macho_relocation_scan.specs.steps.Overlaps.{IsPut}
use Rattle.macho_relocation_scan.proofs.overlap.put_field.Given as goal

abbrev pub invariant-loop-place : goal.invariant-loop-place
invariant-loop-place l = IsPut (λ p. get nat_eq l.initial.table p) (λ p. get nat_eq l.table p) l.fn.seen.this.r_address l.place l.index
    l.paired
