-- What holds before table k: the first k lie in their segment.
use Rattle.std.proofs.Common.{◌≡◌, ℕ, ◌<◌, get_or}
use Rattle.macho_model.specs.declared.placed.Range64.{Range64}
use Rattle.macho_model.specs.Placement.{Placed}
use Rattle.macho_placement_rules.specs.Lists.{TableLies}
use Rattle.macho_placement_rules.proofs.rules.tables_lie.Given as goal

abbrev pub invariant-loop-table : goal.invariant-loop-table
invariant-loop-table l =
    (p : Placed) → p.segments ≡ l.segments → (k : ℕ) (d : Range64) → k < l.table-index → TableLies p (get_or l.tables k d)
