use Rattle.std.proofs.Common.{◌≡◌, take}
use Rattle.std.specs.List.{flat_map, All}
use Rattle.macho_consumed.specs.steps.Gathered.{entries_at, KeepsAt}
use Rattle.macho_consumed.proofs.gathering.gather_entries.Given as goal

abbrev pub invariant-loop-at : goal.invariant-loop-at
invariant-loop-at l = record {
  rows : l.rows.items ≡ flat_map (entries_at l.files) (take l.at-index l.at-items);
  fit : All (KeepsAt l.symbols l.files) (take l.at-index l.at-items);
}
