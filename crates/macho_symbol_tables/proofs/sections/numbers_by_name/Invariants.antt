use Rattle.std.proofs.Common.{◌-◌, length}
use Rattle.indexmap.specs.IndexMap.{get}
use Rattle.macho_layout.specs.Keys.{same_output}
use Rattle.macho_layout.specs.Placements.{placed_of}
use Rattle.macho_symbol_tables.proofs.ByName.{FindsFrom}
use Rattle.macho_symbol_tables.proofs.sections.numbers_by_name.Given as goal

-- the last headers are put in
abbrev pub invariant-loop-done : goal.invariant-loop-done
invariant-loop-done l =
    FindsFrom (placed_of l.placement) (length l.placement.output_sections.items - l.done) (get same_output l.numbers)
