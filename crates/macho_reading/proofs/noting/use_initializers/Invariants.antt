use Rattle.std.proofs.Common.{◌++◌, List, take, All}
use Rattle.std.specs.List.{flat_map}
use Rattle.macho_model.specs.Links.{Input, Link}
use Rattle.macho_model.specs.Uses.{Use}
use Rattle.macho_symbol_names.specs.Kept.{Keeps}
use Rattle.macho_promise.specs.Noted.{BeginsWith}
use Rattle.macho_needs.specs.Noted.{IsNoted}
use Rattle.macho_reading.specs.steps.Rows.{uses_of_row, IsInitializerOf}
use Rattle.macho_reading.proofs.noting.use_initializers.Given as goal

abbrev pub invariant-loop-row : goal.invariant-loop-row
invariant-loop-row v =
    record {
      noted : (l : Link) (us : List Use) → IsNoted l us v.initial.needs → All (IsInitializerOf l) v.rows
          → BeginsWith l (us ++ flat_map uses_of_row v.rows) → IsNoted l (us ++ flat_map uses_of_row (take v.row-index v.rows)) v.needs;
      kept : (inputs : List Input) → Keeps inputs v.initial.needs.resolved.files → Keeps inputs v.needs.resolved.files;
    }
