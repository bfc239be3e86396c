use Rattle.std.proofs.Common.{◌++◌, List, take, All}
use Rattle.std.specs.List.{flat_map}
use Rattle.macho_model.specs.Links.{Input, Link}
use Rattle.macho_model.specs.Uses.{Use}
use Rattle.macho_symbol_names.specs.Kept.{Keeps}
use Rattle.macho_promise.specs.Noted.{BeginsWith}
use Rattle.macho_needs.specs.Noted.{IsNoted}
use Rattle.macho_consumed.specs.Laws.{uses_of_entry}
use Rattle.macho_reading.specs.steps.Rows.{IsEntryOf}
use Rattle.macho_reading.proofs.noting.use_entries.Given as goal

abbrev pub invariant-loop-entry : goal.invariant-loop-entry
invariant-loop-entry v =
    record {
      noted : (l : Link) (us : List Use) → IsNoted l us v.initial.needs → All (IsEntryOf l) v.entries
          → BeginsWith l (us ++ flat_map uses_of_entry v.entries)
          → IsNoted l (us ++ flat_map uses_of_entry (take v.entry-index v.entries)) v.needs;
      kept : (inputs : List Input) → Keeps inputs v.initial.needs.resolved.files → Keeps inputs v.needs.resolved.files;
    }
