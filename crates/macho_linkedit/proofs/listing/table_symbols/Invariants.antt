use Rattle.std.proofs.Common.{◌+◌, ◌*◌, ◌^◌, ◌≤◌, ℕ, List, take}
use Rattle.std.specs.Prelude.{sum_by}
use Rattle.std.specs.List.{flat_map}
use Rattle.macho_model.specs.Objects.{num_symbols}
use Rattle.macho_model.specs.Links.{Link}
use Rattle.macho_symbols.specs.Kept.{IsResolved}
use Rattle.macho_linkedit.specs.Listing.{AreObjects}
use Rattle.macho_linkedit.specs.steps.Listing.{symbols_in, Lists}
use Rattle.macho_linkedit.proofs.listing.table_symbols.Given as goal

-- the symbols of the first objects are listed
abbrev pub invariant-loop-object : goal.invariant-loop-object
invariant-loop-object l = record {
  done : (k : Link) (noted : List (List ℕ)) → IsResolved k noted l.resolved → AreObjects k l.objects
      → Lists k (flat_map (λ o. symbols_in o.number o.file.bytes (num_symbols o.file.bytes))
      (take l.object-index l.objects)) l.initial.table l.table;
  room : l.table.strings ≤ 1 + 2 ^ 32 * sum_by (λ o. num_symbols o.file.bytes) (take l.object-index l.objects);
}
