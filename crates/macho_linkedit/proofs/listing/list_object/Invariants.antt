use Rattle.std.proofs.Common.{◌≡◌, ◌+◌, ◌*◌, ◌^◌, ◌≤◌, ℕ, List}
use Rattle.macho_model.specs.Objects.{strings_of}
use Rattle.macho_model.specs.Links.{Link, object_of}
use Rattle.macho_symbols.specs.Kept.{IsResolved}
use Rattle.macho_linkedit.specs.steps.Names.{AreNames}
use Rattle.macho_linkedit.specs.steps.Listing.{symbols_in, Lists}
use Rattle.macho_linkedit.proofs.listing.list_object.Given as goal

-- the first symbols of the object are listed
abbrev pub invariant-loop-symbol : goal.invariant-loop-symbol
invariant-loop-symbol l = record {
  done : (k : Link) (noted : List (List ℕ)) → IsResolved k noted l.resolved → object_of k l.object.number ≡ l.object.file.bytes
      → Lists k (symbols_in l.object.number l.object.file.bytes l.symbol) l.initial.table l.table;
  names : AreNames (strings_of l.object.file.bytes) l.names;
  room : l.table.strings ≤ l.initial.table.strings + 2 ^ 32 * l.symbol;
}
