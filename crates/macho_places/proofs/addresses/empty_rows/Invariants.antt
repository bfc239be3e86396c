-- Empty rows: all rows are, whatever their count.
use Rattle.std.proofs.Common.{◌≡◌, ℕ, [], get_or}
use Rattle.macho_places.specs.Lookups.{rows_of}
use Rattle.macho_places.proofs.addresses.empty_rows.Given as goal

abbrev pub invariant-loop-done : goal.invariant-loop-done
invariant-loop-done l = (file : ℕ) → get_or (rows_of l.rows.items) file [] ≡ []
