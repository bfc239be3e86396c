use Rattle.std.proofs.Common.{◌≡◌, take}
use Rattle.std.specs.Prelude.{map}
use Rattle.macho_symbols.specs.Entries.{entry_of}
use Rattle.macho_linking.proofs.tables.own_entries.Given as goal

-- the entries so far
abbrev pub invariant-loop-number : goal.invariant-loop-number
invariant-loop-number l = map entry_of l.own.items ≡ take l.number l.tables.own
