-- Parts of the definitions of `Exports`, by names that proofs use.
use Rattle.std.specs.Prelude.{ℕ, if◌then◌else◌}
use Rattle.macho_records.specs.Symbols.{is_weak_of}
use Rattle.macho_model.specs.Links.{Link}
use Rattle.macho_model.specs.Resolution.{SymbolId, entry_at}
use Rattle.macho_model.specs.Exports.{FLAG_WEAK}

abbrev pub weak_flag : Link → SymbolId → ℕ
weak_flag l s = if is_weak_of (entry_at l s) then FLAG_WEAK else 0
