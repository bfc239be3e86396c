-- Values of exports, which have 64 bits.
use Rattle.std.specs.Prelude.{ℕ, ◌^◌, ◌<◌, List, get_or}
use Rattle.macho_linkedit.specs.declared.exports.ExportSays.{ExportSays}
use Rattle.macho_linkedit.specs.declared.exports.ExportSays.TheVariants.{Value, Reexport}
use Rattle.macho_linkedit.specs.declared.exports.NamedExport.{NamedExport}

abbrev pub IsSmall : ExportSays → Type 0
IsSmall (Value flags value) = value < 2 ^ 64
IsSmall (Reexport library) = Unit {0}

-- the first n values are
pub record AreSmall (exports : List NamedExport) (n : ℕ) : Type 0 where
  pub each : (k : ℕ) (d : NamedExport) → k < n → IsSmall (get_or exports k d).says
