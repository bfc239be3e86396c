-- Whether an entry of the import table can be written.
use Rattle.std.specs.Prelude.{◌^◌, ◌<◌}
use Rattle.std.specs.Int.{w32, cast_unsigned}
use Rattle.macho_fixups.specs.declared.imports.ImportEntry.{ImportEntry}

-- the fields of an entry fit 8 and 32 bits
pub record EntryFits (e : ImportEntry) : Type 0 where
  pub library_fits : e.library < 256
  pub addend_fits : cast_unsigned w32 e.addend < 2 ^ 32
