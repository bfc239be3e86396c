-- What a caller shows of symbols, beside a view of each object by the number of its file.
use Rattle.std.specs.Prelude.{◌≡◌, ℕ, ◌^◌, ◌<◌, false, List, length, Option, Some, None, get_or}
use Rattle.macho_object.specs.Views.{FileBytes}
use Rattle.macho_symbol_names.specs.Kept.{FileRows, no_file, kept_object}

-- What is kept of symbols is kept of these files, of which there are as many as numbers of 32 bits tell.
pub record AreKept (files : List (Option FileBytes)) (rows : List FileRows) : Type 0 where
  pub few : length files < 2 ^ 32
  pub long : length rows ≡ length files
  pub objects : (k : ℕ) (f : FileBytes) → k < length files → get_or files k None ≡ Some f → f.is_dynamic ≡ false
  pub kept : (k : ℕ) (f : FileBytes) → k < length files → get_or files k None ≡ Some f → get_or rows k no_file ≡ kept_object f.bytes
