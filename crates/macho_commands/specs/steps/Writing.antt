-- What the writers of single records ask and say.
use Rattle.std.specs.Prelude.{◌≡◌, ℕ, ◌<◌, ◌⊎◌, List, length, get_or}
use Rattle.macho_records.specs.declared.constants.TheConstants.{LC_CODE_SIGNATURE, LC_DYLD_CHAINED_FIXUPS, LC_DYLD_EXPORTS_TRIE}
use Rattle.macho_bytes.specs.Spellings.{Spelled, ReadsBack}

-- a number of a command that names a range of `__LINKEDIT`
abbrev pub IsLinkedit : ℕ → Type 0
IsLinkedit number = (number ≡ LC_DYLD_CHAINED_FIXUPS) ⊎ (number ≡ LC_DYLD_EXPORTS_TRIE) ⊎ (number ≡ LC_CODE_SIGNATURE)

-- each record of a list reads back
pub record EachReadsBack {R : Type 0} (s : Spelled R) (rs : List R) : Type 0 where
  pub each : (k : ℕ) (d : R) → k < length rs → ReadsBack s (get_or rs k d)
