-- What a note stands for: a row, with its name as a place and a length in the bytes of its file. And where strings end.
use Rattle.std.specs.Prelude.{◌≡◌, ℕ, ◌+◌, ◌^◌, ◌<◌, ◌/◌, ◌*◌, get_or, List, length, drop, slice_range}
use Rattle.macho_bytes.specs.Texts.{name_of}
use Rattle.macho_bytes.specs.Numbers.{rounded_up}
use Rattle.macho_symbol_names.specs.declared.notes.Sort.{Sort}
use Rattle.macho_symbol_names.specs.declared.notes.Sort.TheVariants.{Section, Absolute, Common, Offered, Nowhere}
use Rattle.macho_symbol_names.specs.declared.notes.Note.{Note}
use Rattle.macho_symbol_names.specs.Kept.{Row}

-- the row that a note stands for, in the bytes with the names
abbrev pub row_in : List ℕ → Note → Row
row_in text n = record {
  name = slice_range text n.name.at (n.name.at + n.name.length);
  sort = n.sort;
  number = n.number;
  value = n.value;
  global = n.global;
  weak = n.weak;
  hidden = n.hidden;
}

-- the size of a common, rounded up to its alignment, fits 64 bits
abbrev pub CommonFits : Sort → ℕ → ℕ → Type 0
CommonFits Common exponent size = (exponent < 16) × (rounded_up (2 ^ exponent) size < 2 ^ 64)
CommonFits Section number value = Unit {0}
CommonFits Absolute number value = Unit {0}
CommonFits Offered number value = Unit {0}
CommonFits Nowhere number value = Unit {0}

-- where the string ends that begins at a place: at the next NUL, or where the table does
unfoldable pub end_at : List ℕ → ℕ → ℕ
end_at strings at = at + length (name_of (drop at strings))

-- Ends of the strings that begin at every 256th place.
pub record AreEnds (strings ends : List ℕ) : Type 0 where
  pub long : length ends ≡ length strings / 256 + 1
  pub each : (k : ℕ) → k < length ends → get_or ends k 0 ≡ end_at strings (k * 256)

-- the row of a note, with its name
abbrev pub named_row : List ℕ → Note → Row
named_row name n = record
    { name = name; sort = n.sort; number = n.number; value = n.value; global = n.global; weak = n.weak; hidden = n.hidden }
