-- A value that is written to a field: what its bytes become, and when it can't be written.
use Rattle.std.specs.Prelude.{◌≡◌, ℕ, ◌+◌, ◌≤◌, ◌⊎◌, true, false, List, length, slice_index}
use Rattle.macho_bytes.specs.Numbers.{le_at}
use Rattle.macho_arm64.specs.declared.kinds.FieldSize.TheVariants.{Bytes, Low12}
use Rattle.macho_arm64.specs.Fields.{width_of, field_at, is_field, fits_word, can_hold, Holds}
use Rattle.macho_arm64.specs.Relaxations.{is_relaxable, IsMadeAdd}
use Rattle.macho_fields.specs.declared.write.FieldWrite.{FieldWrite}
use Rattle.macho_fields.specs.declared.write.WriteFault.{WriteFault}
use Rattle.macho_fields.specs.declared.write.WriteFault.TheVariants.{NoWord, Range}

-- bytes before the value is written: as they were, or with the load made an ADD
pub record IsReady (w : FieldWrite) (old mid : List ℕ) : Type 0 where
  pub kept : w.relax ≡ false → mid ≡ old
  pub made : w.relax ≡ true → IsMadeAdd (le_at 4 old w.at) (le_at 4 mid w.at)

-- no byte changed but those of a width at a place
pub record ChangesOnly (at width : ℕ) (old new : List ℕ) : Type 0 where
  pub long : length new ≡ length old
  pub rest : (i : ℕ) → (i + 1 ≤ at) ⊎ (at + width ≤ i) → slice_index new i ≡ slice_index old i

-- The value was written.
pub record IsPut (w : FieldWrite) (old new : List ℕ) : Type 0 where
  pub inside : w.at + width_of w.size ≤ length old
  pub field : is_field w.size ≡ true
  pub mid : List ℕ
  pub ready : IsReady w old mid
  pub room : can_hold w.size (le_at 4 mid w.at) w.value ≡ true
  pub holds : Holds w.size (field_at w.size mid w.at) (field_at w.size new w.at) w.value
  pub changes : ChangesOnly w.at (width_of w.size) old new

-- A value can be written to the bytes, if it fits: they have such a field.
pub record HasField (w : FieldWrite) (old : List ℕ) : Type 0 where
  pub inside : w.at + width_of w.size ≤ length old
  pub field : is_field w.size ≡ true
  pub kept : w.relax ≡ false → fits_word w.size (le_at 4 old w.at) ≡ true
  pub made : w.relax ≡ true → (is_relaxable (le_at 4 old w.at) ≡ true) × (w.size ≡ Low12)

-- The value does not fit.
pub record DoesNotHold (w : FieldWrite) (old : List ℕ) : Type 0 where
  pub mid : List ℕ
  pub ready : IsReady w old mid
  pub no_room : can_hold w.size (le_at 4 mid w.at) w.value ≡ false

abbrev pub CannotPut : FieldWrite → List ℕ → WriteFault → Type 0
CannotPut w old NoWord = HasField w old → ⊥
CannotPut w old Range = DoesNotHold w old

-- A number is written to bytes, and no instruction is changed.
pub record IsNumber (w : FieldWrite) : Type 0 where
  pub width : ℕ
  pub bytes : w.size ≡ Bytes width
  pub plain : w.relax ≡ false
