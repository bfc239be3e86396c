-- Whether the bytes of a field hold a value, as a test; and the fields of a section while they are read.
use Rattle.std.specs.Prelude.{◌≡◌, ℕ, ◌+◌, ◌<◌, ◌≤◌, ◌==◌, ◌&&◌, not, Bool, true, false, List, length}
use Rattle.macho_model.specs.declared.placed.PlacedSection.{PlacedSection}
use Rattle.macho_model.specs.Links.{Link}
use Rattle.macho_model.specs.Words.{is_add, imm12, base_register, written_register}
use Rattle.macho_model.specs.Fields.{Field, field_of}
use Rattle.macho_model.specs.Values.{needs_fixup}
use Rattle.macho_model.specs.Placement.{Placed, id_of}
use Rattle.macho_arm64.specs.declared.kinds.FieldSize.{FieldSize}
use Rattle.macho_arm64.specs.declared.kinds.FieldSize.TheVariants.{Low12}
use Rattle.macho_arm64.specs.Fields.{width_of, is_field, field_at, value_of, rest_of, Holds}
use Rattle.macho_arm64.specs.Relaxations.{IsMadeAdd}
use Rattle.macho_fields.specs.declared.write.FieldWrite.{FieldWrite}
use Rattle.macho_fields.specs.Looks.{Look}
use Rattle.macho_fields.specs.Reads.{FieldReads, PlainFieldReads}
use Rattle.macho_fields.specs.steps.Fields.{asks}
use Rattle.macho_fields.specs.steps.Filled.{written_in}
use Rattle.macho_fields.specs.steps.Sections.{is_field as is_field_of}

-- an ADD of an offset to the base of a load, into its register
abbrev pub is_straight_add : ℕ → ℕ → ℕ → Bool
is_straight_add value input word =
    is_add word && (base_register word == base_register input) && (written_register word == written_register input) && (imm12 word == value)

-- a word holds a value, where the input has another word; a load may have become an ADD
abbrev pub says_value : FieldSize → Bool → ℕ → ℕ → ℕ → Bool
says_value Low12 true value input word = is_straight_add value input word
says_value size relax value input word = (value_of size word == value) && (rest_of size word == rest_of size input)

abbrev pub tells : FieldWrite → ℕ → ℕ → Bool
tells w input word = says_value w.size w.relax w.value input word

-- A word holds what is written for a field: the input's word does, or the ADD that it was made.
pub record IsHeld (w : FieldWrite) (input word : ℕ) : Type 0 where
  pub ready : ℕ
  pub kept : w.relax ≡ false → ready ≡ input
  pub made : w.relax ≡ true → IsMadeAdd input ready
  pub holds : Holds w.size ready word w.value

-- A field's bytes were judged: one that the loader writes is not wrong, another one where its word doesn't hold its value.
pub record IsJudged (look : Look) (descriptors : Bool) (q : PlacedSection) (f : Field) (input bytes : List ℕ) (wrong : Bool) : Type 0 where
  pub asked : asks descriptors look f ≡ true → wrong ≡ false
  pub plain : asks descriptors look f ≡ false → is_field (written_in look descriptors q f).size ≡ true
      → f.offset + width_of (written_in look descriptors q f).size ≤ length bytes
      → wrong ≡ not (tells (written_in look descriptors q f)
      (field_at (written_in look descriptors q f).size input f.offset) (field_at (written_in look descriptors q f).size bytes f.offset))

-- The fields of the first relocations read as they are to, but those that the loader writes.
pub record ReadTo (l : Link) (p : Placed) (q : PlacedSection) (n : ℕ) (bytes : List ℕ) : Type 0 where
  pub each : (r : ℕ) → r < n → is_field_of l (id_of q) r ≡ true → PlainFieldReads l p q bytes (field_of l (id_of q) r)

-- The field of a relocation doesn't.
pub record IsWrong (l : Link) (p : Placed) (q : PlacedSection) (r : ℕ) (bytes : List ℕ) : Type 0 where
  pub field : is_field_of l (id_of q) r ≡ true
  pub plain : needs_fixup l (id_of q) (field_of l (id_of q) r) ≡ false
  pub wrong : FieldReads l p q bytes (field_of l (id_of q) r) → ⊥
