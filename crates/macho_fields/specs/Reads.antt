-- What is asked of the bytes of a placed section, wherever they come from: that its fields read as they are to.
use Rattle.std.specs.Prelude.{◌≡◌, ℕ, ◌+◌, ◌<◌, false, List, All, is_some}
use Rattle.std.specs.FinMap.{empty}
use Rattle.macho_bytes.specs.Numbers.{le_at}
use Rattle.macho_model.specs.declared.placed.PlacedSection.{PlacedSection}
use Rattle.macho_model.specs.Links.{Link}
use Rattle.macho_model.specs.Fields.{Field, fields_of, content_of}
use Rattle.macho_model.specs.Values.{FieldOf, needs_fixup}
use Rattle.macho_model.specs.Placement.{Placed, id_of}
use Rattle.macho_model.specs.Stands.{Says, kind_of}

-- a field in a section's bytes says its target and addend, before any slide
abbrev pub FieldReads : Link → Placed → PlacedSection → List ℕ → Field → Type 0
FieldReads l p q bytes f =
    Says l p 0 empty (id_of q) f
    (record { place = q.address + f.offset; word = le_at f.width bytes f.offset; input = content_of l (id_of q) f.relocation })
    (kind_of f.type (is_some f.subtrahend))

-- so does a field that the loader doesn't write
abbrev pub PlainFieldReads : Link → Placed → PlacedSection → List ℕ → Field → Type 0
PlainFieldReads l p q bytes f = needs_fixup l (id_of q) f ≡ false → FieldReads l p q bytes f

-- THE fields of a section that the loader doesn't write read as they are to.
pub record PlainFieldsRead (l : Link) (p : Placed) (q : PlacedSection) (bytes : List ℕ) : Type 0 where
  pub each : All (PlainFieldReads l p q bytes) (fields_of l (id_of q))

-- The field of a relocation is the first of them that doesn't.
pub record IsFirstWrong (l : Link) (p : Placed) (q : PlacedSection) (bytes : List ℕ) (relocation : ℕ) : Type 0 where
  pub field : Field
  pub is : FieldOf l (id_of q) relocation field
  pub plain : needs_fixup l (id_of q) field ≡ false
  pub wrong : FieldReads l p q bytes field → ⊥
  pub front : (r : ℕ) (f : Field) → r < relocation → FieldOf l (id_of q) r f → PlainFieldReads l p q bytes f
