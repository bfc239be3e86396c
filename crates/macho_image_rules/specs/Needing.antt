-- The words that the loader has to write for a link, each with what it belongs to.
use Rattle.std.specs.Prelude.{◌≡◌, ℕ, ◌+◌, ◌↔◌, true, List, All, Contains}
use Rattle.macho_model.specs.declared.placed.PlacedSection.{PlacedSection}
use Rattle.macho_model.specs.declared.placed.Slot.{Slot}
use Rattle.macho_model.specs.declared.targets.Site.{Site}
use Rattle.macho_model.specs.declared.targets.Site.TheVariants as site
use Rattle.macho_model.specs.Lists.{IsNumber}
use Rattle.macho_model.specs.Links.{Link}
use Rattle.macho_model.specs.Fields.{Field, fields_of}
use Rattle.macho_model.specs.Fixups.{IsFixupPlace}
use Rattle.macho_model.specs.Values.{needs_fixup}
use Rattle.macho_model.specs.Placement.{Placed, id_of}
use Rattle.macho_image_rules.specs.declared.chain.Needed.{Needed}
use Rattle.macho_image_rules.specs.Chain.{IsNeeded}

-- the word of a slot by its number: it leads to the slot's target, with nothing added
abbrev pub slot_word : ℕ → Slot → Needed
slot_word k s = record { address = s.address; site = site.Slot k; target = s.target; addend = 0 }

-- the word of a field of a placed section: it stands at the field's offset behind the section's address
abbrev pub field_word : PlacedSection → Field → Needed
field_word q f =
    record {
      address = q.address + f.offset;
      site = site.Field q.file q.section f.relocation;
      target = f.target;
      addend = f.addend;
    }

-- a field of a placed section is a pointer that the loader writes
pub record IsPointer (l : Link) (p : Placed) (q : PlacedSection) (f : Field) : Type 0 where
  pub placed : Contains p.sections q
  pub among : Contains (fields_of l (id_of q)) f
  pub needs : needs_fixup l (id_of q) f ≡ true

-- A word is that of the slot of this number.
pub record IsSlotWord (p : Placed) (word : Needed) (k : ℕ) : Type 0 where
  pub slot : Slot
  pub numbered : IsNumber p.slots k slot
  pub is : word ≡ slot_word k slot

-- A word is that of a pointer: the field of this relocation, in the place of this section.
pub record IsPointerWord (l : Link) (p : Placed) (word : Needed) (file section relocation : ℕ) : Type 0 where
  pub place : PlacedSection
  pub field : Field
  pub pointer : IsPointer l p place field
  pub file_is : place.file ≡ file
  pub section_is : place.section ≡ section
  pub relocation_is : field.relocation ≡ relocation
  pub is : word ≡ field_word place field

-- a word is that of the slot or of the pointer that its site names
abbrev pub IsOfSite : Link → Placed → Needed → Site → Type 0
IsOfSite l p word (site.Slot k) = IsSlotWord p word k
IsOfSite l p word (site.Field file section relocation) = IsPointerWord l p word file section relocation
IsOfSite l p word (site.Stub k) = ⊥

abbrev pub IsNeededBy : Link → Placed → Needed → Type 0
IsNeededBy l p word = IsOfSite l p word word.site

-- THE words that the loader has to write: each is a slot's or a pointer's, and each slot and each pointer has its word.
pub record AreNeededBy (l : Link) (p : Placed) (words : List Needed) : Type 0 where
  pub each : All (IsNeededBy l p) words
  pub slots : (k : ℕ) (s : Slot) → IsNumber p.slots k s → Contains words (slot_word k s)
  pub pointers : (q : PlacedSection) (f : Field) → IsPointer l p q f → Contains words (field_word q f)
  -- they stand at the places that need a fixup
  pub places : (a : ℕ) → IsNeeded words a ↔ IsFixupPlace l p a
