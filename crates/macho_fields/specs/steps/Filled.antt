-- A section while it is filled, by the look-ups alone: what is asked of the loader for a field, what is written to one, and
-- what stops it.
use Rattle.std.specs.Prelude.{◌≡◌, ℕ, ◌+◌, ◌^◌, ◌<◌, ◌≤◌, ◌⊎◌, ◌==◌, ◌&&◌, Bool, true, false, List, [], ◌∷◌, ◌++◌, length}
use Rattle.macho_records.specs.Sections.{type_of}
use Rattle.macho_records.specs.declared.constants.TheConstants.{S_THREAD_LOCAL_VARIABLES}
use Rattle.macho_model.specs.declared.placed.PlacedSection.{PlacedSection}
use Rattle.macho_model.specs.declared.targets.Site.{Site}
use Rattle.macho_model.specs.declared.targets.Site.TheVariants as site
use Rattle.macho_model.specs.Objects.{num_sections, section_at, section_bytes}
use Rattle.macho_model.specs.ObjectLaws.{KeepsObjectRules}
use Rattle.macho_model.specs.Fields.{Field}
use Rattle.macho_fixups.specs.declared.run.Fixup.{Fixup}
use Rattle.macho_fields.specs.declared.fault.FillFault.{FillFault}
use Rattle.macho_fields.specs.declared.fault.FillFault.TheVariants.{Range, Rebase, Place, Unsupported, OutOfMemory}
use Rattle.macho_fields.specs.declared.source.Source.{Source}
use Rattle.macho_fields.specs.declared.write.FieldWrite.{FieldWrite}
use Rattle.macho_fields.specs.declared.write.WriteFault.{WriteFault}
use Rattle.macho_fields.specs.declared.write.WriteFault.TheVariants as write_fault
use Rattle.macho_fields.specs.Looks.{Look}
use Rattle.macho_fields.specs.steps.Fields.{kind_in, write_in, start_of, in_template, asks, is_encodable, kind_asked, may_stand}
use Rattle.macho_fields.specs.steps.Writes.{IsPut, HasField, DoesNotHold}

-- where a section comes from: its object, and its bytes and relocations in it
pub record IsSource (s : Source) : Type 0 where
  pub object : KeepsObjectRules s.file.now.bytes
  pub static : s.file.now.is_dynamic ≡ false
  pub among : s.place.section < num_sections s.file.now.bytes
  pub list : s.list ≡ record { bytes = s.file.now.bytes; section = s.place.section }
  pub bytes : s.bytes.now ≡ section_bytes s.file.now.bytes s.place.section
  pub long : length s.bytes.now ≡ (section_at s.file.now.bytes s.place.section).size
  pub low : s.place.address + length s.bytes.now ≤ 2 ^ 64
  pub descriptors : s.descriptors ≡ (type_of (section_at s.file.now.bytes s.place.section) == S_THREAD_LOCAL_VARIABLES)

-- the address of a field
abbrev pub place_in : PlacedSection → Field → ℕ
place_in q f = q.address + f.offset

abbrev pub site_in : PlacedSection → Field → Site
site_in q f = site.Field q.file q.section f.relocation

-- the word that the loader is asked to make of a field
pub record IsWordOf (look : Look) (q : PlacedSection) (f : Field) (word : Fixup) : Type 0 where
  pub stands : may_stand (place_in q f) ≡ true
  pub encodable : is_encodable look f.target f.addend ≡ true
  pub is : word ≡ record { address = place_in q f; kind = kind_asked look f.target f.addend }

-- the loader was asked to write a field
pub record IsAsked (look : Look) (q : PlacedSection) (f : Field) (old new : List Fixup) : Type 0 where
  pub stands : may_stand (place_in q f) ≡ true
  pub encodable : is_encodable look f.target f.addend ≡ true
  pub run : new ≡ old ++ record { address = place_in q f; kind = kind_asked look f.target f.addend } ∷ []

-- or why it wasn't
abbrev pub CannotAsk : Look → PlacedSection → Field → FillFault → Type 0
CannotAsk look q f (Place file section relocation) =
    (file ≡ q.file) × (section ≡ q.section) × (relocation ≡ f.relocation) × (may_stand (place_in q f) ≡ false)
CannotAsk look q f (Rebase at) = (at ≡ site_in q f) × (is_encodable look f.target f.addend ≡ false)
CannotAsk look q f (Range at) = ⊥
CannotAsk look q f Unsupported = ⊥
CannotAsk look q f OutOfMemory = Unit {0}

-- what is written to a field of a section, which may have pointers that are offsets in the template
abbrev pub start_in : Look → Bool → Field → ℕ
start_in look descriptors f = start_of (descriptors && in_template look f.target) look.template

abbrev pub written_in : Look → Bool → PlacedSection → Field → FieldWrite
written_in look descriptors q f = write_in look (place_in q f) (start_in look descriptors f) f (kind_in f)

-- why a field isn't filled, by why its value isn't written
abbrev pub fault_in : PlacedSection → Field → WriteFault → FillFault
fault_in q f write_fault.NoWord = Unsupported
fault_in q f write_fault.Range = Range (site_in q f)

abbrev pub CannotSet : Look → Bool → PlacedSection → Field → List ℕ → FillFault → Type 0
CannotSet look descriptors q f old (Range at) = (at ≡ site_in q f) × DoesNotHold (written_in look descriptors q f) old
CannotSet look descriptors q f old Unsupported = HasField (written_in look descriptors q f) old → ⊥
CannotSet look descriptors q f old (Place file section relocation) = ⊥
CannotSet look descriptors q f old (Rebase at) = ⊥
CannotSet look descriptors q f old OutOfMemory = ⊥

-- A field was taken care of: it is asked for or written, and nothing else changed.
pub record IsDone (look : Look) (descriptors : Bool) (q : PlacedSection) (f : Field) (old new : List ℕ)
    (run next : List Fixup) : Type 0 where
  pub asked : asks descriptors look f ≡ true → IsAsked look q f run next × (new ≡ old)
  pub written : asks descriptors look f ≡ false → IsPut (written_in look descriptors q f) old new × (next ≡ run)

-- or why it wasn't
abbrev pub IsStopped : Look → Bool → PlacedSection → Field → List ℕ → FillFault → Type 0
IsStopped look descriptors q f old fault =
    ((asks descriptors look f ≡ true) × CannotAsk look q f fault) ⊎
    ((asks descriptors look f ≡ false) × CannotSet look descriptors q f old fault)
