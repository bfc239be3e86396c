-- When a value does not fit where it is to be written: a pointer or slot as a chain word, a relocated field, a stub.
-- Addresses are those of a placement, before any slide and with no import chosen (`empty`).
use Rattle.std.specs.Prelude.{◌≡◌, ℕ, ◌+◌, ◌-◌, ◌%◌, ◌^◌, ◌<◌, ◌≤◌, ◌⊎◌, ◌==◌, nat_le, nat_lt, ◌&&◌, ◌||◌, not, Bool, true, false, length, get_or, Contains, is_some}
use Rattle.std.specs.FinMap.{empty}
use Rattle.macho_records.specs.Numbers.{bits, page, low}
use Rattle.macho_model.specs.declared.targets.Site.{Site}
use Rattle.macho_model.specs.declared.targets.Site.TheVariants as site
use Rattle.macho_model.specs.declared.targets.Target.{Target}
use Rattle.macho_model.specs.declared.targets.Target.TheVariants as target
use Rattle.macho_model.specs.declared.placed.Stub.{Stub}
use Rattle.macho_model.specs.Lists.{IsNumber}
use Rattle.macho_model.specs.Links.{Link, SectionId, section_id, carried_of}
use Rattle.macho_model.specs.Targets.{is_import, slots_of}
use Rattle.macho_model.specs.Fields.{Field, fields_of, content_of}
use Rattle.macho_model.specs.Words.{scale_of}
use Rattle.macho_model.specs.Placement.{Placed}
use Rattle.macho_model.specs.Stands.{Kind, Pointer, Difference, Branch, Page, Offset, SlotPage, SlotDistance, kind_of, is_template_offset, SectionAt, IsAt, SlotAt, CallIsAt, LoadIsAt, SubtrahendIsAt}

-- a field that is a pointer of 8 bytes
abbrev pub is_pointer : Field → Bool
is_pointer f = (f.width == 8) && is_pointer_kind (kind_of f.type (is_some f.subtrahend))
  where
    is_pointer_kind : Kind → Bool
    is_pointer_kind Pointer = true
    is_pointer_kind kind = false

abbrev pub is_absolute_target : Target → Bool
is_absolute_target (target.Absolute value) = true
is_absolute_target t = false

-- A pointer that the loader has to write: its target is no fixed value, and it is no offset from the template. (Where relocations are
-- supported, the target then moves with the image or is an import.)
abbrev pub needs_fixup : Link → SectionId → Field → Bool
needs_fixup l s f = is_pointer f && not (is_absolute_target f.target) && not (is_template_offset l s f)

-- a field of a section by the number of its relocation
abbrev pub FieldOf : Link → SectionId → ℕ → Field → Type 0
FieldOf l s relocation f = Contains (carried_of l) s × Contains (fields_of l s) f × (f.relocation ≡ relocation)

-- a value is below the base, or has bits that a chain word has no room for
abbrev pub IsNotEncodable : Placed → ℕ → Type 0
IsNotEncodable p value = (value < p.base) ⊎ (1 ≤ bits 36 20 (value - p.base))

-- a pointer's or a slot's value can't be written as a chain word
abbrev pub BadRebase : Link → Placed → Site → Type 0
BadRebase l p (site.Field file section relocation) =
    (f : Field) × (x : ℕ) × FieldOf l (section_id file section) relocation f × (needs_fixup l (section_id file section) f ≡ true)
    × (is_import f.target ≡ false) × IsAt l p 0 empty f.target x × IsNotEncodable p ((x + f.addend) % 2 ^ 64)
BadRebase l p (site.Slot index) =
    (t : Target) × (x : ℕ) × IsNumber (slots_of l) index t × (is_import t ≡ false) × IsAt l p 0 empty t x × IsNotEncodable p x
BadRebase l p (site.Stub index) = ⊥

-- a number modulo 2 ^ 64, read as signed, fits so many bits
abbrev pub fits_signed : ℕ → ℕ → Bool
fits_signed n x = nat_lt (x % 2 ^ 64) (2 ^ (n - 1)) || nat_le (2 ^ 64 - 2 ^ (n - 1)) (x % 2 ^ 64)

-- x minus y, modulo 2 ^ 64
abbrev pub less : ℕ → ℕ → ℕ
less x y = (x % 2 ^ 64 + (2 ^ 64 - y % 2 ^ 64)) % 2 ^ 64

-- a branch reaches 2 ^ 27 bytes in words; a page 2 ^ 32 bytes; a low offset is a multiple of its scale
abbrev pub branch_reaches : ℕ → ℕ → Bool
branch_reaches place x = fits_signed 28 (less x place) && (less x place % 4 == 0)

abbrev pub page_reaches : ℕ → ℕ → Bool
page_reaches place x = fits_signed 33 (less (page (x % 2 ^ 64)) (page place))

abbrev pub offset_fits : ℕ → ℕ → Bool
offset_fits input x = low (x % 2 ^ 64) % scale_of input == 0

-- a field's value does not fit, by its kind: `place` is the address of the field, `input` the word that the object has there
abbrev pub DoesNotFit : Link → Placed → SectionId → Field → ℕ → ℕ → Kind → Type 0
DoesNotFit l p s f place input Difference =
    (x : ℕ) × (y : ℕ) × IsAt l p 0 empty f.target x × SubtrahendIsAt l p 0 empty f.subtrahend y × (f.width ≡ 4)
    × (fits_signed 32 (less (x + f.addend) y) ≡ false)
DoesNotFit l p s f place input Branch =
    (x : ℕ) × CallIsAt l p 0 empty f.target x × (branch_reaches place (x + f.addend) ≡ false)
DoesNotFit l p s f place input Page = (x : ℕ) × IsAt l p 0 empty f.target x × (page_reaches place (x + f.addend) ≡ false)
DoesNotFit l p s f place input Offset = (x : ℕ) × IsAt l p 0 empty f.target x × (offset_fits input (x + f.addend) ≡ false)
DoesNotFit l p s f place input SlotPage = (x : ℕ) × LoadIsAt l p 0 empty f.target x × (page_reaches place x ≡ false)
DoesNotFit l p s f place input SlotDistance = (x : ℕ) × SlotAt p 0 f.target x × (fits_signed 32 (less x place) ≡ false)
DoesNotFit l p s f place input kind = ⊥

-- a field's value does not fit it; or a stub's slot is out of its reach
abbrev pub BadRange : Link → Placed → Site → Type 0
BadRange l p (site.Field file section relocation) =
    (f : Field) × (address : ℕ) × FieldOf l (section_id file section) relocation f × SectionAt p file section address
    × DoesNotFit l p (section_id file section) f (address + f.offset) (content_of l (section_id file section) relocation)
    (kind_of f.type (is_some f.subtrahend))
BadRange l p (site.Slot index) = ⊥
BadRange l p (site.Stub index) =
    (stub : Stub) × (x : ℕ) × IsNumber p.stubs index stub × SlotAt p 0 (target.Import stub.import) x
    × (page_reaches stub.address x ≡ false)
