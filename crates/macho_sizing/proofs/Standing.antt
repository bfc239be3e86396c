-- A carried section may stand where its header says.
--
-- It is in no segment of the linker's own, since such a section isn't carried, and in `__DATA` where it is thread-local, by the
-- rules of objects. The
-- name in a plan is that of the header, filled with zeros.
use Rattle.std.proofs.Common.{◌≡◌, ℕ, ◌||◌, ◌<◌, not, Bool, true, false, List, refl, ap, ◌∙◌, leb-true, ltb-true}
use Rattle.std.specs.Prelude.{nat_lt, Some, None, if◌then◌else◌}
use Rattle.std.specs.Str.{bytes_eq}
use Rattle.macho_model.proofs.Carried.{segment_of_carried}
use Rattle.macho_bytes.specs.Texts.{name_of}
use Rattle.macho_records.specs.Segments.{name_field}
use Rattle.macho_records.specs.Sections.{type_of, segment_name_of}
use Rattle.macho_records.specs.declared.header.SectionHeader.{SectionHeader}
use Rattle.macho_model.specs.Objects.{section_at, num_sections}
use Rattle.macho_model.specs.ObjectRules.{is_thread_local}
use Rattle.macho_model.specs.Grammar.{IsObject}
use Rattle.macho_model.proofs.ObjectLaws.{object_keeps}
use Rattle.macho_model.specs.Segments.{PAGEZERO, LINKEDIT, DATA}
use Rattle.macho_model.specs.Links.{is_carried}
use Rattle.macho_object.specs.Views.{FileBytes, of_section}
use Rattle.macho_layout.specs.Plans.{MayStand}
use Rattle.macho_sizing.specs.Sections.{spec_for, KeepsRules}
use Rattle.macho_model.proofs.Sections.{name_in_field}

pub may_stand : (file section : ℕ) (h : SectionHeader) → KeepsRules h → is_carried h ≡ true → MayStand (spec_for file section h)
may_stand file section h rules carried =
    let name : name_of (name_field h.segname) ≡ segment_name_of h = name_in_field h.segname in
    let none = segment_of_carried h carried in
    record {
      not_zero_page = ap (λ (n : List ℕ). bytes_eq n PAGEZERO) name ∙ none.0;
      not_tables = ap (λ (n : List ℕ). bytes_eq n LINKEDIT) name ∙ none.1;
      thread_local = λ e. ap (λ (n : List ℕ). bytes_eq n DATA) name ∙ rules.thread_local e;
    }

-- each header of an object keeps the rules
pub keeps_rules : (b : List ℕ) (k : ℕ) → IsObject b → k < num_sections b → KeepsRules (section_at b k)
keeps_rules b k is low = record {
  aligned = leb-true (section_at b k).align 14 ((object_keeps is).o7 k low);
  thread_local = λ e. or_else (is_thread_local (type_of (section_at b k))) _ ((object_keeps is).o11 k low) e;
}
  where
    or_else : (a c : Bool) → (not a || c) ≡ true → a ≡ true → c ≡ true
    or_else true c e a_is = e
    or_else false c e a_is = cc

-- the header that is viewed is that of the section
pub header_viewed : (f : FileBytes) (k : ℕ) (h : SectionHeader) → f.is_dynamic ≡ false → Some h ≡ of_section f k (section_at f.bytes k)
    → (h ≡ section_at f.bytes k) × (k < num_sections f.bytes)
header_viewed f k h object e = by (nat_lt k (num_sections f.bytes)) refl (rw object at e)
  where
    by : (x : Bool) → nat_lt k (num_sections f.bytes) ≡ x
        → Some h ≡ (if nat_lt k (num_sections f.bytes) then Some (section_at f.bytes k) else None)
        → (h ≡ section_at f.bytes k) × (k < num_sections f.bytes)
    by true low g =
        let same : Some h ≡ Some (section_at f.bytes k) = rw low at g in
        (cc, ltb-true k (num_sections f.bytes) low)
    by false low g =
        let none : Some h ≡ None = rw low at g in
        cc
