-- The bytes of the next field are still the input's.
--
-- While a section is filled they are, since no field in front shares a byte with it; and in the bytes of the object, where nothing
-- is filled, all are.
use Rattle.std.proofs.Common.{◌≡◌, ℕ, ◌+◌, ◌<◌, ◌≤◌, List, length, sym, ap, subst, ◌∙◌}
use Rattle.macho_bytes.specs.Numbers.{le_at}
use Rattle.macho_model.specs.declared.placed.PlacedSection.{PlacedSection}
use Rattle.macho_model.specs.Objects.{section_at, section_bytes}
use Rattle.macho_model.specs.Links.{Link, header_at}
use Rattle.macho_model.specs.Fields.{field_of, content_of}
use Rattle.macho_model.specs.Placement.{Placed, id_of}
use Rattle.macho_fixups.specs.declared.run.Fixup.{Fixup}
use Rattle.macho_fields.specs.declared.source.Source.{Source}
use Rattle.macho_fields.specs.Looks.{Look}
use Rattle.macho_fields.specs.Filling.{IsToFill}
use Rattle.macho_fields.specs.steps.Filled.{IsSource}
use Rattle.macho_fields.specs.steps.Sections.{IsFilledTo}
use Rattle.macho_fields.proofs.Steps.{still_input}

-- The number at a field's place is the input's, in a text as long as the section.
pub record IsStill (l : Link) (q : PlacedSection) (r : ℕ) (text : List ℕ) : Type 0 where
  pub long : length text ≡ (header_at l (id_of q)).size
  pub input : (field_of l (id_of q) r).offset + (field_of l (id_of q) r).width ≤ (header_at l (id_of q)).size
      → le_at (field_of l (id_of q) r).width text (field_of l (id_of q) r).offset ≡ content_of l (id_of q) r

-- while the section is filled
pub still_behind : (l : Link) (p : Placed) (look : Look) (s : Source) (r : ℕ) (old : List ℕ) (asked run : List Fixup)
    → IsSource s → IsToFill l p s.place look s.file.now.bytes → r < (section_at s.file.now.bytes s.place.section).nreloc
    → IsFilledTo l p s.place r asked old run → IsStill l s.place r old
still_behind l p look s r old asked run source fill among filled = record {
  long = filled.long;
  input = λ inside. still_input l p s.place r asked old run fill.sound.relocations fill.carried
      (subst (λ (m : List ℕ). r < (section_at m s.place.section).nreloc) (sym fill.object) among) filled inside
      (subst (λ (m : List ℕ). length (section_bytes m s.place.section) ≡ (section_at m s.place.section).size) (sym fill.object)
      (sym (ap length source.bytes) ∙ source.long));
}

-- in the bytes of the object
pub still_alone : (l : Link) (p : Placed) (look : Look) (s : Source) (r : ℕ) → IsSource s → IsToFill l p s.place look s.file.now.bytes
    → IsStill l s.place r s.bytes.now
still_alone l p look s r source fill = record {
  long = subst (λ (m : List ℕ). length s.bytes.now ≡ (section_at m s.place.section).size) (sym fill.object) source.long;
  input = λ inside. ap (λ (t : List ℕ). le_at (field_of l (id_of s.place) r).width t (field_of l (id_of s.place) r).offset)
      (subst (λ (m : List ℕ). s.bytes.now ≡ section_bytes m s.place.section) (sym fill.object) source.bytes);
}
