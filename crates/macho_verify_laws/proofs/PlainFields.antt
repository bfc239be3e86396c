-- A field that the loader doesn't write is decided by what the file says of it.
--
-- Fields of supported relocations share no byte, so the bytes of such a field are in no chain word: not in its own section's pointers, and
-- other parts are apart. So its word is the segments' own at every slide. What it says, by its kind, it says at one slide exactly where it
-- does at another: its targets move with the image, as its place does, or it is an offset from the template or an absolute value, which
-- stays. So neither the slide nor the choice matters: from slide 0 and no choice at all it goes to every load, and from slide 0 and
-- whichever choice back to none.
use Rattle.std.proofs.Common.{◌≡◌, ℕ, ◌+◌, ◌%◌, ◌≤◌, ◌⊎◌, true, false, List, sym, ap, subst, ◌∙◌, arith, inl, inr}
use Rattle.std.specs.Prelude.{Contains, is_some}
use Rattle.std.specs.FinMap.{empty}
use Rattle.std.proofs.lemmas.Bool.{true≢false}
use Rattle.std.proofs.lemmas.Nat.{pow_pos}
use Rattle.macho_model.specs.declared.placed.Counts.{Counts}
use Rattle.macho_model.specs.declared.placed.PlacedSection.{PlacedSection}
use Rattle.macho_model.specs.Links.{Link, SectionId}
use Rattle.macho_model.specs.Fields.{Field, fields_of, content_of}
use Rattle.macho_model.specs.Needs.{POINTER_SIZE, relocation_in}
use Rattle.macho_model.specs.Placement.{Placed, id_of}
use Rattle.macho_model.specs.Segments.{SEGMENT_PAGE}
use Rattle.macho_model.specs.Values.{needs_fixup}
use Rattle.macho_model.specs.HeldLaws.{IsFree}
use Rattle.macho_model.specs.Memory.{Choice}
use Rattle.macho_model.specs.Stands.{kind_of, Denotes}
use Rattle.macho_model.specs.steps.Stands.{SaysOf}
use Rattle.macho_model.proofs.FieldSlides.{denotes_at_every_slide}
use Rattle.macho_model.proofs.FixedPointers.{fixed_pointer}
use Rattle.macho_model.proofs.PlainPointers.{plain_pointer_stays}
use Rattle.macho_image_laws.proofs.Apart.{placed_is_carried}
use Rattle.macho_image_laws.proofs.FieldsApart.{fields_apart, field_number}
use Rattle.macho_image_laws.proofs.Fits.{field_fits_in, plain_pointer}
use Rattle.macho_image_laws.proofs.Leading.{field_inside_section}
use Rattle.macho_verify_laws.specs.Loads.{Always, Fails}
use Rattle.macho_verify_laws.specs.InFile.{PlainFieldSays}
use Rattle.macho_verify_laws.specs.Laws.{IsAsked}
use Rattle.macho_verify_laws.proofs.Bytes.{unmoved}
use Rattle.macho_verify_laws.proofs.Free.{section_free}
use Rattle.macho_verify_laws.proofs.Numbers.{number_held, number_stands}

-- a field has a byte at least
field_is_wide : (l : Link) (s : SectionId) (f : Field) → Contains (fields_of l s) f → 1 ≤ f.width
field_is_wide l s f one =
    let n = field_number l s f one in
    subst (λ (g : Field). 1 ≤ g.width) n.is (pow_pos (relocation_in l s n.number).r_length)

-- it shares none with a pointer that the loader writes
pointers_elsewhere : (l : Link) (counts : Counts) (b : List ℕ) (p : Placed) (q : PlacedSection) (f : Field) → IsAsked l counts b p
    → Contains p.sections q → Contains (fields_of l (id_of q)) f → needs_fixup l (id_of q) f ≡ false → (g : Field)
    → Contains (fields_of l (id_of q)) g → needs_fixup l (id_of q) g ≡ true
    → (f.offset + f.width ≤ g.offset) ⊎ (g.offset + POINTER_SIZE ≤ f.offset)
pointers_elsewhere l counts b p q f asked one field plain g other needs =
    let wide = (fixed_pointer l (id_of q) g needs).0 in
    elim (fields_apart l (id_of q) f g asked.sound.relocations (placed_is_carried l p q asked.placed.whole_list one) field other) [
      | inl same ↦ absurd (true≢false (sym needs ∙ ap (needs_fixup l (id_of q)) (sym same) ∙ plain))
      | inr apart ↦ elim apart [ inl before ↦ inl before | inr behind ↦ inr (omega (arith, behind, wide)) ]
    ]

-- so no word covers it
pub field_free : (l : Link) (counts : Counts) (b : List ℕ) (p : Placed) (q : PlacedSection) (f : Field) → IsAsked l counts b p
    → Contains p.sections q → Contains (fields_of l (id_of q)) f → needs_fixup l (id_of q) f ≡ false
    → IsFree b (q.address + f.offset) f.width
field_free l counts b p q f asked one field plain =
    section_free l counts b p q f.offset f.width asked one
    (field_inside_section l (id_of q) f asked.objects.each (placed_is_carried l p q asked.placed.whole_list one) field)
    (field_is_wide l (id_of q) f field) (pointers_elsewhere l counts b p q f asked one field plain)

-- what it denotes at slide 0 it denotes at every slide of whole pages, whatever the choices
pub plain_field_stays : (l : Link) (counts : Counts) (b : List ℕ) (p : Placed) (q : PlacedSection) (f : Field) → IsAsked l counts b p
    → Contains p.sections q → Contains (fields_of l (id_of q)) f → needs_fixup l (id_of q) f ≡ false
    → (s : ℕ) (c d : Choice) → s % SEGMENT_PAGE ≡ 0 → Denotes l b p 0 c q f → Denotes l b p s d q f
plain_field_stays l counts b p q f asked one field plain s c d pages denotes =
    let free = field_free l counts b p q f asked one field plain in
    elim (field_fits_in l (id_of q) f asked.sound.relocations (placed_is_carried l p q asked.placed.whole_list one) field) [
      | inl pointer ↦
          plain_pointer_stays l b p s c d q f pointer.kind (plain_pointer l (id_of q) f pointer plain) free denotes
      | inr moves ↦ denotes_at_every_slide l b p s c d q f (omega (arith, pages)) moves free denotes
    ]

-- what the file says is what a field denotes at slide 0, where no choice is made
says_unmoved : (l : Link) (b : List ℕ) (p : Placed) (q : PlacedSection) (f : Field) → IsFree b (q.address + f.offset) f.width
    → PlainFieldSays l b p q f → Denotes l b p 0 empty q f
says_unmoved l b p q f free says =
    record {
      word = says.word;
      held = number_held b f.width (q.address + f.offset) says.word free says.stands 0 empty;
      says = subst (λ x. SaysOf l p 0 empty (id_of q) f x says.word (content_of l (id_of q) f.relocation)
          (kind_of f.type (is_some f.subtrahend))) (omega arith) says.says;
    }

denotes_unmoved : (l : Link) (b : List ℕ) (p : Placed) (q : PlacedSection) (f : Field) → IsFree b (q.address + f.offset) f.width
    → Denotes l b p 0 empty q f → PlainFieldSays l b p q f
denotes_unmoved l b p q f free denotes =
    record {
      word = denotes.word;
      stands = number_stands b empty f.width (q.address + f.offset) denotes.word free denotes.held;
      says = subst (λ x. SaysOf l p 0 empty (id_of q) f x denotes.word (content_of l (id_of q) f.relocation)
          (kind_of f.type (is_some f.subtrahend))) (omega arith) denotes.says;
    }

-- THE decision of a field that the loader doesn't write.
pub plain_fields_decide : (l : Link) (counts : Counts) (b : List ℕ) (p : Placed) (q : PlacedSection) (f : Field) → IsAsked l counts b p
    → Contains p.sections q → Contains (fields_of l (id_of q)) f → needs_fixup l (id_of q) f ≡ false
    → (PlainFieldSays l b p q f → Always l b (λ s choice. Denotes l b p s choice q f))
    × ((PlainFieldSays l b p q f → ⊥) → Fails l b (λ s choice. Denotes l b p s choice q f))
plain_fields_decide l counts b p q f asked one field plain =
    let free = field_free l counts b p q f asked one field plain in
    let stays = plain_field_stays l counts b p q f asked one field plain in (
      λ says s choice load. stays s empty choice load.pages (says_unmoved l b p q f free says),
      λ other.
          let load = unmoved l b (λ library name. 0) (λ library name. omega arith) asked.accepted in
          record {
            s = 0;
            choice = load.0;
            load = load.1;
            not_so = λ denotes. other (denotes_unmoved l b p q f free (stays 0 load.0 empty load.1.pages denotes));
          },
    )
