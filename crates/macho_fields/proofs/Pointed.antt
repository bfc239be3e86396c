-- The pointers of a section, told relocation by relocation.
--
-- A relocation that is a part of the next one's field adds nothing to the list. A field is told where it is asked for, which is
-- where it needs a fixup; it was read as the field of the definitions, so the pointer that is told is its own. Behind the last
-- relocation the list is that of all fields.
use Rattle.std.proofs.Common.{◌≡◌, ℕ, ◌+◌, ◌<◌, true, false, Bool, List, ◌++◌, map, filter, sym, ap, subst, ◌∙◌, inl, inr, append-nil, append_assoc}
use Rattle.std.proofs.lemmas.Bool.{cases_Bool}
use Rattle.macho_model.specs.declared.placed.PlacedSection.{PlacedSection}
use Rattle.macho_model.specs.Objects.{section_at}
use Rattle.macho_model.specs.Links.{Link, SectionId, object_of}
use Rattle.macho_model.specs.Fields.{Field, field_of, fields_of, is_prefix_type}
use Rattle.macho_model.specs.Values.{needs_fixup}
use Rattle.macho_model.specs.Placement.{Placed, id_of}
use Rattle.macho_fields.specs.declared.field.Field as read
use Rattle.macho_fields.specs.declared.field.Near.{Near}
use Rattle.macho_fields.specs.declared.pointers.Pointer.{Pointer}
use Rattle.macho_fields.specs.declared.source.Source.{Source}
use Rattle.macho_fields.specs.Looks.{Look}
use Rattle.macho_fields.specs.Filling.{IsToFill}
use Rattle.macho_fields.specs.Pointers.{pointer_of, pointers_in}
use Rattle.macho_fields.specs.steps.Fields.{seen, asks, IsNear, IsRead}
use Rattle.macho_fields.specs.steps.Filled.{IsSource}
use Rattle.macho_fields.specs.steps.Pointers.{IsNoted, ArePointersTo}
use Rattle.macho_fields.specs.steps.Sections.{fields_to, IsNext}
use Rattle.macho_fields.proofs.Numbered.{one_if}
use Rattle.macho_fields.proofs.Nexts.{next_of, prefix_is}
use Rattle.macho_fields.proofs.One.{needs_by}
use Rattle.macho_fields.proofs.Steps.{asks_field, asks_none}
use Rattle.macho_fields.proofs.Still.{still_alone}

-- what is told of a field, by whether it needs a fixup
told : (l : Link) (p : Placed) (q : PlacedSection) (look : Look) (descriptors : Bool) (r : ℕ) (text : List ℕ) (run more : List Pointer)
    → IsNext l p q look descriptors r text → IsNoted look descriptors q (field_of l (id_of q) r) run more
    → more ≡ run ++ one_if (needs_fixup l (id_of q) (field_of l (id_of q) r)) (pointer_of q (field_of l (id_of q) r))
told l p q look descriptors r text run more next noted = elim (cases_Bool (asks descriptors look f)) [
  | inl asked ↦
      noted.asked asked ∙ sym (ap (λ (b : Bool). run ++ one_if b (pointer_of q f)) (needs_by l p q look descriptors r text true next asked))
  | inr plain ↦
      noted.plain plain ∙ sym (append-nil run)
      ∙ sym (ap (λ (b : Bool). run ++ one_if b (pointer_of q f)) (needs_by l p q look descriptors r text false next plain))
]
  where
    f : Field
    f = field_of l (id_of q) r

-- nothing is told yet
pub pointed_none : (l : Link) (q : PlacedSection) (run : List Pointer) → ArePointersTo l q 0 run run
unfolding fields_to
pointed_none l q run = record { are = sym (append-nil run) }

-- a relocation that is a part of the next one's field
pub pointed_prefix : (l : Link) (p : Placed) (look : Look) (s : Source) (r : ℕ) (n : Near) (asked run : List Pointer) → IsSource s
    → IsToFill l p s.place look s.file.now.bytes → IsNear s.list.bytes s.list.section r n
    → is_prefix_type n.relocation.r_type ≡ true
    → ArePointersTo l s.place r asked run → ArePointersTo l s.place (r + 1) asked run
pointed_prefix l p look s r n asked run source fill near prefix pointed = record {
  are = pointed.are ∙ ap (λ (t : List Pointer). asked ++ t)
      (sym (asks_none (pointer_of s.place) l (id_of s.place) r (prefix_is l p look s r n source fill near prefix)));
}

-- a field
pub pointed_field : (l : Link) (p : Placed) (look : Look) (s : Source) (r : ℕ) (n : Near) (f : read.Field) (asked run more : List Pointer)
    → IsSource s → IsToFill l p s.place look s.file.now.bytes → r < (section_at s.file.now.bytes s.place.section).nreloc
    → IsNear s.list.bytes s.list.section r n → IsRead look s.place.file s.file.now.bytes s.bytes.now n f
    → is_prefix_type n.relocation.r_type ≡ false
    → ArePointersTo l s.place r asked run → IsNoted look s.descriptors s.place (seen f) run more
    → ArePointersTo l s.place (r + 1) asked more
pointed_field l p look s r n f asked run more source fill among near is own pointed noted = record {
  are =
      told l p s.place look s.descriptors r s.bytes.now run more next.0
      (subst (λ (g : Field). IsNoted look s.descriptors s.place g run more) next.1 noted)
      ∙ ap (λ (t : List Pointer). t ++ last) pointed.are
      ∙ append_assoc asked front last
      ∙ ap (λ (t : List Pointer). asked ++ t) (sym (asks_field (pointer_of s.place) l id r next.0.field));
}
  where
    id : SectionId
    id = id_of s.place

    next : IsNext l p s.place look s.descriptors r s.bytes.now × (seen f ≡ field_of l id r)
    next = next_of l p look s r s.bytes.now n f source fill among near is own (still_alone l p look s r source fill)

    front : List Pointer
    front = map (pointer_of s.place) (filter (needs_fixup l id) (fields_to l id r))

    last : List Pointer
    last = one_if (needs_fixup l id (field_of l id r)) (pointer_of s.place (field_of l id r))

-- behind the last relocation
pub pointed_all : (l : Link) (q : PlacedSection) (b : List ℕ) (asked run : List Pointer) → object_of l q.file ≡ b
    → ArePointersTo l q (section_at b q.section).nreloc asked run → run ≡ asked ++ pointers_in l q
unfolding pointers_in fields_to fields_of
pointed_all l q b asked run same pointed =
    (subst (λ (m : List ℕ). ArePointersTo l q (section_at m q.section).nreloc asked run) (sym same) pointed).are
