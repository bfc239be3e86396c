-- The bytes of a zerofill section.
--
-- The input has none, so each is to be 0; and an object has no relocations there, so each stands in no field.
use Rattle.std.proofs.Common.{◌≡◌, ℕ, ◌+◌, ◌<◌, ◌≤◌, ◌⊎◌, ◌==◌, true, List, slice_index, refl, sym, ap, subst, ◌∙◌, arith}
use Rattle.macho_bytes.proofs.Bools.{or_holds, is_equal}
use Rattle.macho_bytes.proofs.Members.{contains_all}
use Rattle.macho_records.specs.Sections.{is_zerofill}
use Rattle.macho_model.specs.declared.placed.PlacedSection.{PlacedSection}
use Rattle.macho_model.specs.Links.{Link, object_of, header_at}
use Rattle.macho_model.specs.Objects.{num_sections, section_at, section_bytes}
use Rattle.macho_model.specs.ObjectLaws.{KeepsObjectRules}
use Rattle.macho_model.specs.Fields.{Field, fields_of}
use Rattle.macho_model.specs.Memory.{IsSegmentByte}
use Rattle.macho_model.specs.Placement.{id_of}
use Rattle.macho_verify_laws.specs.InFile.{IsInNoField}
use Rattle.macho_image_rules.specs.Bytes.{SectionBytesAre, IsWrongByte}
use Rattle.macho_image_rules.proofs.Marking.{field_source}

-- the input has no byte of it
no_bytes : (b : List ℕ) (k i : ℕ) → is_zerofill (section_at b k) ≡ true → slice_index (section_bytes b k) i ≡ 0
unfolding section_bytes
no_bytes b k i zeros = rw zeros refl

-- its bytes stand in no field
no_fields : (l : Link) (q : PlacedSection) (i : ℕ) → (header_at l (id_of q)).nreloc ≡ 0 → IsInNoField l q i
no_fields l q i none =
    contains_all (λ (f : Field). (i + 1 ≤ f.offset) ⊎ (f.offset + f.width ≤ i)) (fields_of l (id_of q))
    (λ f there. let from = field_source l q f there in absurd (omega (arith, from.1, none)))

-- an object has no relocations there
pub unrelocated : (b : List ℕ) (k : ℕ) → KeepsObjectRules b → k < num_sections b → is_zerofill (section_at b k) ≡ true
    → (section_at b k).nreloc ≡ 0
unrelocated b k object among zeros =
    is_equal (section_at b k).nreloc 0
    (or_holds (is_zerofill (section_at b k)) ((section_at b k).nreloc == 0) zeros (object.o12 k among))

-- THE bytes of zerofill, where each is 0.
pub zeros_are : (l : Link) (b : List ℕ) (q : PlacedSection) (o : List ℕ) → object_of l q.file ≡ o
    → is_zerofill (section_at o q.section) ≡ true
    → ((i : ℕ) → i < (section_at o q.section).size → IsSegmentByte b (q.address + i) 0) → SectionBytesAre l b q
zeros_are l b q o same zeros each i low free =
    let here : i < (section_at o q.section).size =
    subst (λ (x : List ℕ). i < (section_at x q.section).size) same low in
    subst (λ (v : ℕ). IsSegmentByte b (q.address + i) v)
    (sym (ap (λ (x : List ℕ). slice_index (section_bytes x q.section) i) same ∙ no_bytes o q.section i zeros)) (each i here)

-- THE wrong byte of zerofill: one that isn't 0.
pub zero_is_wrong : (l : Link) (b : List ℕ) (q : PlacedSection) (o : List ℕ) (i : ℕ) → object_of l q.file ≡ o → KeepsObjectRules o
    → q.section < num_sections o → is_zerofill (section_at o q.section) ≡ true → i < (section_at o q.section).size
    → (IsSegmentByte b (q.address + i) 0 → ⊥) → IsWrongByte l b q i
zero_is_wrong l b q o i same object among zeros low wrong = record {
  inside = subst (λ (x : List ℕ). i < (section_at x q.section).size) (sym same) low;
  free = no_fields l q i (subst (λ (x : List ℕ). (section_at x q.section).nreloc ≡ 0) (sym same)
      (unrelocated o q.section object among zeros));
  other = λ is. wrong (subst (λ (v : ℕ). IsSegmentByte b (q.address + i) v)
      (ap (λ (x : List ℕ). slice_index (section_bytes x q.section) i) same ∙ no_bytes o q.section i zeros) is);
}
