-- The bytes of a section that stand in no field.
--
-- The fields of a section are those of its relocations that are no part of the next one's field. So a byte without a mark stands in no
-- field, and a byte in no field has no mark. Where the image's bytes without a mark are the input's, all bytes in no field are; and a byte
-- without a mark that isn't the input's shows a wrong byte, since the image has one byte at its address.
use Rattle.std.proofs.Common.{◌≡◌, ℕ, ◌+◌, ◌^◌, ◌<◌, ◌≤◌, ◌⊎◌, not, true, false, Bool, List, get_or, slice_index, filter, refl, sym, ap, subst, ◌∙◌, inl, inr, arith}
use Rattle.std.specs.Prelude.{Contains}
use Rattle.std.specs.List.{range_with_len}
use Rattle.std.proofs.lemmas.Bool.{cases_lt, false≢true}
use Rattle.macho_bytes.proofs.Bools.{false_of_not}
use Rattle.macho_bytes.proofs.Members.{all_contains, contains_all, contains_map, map_contains, contains_filter, filter_contains, contains_range, range_contains}
use Rattle.macho_model.specs.declared.placed.PlacedSection.{PlacedSection}
use Rattle.macho_model.specs.Links.{Link, object_of, header_at}
use Rattle.macho_model.specs.Needs.{relocation_in}
use Rattle.macho_model.specs.Objects.{section_at, section_bytes}
use Rattle.macho_model.specs.Fields.{Field, is_prefix_type, field_of, fields_of}
use Rattle.macho_model.specs.Memory.{IsSegmentByte}
use Rattle.macho_model.specs.Placement.{id_of}
use Rattle.macho_verify_laws.specs.InFile.{IsInNoField}
use Rattle.macho_image_rules.specs.Bytes.{SectionBytesAre, IsWrongByte}
use Rattle.macho_image_rules.specs.steps.Marks.{AreMarks}

-- a relocation has a field of its own
abbrev is_own : Link → PlacedSection → ℕ → Bool
is_own l q r = not (is_prefix_type (relocation_in l (id_of q) r).r_type)

-- each field is that of a relocation
pub field_source : (l : Link) (q : PlacedSection) (f : Field) → Contains (fields_of l (id_of q)) f
    → (r : ℕ) × (r < (header_at l (id_of q)).nreloc) × (is_prefix_type (relocation_in l (id_of q) r).r_type ≡ false)
    × (field_of l (id_of q) r ≡ f)
unfolding fields_of
field_source l q f there =
    let found = map_contains (field_of l (id_of q)) (filter (is_own l q) (range_with_len 0 (header_at l (id_of q)).nreloc)) f there in
    let one = filter_contains (is_own l q) (range_with_len 0 (header_at l (id_of q)).nreloc) found.0 found.1 in
    (found.0, range_contains (header_at l (id_of q)).nreloc found.0 one.0, false_of_not _ one.1, found.2)

-- and each relocation with a field of its own has it among them
field_listed : (l : Link) (q : PlacedSection) (r : ℕ) → r < (header_at l (id_of q)).nreloc
    → is_prefix_type (relocation_in l (id_of q) r).r_type ≡ false → Contains (fields_of l (id_of q)) (field_of l (id_of q) r)
unfolding fields_of
field_listed l q r low own =
    contains_map (field_of l (id_of q)) (filter (is_own l q) (range_with_len 0 (header_at l (id_of q)).nreloc)) r
    (contains_filter (is_own l q) (range_with_len 0 (header_at l (id_of q)).nreloc) r (contains_range (header_at l (id_of q)).nreloc r low)
    (ap not own))

-- a byte stands before or behind a field
abbrev IsBeside : ℕ → Field → Type 0
IsBeside i f = (i + 1 ≤ f.offset) ⊎ (f.offset + f.width ≤ i)

-- a byte without a mark stands in no field
pub unmarked_free : (l : Link) (q : PlacedSection) (size : ℕ) (marks : List Bool) (i : ℕ)
    → AreMarks (object_of l q.file) q.section (header_at l (id_of q)).nreloc size marks → get_or marks i false ≡ false → IsInNoField l q i
unmarked_free l q size marks i marked clear =
    contains_all (IsBeside i) (fields_of l (id_of q))
    (λ f there. let from = field_source l q f there in subst (IsBeside i) from.3 (beside from.0 from.1 from.2))
  where
    beside : (r : ℕ) → r < (header_at l (id_of q)).nreloc → is_prefix_type (relocation_in l (id_of q) r).r_type ≡ false
        → IsBeside i (field_of l (id_of q) r)
    beside r low own = elim (cases_lt i (relocation_in l (id_of q) r).r_address) [
      | inl before ↦ inl (omega (arith, before))
      | inr late ↦
          elim (cases_lt i ((relocation_in l (id_of q) r).r_address + 2 ^ (relocation_in l (id_of q) r).r_length)) [
            | inl inside ↦
                absurd (false≢true (sym clear ∙ marked.set r i low (record { own = own; from = late; to = inside })))
            | inr behind ↦ inr behind
          ]
    ]

-- a byte in no field has no mark
pub free_unmarked : (l : Link) (q : PlacedSection) (size : ℕ) (marks : List Bool) (i : ℕ)
    → AreMarks (object_of l q.file) q.section (header_at l (id_of q)).nreloc size marks → IsInNoField l q i → get_or marks i false ≡ false
free_unmarked l q size marks i marked free = cases (get_or marks i false) refl
  where
    cases : (m : Bool) → get_or marks i false ≡ m → get_or marks i false ≡ false
    cases false h = h
    cases true h =
        let found = marked.only i h in
        let covers = found.2 in
        elim (all_contains (IsBeside i) (fields_of l (id_of q)) (field_of l (id_of q) found.0) free
        (field_listed l q found.0 found.1 covers.own)) [
          | inl before ↦ absurd (omega (arith, before, covers.from))
          | inr behind ↦ absurd (omega (arith, behind, covers.to))
        ]

-- the marks of an object are those of a link's object
linked : (l : Link) (q : PlacedSection) (o : List ℕ) (size : ℕ) (marks : List Bool) → object_of l q.file ≡ o
    → AreMarks o q.section (section_at o q.section).nreloc size marks
    → AreMarks (object_of l q.file) q.section (header_at l (id_of q)).nreloc size marks
linked l q o size marks same marked =
    subst (λ (x : List ℕ). AreMarks x q.section (section_at x q.section).nreloc size marks) (sym same) marked

-- THE bytes in no field, where those without a mark are the input's.
pub bytes_are : (l : Link) (b : List ℕ) (q : PlacedSection) (o : List ℕ) (size : ℕ) (marks : List Bool) (found : List ℕ)
    → object_of l q.file ≡ o → AreMarks o q.section (section_at o q.section).nreloc size marks → size ≡ (section_at o q.section).size
    → ((i : ℕ) → i < size → IsSegmentByte b (q.address + i) (slice_index found i))
    → ((i : ℕ) → i < size → get_or marks i false ≡ false → slice_index found i ≡ slice_index (section_bytes o q.section) i)
    → SectionBytesAre l b q
bytes_are l b q o size marks found same marked long each right i low free =
    let sized : (section_at (object_of l q.file) q.section).size ≡ size =
    ap (λ (x : List ℕ). (section_at x q.section).size) same ∙ sym long in
    let here : i < size = omega (arith, low, sized) in
    let clear = free_unmarked l q size marks i (linked l q o size marks same marked) free in
    subst (λ (v : ℕ). IsSegmentByte b (q.address + i) v)
    (right i here clear ∙ ap (λ (x : List ℕ). slice_index (section_bytes x q.section) i) (sym same)) (each i here)

-- THE wrong byte: one without a mark that isn't the input's.
pub byte_is_wrong : (l : Link) (b : List ℕ) (q : PlacedSection) (o : List ℕ) (size : ℕ) (marks : List Bool) (found : List ℕ) (i : ℕ)
    → object_of l q.file ≡ o → AreMarks o q.section (section_at o q.section).nreloc size marks → size ≡ (section_at o q.section).size
    → ((v : ℕ) → IsSegmentByte b (q.address + i) v → v ≡ slice_index found i) → i < size → get_or marks i false ≡ false
    → (slice_index found i ≡ slice_index (section_bytes o q.section) i → ⊥) → IsWrongByte l b q i
byte_is_wrong l b q o size marks found i same marked long one low clear wrong =
    let sized : (section_at (object_of l q.file) q.section).size ≡ size =
    ap (λ (x : List ℕ). (section_at x q.section).size) same ∙ sym long in
    record {
      inside = omega (arith, low, sized);
      free = unmarked_free l q size marks i (linked l q o size marks same marked) clear;
      other = λ is. wrong (sym (one (slice_index (section_bytes (object_of l q.file) q.section) i) is)
          ∙ ap (λ (x : List ℕ). slice_index (section_bytes x q.section) i) same);
    }
