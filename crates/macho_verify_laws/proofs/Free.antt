-- Bytes of sections outside their fields, and bytes of commons, are in no chain word.
--
-- The words on the chain stand in slots and in pointers of 8 bytes. Parts of a placement share no address; and a field lies in its own
-- section, as objects that keep their rules have it. So a word of a slot, or of another section's pointer, has no byte of a section, and
-- none of a common. A pointer of the section itself is one of its fields, which don't have the byte.
use Rattle.std.proofs.Common.{◌≡◌, ℕ, ◌+◌, ◌<◌, ◌≤◌, ◌⊎◌, true, List, sym, ap, subst, arith, inl, inr}
use Rattle.std.specs.Prelude.{Contains}
use Rattle.macho_bytes.proofs.Members.{all_contains}
use Rattle.macho_records.specs.Symbols.{common_size_of}
use Rattle.macho_model.specs.declared.placed.Counts.{Counts}
use Rattle.macho_model.specs.declared.placed.PlacedSection.{PlacedSection}
use Rattle.macho_model.specs.declared.placed.PlacedCommon.{PlacedCommon}
use Rattle.macho_model.specs.Links.{Link, header_at}
use Rattle.macho_model.specs.Resolution.{entry_at}
use Rattle.macho_model.specs.Fields.{Field, fields_of}
use Rattle.macho_model.specs.Needs.{POINTER_SIZE}
use Rattle.macho_model.specs.Placement.{Placed, id_of, common_of}
use Rattle.macho_model.specs.Spans.{AreApart, section_span, common_span, slot_span}
use Rattle.macho_model.specs.Values.{needs_fixup}
use Rattle.macho_model.specs.Fixups.{IsFixupPlace}
use Rattle.macho_model.specs.Fixups as place
use Rattle.macho_model.specs.HeldLaws.{IsFree}
use Rattle.macho_model.proofs.FixedPointers.{fixed_pointer}
use Rattle.macho_model.proofs.Parts.{apart_of}
use Rattle.macho_model.proofs.Sections.{apart_back}
use Rattle.macho_image_laws.proofs.Members.{one_or_pair}
use Rattle.macho_image_laws.proofs.Run.{free_apart}
use Rattle.macho_image_laws.proofs.Leading.{field_inside_section}
use Rattle.macho_image_laws.proofs.Apart.{PartsAreApart, parts_apart, inside_apart, placed_is_carried}
use Rattle.macho_verify_laws.specs.InFile.{IsInNoField}
use Rattle.macho_verify_laws.specs.Laws.{IsAsked, SectionBytesDecide, CommonBytesDecide}
use Rattle.macho_verify_laws.proofs.Bytes.{bytes_decide}

-- a pointer that the loader writes lies in its placed section
pub pointer_inside : (l : Link) (counts : Counts) (b : List ℕ) (p : Placed) (q : PlacedSection) (f : Field) → IsAsked l counts b p
    → Contains p.sections q
    → Contains (fields_of l (id_of q)) f → needs_fixup l (id_of q) f ≡ true → f.offset + POINTER_SIZE ≤ (header_at l (id_of q)).size
pointer_inside l counts b p q f asked one field needs =
    let inside = field_inside_section l (id_of q) f asked.objects.each (placed_is_carried l p q asked.placed.whole_list one) field in
    omega (arith, inside, (fixed_pointer l (id_of q) f needs).0)

-- parts of the placement share no address
pub parts : (l : Link) (counts : Counts) (b : List ℕ) (p : Placed) → IsAsked l counts b p → PartsAreApart l counts p
parts l counts b p asked = parts_apart l counts p (apart_of asked.placed)

-- bytes of a section that share none with its own pointers are apart from all words
section_apart : (l : Link) (counts : Counts) (b : List ℕ) (p : Placed) (q : PlacedSection) (i n : ℕ) → IsAsked l counts b p
    → Contains p.sections q → i + n ≤ (header_at l (id_of q)).size → 1 ≤ n
    → ((f : Field) → Contains (fields_of l (id_of q)) f → needs_fixup l (id_of q) f ≡ true
    → (i + n ≤ f.offset) ⊎ (f.offset + POINTER_SIZE ≤ i))
    → (word_at : ℕ) → IsFixupPlace l p word_at → (q.address + i + n ≤ word_at) ⊎ (word_at + POINTER_SIZE ≤ q.address + i)
section_apart l counts b p q i n asked one within some own _ (place.IsFixupPlace.slot s slot) =
    inside_apart (section_span l q) (slot_span s) (q.address + i) n s.address POINTER_SIZE
    ((parts l counts b p asked).section_slot q s one slot) (omega arith) (omega (arith, within)) some (omega arith) (omega arith)
    (omega arith)
section_apart l counts b p q i n asked one within some own _ (place.IsFixupPlace.pointer r f other field needs) =
    let inside = pointer_inside l counts b p r f asked other field needs in
    let apart = parts l counts b p asked in
    elim (one_or_pair (λ x y. AreApart (section_span l x) (section_span l y)) p.sections q r apart.sections one other) [
      | inl same ↦
          let here = subst (λ (x : PlacedSection). Contains (fields_of l (id_of x)) f) (sym same) field in
          let fixed = subst (λ (x : PlacedSection). needs_fixup l (id_of x) f ≡ true) (sym same) needs in
          let address : q.address ≡ r.address = ap (λ (x : PlacedSection). x.address) same in
          elim (own f here fixed) [
            | inl before ↦ inl (omega (arith, before, address))
            | inr behind ↦ inr (omega (arith, behind, address))
          ]
      | inr pair ↦
          let spans : AreApart (section_span l q) (section_span l r) = elim pair
          [ inl a ↦ a | inr a ↦ apart_back (section_span l r) (section_span l q) a ] in
          inside_apart (section_span l q) (section_span l r) (q.address + i) n (r.address + f.offset) POINTER_SIZE spans (omega arith)
          (omega (arith, within)) some (omega arith) (omega (arith, inside)) (omega arith)
    ]

-- so no word covers them
pub section_free : (l : Link) (counts : Counts) (b : List ℕ) (p : Placed) (q : PlacedSection) (i n : ℕ) → IsAsked l counts b p
    → Contains p.sections q → i + n ≤ (header_at l (id_of q)).size → 1 ≤ n
    → ((f : Field) → Contains (fields_of l (id_of q)) f → needs_fixup l (id_of q) f ≡ true
    → (i + n ≤ f.offset) ⊎ (f.offset + POINTER_SIZE ≤ i))
    → IsFree b (q.address + i) n
section_free l counts b p q i n asked one within some own =
    free_apart l b p (q.address + i) n asked.whole (section_apart l counts b p q i n asked one within some own)

-- a byte that is in no field is in no pointer
byte_free : (l : Link) (counts : Counts) (b : List ℕ) (p : Placed) (q : PlacedSection) (i : ℕ) → IsAsked l counts b p
    → Contains p.sections q → i < (header_at l (id_of q)).size → IsInNoField l q i → IsFree b (q.address + i) 1
byte_free l counts b p q i asked one within none =
    section_free l counts b p q i 1 asked one (omega (arith, within)) (omega arith) (λ f field needs.
    let wide = (fixed_pointer l (id_of q) f needs).0 in
    elim (all_contains (λ (g : Field). (i + 1 ≤ g.offset) ⊎ (g.offset + g.width ≤ i)) (fields_of l (id_of q)) f none field) [
      | inl before ↦ inl before
      | inr behind ↦ inr (omega (arith, behind, wide))
    ])

-- a byte of a common is apart from all words
common_apart : (l : Link) (counts : Counts) (b : List ℕ) (p : Placed) (c : PlacedCommon) (i : ℕ) → IsAsked l counts b p
    → Contains p.commons c → i < common_size_of (entry_at l (common_of l c.id)) → (word_at : ℕ) → IsFixupPlace l p word_at
    → (c.address + i + 1 ≤ word_at) ⊎ (word_at + POINTER_SIZE ≤ c.address + i)
common_apart l counts b p c i asked one within _ (place.IsFixupPlace.slot s slot) =
    inside_apart (common_span l c) (slot_span s) (c.address + i) 1 s.address POINTER_SIZE
    ((parts l counts b p asked).common_slot c s one slot) (omega arith) (omega (arith, within)) (omega arith) (omega arith) (omega arith)
    (omega arith)
common_apart l counts b p c i asked one within _ (place.IsFixupPlace.pointer r f other field needs) =
    let inside = pointer_inside l counts b p r f asked other field needs in
    inside_apart (common_span l c) (section_span l r) (c.address + i) 1 (r.address + f.offset) POINTER_SIZE
    (apart_back (section_span l r) (common_span l c) ((parts l counts b p asked).section_common r c other one)) (omega arith)
    (omega (arith, within)) (omega arith) (omega arith) (omega (arith, inside)) (omega arith)

pub common_free : (l : Link) (counts : Counts) (b : List ℕ) (p : Placed) (c : PlacedCommon) (i : ℕ) → IsAsked l counts b p
    → Contains p.commons c → i < common_size_of (entry_at l (common_of l c.id)) → IsFree b (c.address + i) 1
common_free l counts b p c i asked one within =
    free_apart l b p (c.address + i) 1 asked.whole (common_apart l counts b p c i asked one within)

-- THE decisions.
pub sections_decide : SectionBytesDecide
sections_decide l counts b p q i asked one within none =
    bytes_decide l b (q.address + i) _ asked.accepted (byte_free l counts b p q i asked one within none)

pub commons_decide : CommonBytesDecide
commons_decide l counts b p c i asked one within =
    bytes_decide l b (c.address + i) 0 asked.accepted (common_free l counts b p c i asked one within)
