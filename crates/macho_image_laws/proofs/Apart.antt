-- What no word of the loader covers.
--
-- The words stand in slots and in pointer fields of sections. Parts of a placement share no address: so a part that is neither has no
-- word, and in a section only its own pointer fields have one.
use Rattle.std.proofs.Common.{◌≡◌, ℕ, ◌+◌, ◌≤◌, ◌⊎◌, true, List, [], ◌∷◌, ◌++◌, get_or, map, sym, ap, subst, arith, inl, inr}
use Rattle.std.specs.Prelude.{Contains, AllPairs}
use Rattle.std.proofs.lemmas.List.Elements.{Contains-append_left, Contains-append_right}
use Rattle.std.proofs.lemmas.List.Sorted.{Contains-permutation}
use Rattle.macho_model.specs.declared.placed.Counts.{Counts}
use Rattle.macho_model.specs.declared.placed.PlacedSection.{PlacedSection}
use Rattle.macho_model.specs.declared.placed.PlacedCommon.{PlacedCommon}
use Rattle.macho_model.specs.declared.placed.Slot.{Slot}
use Rattle.macho_model.specs.declared.placed.Stub.{Stub}
use Rattle.macho_model.specs.Links.{Link, header_at, carried_of}
use Rattle.macho_model.specs.Fields.{Field, fields_of}
use Rattle.macho_model.specs.Placement.{Placed, id_of, linkedit_ranges, IsWholeList}
use Rattle.macho_model.specs.Zeros.{Span}
use Rattle.macho_model.specs.Spans.{AreApart, head_span, section_span, common_span, slot_span, stub_span, range_span, linkedit_span, spans_with}
use Rattle.macho_model.specs.Values.{needs_fixup}
use Rattle.macho_model.specs.Fixups.{IsFixupPlace, ChainIsWhole}
use Rattle.macho_model.specs.Fixups as place
use Rattle.macho_model.specs.Needs.{POINTER_SIZE}
use Rattle.macho_model.specs.HeldLaws.{IsFree}
use Rattle.macho_image_laws.specs.Leads.{TargetsLead}
use Rattle.macho_image_laws.proofs.Members.{one_or_pair}
use Rattle.macho_image_laws.proofs.Run.{free_apart}
use Rattle.macho_image_laws.proofs.Fits.{fixed_pointer}
use Rattle.macho_model.proofs.Parts.{same_order}
use Rattle.macho_model.proofs.Sections.{apart_back}
use Rattle.macho_bytes.proofs.Members.{contains_first, contains_later, contains_map}
use Rattle.macho_bytes.proofs.Pairs.{pairs_front, pairs_back, pairs_cross, pairs_unmap}

-- so are what lies in them
pub inside_apart : (a b : Span) (x n w m : ℕ) → AreApart a b → a.start ≤ x → x + n ≤ a.start + a.size → 1 ≤ n → b.start ≤ w
    → w + m ≤ b.start + b.size
    → 1 ≤ m → (x + n ≤ w) ⊎ (w + m ≤ x)
inside_apart a b x n w m (inl none) from to some first last more = absurd (omega (arith, none))
inside_apart a b x n w m (inr (inl none)) from to some first last more = absurd (omega (arith, none))
inside_apart a b x n w m (inr (inr (inl before))) from to some first last more = inl (omega arith)
inside_apart a b x n w m (inr (inr (inr behind))) from to some first last more = inr (omega arith)

-- the lists of parts, from the front on
unfoldable parts_0 : Link → Counts → Placed → List Span
parts_0 l counts p = head_span counts p ∷ map (section_span l) p.sections

unfoldable parts_1 : Link → Counts → Placed → List Span
parts_1 l counts p = parts_0 l counts p ++ map (common_span l) p.commons

unfoldable parts_2 : Link → Counts → Placed → List Span
parts_2 l counts p = parts_1 l counts p ++ map slot_span p.slots

unfoldable parts_3 : Link → Counts → Placed → List Span
parts_3 l counts p = parts_2 l counts p ++ map stub_span p.stubs

unfoldable ranges : Placed → List Span
ranges p = range_span p.init_offsets ∷ range_span p.unwind ∷ map (linkedit_span p) (linkedit_ranges p)

-- What is apart, by the kinds of parts. A section or a common is `fixed`; ranges are initializers, unwind information and tables.
pub record PartsAreApart (l : Link) (counts : Counts) (p : Placed) : Type 0 where
  pub sections : AllPairs (λ q r. AreApart (section_span l q) (section_span l r)) p.sections
  pub commons : AllPairs (λ c d. AreApart (common_span l c) (common_span l d)) p.commons
  pub section_common : (q : PlacedSection) (c : PlacedCommon) → Contains p.sections q → Contains p.commons c
      → AreApart (section_span l q) (common_span l c)
  pub section_slot : (q : PlacedSection) (s : Slot) → Contains p.sections q → Contains p.slots s → AreApart (section_span l q) (slot_span s)
  pub section_stub : (q : PlacedSection) (s : Stub) → Contains p.sections q → Contains p.stubs s → AreApart (section_span l q) (stub_span s)
  pub common_slot : (c : PlacedCommon) (s : Slot) → Contains p.commons c → Contains p.slots s → AreApart (common_span l c) (slot_span s)
  pub common_stub : (c : PlacedCommon) (s : Stub) → Contains p.commons c → Contains p.stubs s → AreApart (common_span l c) (stub_span s)
  pub slot_stub : (s : Slot) (t : Stub) → Contains p.slots s → Contains p.stubs t → AreApart (slot_span s) (stub_span t)
  pub head_section : (q : PlacedSection) → Contains p.sections q → AreApart (head_span counts p) (section_span l q)
  pub head_common : (c : PlacedCommon) → Contains p.commons c → AreApart (head_span counts p) (common_span l c)
  pub section_range : (q : PlacedSection) (r : Span) → Contains p.sections q
      → Contains (range_span p.init_offsets ∷ range_span p.unwind ∷ map (linkedit_span p) (linkedit_ranges p)) r
      → AreApart (section_span l q) r
  pub common_range : (c : PlacedCommon) (r : Span) → Contains p.commons c
      → Contains (range_span p.init_offsets ∷ range_span p.unwind ∷ map (linkedit_span p) (linkedit_ranges p)) r
      → AreApart (common_span l c) r

pub parts_apart : (l : Link) (counts : Counts) (p : Placed) → AllPairs AreApart (spans_with l counts p p.sections)
    → PartsAreApart l counts p
unfolding spans_with parts_0 parts_1 parts_2 parts_3 ranges
parts_apart l counts p all =
    let three = pairs_front AreApart (parts_3 l counts p) (ranges p) all in
    let two = pairs_front AreApart (parts_2 l counts p) (map stub_span p.stubs) three in
    let one = pairs_front AreApart (parts_1 l counts p) (map slot_span p.slots) two in
    let zero = pairs_front AreApart (parts_0 l counts p) (map (common_span l) p.commons) one in
    let sections = map (section_span l) p.sections in
    let commons = map (common_span l) p.commons in
    let in_0 = λ (q : PlacedSection) (h : Contains p.sections q).
    contains_later (head_span counts p) sections (section_span l q) (contains_map (section_span l) p.sections q h) in
    let in_1 = λ (q : PlacedSection) (h : Contains p.sections q). Contains-append_left (parts_0 l counts p) commons (section_span l q)
    (in_0 q h) in
    let in_2 = λ (q : PlacedSection) (h : Contains p.sections q). Contains-append_left (parts_1 l counts p) (map slot_span p.slots)
    (section_span l q) (in_1 q h) in
    let in_3 = λ (q : PlacedSection) (h : Contains p.sections q). Contains-append_left (parts_2 l counts p) (map stub_span p.stubs)
    (section_span l q) (in_2 q h) in
    let c_1 = λ (c : PlacedCommon) (h : Contains p.commons c).
    Contains-append_right (parts_0 l counts p) commons (common_span l c) (contains_map (common_span l) p.commons c h) in
    let c_2 = λ (c : PlacedCommon) (h : Contains p.commons c). Contains-append_left (parts_1 l counts p) (map slot_span p.slots)
    (common_span l c) (c_1 c h) in
    let c_3 = λ (c : PlacedCommon) (h : Contains p.commons c). Contains-append_left (parts_2 l counts p) (map stub_span p.stubs)
    (common_span l c) (c_2 c h) in
    let s_2 = λ (s : Slot) (h : Contains p.slots s).
    Contains-append_right (parts_1 l counts p) (map slot_span p.slots) (slot_span s) (contains_map slot_span p.slots s h) in
    record {
      sections = pairs_unmap AreApart (section_span l) p.sections (pairs_back AreApart (head_span counts p ∷ []) sections zero);
      commons = pairs_unmap AreApart (common_span l) p.commons (pairs_back AreApart (parts_0 l counts p) commons one);
      section_common = λ q c in_q in_c. pairs_cross AreApart (parts_0 l counts p) commons (section_span l q) (common_span l c) one
          (in_0 q in_q)
          (contains_map (common_span l) p.commons c in_c);
      section_slot = λ q s in_q in_s. pairs_cross AreApart (parts_1 l counts p) (map slot_span p.slots) (section_span l q)
          (slot_span s) two (in_1 q in_q)
          (contains_map slot_span p.slots s in_s);
      section_stub = λ q s in_q in_s. pairs_cross AreApart (parts_2 l counts p) (map stub_span p.stubs) (section_span l q)
          (stub_span s) three (in_2 q in_q)
          (contains_map stub_span p.stubs s in_s);
      common_slot = λ c s in_c in_s. pairs_cross AreApart (parts_1 l counts p) (map slot_span p.slots) (common_span l c) (slot_span s) two
          (c_1 c in_c)
          (contains_map slot_span p.slots s in_s);
      common_stub = λ c s in_c in_s. pairs_cross AreApart (parts_2 l counts p) (map stub_span p.stubs) (common_span l c)
          (stub_span s) three (c_2 c in_c)
          (contains_map stub_span p.stubs s in_s);
      slot_stub = λ s t in_s in_t. pairs_cross AreApart (parts_2 l counts p) (map stub_span p.stubs) (slot_span s) (stub_span t) three
          (s_2 s in_s)
          (contains_map stub_span p.stubs t in_t);
      head_section = λ q in_q. pairs_cross AreApart (head_span counts p ∷ []) sections (head_span counts p) (section_span l q) zero
          (contains_first (head_span counts p) [])
          (contains_map (section_span l) p.sections q in_q);
      head_common = λ c in_c. pairs_cross AreApart (parts_0 l counts p) commons (head_span counts p) (common_span l c) one
          (contains_first (head_span counts p) sections)
          (contains_map (common_span l) p.commons c in_c);
      section_range = λ q r in_q in_r. pairs_cross AreApart (parts_3 l counts p) (ranges p) (section_span l q) r all (in_3 q in_q) in_r;
      common_range = λ c r in_c in_r. pairs_cross AreApart (parts_3 l counts p) (ranges p) (common_span l c) r all (c_3 c in_c) in_r;
    }

-- a placed section is carried
pub placed_is_carried : (l : Link) (p : Placed) (q : PlacedSection) → IsWholeList l p → Contains p.sections q
    → Contains (carried_of l) (id_of q)
placed_is_carried l p q whole one = Contains-permutation (map id_of p.sections) (carried_of l) (id_of q) (same_order whole.sections)
    (contains_map id_of p.sections q one)

-- a pointer that the loader writes lies in its section
pub pointer_inside : (l : Link) (p : Placed) (q : PlacedSection) (f : Field) → IsWholeList l p → TargetsLead l → Contains p.sections q
    → Contains (fields_of l (id_of q)) f → needs_fixup l (id_of q) f ≡ true → f.offset + POINTER_SIZE ≤ (header_at l (id_of q)).size
pointer_inside l p q f whole leads one field needs =
    omega (arith, leads.inside (id_of q) f (placed_is_carried l p q whole one) field, (fixed_pointer l (id_of q) f needs).0)

-- a range of a part that is apart from sections and slots is apart from all words, so free
pub part_apart : (l : Link) (p : Placed) (a : Span) (x n : ℕ) → IsWholeList l p → TargetsLead l
    → ((q : PlacedSection) → Contains p.sections q → AreApart (section_span l q) a)
    → ((s : Slot) → Contains p.slots s → AreApart (slot_span s) a)
    → a.start ≤ x → x + n ≤ a.start + a.size → 1 ≤ n → (word_at : ℕ) → IsFixupPlace l p word_at
    → (x + n ≤ word_at) ⊎ (word_at + POINTER_SIZE ≤ x)
part_apart l p a x n placed leads sections slots from to some _ (place.IsFixupPlace.slot s one) =
    inside_apart a (slot_span s) x n s.address POINTER_SIZE (apart_back (slot_span s) a (slots s one)) from to some (omega arith)
    (omega arith)
    (omega arith)
part_apart l p a x n placed leads sections slots from to some _ (place.IsFixupPlace.pointer q f one field needs) =
    inside_apart a (section_span l q) x n (q.address + f.offset) POINTER_SIZE (apart_back (section_span l q) a
    (sections q one)) from to some
    (omega arith)
    (omega (arith, pointer_inside l p q f placed leads one field needs)) (omega arith)

pub part_free : (l : Link) (b : List ℕ) (p : Placed) (a : Span) (x n : ℕ) → IsWholeList l p → TargetsLead l → ChainIsWhole l b p
    → ((q : PlacedSection) → Contains p.sections q → AreApart (section_span l q) a)
    → ((s : Slot) → Contains p.slots s → AreApart (slot_span s) a)
    → a.start ≤ x → x + n ≤ a.start + a.size → 1 ≤ n → IsFree b x n
part_free l b p a x n placed leads whole sections slots from to some =
    free_apart l b p x n whole (part_apart l p a x n placed leads sections slots from to some)

-- in a section its own pointers alone have words
pub section_apart : (l : Link) (counts : Counts) (p : Placed) (q : PlacedSection) (i n : ℕ) → IsWholeList l p → PartsAreApart l counts p
    → TargetsLead l
    → Contains p.sections q → i + n ≤ (header_at l (id_of q)).size → 1 ≤ n
    → ((f : Field) → Contains (fields_of l (id_of q)) f → needs_fixup l (id_of q) f ≡ true
    → (i + n ≤ f.offset) ⊎ (f.offset + POINTER_SIZE ≤ i))
    → (word_at : ℕ) → IsFixupPlace l p word_at → (q.address + i + n ≤ word_at) ⊎ (word_at + POINTER_SIZE ≤ q.address + i)
section_apart l counts p q i n placed apart leads one fits some own _ (place.IsFixupPlace.slot s slot) =
    inside_apart (section_span l q) (slot_span s) (q.address + i) n s.address POINTER_SIZE (apart.section_slot q s one slot) (omega arith)
    (omega (arith, fits))
    some (omega arith) (omega arith) (omega arith)
section_apart l counts p q i n placed apart leads one fits some own _ (place.IsFixupPlace.pointer r f other field needs) =
    let inside = pointer_inside l p r f placed leads other field needs in
    elim (one_or_pair (λ x y. AreApart (section_span l x) (section_span l y)) p.sections q r apart.sections one other) [
      | inl same ↦
          let here = subst (λ (x : PlacedSection). Contains (fields_of l (id_of x)) f) (sym same) field in
          let fixed = subst (λ (x : PlacedSection). needs_fixup l (id_of x) f ≡ true) (sym same) needs in
          let address : q.address ≡ r.address = ap (λ (x : PlacedSection). x.address) same in
          elim (own f here fixed) [
            | inl before ↦ inl (omega (arith, before, address))
            | inr behind ↦ inr (omega (arith, behind, address))
          ]
      | inr pair ↦
          let spans : AreApart (section_span l q) (section_span l r) = elim pair
          [ inl a ↦ a | inr a ↦ apart_back (section_span l r) (section_span l q) a ] in
          inside_apart (section_span l q) (section_span l r) (q.address + i) n (r.address + f.offset) POINTER_SIZE spans (omega arith)
          (omega (arith, fits)) some
          (omega arith) (omega (arith, inside)) (omega arith)
    ]

pub section_free : (l : Link) (counts : Counts) (b : List ℕ) (p : Placed) (q : PlacedSection) (i n : ℕ) → IsWholeList l p
    → PartsAreApart l counts p → TargetsLead l
    → ChainIsWhole l b p → Contains p.sections q → i + n ≤ (header_at l (id_of q)).size → 1 ≤ n
    → ((f : Field) → Contains (fields_of l (id_of q)) f → needs_fixup l (id_of q) f ≡ true
    → (i + n ≤ f.offset) ⊎ (f.offset + POINTER_SIZE ≤ i))
    → IsFree b (q.address + i) n
section_free l counts b p q i n placed apart leads whole one fits some own =
    free_apart l b p (q.address + i) n whole (section_apart l counts p q i n placed apart leads one fits some own)
