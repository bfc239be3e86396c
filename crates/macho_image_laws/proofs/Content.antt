-- Sections, commons and stubs, at every slide.
--
-- A section's bytes in the file are filled, so where no word covers them memory holds them: the input's bytes outside its fields, and
-- the words of the fields that the loader does not write, which say at every slide what they say at slide 0. Zeros have no bytes of
-- their own; they are held where the file's byte there is 0, or behind the file's bytes. A stub's three words are held too.
use Rattle.std.proofs.Common.{◌≡◌, ℕ, ◌+◌, ◌-◌, ◌%◌, ◌<◌, ◌≤◌, ◌==◌, ◌&&◌, not, Bool, true, false, List, [], length, get_or, slice_index, refl, sym, ap, subst, ◌∙◌, arith, inl, inr, All}
use Rattle.std.specs.Prelude.{Contains, is_some}
use Rattle.std.proofs.lemmas.Bool.{cases_lt, cases_Bool, true≢false, ne_eqb}
use Rattle.std.proofs.lemmas.List.Edits.{get_or-between}
use Rattle.std.proofs.lemmas.List.Elements.{All-contains, All-contains_itself}
use Rattle.std.proofs.lemmas.Nat.{pow_pos}
use Rattle.macho_bytes.specs.Numbers.{le_at}
use Rattle.macho_bytes.proofs.Reading.{le_at-between}
use Rattle.std.specs.Str.{bytes_eq}
use Rattle.std.specs.FinMap.{empty}
use Rattle.macho_records.specs.Segments.{text_of}
use Rattle.macho_records.specs.Sections.{is_zerofill}
use Rattle.macho_model.specs.declared.placed.Counts.{Counts}
use Rattle.macho_model.specs.declared.placed.PlacedSegment.{PlacedSegment}
use Rattle.macho_model.specs.declared.placed.PlacedSection.{PlacedSection}
use Rattle.macho_model.specs.declared.placed.PlacedCommon.{PlacedCommon}
use Rattle.macho_model.specs.declared.placed.Stub.{Stub}
use Rattle.macho_model.specs.Objects.{section_bytes}
use Rattle.macho_model.specs.Links.{Link, object_of, header_at}
use Rattle.macho_model.specs.Needs.{relocation_in}
use Rattle.macho_model.specs.Fields.{Field, fields_of, content_of}
use Rattle.macho_model.specs.Segments.{PAGEZERO, TEXT, DATA, SEGMENT_PAGE}
use Rattle.macho_model.specs.WrittenSum.{STUB_SIZE}
use Rattle.macho_model.specs.Placement.{Placed, id_of, is_segment_named}
use Rattle.macho_model.specs.Zeros.{Span}
use Rattle.macho_model.specs.Spans.{section_span, common_span, stub_span, slot_span, IsOutsideField}
use Rattle.macho_model.specs.steps.Parts.{LiesIn, LiesInNamed, SectionLies}
use Rattle.macho_model.specs.Addresses.{offset_in_file}
use Rattle.macho_model.specs.Memory.{Choice, BindsAll, Holds, HoldsNumber}
use Rattle.macho_model.specs.HeldLaws.{IsFree}
use Rattle.macho_model.specs.Stands.{kind_of, Denotes, SectionStands, StubStands}
use Rattle.macho_model.specs.Values.{needs_fixup}
use Rattle.macho_promise.specs.Filled.{FieldIsSet, bytes_in_file}
use Rattle.macho_image_laws.specs.Composed.{SectionIsWritten, StubIsWritten}
use Rattle.macho_image_laws.proofs.Segments.{is_mapped}
use Rattle.macho_image_laws.proofs.Fits.{field_number, fields_apart, field_fits_in, fixed_pointer, plain_pointer}
use Rattle.macho_image_laws.proofs.Apart.{parts_apart, placed_is_carried, part_free, section_free}
use Rattle.macho_image_laws.proofs.Held.{IsBacked, place_in_file, number_held, byte_held, zero_held, section_is_mapped, segment_small}
use Rattle.macho_image_laws.proofs.Rests.{RestsOn, IsReady, IsJoined, AreZero}
use Rattle.macho_image_laws.proofs.Words.{pointer_stands}
use Rattle.macho_model.specs.steps.Stands.{CommonStands, SaysOf}
use Rattle.macho_model.proofs.Parts.{apart_of, in_segment_of}
use Rattle.macho_model.proofs.Sections.{apart_back}
use Rattle.macho_bytes.proofs.Comparing.{same_bytes}

-- a segment that is not the one that keeps addresses free
pub backed : (l : Link) (counts : Counts) (b : List ℕ) (p : Placed) (s : PlacedSegment) → IsReady l counts p → IsJoined l b p
    → Contains p.segments s
    → is_segment_named PAGEZERO s ≡ false → IsBacked b s
backed l counts b p s ready joined one named = record {
  mapped = is_mapped b p s joined.agree one named;
  small = segment_small p s ready.order one;
  room = All-contains (λ (t : PlacedSegment). t.file_offset + t.file_size ≤ length b) p.segments s joined.room one;
}

-- segments of a known name are such
of_text : (s : PlacedSegment) → is_segment_named TEXT s ≡ true → is_segment_named PAGEZERO s ≡ false
of_text s named = ap (λ (n : List ℕ). bytes_eq n PAGEZERO) (same_bytes (text_of s.name) TEXT named)

of_data : (s : PlacedSegment) → is_segment_named DATA s ≡ true → is_segment_named PAGEZERO s ≡ false
of_data s named = ap (λ (n : List ℕ). bytes_eq n PAGEZERO) (same_bytes (text_of s.name) DATA named)

-- The segment of a placed section, and where its bytes are in the file.
pub record HasSegment (l : Link) (b : List ℕ) (p : Placed) (q : PlacedSection) : Type 0 where
  pub segment : PlacedSegment
  pub one : Contains p.segments segment
  pub back : IsBacked b segment
  pub from : segment.address ≤ q.address
  pub to : q.address + (header_at l (id_of q)).size ≤ segment.address + segment.size
  pub in_file : is_zerofill (header_at l (id_of q)) ≡ false → 1 ≤ (header_at l (id_of q)).size
      → q.address + (header_at l (id_of q)).size ≤ segment.address + segment.file_size

has_segment : (l : Link) (counts : Counts) (b : List ℕ) (p : Placed) (q : PlacedSection) → IsReady l counts p → IsJoined l b p
    → Contains p.sections q
    → HasSegment l b p q
has_segment l counts b p q ready joined one =
    let lies = All-contains (SectionLies l p) p.sections q (in_segment_of ready.placed).sections one in
    let s = lies.0 in
    let there : Contains p.segments s = (q.segment, lies.1.0, lies.1.1) in
    let named = section_is_mapped l (id_of q) s (placed_is_carried l p q ready.placed.whole_list one) lies.2 same_bytes in
    let back = backed l counts b p s ready joined there named in
    record {
      segment = s;
      one = there;
      back = back;
      from = lies.3.from;
      to = any (not (is_zerofill (header_at l (id_of q))) && not ((header_at l (id_of q)).size == 0))
          (section_span l q) s lies.3 back.small;
      in_file = λ filled some.
          let other : ((header_at l (id_of q)).size == 0) ≡ false = ne_eqb (header_at l (id_of q)).size 0 (λ e. omega (arith, some, e)) in
          let flag : (not (is_zerofill (header_at l (id_of q))) && not ((header_at l (id_of q)).size == 0))
          ≡ true = rw (filled, other) refl in
          (subst (λ (t : Bool). LiesIn t (section_span l q) s) flag lies.3).to;
    }
  where
    any : (t : Bool) (span : Span) (s : PlacedSegment) → LiesIn t span s → s.file_size ≤ s.size
        → span.start + span.size ≤ s.address + s.size
    any true span s lies small = omega (arith, lies.to, small)
    any false span s lies small = lies.to

-- bytes outside fields
outside_free : (l : Link) (counts : Counts) (b : List ℕ) (p : Placed) (q : PlacedSection) (i : ℕ) → IsReady l counts p → IsJoined l b p
    → Contains p.sections q
    → i < (header_at l (id_of q)).size → All (IsOutsideField i) (fields_of l (id_of q)) → IsFree b (q.address + i) 1
outside_free l counts b p q i ready joined one within outside =
    section_free l counts b p q i 1 ready.placed.whole_list (parts_apart l counts p (apart_of ready.placed)) ready.leads joined.chain one
    (omega (arith, within)) (omega arith)
    (λ f field needs.
    let wide = (fixed_pointer l (id_of q) f needs).0 in
    elim (All-contains (IsOutsideField i) (fields_of l (id_of q)) f outside field) [
      | inl before ↦ inl before
      | inr behind ↦ inr (omega (arith, behind, wide))
    ])

no_bytes : (l : Link) (q : PlacedSection) (i : ℕ) → is_zerofill (header_at l (id_of q)) ≡ true
    → slice_index (section_bytes (object_of l q.file) q.section) i ≡ 0
unfolding section_bytes
no_bytes l q i zerofill = rw zerofill refl

byte_stands : (rests : RestsOn) (l : Link) (counts : Counts) (b : List ℕ) (p : Placed) → IsReady l counts p → IsJoined l b p → AreZero l b p
    → (s : ℕ) (choice : Choice)
    → (q : PlacedSection) → Contains p.sections q → SectionIsWritten l b p q → (i : ℕ) → i < (header_at l (id_of q)).size
    → All (IsOutsideField i) (fields_of l (id_of q)) → Holds b s choice (q.address + i + s)
    (slice_index (section_bytes (object_of l q.file) q.section) i)
byte_stands rests l counts b p ready joined zeros s choice q one written i within outside =
    elim (cases_Bool (is_zerofill (header_at l (id_of q)))) [ inl none ↦ of_none none | inr some ↦ of_some some ]
  where
    of_none : is_zerofill (header_at l (id_of q)) ≡ true → Holds b s choice (q.address + i + s)
        (slice_index (section_bytes (object_of l q.file) q.section) i)
    of_none zerofill =
        let seg = has_segment l counts b p q ready joined one in
        subst (λ (v : ℕ). Holds b s choice (q.address + i + s) v) (sym (no_bytes l q i zerofill))
        (elim (cases_lt (q.address + i) (seg.segment.address + seg.segment.file_size)) [
          | inl in_file ↦
              subst (λ (v : ℕ). Holds b s choice (q.address + i + s) v)
              (zeros.sections q seg.segment (q.address + i) one zerofill seg.one (omega (arith, seg.from)) in_file (omega arith)
              (omega (arith, within)))
              (byte_held rests.memory.texts b seg.segment s choice (q.address + i) seg.back (omega (arith, seg.from)) in_file
              (outside_free l counts b p q i ready joined one within outside))
          | inr behind ↦
              zero_held rests.memory.zeros b seg.segment s choice (q.address + i) seg.back behind (omega (arith, seg.to, within))
              (outside_free l counts b p q i ready joined one within outside)
        ])

    of_some : is_zerofill (header_at l (id_of q)) ≡ false → Holds b s choice (q.address + i + s)
        (slice_index (section_bytes (object_of l q.file) q.section) i)
    of_some some =
        let seg = has_segment l counts b p q ready joined one in
        let filled = written some in
        let to = seg.in_file some (omega (arith, within)) in
        let place = place_in_file p seg.segment q.address ready.order seg.one seg.from (omega (arith, to, within)) in
        let off = offset_in_file p q.address in
        let read : slice_index (bytes_in_file b p q.address (header_at l (id_of q)).size) i ≡ slice_index b (off + i) =
        get_or-between b off (off + (header_at l (id_of q)).size) i 0 (omega (arith, within)) in
        let same : off + i ≡ seg.segment.file_offset + (q.address + i - seg.segment.address) = omega (arith, place, seg.from) in
        let value : slice_index b (seg.segment.file_offset + (q.address + i - seg.segment.address))
        ≡ slice_index (section_bytes (object_of l q.file) q.section) i =
        ap (λ (n : ℕ). slice_index b n) (sym same) ∙ sym read ∙ filled.rest i within outside in
        subst (λ (v : ℕ). Holds b s choice (q.address + i + s) v) value
        (byte_held rests.memory.texts b seg.segment s choice (q.address + i) seg.back (omega (arith, seg.from)) (omega (arith, to, within))
        (outside_free l counts b p q i ready joined one within outside))

-- fields that the loader does not write
pub some_width : (l : Link) (q : PlacedSection) (f : Field) → Contains (fields_of l (id_of q)) f → 1 ≤ f.width
some_width l q f field =
    let n = field_number l (id_of q) f field in
    subst (λ (g : Field). 1 ≤ g.width) n.is (omega (arith, pow_pos (relocation_in l (id_of q) n.number).r_length))

field_free : (l : Link) (counts : Counts) (b : List ℕ) (p : Placed) (q : PlacedSection) (f : Field) → IsReady l counts p → IsJoined l b p
    → Contains p.sections q
    → Contains (fields_of l (id_of q)) f → needs_fixup l (id_of q) f ≡ false → IsFree b (q.address + f.offset) f.width
field_free l counts b p q f ready joined one field plain =
    let carried = placed_is_carried l p q ready.placed.whole_list one in
    section_free l counts b p q f.offset f.width ready.placed.whole_list
    (parts_apart l counts p (apart_of ready.placed)) ready.leads joined.chain one
    (ready.leads.inside (id_of q) f carried field) (some_width l q f field)
    (λ g other needs.
    let wide = (fixed_pointer l (id_of q) g needs).0 in
    elim (fields_apart l (id_of q) f g ready.sound carried field other) [
      | inl same ↦ absurd (true≢false (sym needs ∙ ap (needs_fixup l (id_of q)) (sym same) ∙ plain))
      | inr apart ↦ elim apart [ inl before ↦ inl before | inr behind ↦ inr (omega (arith, behind, wide)) ]
    ])

plain_denotes : (rests : RestsOn) (l : Link) (counts : Counts) (b : List ℕ) (p : Placed) → IsReady l counts p → IsJoined l b p
    → (q : PlacedSection) (f : Field) → Contains p.sections q → SectionIsWritten l b p q → Contains (fields_of l (id_of q)) f
    → needs_fixup l (id_of q) f ≡ false → is_zerofill (header_at l (id_of q)) ≡ false → Denotes l b p 0 empty q f
plain_denotes rests l counts b p ready joined q f one written field plain some =
    let seg = has_segment l counts b p q ready joined one in
    let filled = written some in
    let carried = placed_is_carried l p q ready.placed.whole_list one in
    let inside = ready.leads.inside (id_of q) f carried field in
    let wide = some_width l q f field in
    let to = seg.in_file some (omega (arith, inside, wide)) in
    let place = place_in_file p seg.segment q.address ready.order seg.one seg.from (omega (arith, to, inside, wide)) in
    let off = offset_in_file p q.address in
    let at : ℕ = seg.segment.file_offset + (q.address + f.offset - seg.segment.address) in
    let same : off + f.offset ≡ at = omega (arith, place, seg.from) in
    let word : le_at f.width (bytes_in_file b p q.address (header_at l (id_of q)).size) f.offset ≡ le_at f.width b at =
    le_at-between f.width off (off + (header_at l (id_of q)).size) f.offset b (omega (arith, inside)) ∙ ap (le_at f.width b) same in
    record {
      word = le_at f.width b at;
      held = number_held rests.memory.numbers b seg.segment 0 empty (q.address + f.offset) f.width seg.back (omega (arith, seg.from))
          (omega (arith, to, inside))
          (field_free l counts b p q f ready joined one field plain);
      says = subst (λ (w : ℕ). SaysOf l p 0 empty (id_of q) f (q.address + f.offset + 0) w (content_of l (id_of q) f.relocation)
          (kind_of f.type (is_some f.subtrahend))) word
          (All-contains (FieldIsSet l p q (bytes_in_file b p q.address (header_at l (id_of q)).size))
          (fields_of l (id_of q)) f filled.set field plain);
    }

-- THE section stands.
pub section_stands : (rests : RestsOn) (l : Link) (counts : Counts) (b : List ℕ) (p : Placed) → IsReady l counts p → IsJoined l b p
    → AreZero l b p → (s : ℕ) (choice : Choice)
    → s % SEGMENT_PAGE ≡ 0 → BindsAll b choice → (q : PlacedSection) → Contains p.sections q → SectionIsWritten l b p q
    → SectionStands l b p s choice q
section_stands rests l counts b p ready joined zeros s choice whole binds q one written =
    record {
      bytes = byte_stands rests l counts b p ready joined zeros s choice q one written;
      fields = λ k d lt. of_field (get_or (fields_of l (id_of q)) k d) (All-contains_itself (fields_of l (id_of q)) k d lt);
    }
  where
    plain : (f : Field) → Contains (fields_of l (id_of q)) f → needs_fixup l (id_of q) f ≡ false
        → is_zerofill (header_at l (id_of q)) ≡ false
        → Denotes l b p s choice q f
    plain f field none some =
        let carried = placed_is_carried l p q ready.placed.whole_list one in
        let at_zero = plain_denotes rests l counts b p ready joined q f one written field none some in
        let free = field_free l counts b p q f ready joined one field none in
        elim (field_fits_in l (id_of q) f ready.sound carried field) [
          | inl pointer ↦ rests.slides.plain l b p s empty choice q f pointer.kind
              (plain_pointer l (id_of q) f pointer none) free at_zero
          | inr moves ↦ rests.slides.fields l b p s empty choice q f whole moves free at_zero
        ]

    none_in : (f : Field) (fs : List Field) → fs ≡ [] → Contains fs f → ⊥
    none_in f fs is field = omega (arith, field.1, ap (λ (xs : List Field). length xs) is)

    of_field : (f : Field) → Contains (fields_of l (id_of q)) f → Denotes l b p s choice q f
    of_field f field =
        elim (cases_Bool (needs_fixup l (id_of q) f)) [
          | inl needs ↦ pointer_stands rests l counts b p ready joined s choice binds q f one field needs
          | inr none ↦ elim (cases_Bool (is_zerofill (header_at l (id_of q)))) [
            | inl zerofill ↦
                absurd (none_in f (fields_of l (id_of q)) (ready.leads.zeros (id_of q)
                (placed_is_carried l p q ready.placed.whole_list one) zerofill) field)
            | inr some ↦ plain f field none some
          ]
        ]

-- THE common stands.
pub common_stands : (rests : RestsOn) (l : Link) (counts : Counts) (b : List ℕ) (p : Placed) → IsReady l counts p → IsJoined l b p
    → AreZero l b p → (s : ℕ) (choice : Choice)
    → (c : PlacedCommon) → Contains p.commons c → CommonStands l b s choice c
common_stands rests l counts b p ready joined zeros s choice c one i within =
    let lies =
    All-contains (λ (d : PlacedCommon). LiesInNamed p DATA false (common_span l d)) p.commons c (in_segment_of ready.placed).commons
    one in
    let seg = lies.0 in
    let back = backed l counts b p seg ready joined lies.1 (of_data seg lies.2) in
    let apart = parts_apart l counts p (apart_of ready.placed) in
    let free = part_free l b p (common_span l c) (c.address + i) 1 ready.placed.whole_list ready.leads joined.chain
    (λ q in_q. apart.section_common q c in_q one)
    (λ t in_t. apart_back (common_span l c) (slot_span t) (apart.common_slot c t one in_t)) (omega arith) (omega (arith, within))
    (omega arith) in
    elim (cases_lt (c.address + i) (seg.address + seg.file_size)) [
      | inl in_file ↦
          subst (λ (v : ℕ). Holds b s choice (c.address + i + s) v)
          (zeros.commons c seg (c.address + i) one lies.1 (omega (arith, lies.3.from)) in_file (omega arith) (omega (arith, within)))
          (byte_held rests.memory.texts b seg s choice (c.address + i) back (omega (arith, lies.3.from)) in_file free)
      | inr behind ↦ zero_held rests.memory.zeros b seg s choice (c.address + i) back behind (omega (arith, lies.3.to, within)) free
    ]

-- THE stub stands.
pub stub_stands : (rests : RestsOn) (l : Link) (counts : Counts) (b : List ℕ) (p : Placed) → IsReady l counts p → IsJoined l b p
    → (s : ℕ) (choice : Choice)
    → s % SEGMENT_PAGE ≡ 0 → (stub : Stub) → Contains p.stubs stub → StubIsWritten b p stub → StubStands b p s choice stub
stub_stands rests l counts b p ready joined s choice whole stub one written =
    let lies = All-contains (λ (t : Stub). LiesInNamed p TEXT true (stub_span t)) p.stubs stub (in_segment_of ready.placed).stubs one in
    let seg = lies.0 in
    let back = backed l counts b p seg ready joined lies.1 (of_text seg lies.2) in
    let apart = parts_apart l counts p (apart_of ready.placed) in
    let place = place_in_file p seg stub.address ready.order lies.1 lies.3.from (omega (arith, lies.3.to)) in
    let off = offset_in_file p stub.address in
    let free = λ (k : ℕ) (within : k + 4 ≤ 12). part_free l b p (stub_span stub)
    (stub.address + k) 4 ready.placed.whole_list ready.leads joined.chain
    (λ q in_q. apart.section_stub q stub in_q one) (λ t in_t. apart.slot_stub t stub in_t one) (omega arith) (omega (arith, within))
    (omega arith) in
    let held = λ (k : ℕ) (within : k + 4 ≤ 12). number_held rests.memory.numbers b seg s choice (stub.address + k) 4 back
    (omega (arith, lies.3.from))
    (omega (arith, lies.3.to, within)) (free k within) in
    let word = λ (k : ℕ) (within : k + 4 ≤ 12).
    let same : off + k ≡ seg.file_offset + (stub.address + k - seg.address) = omega (arith, place, lies.3.from) in
    sym (le_at-between 4 off (off + STUB_SIZE) k b (omega (arith, within)) ∙ ap (le_at 4 b) same) in
    let first : stub.address + 0 + s ≡ stub.address + s = omega arith in
    record {
      adrp = le_at 4 (bytes_in_file b p stub.address STUB_SIZE) 0;
      ldr = le_at 4 (bytes_in_file b p stub.address STUB_SIZE) 4;
      br = le_at 4 (bytes_in_file b p stub.address STUB_SIZE) 8;
      held_adrp = subst (λ (x : ℕ). HoldsNumber b s choice 4 x (le_at 4 (bytes_in_file b p stub.address STUB_SIZE) 0)) first
          (subst (λ (w : ℕ). HoldsNumber b s choice 4 (stub.address + 0 + s) w) (word 0 (omega arith)) (held 0 (omega arith)));
      held_ldr = subst (λ (w : ℕ). HoldsNumber b s choice 4 (stub.address + 4 + s) w) (word 4 (omega arith)) (held 4 (omega arith));
      held_br = subst (λ (w : ℕ). HoldsNumber b s choice 4 (stub.address + 8 + s) w) (word 8 (omega arith)) (held 8 (omega arith));
      slot = written.slot + s;
      at = (written.at.0, written.at.1, written.at.2, omega (arith, written.at.3));
      through = rests.stubs stub.address written.slot (le_at 4 (bytes_in_file b p stub.address STUB_SIZE) 0)
          (le_at 4 (bytes_in_file b p stub.address STUB_SIZE) 4)
          (le_at 4 (bytes_in_file b p stub.address STUB_SIZE) 8) s written.through whole;
    }
