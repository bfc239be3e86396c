-- Sections stay filled, and stubs set, when the words of the loader are written over them.
--
-- A byte that no word covers stays. Outside fields there is none; a field that the loader does not write is apart from those that it
-- does; and a stub has none. So these bytes are the same, and so are the numbers that they make.
use Rattle.std.proofs.Common.{◌≡◌, ℕ, ◌+◌, ◌-◌, ◌<◌, ◌≤◌, ◌⊎◌, ◌==◌, ◌&&◌, not, Bool, true, false, List, length, get_or, drop, slice_index, refl, sym, ap, subst, ◌∙◌, arith, inl, inr, All}
use Rattle.std.specs.Prelude.{Contains, is_some}
use Rattle.std.proofs.lemmas.Bool.{true≢false, ne_eqb}
use Rattle.std.proofs.lemmas.List.{length-take, length-drop}
use Rattle.std.proofs.lemmas.List.Edits.{get_or-between}
use Rattle.std.proofs.lemmas.List.Elements.{All-contains, All-contains_itself}
use Rattle.std.specs.FinMap.{empty}
use Rattle.macho_bytes.specs.Numbers.{le_at}
use Rattle.macho_bytes.proofs.Reading.{little_is_local}
use Rattle.macho_records.specs.Sections.{is_zerofill}
use Rattle.macho_model.specs.declared.placed.Counts.{Counts}
use Rattle.macho_model.specs.declared.placed.PlacedSegment.{PlacedSegment}
use Rattle.macho_model.specs.declared.placed.PlacedSection.{PlacedSection}
use Rattle.macho_model.specs.declared.placed.Stub.{Stub}
use Rattle.macho_model.specs.Links.{Link, header_at}
use Rattle.macho_model.specs.Fields.{Field, fields_of, content_of}
use Rattle.macho_model.specs.Segments.{TEXT}
use Rattle.macho_model.specs.WrittenSum.{STUB_SIZE}
use Rattle.macho_model.specs.Placement.{Placed, id_of}
use Rattle.macho_model.specs.Spans.{section_span, stub_span, IsOutsideField}
use Rattle.macho_model.specs.steps.Parts.{LiesIn, LiesInNamed, SectionLies}
use Rattle.macho_model.specs.Addresses.{offset_in_file}
use Rattle.macho_model.specs.Needs.{POINTER_SIZE}
use Rattle.macho_model.specs.Fixups.{IsFixupPlace}
use Rattle.macho_model.specs.Meaning.{GoesThrough}
use Rattle.macho_model.specs.Stands.{kind_of}
use Rattle.macho_model.specs.steps.Stands.{SaysOf}
use Rattle.macho_model.specs.Values.{needs_fixup}
use Rattle.macho_fixups.specs.declared.run.Fixup.{Fixup}
use Rattle.macho_fixups.specs.Laws.{BytesStay}
use Rattle.macho_promise.specs.FixupsSay.{fixup_segments}
use Rattle.macho_promise.specs.steps.Segments.{fixup_segment}
use Rattle.macho_promise.specs.Filled.{FieldIsSet, bytes_in_file}
use Rattle.macho_image_laws.specs.Leads.{TargetsLead}
use Rattle.macho_image_laws.specs.Laws.{IsPlacedLink, WordsAreWritten, SectionsStayFilled, StubsStaySet}
use Rattle.macho_image_laws.proofs.Run.{place_of_fixup}
use Rattle.macho_image_laws.proofs.Fits.{fields_apart, fixed_pointer}
use Rattle.macho_image_laws.proofs.Apart.{parts_apart, placed_is_carried, part_apart, section_apart}
use Rattle.macho_image_laws.proofs.Held.{place_in_file}
use Rattle.macho_image_laws.proofs.Leading.{link_leads}
use Rattle.macho_model.proofs.Parts.{apart_of, in_segment_of}
use Rattle.macho_bytes.proofs.Members.{contains_map}

leads_of : (l : Link) (counts : Counts) (p : Placed) → IsPlacedLink l counts p → TargetsLead l
leads_of l counts p link = link_leads l link.objects link.sound.relocations link.personalities

-- The segment of what has bytes in the file.
pub record HasFilePart (p : Placed) (address size : ℕ) : Type 0 where
  pub segment : PlacedSegment
  pub one : Contains p.segments segment
  pub from : segment.address ≤ address
  pub to : address + size ≤ segment.address + segment.file_size

section_part : (l : Link) (counts : Counts) (p : Placed) (q : PlacedSection) → IsPlacedLink l counts p → Contains p.sections q
    → is_zerofill (header_at l (id_of q)) ≡ false → 1 ≤ (header_at l (id_of q)).size → HasFilePart p q.address (header_at l (id_of q)).size
section_part l counts p q link one filled some =
    let lies = All-contains (SectionLies l p) p.sections q (in_segment_of link.placed).sections one in
    let other : ((header_at l (id_of q)).size == 0) ≡ false = ne_eqb (header_at l (id_of q)).size 0 (λ e. omega (arith, some, e)) in
    let flag : (not (is_zerofill (header_at l (id_of q))) && not ((header_at l (id_of q)).size == 0)) ≡ true = rw (filled, other) refl in
    let in_part = subst (λ (t : Bool). LiesIn t (section_span l q) lies.0) flag lies.3 in
    record { segment = lies.0; one = (q.segment, lies.1.0, lies.1.1); from = in_part.from; to = in_part.to }

-- a byte that is apart from all words stays
byte_stays : BytesStay → (l : Link) (p : Placed) (fixups : List Fixup) (before now : List ℕ) (address size i : ℕ)
    → WordsAreWritten l p fixups before now
    → HasFilePart p address size → i < size
    → ((word_at : ℕ) → IsFixupPlace l p word_at → (address + i + 1 ≤ word_at) ⊎ (word_at + POINTER_SIZE ≤ address + i))
    → slice_index (bytes_in_file now p address size) i ≡ slice_index (bytes_in_file before p address size) i
byte_stays stay l p fixups before now address size i w h within apart =
    let s = h.segment in
    let place = place_in_file p s address w.order h.one h.from (omega (arith, h.to, within)) in
    let off = offset_in_file p address in
    let at : off + i ≡ s.file_offset + (address + i - s.address) = omega (arith, place, h.from) in
    let same = stay (fixup_segments p) fixups before now (fixup_segment s) (address + i)
    (record { order = w.order; run = w.run; written = w.written })
    (contains_map fixup_segment p.segments s h.one) (omega (arith, h.from)) (omega (arith, h.to, within))
    (λ k d lt. elim (apart (get_or fixups k d).address (place_of_fixup l p (get_or fixups k d) (w.each k d lt))) [
      | inl ahead ↦ inl (omega (arith, ahead))
      | inr behind ↦ inr behind
    ]) in
    get_or-between now off (off + size) i 0 (omega (arith, within)) ∙ ap (λ (n : ℕ). slice_index now n) at ∙ same
    ∙ ap (λ (n : ℕ). slice_index before n) (sym at)
    ∙ sym (get_or-between before off (off + size) i 0 (omega (arith, within)))

-- texts of one range have one length
same_length : (p : Placed) (before now : List ℕ) (address size : ℕ) → length now ≡ length before
    → length (bytes_in_file now p address size) ≡ length (bytes_in_file before p address size)
same_length p before now address size same =
    let off = offset_in_file p address in
    omega (
      arith,
      length-take (off + size - off) (drop off now),
      length-take (off + size - off) (drop off before),
      length-drop off now,
      length-drop off before,
      same,
    )

-- a field that the loader does not write is apart from those that it does
field_beside : (l : Link) (counts : Counts) (p : Placed) (q : PlacedSection) (f g : Field) → IsPlacedLink l counts p → Contains p.sections q
    → Contains (fields_of l (id_of q)) f → needs_fixup l (id_of q) f ≡ false → Contains (fields_of l (id_of q)) g
    → needs_fixup l (id_of q) g ≡ true
    → (f.offset + f.width ≤ g.offset) ⊎ (g.offset + POINTER_SIZE ≤ f.offset)
field_beside l counts p q f g link one field plain other needs =
    let wide = (fixed_pointer l (id_of q) g needs).0 in
    elim (fields_apart l (id_of q) f g link.sound.relocations (placed_is_carried l p q link.placed.whole_list one) field other) [
      | inl same ↦ absurd (true≢false (sym needs ∙ ap (needs_fixup l (id_of q)) (sym same) ∙ plain))
      | inr apart ↦ elim apart [ inl before ↦ inl before | inr behind ↦ inr (omega (arith, behind, wide)) ]
    ]

-- THE section stays filled.
pub sections_stay_filled : BytesStay → SectionsStayFilled
sections_stay_filled stay l counts p fixups before now q link w one some filled =
    record {
      long = same_length p before now q.address size w.written.size ∙ filled.long;
      rest = λ i within outside. outside_byte i within outside ∙ filled.rest i within outside;
      set = λ k d lt. of_field (get_or (fields_of l (id_of q)) k d) (All-contains_itself (fields_of l (id_of q)) k d lt)
          (filled.set k d lt);
    }
  where
    size : ℕ
    size = (header_at l (id_of q)).size

    outside_byte : (i : ℕ) → i < (header_at l (id_of q)).size → All (IsOutsideField i) (fields_of l (id_of q))
        → slice_index (bytes_in_file now p q.address (header_at l (id_of q)).size) i
        ≡ slice_index (bytes_in_file before p q.address (header_at l (id_of q)).size) i
    outside_byte i within outside =
        byte_stays stay l p fixups before now q.address (header_at l (id_of q)).size i w
        (section_part l counts p q link one some (omega (arith, within))) within
        (section_apart l counts p q i 1 link.placed.whole_list (parts_apart l counts p (apart_of link.placed))
        (leads_of l counts p link) one
        (omega (arith, within)) (omega arith)
        (λ f field needs.
        let wide = (fixed_pointer l (id_of q) f needs).0 in
        elim (All-contains (IsOutsideField i) (fields_of l (id_of q)) f outside field)
        [ inl ahead ↦ inl ahead | inr behind ↦ inr (omega (arith, behind, wide)) ]))

    field_byte : (f : Field) → Contains (fields_of l (id_of q)) f → needs_fixup l (id_of q) f ≡ false → (k : ℕ) → k < f.width
        → slice_index (bytes_in_file now p q.address (header_at l (id_of q)).size) (f.offset + k)
        ≡ slice_index (bytes_in_file before p q.address (header_at l (id_of q)).size) (f.offset + k)
    field_byte f field plain k within =
        let leads = leads_of l counts p link in
        let inside = leads.inside (id_of q) f (placed_is_carried l p q link.placed.whole_list one) field in
        byte_stays stay l p fixups before now q.address (header_at l (id_of q)).size (f.offset + k) w
        (section_part l counts p q link one some (omega (arith, inside, within))) (omega (arith, inside, within))
        (section_apart l counts p q (f.offset + k) 1 link.placed.whole_list (parts_apart l counts p (apart_of link.placed)) leads one
        (omega (arith, inside, within))
        (omega arith)
        (λ g other needs. elim (field_beside l counts p q f g link one field plain other needs) [
          | inl ahead ↦ inl (omega (arith, ahead, within))
          | inr behind ↦ inr (omega (arith, behind))
        ]))

    of_field : (f : Field) → Contains (fields_of l (id_of q)) f → FieldIsSet l p q
        (bytes_in_file before p q.address (header_at l (id_of q)).size) f
        → FieldIsSet l p q (bytes_in_file now p q.address (header_at l (id_of q)).size) f
    of_field f field was plain =
        let same : le_at f.width (bytes_in_file before p q.address (header_at l (id_of q)).size) f.offset
        ≡ le_at f.width (bytes_in_file now p q.address (header_at l (id_of q)).size) f.offset =
        little_is_local.alike f.width (bytes_in_file before p q.address (header_at l (id_of q)).size)
        (bytes_in_file now p q.address (header_at l (id_of q)).size)
        f.offset f.offset (λ k within. sym (field_byte f field plain k within)) in
        subst (λ (word : ℕ). SaysOf l p 0 empty (id_of q) f (q.address + f.offset + 0) word (content_of l (id_of q) f.relocation)
        (kind_of f.type (is_some f.subtrahend))) same
        (was plain)

-- THE stub stays set.
pub stubs_stay_set : BytesStay → StubsStaySet
stubs_stay_set stay l counts p fixups before now stub link w one was =
    record {
      long = same_length p before now stub.address STUB_SIZE w.written.size ∙ was.long;
      slot = was.slot;
      at = was.at;
      through = subst (λ (n : ℕ). GoesThrough stub.address was.slot (le_at 4 (bytes_in_file now p stub.address STUB_SIZE) 0)
          (le_at 4 (bytes_in_file now p stub.address STUB_SIZE) 4) n)
          (same 8 (omega arith))
          (subst (λ (n : ℕ). GoesThrough stub.address was.slot (le_at 4 (bytes_in_file now p stub.address STUB_SIZE) 0) n
          (le_at 4 (bytes_in_file before p stub.address STUB_SIZE) 8))
          (same 4 (omega arith))
          (subst (λ (n : ℕ). GoesThrough stub.address was.slot n (le_at 4 (bytes_in_file before p stub.address STUB_SIZE) 4)
          (le_at 4 (bytes_in_file before p stub.address STUB_SIZE) 8))
          (same 0 (omega arith)) was.through));
    }
  where
    part : HasFilePart p stub.address STUB_SIZE
    part =
        let lies = All-contains (λ (t : Stub). LiesInNamed p TEXT true (stub_span t)) p.stubs stub (in_segment_of link.placed).stubs one in
        record { segment = lies.0; one = lies.1; from = lies.3.from; to = lies.3.to }

    byte : (i : ℕ) → i < STUB_SIZE → slice_index (bytes_in_file now p stub.address STUB_SIZE) i
        ≡ slice_index (bytes_in_file before p stub.address STUB_SIZE) i
    byte i within =
        let apart = parts_apart l counts p (apart_of link.placed) in
        byte_stays stay l p fixups before now stub.address STUB_SIZE i w part within
        (part_apart l p (stub_span stub) (stub.address + i) 1 link.placed.whole_list (leads_of l counts p link)
        (λ q in_q. apart.section_stub q stub in_q one)
        (λ t in_t. apart.slot_stub t stub in_t one) (omega arith) (omega (arith, within)) (omega arith))

    same : (k : ℕ) → k + 4 ≤ STUB_SIZE → le_at 4 (bytes_in_file before p stub.address STUB_SIZE) k
        ≡ le_at 4 (bytes_in_file now p stub.address STUB_SIZE) k
    same k fits =
        little_is_local.alike 4 (bytes_in_file before p stub.address STUB_SIZE) (bytes_in_file now p stub.address STUB_SIZE) k k
        (λ i within. sym (byte (k + i) (omega (arith, fits, within))))
