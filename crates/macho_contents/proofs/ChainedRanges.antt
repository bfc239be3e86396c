-- The word of a fixup of a link lies in the range of its slot, or of its section.
--
-- Slots and sections with bytes lie in the file part of a segment, so an address in one of them is in the file as far from the segment's
-- place as it is from the segment's address. A pointer's eight bytes lie in its section.
use Rattle.std.proofs.Common.{◌≡◌, ℕ, ◌+◌, ◌-◌, ◌≤◌, ◌==◌, ◌&&◌, not, if◌then◌else◌, Bool, true, false, map, refl, ap, arith}
use Rattle.std.specs.Prelude.{Contains}
use Rattle.std.proofs.lemmas.List.Elements.{All-contains, Contains-append_left, Contains-append_right}
use Rattle.macho_records.specs.Sections.{is_zerofill}
use Rattle.macho_model.specs.declared.placed.Counts.{Counts}
use Rattle.macho_model.specs.declared.placed.PlacedSection.{PlacedSection}
use Rattle.macho_model.specs.declared.placed.PlacedSegment.{PlacedSegment}
use Rattle.macho_model.specs.declared.placed.Slot.{Slot}
use Rattle.macho_model.specs.Links.{Link, header_at}
use Rattle.macho_model.specs.Segments.{DATA_CONST}
use Rattle.macho_model.specs.Placement.{Placed, id_of}
use Rattle.macho_model.specs.Zeros.{Span}
use Rattle.macho_model.specs.Spans.{section_span, slot_span, filled_sections, in_file}
use Rattle.macho_model.specs.steps.Parts.{SectionLies, LiesInNamed}
use Rattle.macho_fixups.specs.Chains.{place_of}
use Rattle.macho_fixups.proofs.RunChain.{place_in}
use Rattle.macho_promise.specs.FixupsSay.{slot, pointer, fixup_segments}
use Rattle.macho_promise.specs.steps.Segments.{fixup_segment}
use Rattle.macho_bytes.proofs.Members.{contains_map, contains_filter}
use Rattle.macho_image_laws.proofs.Apart.{placed_is_carried}
use Rattle.macho_image_laws.proofs.Held.{place_in_file}
use Rattle.macho_contents.specs.Chaining.{CanBeChained}
use Rattle.macho_contents.specs.ChainingLaws.{word_ranges, WordLiesIn, WordsLieInRanges}
use Rattle.macho_model.proofs.Parts.{in_segment_of}
use Rattle.macho_linkedit.proofs.SortedRun.{in_file as file_part}

-- a word in a range of addresses that lies in a segment's file part lies in that range of the file
lies : (l : Link) (counts : Counts) (p : Placed) (s : PlacedSegment) (m : Span) (a : ℕ) → CanBeChained l counts p → Contains p.segments s
    → s.address ≤ m.start → m.start + m.size ≤ s.address + s.file_size → m.start ≤ a → a + 8 ≤ m.start + m.size
    → WordLiesIn (place_of (fixup_segments p) a) (in_file p m)
lies l counts p s m a can one from to first last =
    let place : place_of (fixup_segments p) a ≡ s.file_offset + (a - s.address) =
    place_in (fixup_segments p) (fixup_segment s) a can.segments (contains_map fixup_segment p.segments s one)
    (omega (arith, from, first), omega (arith, last, to)) in
    let begin = place_in_file p s m.start can.segments one from (omega (arith, to, first, last)) in
    record { from = omega (arith, place, begin, from, first); to = omega (arith, place, begin, from, first, last) }

-- THE law.
pub words_lie : WordsLieInRanges
unfolding word_ranges
words_lie l counts p _ can (slot s one) =
    let held = All-contains (λ (t : Slot). LiesInNamed p DATA_CONST true (slot_span t)) p.slots s (in_segment_of can.placed.placed).slots
    one in (
      in_file p (slot_span s),
      Contains-append_right (map (λ (q : PlacedSection). in_file p (section_span l q)) (filled_sections l p))
          (map (λ (t : Slot). in_file p (slot_span t)) p.slots) (in_file p (slot_span s))
          (contains_map (λ (t : Slot). in_file p (slot_span t)) p.slots s one),
      lies l counts p held.0 (slot_span s) s.address can held.1 held.3.from held.3.to (omega arith) (omega arith),
    )
words_lie l counts p _ can (pointer q f one there needs) =
    let inside = can.pointers.inside (id_of q) f (placed_is_carried l p q can.placed.placed.whole_list one) there needs in
    let held = All-contains (SectionLies l p) p.sections q (in_segment_of can.placed.placed).sections one in
    let part = file_part (is_zerofill (header_at l (id_of q))) (header_at l (id_of q)).size held.0.file_size held.0.size inside.1
    (omega (arith, inside.0)) in
    let filled : Contains (filled_sections l p) q =
    contains_filter (λ (r : PlacedSection). not (is_zerofill (header_at l (id_of r)))) p.sections q one (ap not inside.1) in (
      in_file p (section_span l q),
      Contains-append_left (map (λ (r : PlacedSection). in_file p (section_span l r)) (filled_sections l p))
          (map (λ (t : Slot). in_file p (slot_span t)) p.slots) (in_file p (section_span l q))
          (contains_map (λ (r : PlacedSection). in_file p (section_span l r)) (filled_sections l p) q filled),
      lies l counts p held.0 (section_span l q) (q.address + f.offset) can (q.segment, held.1.0, held.1.1) held.3.from
          (omega (arith, held.3.to, part)) (omega arith) (omega (arith, inside.0)),
    )
