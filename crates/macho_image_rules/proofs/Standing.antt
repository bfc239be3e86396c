-- The sections of a placed link, in the segments of an image.
--
-- A placed section is carried, so it is one of an object of the link, which is viewed. By the placement it lies in the segment of its
-- number, which has the name that the section asks for. A carried section never asks for `__PAGEZERO`; so where the section has bytes, its
-- segment has some in memory, and the image has mapped it. A view that is there shows the bytes of the link's object.
use Rattle.std.proofs.Common.{◌≡◌, ℕ, ◌+◌, ◌<◌, ◌≤◌, ◌==◌, ◌&&◌, not, if◌then◌else◌, true, false, Bool, List, get_or, refl, sym, ap, subst, ◌∙◌, arith, Option, Some, None}
use Rattle.std.specs.Prelude.{Contains}
use Rattle.std.proofs.lemmas.Bool.Decides.{nat_tests}
use Rattle.std.proofs.lemmas.List.{get_or_default, get_or-map}
use Rattle.macho_records.specs.Sections.{is_zerofill}
use Rattle.macho_records.specs.declared.header.SectionHeader.{SectionHeader}
use Rattle.macho_model.specs.declared.placed.Counts.{Counts}
use Rattle.macho_model.specs.declared.placed.PlacedSection.{PlacedSection}
use Rattle.macho_model.specs.declared.placed.PlacedSegment.{PlacedSegment}
use Rattle.macho_model.specs.Objects.{num_sections, section_at}
use Rattle.macho_model.specs.Links.{Object, Link, SectionId, no_input, header_at, is_carried, sections_of, carried_of}
use Rattle.macho_model.specs.Placement.{Placed, IsPlaced, IsPaged, SectionLies, id_of}
use Rattle.macho_bytes.proofs.Comparing.{same_some}
use Rattle.macho_bytes.proofs.Members.{all_contains, contains_all, contains_map, filter_contains}
use Rattle.macho_object.specs.Views.{FileBytes}
use Rattle.macho_promise.specs.Views.{object_view, views_of}
use Rattle.macho_placed_laws.proofs.OfLink.{IsSectionOf, section_of}
use Rattle.macho_image_rules.specs.Segments.{SegmentsAre}
use Rattle.macho_image_rules.specs.Bytes.{IsMapped}
use Rattle.macho_image_rules.specs.Walks.{SectionStands, PlacedSectionsStand}
use Rattle.macho_image_rules.proofs.Mapped.{placed_is_mapped}
use Rattle.macho_image_rules.proofs.Elsewhere.{carried_lie_elsewhere}

-- the end of a section is no later than that of the segment that holds it
held_whole : (b : Bool) (s : PlacedSegment) (start size : ℕ) → s.file_size ≤ s.size
    → start + size ≤ s.address + (if b then s.file_size else s.size) → start + size ≤ s.address + s.size
held_whole true s start size less to = omega (arith, less, to)
held_whole false s start size less to = to

-- and so is that of one with bytes in the file and the segment's file part
held_filed : (s : PlacedSegment) (h : SectionHeader) (start : ℕ)
    → start + h.size ≤ s.address + (if not (is_zerofill h) && not (h.size == 0) then s.file_size else s.size)
    → is_zerofill h ≡ false → 0 < h.size → start + h.size ≤ s.address + s.file_size
held_filed s h start to filled some =
    let sized : (h.size == 0) ≡ false = grind (arith, nat_tests) in
    let filed : (not (is_zerofill h) && not (h.size == 0)) ≡ true = rw (filled, sized) refl in
    subst (λ (b : Bool). start + h.size ≤ s.address + (if b then s.file_size else s.size)) filed to

section_stands : (l : Link) (counts : Counts) (b : List ℕ) (p : Placed) (q : PlacedSection) → IsPlaced l counts p → SegmentsAre b p
    → Contains p.sections q → Contains (carried_of l) (id_of q) → IsSectionOf l (id_of q) → SectionStands (views_of l) b p q
section_stands l counts b p q placed are here carried of =
    let lies = all_contains (SectionLies l p) p.sections q placed.in_segment.sections here in
    let s : PlacedSegment = lies.0 in
    let there : Contains p.segments s = (q.segment, (lies.1).0, (lies.1).1) in
    let paged = all_contains IsPaged p.segments s placed.paged there in
    let size : (header_at l (id_of q)).size ≡ (section_at of.bytes q.section).size =
    ap (λ (o : List ℕ). (section_at o q.section).size) of.object in
    let to = held_whole (not (is_zerofill (header_at l (id_of q))) && not ((header_at l (id_of q)).size == 0)) s q.address
    (header_at l (id_of q)).size paged.file_size (lies.3).1 in
    record {
      file = record { bytes = of.bytes; is_dynamic = false };
      viewed = get_or-map object_view l.inputs q.file no_input None of.input.0
          ∙ ap object_view (get_or_default l.inputs q.file no_input (Object of.bytes) of.input.0 ∙ of.input.1);
      static = refl;
      among = of.section;
      segment = s;
      number = lies.1;
      mapped = λ some.
          placed_is_mapped b p s are there (omega (arith, some, size, to, (lies.3).0)) (carried_lie_elsewhere l q s carried lies.2);
      from = (lies.3).0;
      to = omega (arith, size, to);
      filed = subst (λ (h : SectionHeader). is_zerofill h ≡ false → 0 < h.size → q.address + h.size ≤ s.address + s.file_size)
          (ap (λ (o : List ℕ). section_at o q.section) of.object)
          (held_filed s (header_at l (id_of q)) q.address (lies.3).1);
    }

-- THE sections of a placed link.
pub placed_stand : PlacedSectionsStand
unfolding carried_of
placed_stand l counts b p placed are =
    contains_all (SectionStands (views_of l) b p) p.sections (λ q here.
    let listed = contains_map id_of p.sections q here in
    let carried = subst (λ (ss : List SectionId). Contains ss (id_of q)) placed.whole_list.sections listed in
    section_stands l counts b p q placed are here carried
    (section_of l (id_of q) (filter_contains (λ (s : SectionId). is_carried (header_at l s)) (sections_of l) (id_of q) carried).0))

-- A section of a viewed object lies so in a segment.
pub record HeldIn (b : List ℕ) (q : PlacedSection) (f : FileBytes) (s : PlacedSegment) : Type 0 where
  pub mapped : 0 < (section_at f.bytes q.section).size → IsMapped b s
  pub to : q.address + (section_at f.bytes q.section).size ≤ s.address + s.size
  pub filed : is_zerofill (section_at f.bytes q.section) ≡ false → 0 < (section_at f.bytes q.section).size
      → q.address + (section_at f.bytes q.section).size ≤ s.address + s.file_size

-- it does in the segment of its number, as its view shows it
pub held_in : (views : List (Option FileBytes)) (b : List ℕ) (p : Placed) (q : PlacedSection) (f : FileBytes) (s : PlacedSegment)
    → SectionStands views b p q → get_or views q.file None ≡ Some f → s ≡ get_or p.segments q.segment s → HeldIn b q f s
held_in views b p q f s stands seen at =
    let file : stands.file ≡ f = same_some _ stands.file f stands.viewed seen in
    let segment : stands.segment ≡ s =
    sym stands.number.1 ∙ get_or_default p.segments q.segment stands.segment s stands.number.0 ∙ sym at in
    subst (λ (g : FileBytes). HeldIn b q g s) file
    (subst (HeldIn b q stands.file) segment (record { mapped = stands.mapped; to = stands.to; filed = stands.filed }))

-- its view is of an object that has it
pub view_static : (views : List (Option FileBytes)) (b : List ℕ) (p : Placed) (q : PlacedSection) (f : FileBytes)
    → SectionStands views b p q → get_or views q.file None ≡ Some f → (f.is_dynamic ≡ false) × (q.section < num_sections f.bytes)
view_static views b p q f stands seen =
    subst (λ (g : FileBytes). (g.is_dynamic ≡ false) × (q.section < num_sections g.bytes))
    (same_some _ stands.file f stands.viewed seen) (stands.static, stands.among)
