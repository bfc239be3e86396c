-- What has a place in a link has an address between the base and 2 ^ 64.
--
-- A place in a section is no further than the section's end, which is no further than that of its segment; and a common lies in
-- `__DATA`. Segments end below 2 ^ 64. Nothing of the link stands below the base.
use Rattle.std.proofs.Common.{◌≡◌, ℕ, ◌+◌, ◌^◌, ◌<◌, inl, inr, ◌&&◌, ◌==◌, not, false, ap, ◌∙◌, arith}
use Rattle.std.specs.Prelude.{Contains}
use Rattle.macho_bytes.proofs.Members.{all_contains}
use Rattle.macho_records.specs.Sections.{is_zerofill}
use Rattle.macho_model.specs.declared.placed.Counts.{Counts}
use Rattle.macho_model.specs.declared.placed.PlacedCommon.{PlacedCommon}
use Rattle.macho_model.specs.declared.placed.PlacedSection.{PlacedSection}
use Rattle.macho_model.specs.declared.placed.PlacedSegment.{PlacedSegment}
use Rattle.macho_model.specs.declared.targets.Target.{Target}
use Rattle.macho_model.specs.declared.targets.Target.TheVariants as target
use Rattle.macho_model.specs.Links.{Link, SectionId, section_id, header_at}
use Rattle.macho_model.specs.Targets.{is_import}
use Rattle.macho_model.specs.Segments.{DATA}
use Rattle.macho_model.specs.Placement.{Placed, IsPlaced, id_of}
use Rattle.macho_model.specs.Spans.{common_span}
use Rattle.macho_model.specs.steps.Parts.{SectionLies, LiesInNamed}
use Rattle.macho_layout_laws.specs.Laws.{NonePasses}
use Rattle.macho_placed_laws.specs.Targets.{IsOfLink}
use Rattle.macho_placed_laws.proofs.Places.{section_place, common_place}
use Rattle.macho_placed_laws.proofs.Above.{targets_above}
use Rattle.macho_image_laws.specs.Leads.{HasPlace}
use Rattle.macho_writing_laws.specs.Targets.{PlacesAreLow, PlacesAreAbove}
use Rattle.macho_writing_laws.proofs.Placed.{things_listed}
use Rattle.macho_writing_laws.proofs.Segments.{base_is, segment_ends}
use Rattle.macho_writing_laws.proofs.Tables.{in_memory, file_below}
use Rattle.macho_model.proofs.Parts.{in_segment_of}

-- a segment ends below 2 ^ 64
below : (l : Link) (counts : Counts) (p : Placed) (s : PlacedSegment) → IsPlaced l counts p → NonePasses l counts p → Contains p.segments s
    → s.address + s.size < 2 ^ 64
below l counts p s placed within has =
    let end = segment_ends l counts p s placed within has in
    elim (base_is l counts p placed) [ inl zero_base ↦ omega (arith, end, zero_base) | inr high ↦ omega (arith, end, high) ]

-- so does a section
pub section_low : (l : Link) (counts : Counts) (p : Placed) (q : PlacedSection) → IsPlaced l counts p → NonePasses l counts p
    → Contains p.sections q → q.address + (header_at l (id_of q)).size < 2 ^ 64
section_low l counts p q placed within has =
    let lies = all_contains (SectionLies l p) p.sections q (in_segment_of placed).sections has in
    let s : PlacedSegment = lies.0 in
    let one : Contains p.segments s = (q.segment, lies.1.0, lies.1.1) in
    let memory = in_memory (not (is_zerofill (header_at l (id_of q))) && not ((header_at l (id_of q)).size == 0)) s.file_size s.size
    (file_below l counts p s placed one) in
    omega (arith, lies.3.to, memory, below l counts p s placed within one)

pub common_low : (l : Link) (counts : Counts) (p : Placed) (c : PlacedCommon) → IsPlaced l counts p → NonePasses l counts p
    → Contains p.commons c → c.address < 2 ^ 64
common_low l counts p c placed within has =
    let lies = all_contains (λ x. LiesInNamed p DATA false (common_span l x)) p.commons c (in_segment_of placed).commons has in
    omega (arith, lies.3.to, below l counts p lies.0 placed within lies.1)

pub places_low : PlacesAreLow
places_low l counts p (target.Section file section offset) whole within has =
    let q = section_place l p file section (things_listed l counts p whole) has.0 in
    let same : id_of q.0 ≡ section_id file section = ap (λ (f : ℕ). section_id f q.0.section) q.2 ∙ ap (section_id file) q.3 in
    let low = section_low l counts p q.0 whole.placed within q.1 in
    omega (arith, low, q.4, has.1, ap (λ (s : SectionId). (header_at l s).size) same)
places_low l counts p (target.Common id) whole within has =
    let c = common_place l p id (things_listed l counts p whole) has in
    omega (arith, common_low l counts p c.0 whole.placed within c.1, c.3)
places_low l counts p (target.Import id) whole within has = omega arith
places_low l counts p target.Base whole within has = elim (base_is l counts p whole.placed) [
  | inl zero_base ↦ omega (arith, zero_base)
  | inr high ↦ omega (arith, high)
]
places_low l counts p (target.Absolute value) whole within has = absurd has
places_low l counts p target.None whole within has = absurd has

-- what has a place and is no import is of the link
pub of_link : (l : Link) (t : Target) → HasPlace l t → is_import t ≡ false → IsOfLink l t
of_link l (target.Section file section offset) has own = has.0
of_link l (target.Common id) has own = has
of_link l (target.Import id) has own = cc
of_link l target.Base has own = tt
of_link l (target.Absolute value) has own = absurd has
of_link l target.None has own = absurd has

pub places_above : PlacesAreAbove
places_above l counts p t whole has own = targets_above l counts p t whole.placed (things_listed l counts p whole) (of_link l t has own)
