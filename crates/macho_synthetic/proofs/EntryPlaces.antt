-- Where entries stand in a placement.
--
-- The section that a function starts in is carried, so it is placed, at the base or above it; it lies in a segment, which ends below
-- 2^64, as the written sum bounds all segments. So the function lies between, and so does language data.
use Rattle.std.proofs.Common.{◌≡◌, ℕ, ◌+◌, ◌-◌, ◌^◌, ◌<◌, ◌≤◌, inl, inr, ◌==◌, ◌&&◌, not, Bool, true, false, List, [], ◌∷◌, ap, ◌∙◌, arith}
use Rattle.std.specs.Prelude.{Contains, slice_get}
use Rattle.std.proofs.lemmas.Bool.{cases_lt}
use Rattle.macho_bytes.proofs.Members.{all_contains}
use Rattle.macho_records.specs.Sections.{is_zerofill}
use Rattle.macho_model.specs.declared.placed.Counts.{Counts}
use Rattle.macho_model.specs.declared.placed.PlacedSection.{PlacedSection}
use Rattle.macho_model.specs.declared.placed.PlacedSegment.{PlacedSegment}
use Rattle.macho_model.specs.declared.targets.Target.TheVariants as target
use Rattle.macho_model.specs.Links.{Link, SectionId, header_at, carried_of}
use Rattle.macho_model.specs.Needs.{section_named}
use Rattle.macho_model.specs.WrittenSum.{written_sum_of}
use Rattle.macho_model.specs.Consumed.{EntryId, entries_of_link, relocations_in_entry, unwind_entry, holds_functions, START_PLACE, LSDA_PLACE}
use Rattle.macho_model.specs.Placement.{Placed, id_of}
use Rattle.macho_model.specs.steps.Parts.{SectionLies, LiesIn}
use Rattle.macho_model.specs.Spans.{section_span}
use Rattle.macho_model.specs.Addresses.{section_address}
use Rattle.macho_promise.specs.UnwindSays.{moved, start_of, resolved}
use Rattle.macho_placed_laws.proofs.Places.{section_place}
use Rattle.macho_placed_laws.proofs.Above.{targets_above}
use Rattle.macho_synthetic.specs.Made.{IsToMake}
use Rattle.macho_synthetic.proofs.OffsetTexts.{lists_all, base_low}
use Rattle.macho_synthetic.proofs.EntryFacts.{HasStart, has_start, has_data, lies_from, lies_below, lies_up_to}
use Rattle.macho_model.proofs.Parts.{in_segment_of}

-- Where a byte of the input is placed.
pub record IsMoved (l : Link) (p : Placed) (f : SectionId) (offset at : ℕ) : Type 0 where
  pub q : PlacedSection
  pub has : Contains p.sections q
  pub id : id_of q ≡ f
  pub address : q.address ≡ section_address p f.file f.section
  pub is : at ≡ q.address + offset
  pub above : p.base ≤ q.address

id_made : (q : PlacedSection) (f : SectionId) → q.file ≡ f.file → q.section ≡ f.section → id_of q ≡ f
id_made q f file section = λ i. record { file = file i; section = section i }

pub placed_at : (l : Link) (counts : Counts) (p : Placed) (f : SectionId) (offset : ℕ) → IsToMake l counts p → Contains (carried_of l) f
    → IsMoved l p f offset (section_address p f.file f.section + offset)
placed_at l counts p f offset make carried =
    let lists = lists_all l counts p make in
    let q = section_place l p f.file f.section lists carried in
    let up = targets_above l counts p (target.Section f.file f.section 0) make.placed.placed lists carried in
    record {
      q = q.0;
      has = q.1;
      id = id_made q.0 f q.2 q.3;
      address = q.4;
      is = omega (arith, q.4);
      above = omega (arith, up, q.4);
    }

-- a bound that isn't reached
not_reached : (n m : ℕ) → (n ≤ m → ⊥) → m < n
not_reached n m none = elim (cases_lt m n) [ inl lt ↦ lt | inr le ↦ absurd (none (omega arith)) ]

-- a placed section ends below 2^64
pub section_end : (l : Link) (counts : Counts) (p : Placed) (q : PlacedSection) → IsToMake l counts p → Contains p.sections q
    → q.address + (header_at l (id_of q)).size < 2 ^ 64
section_end l counts p q make has =
    let lies : SectionLies l p q = all_contains (SectionLies l p) p.sections q (in_segment_of make.placed.placed).sections has in
    let s : PlacedSegment = lies.0 in
    let here : Contains p.segments s = (q.segment, lies.1.0, lies.1.1) in
    let small : s.file_size ≤ s.size = all_contains (λ (t : PlacedSegment). t.file_size ≤ t.size) p.segments s
    (λ k d lt. (make.placed.placed.paged k d lt).file_size) here in
    let sum : s.address + s.size ≤ p.base + written_sum_of l counts =
    all_contains (λ (t : PlacedSegment). t.address + t.size ≤ p.base + written_sum_of l counts) p.segments s make.placed.placed.within_sum
    here in
    let low = not_reached (2 ^ 64) (written_sum_of l counts + 2 ^ 32) make.limits.sum in
    let end = ends (not (is_zerofill (header_at l (id_of q))) && not ((header_at l (id_of q)).size == 0)) s small lies.3 in
    omega (arith, end, sum, low, base_low l counts p make)
  where
    ends : (b : Bool) (s : PlacedSegment) → s.file_size ≤ s.size → LiesIn b (section_span l q) s
        → q.address + (header_at l (id_of q)).size ≤ s.address + s.size
    ends true s small lies = omega (arith, small, lies.to)
    ends false s small lies = lies.to

-- Where a function stands.
pub record FunctionStands (l : Link) (p : Placed) (d : EntryId) : Type 0 where
  pub r : ℕ
  pub start : HasStart l d r
  pub q : PlacedSection
  pub id : id_of q ≡ section_named l d.of_section r
  pub is : (resolved l p d).start ≡ q.address + ((unwind_entry l d.of_section d.entry).start -
      (header_at l (section_named l d.of_section r)).addr)
  pub has : Contains p.sections q
  pub holds : holds_functions l (id_of q) ≡ true
  pub above : p.base ≤ q.address
  pub from : q.address ≤ (resolved l p d).start
  pub before : (resolved l p d).start < q.address + (header_at l (id_of q)).size
  pub to : (resolved l p d).start + (resolved l p d).length ≤ q.address + (header_at l (id_of q)).size

-- what is said of the start
start_is : (l : Link) (p : Placed) (d : EntryId) (rs : List ℕ) (r : ℕ) → rs ≡ r ∷ []
    → start_of l p d (slice_get rs 0) ≡ moved l p d (unwind_entry l d.of_section d.entry).start r
start_is l p d rs r is = ap (λ (xs : List ℕ). start_of l p d (slice_get xs 0)) is

pub function_stands : (l : Link) (counts : Counts) (p : Placed) (d : EntryId) → IsToMake l counts p → Contains (entries_of_link l) d
    → FunctionStands l p d
function_stands l counts p d make has =
    let start = has_start l d make.objects make.entries has in
    let r : ℕ = start.0 in
    let f : SectionId = section_named l d.of_section r in
    let address : ℕ = (unwind_entry l d.of_section d.entry).start in
    let long : ℕ = (unwind_entry l d.of_section d.entry).length in
    let at = placed_at l counts p f (address - (header_at l f).addr) make start.1.carried in
    let is : (resolved l p d).start ≡ at.q.address + (address - (header_at l f).addr) =
    start_is l p d (relocations_in_entry l d.of_section d.entry START_PLACE) r start.1.one ∙ at.is in
    let size : (header_at l (id_of at.q)).size ≡ (header_at l f).size = ap (λ (g : SectionId). (header_at l g).size) at.id in
    let inside = start.1.inside in
    let low = lies_from l f address long inside in
    let below = lies_below l f address long inside in
    let up_to = lies_up_to l f address long inside in
    record {
      r = r;
      start = start.1;
      q = at.q;
      id = at.id;
      is = is;
      has = at.has;
      holds = ap (holds_functions l) at.id ∙ start.1.holds;
      above = at.above;
      from = omega (arith, is);
      before = omega (arith, is, size, low, below);
      to = omega (arith, is, size, low, up_to);
    }

-- where language data stands
pub data_stands : (l : Link) (counts : Counts) (p : Placed) (d : EntryId) (r : ℕ) → IsToMake l counts p → Contains (entries_of_link l) d
    → Contains (relocations_in_entry l d.of_section d.entry LSDA_PLACE) r
    → (p.base ≤ moved l p d (unwind_entry l d.of_section d.entry).lsda r) ×
    (moved l p d (unwind_entry l d.of_section d.entry).lsda r < 2 ^ 64)
data_stands l counts p d r make has here =
    let it = has_data l d r make.objects make.entries has here in
    let f : SectionId = section_named l d.of_section r in
    let address : ℕ = (unwind_entry l d.of_section d.entry).lsda in
    let at = placed_at l counts p f (address - (header_at l f).addr) make it.carried in
    let size : (header_at l (id_of at.q)).size ≡ (header_at l f).size = ap (λ (g : SectionId). (header_at l g).size) at.id in
    let low = lies_from l f address 0 it.inside in
    let below = lies_below l f address 0 it.inside in
    let end = section_end l counts p at.q make at.has in
    (omega (arith, at.is, at.above), omega (arith, at.is, size, low, below, end))
