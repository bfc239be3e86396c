-- The segments of a placed link rise in memory and in the file, and end below 2 ^ 64 and at the file's end.
--
-- Each segment stands where the one before it ends, so it stands behind every earlier one. None ends further behind the base than
-- the written sum, which is below 2 ^ 64 less 4 GiB, and the base is at most 4 GiB. The file parts end with the signature.
use Rattle.std.proofs.Common.{◌≡◌, ◌+◌, ◌%◌, ◌^◌, ◌<◌, ◌≤◌, ◌⊎◌, inl, inr, Bool, true, false, List, get_or, refl, arith}
use Rattle.std.specs.Prelude.{Contains, AllPairs}
use Rattle.std.proofs.lemmas.Bool.{cases_lt}
use Rattle.std.proofs.lemmas.List.Elements.{All-map, Contains-get_or}
use Rattle.macho_bytes.proofs.Members.{all_contains}
use Rattle.macho_bytes.proofs.Orders.{each_later, later_all}
use Rattle.macho_model.specs.declared.placed.Counts.{Counts}
use Rattle.macho_model.specs.declared.placed.PlacedSegment.{PlacedSegment}
use Rattle.macho_model.specs.Links.{Link}
use Rattle.macho_model.specs.Segments.{base_of_link, PAGEZERO_SIZE, SEGMENT_PAGE}
use Rattle.macho_model.specs.WrittenSum.{written_sum_of}
use Rattle.macho_model.specs.Placement.{Placed, IsPlaced, Follows}
use Rattle.macho_model.specs.Lists.{EachNext}
use Rattle.macho_fixups.specs.declared.run.Fixup.{Fixup}
use Rattle.macho_fixups.specs.declared.run.FixupSegment.{FixupSegment}
use Rattle.macho_fixups.specs.Runs.{Holds}
use Rattle.macho_promise.specs.steps.Segments.{fixup_segment}
use Rattle.macho_layout_laws.specs.Laws.{NonePasses}
use Rattle.macho_placed_laws.proofs.Room.{file_parts_end}
use Rattle.macho_writing_laws.specs.Rooms.{SegmentsRise, SegmentsEndLow, WordsHaveRoom}
use Rattle.macho_writing_laws.proofs.Placed.{laid_out}
use Rattle.macho_bytes.proofs.Pairs.{pairs_map}

-- the written sum is below 2 ^ 64 less 4 GiB
pub sum_fits : (l : Link) (counts : Counts) (p : Placed) → NonePasses l counts p → written_sum_of l counts + 2 ^ 32 < 2 ^ 64
sum_fits l counts p within = elim (cases_lt (written_sum_of l counts + 2 ^ 32) (2 ^ 64)) [
  | inl less ↦ less
  | inr more ↦ absurd (within.sum (omega (arith, more)))
]

-- the base is 0 or 4 GiB
pub base_is : (l : Link) (counts : Counts) (p : Placed) → IsPlaced l counts p → (p.base ≡ 0) ⊎ (p.base ≡ 2 ^ 32)
base_is l counts p placed = by l.executable refl
  where
    by : (b : Bool) → l.executable ≡ b → (p.base ≡ 0) ⊎ (p.base ≡ 2 ^ 32)
    by true e = let at : base_of_link l ≡ PAGEZERO_SIZE = rw e refl in inr (omega (arith, placed.base, at))
    by false e = let at : base_of_link l ≡ 0 = rw e refl in inl (omega (arith, placed.base, at))

-- a segment ends below 2 ^ 64 less 4 GiB, counted from the base
pub segment_ends : (l : Link) (counts : Counts) (p : Placed) (s : PlacedSegment) → IsPlaced l counts p → NonePasses l counts p
    → Contains p.segments s → s.address + s.size + 2 ^ 32 < 2 ^ 64 + p.base
segment_ends l counts p s placed within has =
    let end = all_contains (λ (u : PlacedSegment). u.address + u.size ≤ p.base + written_sum_of l counts) p.segments s
    placed.within_sum has in
    omega (arith, end, sum_fits l counts p within)

pub segment_low : (l : Link) (counts : Counts) (p : Placed) (s : PlacedSegment) → IsPlaced l counts p → NonePasses l counts p
    → Contains p.segments s → s.address + s.size ≤ 2 ^ 64
segment_low l counts p s placed within has =
    let end = segment_ends l counts p s placed within has in
    elim (base_is l counts p placed) [ inl zero_base ↦ omega (arith, end, zero_base) | inr high ↦ omega (arith, end, high) ]

-- one segment stands behind another, in memory and in the file
abbrev Rises : PlacedSegment → PlacedSegment → Type 0
Rises s t = (s.address + s.size ≤ t.address) × (s.file_offset + s.file_size ≤ t.file_offset)

chained : (s t u : PlacedSegment) → Rises s t → Rises t u → Rises s u
chained s t u first second = (omega (arith, first.0, second.0), omega (arith, first.1, second.1))

rising : (l : Link) (segments : List PlacedSegment) → EachNext (Follows l) segments → AllPairs Rises segments
rising l segments follow =
    later_all Rises segments
    (each_later Rises chained segments
    (λ k x y at_k at_next. (omega (arith, (follow k x y at_k at_next).address), omega (arith, (follow k x y at_k at_next).file_offset))))

pub segments_rise : SegmentsRise
segments_rise l counts p whole within =
    let ss : List PlacedSegment = p.segments in
    let order = rising l ss whole.placed.follow in
    let paged = whole.placed.paged in
    record {
      in_order = pairs_map (λ (s t : FixupSegment). s.address + s.size ≤ t.address) fixup_segment ss
          (λ i j d lt below. (order i j d lt below).0);
      paged = All-map (λ (s : FixupSegment). s.address % SEGMENT_PAGE ≡ 0) fixup_segment ss (λ k d lt. (paged k d lt).address);
      apart = pairs_map
          (λ (s t : FixupSegment). (s.file_offset + s.file_size ≤ t.file_offset) ⊎ (t.file_offset + t.file_size ≤ s.file_offset))
          fixup_segment ss (λ i j d lt below. inl (order i j d lt below).1);
      sizes = All-map (λ (s : FixupSegment). s.file_size ≤ s.size) fixup_segment ss (λ k d lt. (paged k d lt).file_size);
      ends = All-map (λ (s : FixupSegment). (s.address + s.size ≤ 2 ^ 64) × (s.file_offset + s.file_size ≤ 2 ^ 64)) fixup_segment ss
          (λ k d lt.
          let has = Contains-get_or ss k d lt in
          let files = within.files (get_or ss k d) has in
          (segment_low l counts p (get_or ss k d) whole.placed within has, omega (arith, files.0, files.1)));
    }

pub segments_end : SegmentsEndLow
segments_end l counts p whole within k d lt =
    segment_low l counts p (get_or p.segments k d) whole.placed within (Contains-get_or p.segments k d lt)

pub words_room : WordsHaveRoom
words_room l counts p fixups whole =
    All-map
    (λ (s : FixupSegment). (f : Fixup) → Contains fixups f → Holds s f.address → s.file_offset + s.file_size ≤ p.linkedit.signature.end)
    fixup_segment p.segments
    (λ k d lt f has holds. file_parts_end l counts p whole.placed.follow (laid_out l counts p whole) k d lt)
