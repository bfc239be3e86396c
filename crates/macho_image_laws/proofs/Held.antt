-- From the bytes of the file to memory, by addresses.
--
-- An address in the file part of a placed segment has one place in the file: as far from the segment's as the address is from the
-- segment's, since segments share no address. What no word covers there is held in memory, at every slide; and zeros behind.
use Rattle.std.proofs.Common.{◌≡◌, ℕ, ◌+◌, ◌-◌, ◌<◌, ◌≤◌, ◌&&◌, true, false, nat_le, nat_lt, List, length, slice_range, slice_index, sym, ap, subst, ◌∙◌, arith, inl, inr}
use Rattle.std.specs.Prelude.{Contains, AllPairs}
use Rattle.std.proofs.lemmas.Bool.{and_parts, and_from, le-leb, lt-ltb, leb-true, ltb-true}
use Rattle.std.proofs.lemmas.List.Edits.{length-between, get_or-between}
use Rattle.std.proofs.lemmas.List.Elements.{All-contains}
use Rattle.macho_bytes.specs.Numbers.{le_at}
use Rattle.macho_bytes.specs.Texts.{Stands}
use Rattle.macho_records.specs.Segments.{text_of}
use Rattle.macho_records.specs.Sections.{segment_name_of}
use Rattle.macho_model.specs.declared.placed.PlacedSegment.{PlacedSegment}
use Rattle.macho_model.specs.Links.{Link, SectionId, header_at, is_carried, sections_of, carried_of}
use Rattle.macho_model.specs.Segments.{PAGEZERO}
use Rattle.macho_model.specs.Placement.{Placed, is_segment_named}
use Rattle.macho_model.specs.Addresses.{offset_in_file}
use Rattle.macho_model.proofs.Carried.{segment_of_carried}
use Rattle.macho_model.specs.Memory.{Choice, Holds, HoldsNumber}
use Rattle.macho_model.specs.HeldLaws.{IsFree, TextsAreHeld, ZerosAreHeld, NumbersAreHeld}
use Rattle.macho_fixups.specs.declared.run.FixupSegment.{FixupSegment}
use Rattle.macho_fixups.specs.Runs.{AreSegments}
use Rattle.macho_promise.specs.FixupsSay.{fixup_segments}
use Rattle.macho_promise.specs.steps.Segments.{fixup_segment}
use Rattle.std.specs.Str.{bytes_eq}
use Rattle.macho_image_laws.proofs.Members.{one_or_pair}
use Rattle.macho_image_laws.proofs.Segments.{IsMapped}
use Rattle.macho_bytes.proofs.Members.{contains_map}
use Rattle.macho_bytes.proofs.Pairs.{pairs_unmap}
use Rattle.macho_model.proofs.Sections.{carried_is, first_passes}

-- segments stand one behind the other
segments_pairs : (p : Placed) → AreSegments (fixup_segments p) → AllPairs
    (λ (s t : PlacedSegment). s.address + s.size ≤ t.address) p.segments
segments_pairs p order = pairs_unmap (λ (s t : FixupSegment). s.address + s.size ≤ t.address) fixup_segment p.segments order.in_order

pub segment_small : (p : Placed) (s : PlacedSegment) → AreSegments (fixup_segments p) → Contains p.segments s → s.file_size ≤ s.size
segment_small p s order one =
    All-contains (λ (t : FixupSegment). t.file_size ≤ t.size) (fixup_segments p) (fixup_segment s) order.sizes
    (contains_map fixup_segment p.segments s one)

-- an address lies in the file part of one segment
pub one_segment : (p : Placed) (s t : PlacedSegment) (a : ℕ) → AreSegments (fixup_segments p) → Contains p.segments s
    → Contains p.segments t
    → s.address ≤ a → a < s.address + s.file_size → t.address ≤ a → a < t.address + t.file_size → s ≡ t
one_segment p s t a order in_s in_t s_from s_to t_from t_to =
    let small_s = segment_small p s order in_s in
    let small_t = segment_small p t order in_t in
    elim (one_or_pair (λ (x y : PlacedSegment). x.address + x.size ≤ y.address) p.segments s t (segments_pairs p order) in_s in_t) [
      | inl same ↦ same
      | inr pair ↦ elim pair [ inl before ↦ absurd (omega arith) | inr behind ↦ absurd (omega arith) ]
    ]

-- which tells its place in the file
pub place_in_file : (p : Placed) (s : PlacedSegment) (a : ℕ) → AreSegments (fixup_segments p) → Contains p.segments s → s.address ≤ a
    → a < s.address + s.file_size → offset_in_file p a ≡ s.file_offset + (a - s.address)
unfolding offset_in_file
place_in_file p s a order one from to =
    let passes = and_from (nat_le s.address a) (nat_lt a (s.address + s.file_size)) (le-leb s.address a from)
    (lt-ltb a (s.address + s.file_size) to) in
    let r = first_passes (λ (t : PlacedSegment). nat_le t.address a && nat_lt a (t.address + t.file_size))
    (λ (t : PlacedSegment). t.file_offset + (a - t.address)) p.segments s one passes in
    let both = and_parts (nat_le r.0.address a) (nat_lt a (r.0.address + r.0.file_size)) r.2 in
    let same = one_segment p s r.0 a order one r.1 from to (leb-true r.0.address a both.0)
    (ltb-true a (r.0.address + r.0.file_size) both.1) in
    r.3 ∙ ap (λ (t : PlacedSegment). t.file_offset + (a - t.address)) (sym same)

-- A segment that is mapped from the file, which has room for it.
pub record IsBacked (b : List ℕ) (s : PlacedSegment) : Type 0 where
  pub mapped : IsMapped b s
  pub small : s.file_size ≤ s.size
  pub room : s.file_offset + s.file_size ≤ length b

-- a number of its file part is held
pub number_held : NumbersAreHeld → (b : List ℕ) (s : PlacedSegment) (slide : ℕ) (choice : Choice) (a w : ℕ) → IsBacked b s → s.address ≤ a
    → a + w ≤ s.address + s.file_size → IsFree b a w → HoldsNumber b slide choice w (a + slide)
    (le_at w b (s.file_offset + (a - s.address)))
number_held held b s slide choice a w back from to free =
    let c = back.mapped.command in
    let i : ℕ = a - s.address in
    let here : c.vmaddr + i ≡ a = omega (arith, back.mapped.address) in
    let there : c.fileoff + i ≡ s.file_offset + i = ap (λ (n : ℕ). n + i) back.mapped.file_offset in
    subst (λ (n : ℕ). HoldsNumber b slide choice w (a + slide) (le_at w b n)) there
    (subst (λ (n : ℕ). HoldsNumber b slide choice w (n + slide) (le_at w b (c.fileoff + i))) here
    (held b slide choice c w i (subst (λ (n : ℕ). IsFree b n w) (sym here) free) back.mapped.one (omega (arith, back.mapped.file_size))
    (omega (arith, back.mapped.file_size, back.mapped.size, back.small))
    (omega (arith, back.mapped.file_size, back.mapped.file_offset, back.room))))

-- a byte of it
pub byte_held : TextsAreHeld → (b : List ℕ) (s : PlacedSegment) (slide : ℕ) (choice : Choice) (a : ℕ) → IsBacked b s → s.address ≤ a
    → a < s.address + s.file_size → IsFree b a 1 → Holds b slide choice (a + slide) (slice_index b (s.file_offset + (a - s.address)))
byte_held held b s slide choice a back from to free =
    let c = back.mapped.command in
    let i : ℕ = a - s.address in
    let at : ℕ = c.fileoff + i in
    let fits : at + 1 ≤ length b = omega (arith, back.mapped.file_offset, back.room) in
    let text : List ℕ = slice_range b at (at + 1) in
    let long : length text ≡ 1 = length-between b at (at + 1) fits ∙ omega arith in
    let here : c.vmaddr + i ≡ a = omega (arith, back.mapped.address) in
    let end : at + length text ≡ at + 1 = omega (arith, long) in
    let stands : Stands b (record { at = at; text = text }) = record {
      within = omega (arith, long, fits);
      same = ap
          (λ (n : ℕ). slice_range b at n) end;
    } in
    let one : IsFree b (c.vmaddr + i) (length text) =
    subst (λ (n : ℕ). IsFree b (c.vmaddr + i) n) (sym long) (subst (λ (n : ℕ). IsFree b n 1) (sym here) free) in
    let all = held b slide choice c i text one back.mapped.one (omega (arith, long, back.mapped.file_size))
    (omega (arith, back.mapped.file_size, back.mapped.size, back.small)) stands 0 (omega (arith, long)) in
    let value : slice_index text 0 ≡ slice_index b (s.file_offset + i) =
    get_or-between b at (at + 1) 0 0 (omega arith) ∙ ap (λ (n : ℕ). slice_index b n) (omega (arith, back.mapped.file_offset)) in
    let place : c.vmaddr + i + slide + 0 ≡ a + slide = omega (arith, here) in
    subst (λ (v : ℕ). Holds b slide choice (a + slide) v) value (subst (λ (x : ℕ). Holds b slide choice x (slice_index text 0)) place all)

-- zero behind it
pub zero_held : ZerosAreHeld → (b : List ℕ) (s : PlacedSegment) (slide : ℕ) (choice : Choice) (a : ℕ) → IsBacked b s
    → s.address + s.file_size ≤ a
    → a < s.address + s.size → IsFree b a 1 → Holds b slide choice (a + slide) 0
zero_held held b s slide choice a back from to free =
    let c = back.mapped.command in
    let i : ℕ = a - s.address in
    let here : c.vmaddr + i ≡ a = omega (arith, back.mapped.address, from) in
    let place : c.vmaddr + i + 0 + slide ≡ a + slide = omega (arith, here) in
    subst (λ (x : ℕ). Holds b slide choice x 0) place
    (held b slide choice c i 1 (subst (λ (n : ℕ). IsFree b n 1) (sym here) free) back.mapped.one
    (omega (arith, back.mapped.file_size, from))
    (omega (arith, back.mapped.size, from, to)) 0 (omega arith))

pub section_is_mapped : (l : Link) (id : SectionId) (s : PlacedSegment) → Contains (carried_of l) id
    → is_segment_named (segment_name_of (header_at l id)) s ≡ true
    → ((x y : List ℕ) → bytes_eq x y ≡ true → x ≡ y) → is_segment_named PAGEZERO s ≡ false
section_is_mapped l id s one named equal =
    ap (λ (n : List ℕ). bytes_eq n PAGEZERO) (equal (text_of s.name) (segment_name_of (header_at l id)) named)
    ∙ (segment_of_carried (header_at l id) (carried_is l id one)).0
