-- Where the parts of a placed valid link stand: near its base.
--
-- Ranks rise and `__TEXT` begins at the base, so every segment but the one that keeps addresses free stands there or later; and each
-- ends at most the written sum behind the base, which is small. What lies in such a segment is near the base too. In the file the
-- segments stand one behind the other from 0 on, and none has more bytes there than in memory.
use Rattle.std.proofs.Common.{◌≡◌, ℕ, zero, suc, ◌+◌, ◌<◌, ◌≤◌, Bool, true, false, not, cond, List, ◌∷◌, length, get_or, refl, sym, ap, ◌*◌, ◌^◌, subst, ◌∙◌, arith, inl, inr, All}
use Rattle.std.specs.Prelude.{Contains}
use Rattle.std.specs.List.{position_or_len}
use Rattle.std.specs.Str.{bytes_eq}
use Rattle.std.proofs.lemmas.Bool.{cases_lt, true≢false}
use Rattle.std.proofs.lemmas.List.{get_or_default}
use Rattle.std.proofs.lemmas.List.Elements.{All-contains}
use Rattle.macho_records.specs.Segments.{text_of}
use Rattle.macho_records.specs.Symbols.{common_size_of}
use Rattle.macho_model.specs.declared.placed.Counts.{Counts}
use Rattle.macho_model.specs.declared.placed.PlacedSegment.{PlacedSegment}
use Rattle.macho_model.specs.declared.placed.PlacedSection.{PlacedSection}
use Rattle.macho_model.specs.declared.placed.PlacedCommon.{PlacedCommon}
use Rattle.macho_model.specs.declared.placed.Slot.{Slot}
use Rattle.macho_model.specs.declared.placed.Stub.{Stub}
use Rattle.macho_model.specs.Lists.{IsNumber, EachNext}
use Rattle.macho_model.specs.Links.{Link, header_at}
use Rattle.macho_model.specs.Resolution.{entry_at}
use Rattle.macho_model.specs.Segments.{PAGEZERO, TEXT, DATA_CONST, DATA, other_segments, segment_rank}
use Rattle.macho_model.specs.WrittenSum.{written_sum_of}
use Rattle.macho_model.specs.Placement.{Placed, id_of, common_of, is_segment_named, Follows, IsPaged, IsPlaced}
use Rattle.macho_model.specs.Spans.{section_span, common_span, slot_span, stub_span}
use Rattle.macho_model.specs.steps.Parts.{LiesInNamed, SectionLies}
use Rattle.macho_model.specs.steps.Least.{least_file_size}
use Rattle.macho_model.specs.Valid.{IsValid}
use Rattle.macho_promise.specs.Promise.{IsLaidOut}
use Rattle.macho_model.specs.Grammar.{ObjectsAreRead}
use Rattle.macho_image_laws.proofs.Places.{lies_within}
use Rattle.macho_image_laws.proofs.Apart.{placed_is_carried}
use Rattle.macho_image_laws.proofs.Held.{section_is_mapped}
use Rattle.macho_model.proofs.Parts.{in_segment_of}
use Rattle.macho_model.proofs.Outputs.{least_of}
use Rattle.macho_bytes.proofs.Comparing.{same_bytes}
use Rattle.macho_placed_laws.proofs.Room.{least_rank}

-- the greatest written sum of a valid link
abbrev pub VALID_SUM : ℕ
VALID_SUM = 64 * 2 ^ 20

-- A valid link, placed and laid out.
pub record IsValidPlaced (l : Link) (counts : Counts) (p : Placed) : Type 0 where
  pub objects : ObjectsAreRead l
  pub valid : IsValid l counts
  pub placed : IsPlaced l counts p
  pub laid : IsLaidOut l counts p

-- each segment follows the one before it
pub follow_at : (l : Link) (segments : List PlacedSegment) → EachNext (Follows l) segments → (k : ℕ) (e : PlacedSegment)
    → suc k < length segments
    → Follows l (get_or segments k e) (get_or segments (suc k) e)
follow_at l segments h k e within =
    let at_k : IsNumber segments k (get_or segments k e) =
    (omega (arith, within), get_or_default segments k (get_or segments k e) e (omega (arith, within))) in
    let at_next : IsNumber segments (k + 1) (get_or segments (k + 1) e) =
    (omega (arith, within), get_or_default segments (k + 1) (get_or segments (k + 1) e) e (omega (arith, within))) in
    let same : k + 1 ≡ suc k = omega arith in
    subst (λ n. Follows l (get_or segments k e) (get_or segments n e)) same
    (h k (get_or segments k e) (get_or segments (k + 1) e) at_k at_next)

-- so ranks, addresses and file offsets go on
pub record GoesOn (l : Link) (s t : PlacedSegment) : Type 0 where
  pub rank : segment_rank l (text_of s.name) < segment_rank l (text_of t.name)
  pub address : s.address + s.size ≤ t.address
  pub file : s.file_offset + s.file_size ≤ t.file_offset
  pub slower : t.file_offset + s.address ≤ t.address + s.file_offset

goes_on : (l : Link) (segments : List PlacedSegment) → EachNext (Follows l) segments → All IsPaged segments → (i j : ℕ) (e : PlacedSegment)
    → i < j
    → j < length segments → GoesOn l (get_or segments i e) (get_or segments j e)
goes_on l segments h paged i zero e before within = absurd (omega (arith, before))
goes_on l segments h paged i (suc m) e before within =
    let step = follow_at l segments h m e within in
    let small = (paged m e (omega (arith, within))).file_size in
    elim (cases_lt i m) [
      | inl lt ↦
          let so_far = goes_on l segments h paged i m e lt (omega (arith, within)) in
          record {
            rank = omega (arith, so_far.rank, step.rank);
            address = omega (arith, so_far.address, step.address);
            file = omega (arith, so_far.file, step.file_offset);
            slower = omega (arith, so_far.slower, step.address, step.file_offset, small);
          }
      | inr le ↦
          let here : i ≡ m = omega (arith, before, le) in
          subst (λ k. GoesOn l (get_or segments k e) (get_or segments (suc m) e)) (sym here)
          (record {
            rank = step.rank;
            address = omega (arith, step.address);
            file = omega (arith, step.file_offset);
            slower = omega (arith, step.address, step.file_offset, small);
          })
    ]

-- ranks of names
rank_text : (l : Link) (name : List ℕ) → name ≡ TEXT → segment_rank l name ≡ 1
unfolding segment_rank
rank_text l name is = rw is refl

-- `__TEXT`, by its number
pub record HasText (l : Link) (p : Placed) : Type 0 where
  pub number : ℕ
  pub within : number < length p.segments
  pub text : PlacedSegment
  pub is : (e : PlacedSegment) → get_or p.segments number e ≡ text
  pub rank : segment_rank l (text_of text.name) ≡ 1
  pub address : text.address ≡ p.base
  pub file_offset : text.file_offset ≡ 0

has_text : (l : Link) (counts : Counts) (p : Placed) → IsPlaced l counts p → IsLaidOut l counts p → HasText l p
has_text l counts p placed laid =
    let begins = placed.begins in
    let one = begins.1 in
    let rank = rank_text l (text_of begins.0.name) (same_bytes (text_of begins.0.name) TEXT begins.2) in
    let at = λ (e : PlacedSegment). get_or_default p.segments one.0 e begins.0 one.1 ∙ one.2 in
    record {
      number = one.0;
      within = one.1;
      text = begins.0;
      is = at;
      rank = rank;
      address = begins.3 ∙ sym placed.base;
      file_offset = front one.0 one.1 (at begins.0) rank;
    }
  where
    none : (s : PlacedSegment) → bytes_eq (text_of s.name) PAGEZERO ≡ true → least_file_size l counts p s ≡ 0
    none s named = rw named refl

    front : (k : ℕ) → k < length p.segments → get_or p.segments k placed.begins.0 ≡ placed.begins.0
        → segment_rank l (text_of placed.begins.0.name) ≡ 1 → placed.begins.0.file_offset ≡ 0
    front zero lt at rank = laid.least.front placed.begins.0 (lt, at)
    front (suc zero) lt at rank =
        let e = placed.begins.0 in
        let step = follow_at l p.segments placed.follow 0 e lt in
        let first : PlacedSegment = get_or p.segments 0 e in
        let same : segment_rank l (text_of (get_or p.segments 1 e).name) ≡ 1 = ap
        (λ (s : PlacedSegment). segment_rank l (text_of s.name)) at ∙ rank in
        let zero_page = least_rank l (text_of first.name) (omega (arith, step.rank, same)) in
        let size : first.file_size ≡ 0 = (least_of laid.least).file_sizes 0 e (omega (arith, lt)) ∙ none first zero_page in
        let offset : first.file_offset ≡ 0 = laid.least.front first
        (omega (arith, lt), get_or_default p.segments 0 first e (omega (arith, lt))) in
        omega (arith, step.file_offset, ap (λ (s : PlacedSegment). s.file_offset) at, size, offset)
    front (suc (suc k)) lt at rank =
        let e = placed.begins.0 in
        let first = follow_at l p.segments placed.follow k e (omega (arith, lt)) in
        let second = follow_at l p.segments placed.follow (suc k) e lt in
        let same : segment_rank l (text_of (get_or p.segments (suc (suc k)) e).name) ≡ 1 = ap
        (λ (s : PlacedSegment). segment_rank l (text_of s.name)) at ∙ rank in
        absurd (omega (arith, first.rank, second.rank, same))

-- THE segments but the first: near the base, and near the front of the file
pub record IsNearSegment (p : Placed) (s : PlacedSegment) : Type 0 where
  pub low : p.base ≤ s.address
  pub high : s.address + s.size ≤ p.base + VALID_SUM
  pub file : s.file_offset + s.file_size ≤ VALID_SUM

pub segment_near : (l : Link) (counts : Counts) (p : Placed) (s : PlacedSegment) → IsValidPlaced l counts p → Contains p.segments s
    → is_segment_named PAGEZERO s ≡ false → IsNearSegment p s
segment_near l counts p s h (i, lt, at) other =
    record { low = place.0; high = omega (arith, end, h.valid.sum); file = omega (arith, place.1, small, end, h.valid.sum) }
  where
    t : HasText l p
    t = has_text l counts p h.placed h.laid

    end : s.address + s.size ≤ p.base + written_sum_of l counts
    end = All-contains (λ (x : PlacedSegment). x.address + x.size ≤ p.base + written_sum_of l counts) p.segments s h.placed.within_sum
        (i, lt, at)

    small : s.file_size ≤ s.size
    small = (All-contains IsPaged p.segments s h.placed.paged (i, lt, at)).file_size

    place : (p.base ≤ s.address) × (s.file_offset + p.base ≤ s.address)
    place = elim (cases_lt i t.number) [
      | inl before ↦
          let on = goes_on l p.segments h.placed.follow h.placed.paged i t.number s before t.within in
          let first : segment_rank l (text_of (get_or p.segments i s).name) ≡ segment_rank l (text_of s.name) =
          ap (λ (x : PlacedSegment). segment_rank l (text_of x.name)) at in
          let second : segment_rank l (text_of (get_or p.segments t.number s).name) ≡ 1 =
          ap (λ (x : PlacedSegment). segment_rank l (text_of x.name)) (t.is s) ∙ t.rank in
          absurd (true≢false (sym (least_rank l (text_of s.name) (omega (arith, on.rank, first, second))) ∙ other))
      | inr le ↦ elim (cases_lt t.number i) [
        | inl behind ↦
            let on = goes_on l p.segments h.placed.follow h.placed.paged t.number i s behind lt in
            let a : (get_or p.segments t.number s).address ≡ p.base = ap (λ (x : PlacedSegment). x.address) (t.is s) ∙ t.address in
            let f : (get_or p.segments t.number s).file_offset ≡ 0 = ap (λ (x : PlacedSegment). x.file_offset) (t.is s) ∙ t.file_offset in
            let here : (get_or p.segments i s).address ≡ s.address = ap (λ (x : PlacedSegment). x.address) at in
            let there : (get_or p.segments i s).file_offset ≡ s.file_offset = ap (λ (x : PlacedSegment). x.file_offset) at in
            (omega (arith, on.address, a, here), omega (arith, on.slower, a, f, here, there))
        | inr ge ↦
            let same : i ≡ t.number = omega (arith, le, ge) in
            let one : s ≡ t.text = sym at ∙ ap (λ (k : ℕ). get_or p.segments k s) same ∙ t.is s in
            let a : s.address ≡ p.base = ap (λ (x : PlacedSegment). x.address) one ∙ t.address in
            let f : s.file_offset ≡ 0 = ap (λ (x : PlacedSegment). x.file_offset) one ∙ t.file_offset in
            (omega (arith, a), omega (arith, a, f))
      ]
    ]

-- an address near the base
abbrev pub IsNear : Placed → ℕ → Type 0
IsNear p x = (p.base ≤ x) × (x ≤ p.base + VALID_SUM)

-- of a section all addresses up to its end, of slots and stubs theirs
pub section_near : (l : Link) (counts : Counts) (p : Placed) (q : PlacedSection) → IsValidPlaced l counts p → Contains p.sections q
    → (p.base ≤ q.address) × (q.address + (header_at l (id_of q)).size ≤ p.base + VALID_SUM)
section_near l counts p q h one =
    let lies = All-contains (SectionLies l p) p.sections q (in_segment_of h.placed).sections one in
    let there : Contains p.segments lies.0 = (q.segment, lies.1.0, lies.1.1) in
    let other = section_is_mapped l (id_of q) lies.0 (placed_is_carried l p q h.placed.whole_list one) lies.2 same_bytes in
    let near = segment_near l counts p lies.0 h there other in
    let within = lies_within _ (section_span l q) lies.0 lies.3 (All-contains IsPaged p.segments lies.0 h.placed.paged there) in
    (omega (arith, near.low, lies.3.from), omega (arith, near.high, within))

named_other : (s : PlacedSegment) (name : List ℕ) → is_segment_named name s ≡ true → bytes_eq name PAGEZERO ≡ false
    → is_segment_named PAGEZERO s ≡ false
named_other s name named other = ap (λ (n : List ℕ). bytes_eq n PAGEZERO) (same_bytes (text_of s.name) name named) ∙ other

pub common_near : (l : Link) (counts : Counts) (p : Placed) (c : PlacedCommon) → IsValidPlaced l counts p → Contains p.commons c
    → (p.base ≤ c.address) × (c.address + common_size_of (entry_at l (common_of l c.id)) ≤ p.base + VALID_SUM)
common_near l counts p c h one =
    let lies = All-contains
    (λ (d : PlacedCommon). LiesInNamed p DATA false (common_span l d)) p.commons c (in_segment_of h.placed).commons one in
    let near = segment_near l counts p lies.0 h lies.1 (named_other lies.0 DATA lies.2 refl) in
    (omega (arith, near.low, lies.3.from), omega (arith, near.high, lies.3.to))

pub slot_near : (l : Link) (counts : Counts) (p : Placed) (s : Slot) → IsValidPlaced l counts p → Contains p.slots s → IsNear p s.address
slot_near l counts p s h one =
    let lies = All-contains (λ (d : Slot). LiesInNamed p DATA_CONST true (slot_span d)) p.slots s (in_segment_of h.placed).slots one in
    let near = segment_near l counts p lies.0 h lies.1 (named_other lies.0 DATA_CONST lies.2 refl) in
    let small = (All-contains IsPaged p.segments lies.0 h.placed.paged lies.1).file_size in
    (omega (arith, near.low, lies.3.from), omega (arith, near.high, lies.3.to, small))

pub stub_near : (l : Link) (counts : Counts) (p : Placed) (s : Stub) → IsValidPlaced l counts p → Contains p.stubs s → IsNear p s.address
stub_near l counts p s h one =
    let lies = All-contains (λ (d : Stub). LiesInNamed p TEXT true (stub_span d)) p.stubs s (in_segment_of h.placed).stubs one in
    let near = segment_near l counts p lies.0 h lies.1 (named_other lies.0 TEXT lies.2 refl) in
    let small = (All-contains IsPaged p.segments lies.0 h.placed.paged lies.1).file_size in
    (omega (arith, near.low, lies.3.from), omega (arith, near.high, lies.3.to, small))
