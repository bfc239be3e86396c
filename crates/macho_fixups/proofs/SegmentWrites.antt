-- The loop over segments, which writes at two places: the offsets, and behind them what is told of each segment.
--
-- So far both are put. An offset more and a text more, each where those before it end, are put too: the two puts at
-- the two places share no byte, so their order does not matter, and each joins the one that it touches. The run of
-- fixups is passed in step: those that are passed lie below every later segment, since segments do not overlap.
use Rattle.std.proofs.Common.{◌≡◌, ℕ, suc, ◌+◌, ◌*◌, ◌-◌, ◌^◌, ◌<◌, ◌≤◌, ◌==◌, List, [], ◌∷◌, ◌++◌, length, get_or, take, arith, refl, sym, ap, subst, ◌∙◌, inl, inr, true, false, if◌then◌else◌}
use Rattle.std.specs.Prelude.{All, sum_by}
use Rattle.std.specs.List.{flat_map}
use Rattle.std.proofs.lemmas.Bool.{cases_lt}
use Rattle.std.proofs.lemmas.Bool.Decides.{nat_tests}
use Rattle.std.proofs.lemmas.List.{length-append, append-nil, append_assoc, take_more, take_all, get_or_default}
use Rattle.std.proofs.lemmas.List.Sums.{sum_by-cons, sum_by-take-le}
use Rattle.macho_bytes.specs.Numbers.{le_bytes}
use Rattle.macho_bytes.specs.Texts.{put}
use Rattle.macho_bytes.proofs.Numbers.{little_is_sound}
use Rattle.macho_bytes.proofs.Puts.{put-put, put_nothing, length-put}
use Rattle.macho_bytes.proofs.Tables.{flat_map-more}
use Rattle.macho_fixups.specs.declared.run.Fixup.{Fixup}
use Rattle.macho_fixups.specs.declared.run.FixupSegment.{FixupSegment}
use Rattle.macho_fixups.specs.Runs.{AreSegments, pages_of}
use Rattle.macho_fixups.specs.steps.Cuts.{AreBelow, IsCut}
use Rattle.macho_fixups.specs.Tables.{offsets_text, segment_text, segment_size, starts_text, starts_size}
use Rattle.macho_fixups.proofs.Cuts.{below_cut}
use Rattle.macho_fixups.proofs.PutOrder.{put_swap, put_in_front}

-- a segment that stands for none
abbrev pub no_segment : FixupSegment
no_segment = record { address = 0; size = 0; file_offset = 0; file_size = 0 }

-- the offset of a segment
abbrev pub offset_at : ℕ → List Fixup → FixupSegment → ℕ
offset_at place fixups s = if pages_of s fixups == 0 then 0 else place

-- one segment more at the end of a sum
sum_more : (f : FixupSegment → ℕ) (xs : List FixupSegment) (x : FixupSegment) → sum_by f (xs ++ x ∷ []) ≡ sum_by f xs + f x
sum_more f [] x = omega (arith, sum_by-cons f x [])
sum_more f (y ∷ xs) x = omega (arith, sum_more f xs x, sum_by-cons f y (xs ++ x ∷ []), sum_by-cons f y xs)

-- one offset more at the end
offsets_more : (place : ℕ) (fixups : List Fixup) (xs : List FixupSegment) (x : FixupSegment)
    → offsets_text place fixups (xs ++ x ∷ [])
    ≡ offsets_text place fixups xs ++ le_bytes 4 (offset_at (place + sum_by (segment_size fixups) xs) fixups x)
unfolding offsets_text
offsets_more place fixups [] x =
    append-nil (le_bytes 4 (offset_at place fixups x)) ∙ ap (λ (p : ℕ). le_bytes 4 (offset_at p fixups x)) (omega arith)
offsets_more place fixups (y ∷ xs) x =
    let next : place + segment_size fixups y + sum_by (segment_size fixups) xs ≡ place + sum_by (segment_size fixups) (y ∷ xs) =
    omega (arith, sum_by-cons (segment_size fixups) y xs) in
    ap (λ (t : List ℕ). le_bytes 4 (offset_at place fixups y) ++ t) (offsets_more (place + segment_size fixups y) fixups xs x)
    ∙ sym (append_assoc (le_bytes 4 (offset_at place fixups y)) (offsets_text (place + segment_size fixups y) fixups xs) _)
    ∙ ap (λ (p : ℕ). (le_bytes 4 (offset_at place fixups y) ++ offsets_text (place + segment_size fixups y) fixups xs)
    ++ le_bytes 4 (offset_at p fixups x)) next

-- the offsets have four bytes each
pub length-offsets : (place : ℕ) (fixups : List Fixup) (xs : List FixupSegment) → length (offsets_text place fixups xs) ≡ 4 * length xs
unfolding offsets_text
length-offsets place fixups [] = omega arith
length-offsets place fixups (x ∷ xs) =
    omega (
      arith,
      length-append (le_bytes 4 (offset_at place fixups x)) (offsets_text (place + segment_size fixups x) fixups xs),
      little_is_sound.long 4 (offset_at place fixups x),
      length-offsets (place + segment_size fixups x) fixups xs,
    )

-- the texts of segments have at most so many bytes
pub sum_bound : (fixups : List Fixup) (xs : List FixupSegment) → All (λ s. pages_of s fixups ≤ 65535) xs
    → sum_by (segment_size fixups) xs ≤ 131092 * length xs
unfolding segment_size
sum_bound fixups [] each = omega arith
sum_bound fixups (x ∷ xs) each =
    omega (
      arith,
      sum_by-cons (λ s. starts_size (pages_of s fixups)) x xs,
      sum_bound fixups xs (λ k d lt. each (suc k) d (omega arith)),
      few (pages_of x fixups) (each 0 x (omega arith)),
    )
  where
    few : (p : ℕ) → p ≤ 65535 → starts_size p ≤ 131092
    few p le = elim (cases_lt 0 p) [
      | inl some ↦
          let no : (p == 0) ≡ false = grind (arith, nat_tests) in
          let size : starts_size p ≡ 22 + 2 * p = rw no refl in omega (arith, size, le)
      | inr none ↦
          let yes : (p == 0) ≡ true = grind (arith, nat_tests) in
          let size : starts_size p ≡ 0 = rw yes refl in omega (arith, size)
    ]

-- Segments so far.
pub record SegmentsSoFar (base at : ℕ) (fixups : List Fixup) (segments : List FixupSegment) (slot place next i : ℕ)
    (before now : List ℕ) : Type 0 where
  pub written : now ≡ put (at + 4) (offsets_text (4 + 4 * length segments) fixups (take i segments))
      (put (at + 4 + 4 * length segments) (flat_map (segment_text base fixups) (take i segments)) before)
  pub slots : slot ≡ at + 4 + 4 * i
  pub ends : place ≡ at + 4 + 4 * length segments + sum_by (segment_size fixups) (take i segments)
  pub long : length (flat_map (segment_text base fixups) (take i segments)) ≡ sum_by (segment_size fixups) (take i segments)
  pub count : length (take i segments) ≡ i
  pub passed : next ≤ length fixups
  pub below : (j : ℕ) (e : FixupSegment) → i ≤ j → j < length segments → AreBelow fixups next (get_or segments j e).address

pub segments_begin : (base at : ℕ) (fixups : List Fixup) (segments : List FixupSegment) (out : List ℕ)
    → at + 4 + 4 * length segments ≤ length out
    → SegmentsSoFar base at fixups segments (at + 4) (at + 4 + 4 * length segments) 0 0 out out
unfolding offsets_text
segments_begin base at fixups segments out fits =
    let texts : put (at + 4 + 4 * length segments) [] out ≡ out = put_nothing (at + 4 + 4 * length segments) out fits in
    record {
      written = sym (put_nothing (at + 4) (put (at + 4 + 4 * length segments) [] out) (omega (arith, ap length texts)) ∙ texts);
      slots = omega arith;
      ends = omega arith;
      long = refl;
      count = refl;
      passed = omega arith;
      below = λ j e le lt. record { each = λ k d none. absurd (omega arith) };
    }

-- there is room for one text more
pub segment_room : (fixups : List Fixup) (segments : List FixupSegment) (i : ℕ) (d : FixupSegment) → i < length segments
    → sum_by (segment_size fixups) (take i segments) + segment_size fixups (get_or segments i d) ≤ sum_by (segment_size fixups) segments
segment_room fixups segments i d lt =
    omega (
      arith,
      sum_by-take-le (segment_size fixups) segments (i + 1),
      ap (sum_by (segment_size fixups)) (take_more segments i d lt),
      sum_more (segment_size fixups) (take i segments) (get_or segments i d),
    )

-- one segment more
pub segments_go_on : (base at : ℕ) (fixups : List Fixup) (segments : List FixupSegment) (d : FixupSegment)
    (slot place next i end offset : ℕ)
    (before out a b : List ℕ) → i < length segments → AreSegments segments
    → at + (4 + 4 * length segments + sum_by (segment_size fixups) segments) ≤ length before
    → SegmentsSoFar base at fixups segments slot place next i before out
    → IsCut fixups end ((get_or segments i d).address + (get_or segments i d).file_size)
    → offset ≡ offset_at (place - at) fixups (get_or segments i d)
    → length (segment_text base fixups (get_or segments i d)) ≡ segment_size fixups (get_or segments i d)
    → a ≡ put slot (le_bytes 4 offset) out → b ≡ put place (segment_text base fixups (get_or segments i d)) a
    → SegmentsSoFar base at fixups segments (slot + 4) (place + segment_size fixups (get_or segments i d)) end (i + 1) before b
segments_go_on base at fixups segments d slot place next i end offset before out a b lt order room so_far cut is long first second =
    record {
      written = second ∙ ap (put place text) (first ∙ ap (put slot (le_bytes 4 offset)) so_far.written) ∙ joined
          ∙ ap (λ (t : List ℕ). put (at + 4) t (put start (flat_map (segment_text base fixups) (take i segments) ++ text) before)) offsets
          ∙ ap (λ (t : List ℕ). put (at + 4) (offsets_text (4 + 4 * length segments) fixups (take (i + 1) segments)) (put start t before))
          texts;
      slots = omega (arith, so_far.slots);
      ends = omega (arith, so_far.ends, sums);
      long = omega (
        arith,
        so_far.long,
        sums,
        long,
        sym (ap length texts),
        length-append
            (flat_map (segment_text base fixups) (take i segments)) text,
      );
      count = omega (arith, so_far.count, ap length more, length-append (take i segments) (x ∷ []));
      passed = cut.within;
      below = λ j e le within. below_cut fixups end (x.address + x.file_size) (get_or segments j e).address cut (later j e le within);
    }
  where
    x : FixupSegment
    x = get_or segments i d

    text : List ℕ
    text = segment_text base fixups x

    start : ℕ
    start = at + 4 + 4 * length segments

    old : List ℕ
    old = offsets_text (4 + 4 * length segments) fixups (take i segments)

    more : take (i + 1) segments ≡ take i segments ++ x ∷ []
    more = take_more segments i d lt

    sums : sum_by (segment_size fixups) (take (i + 1) segments) ≡ sum_by (segment_size fixups) (take i segments) + segment_size fixups x
    sums = ap (sum_by (segment_size fixups)) more ∙ sum_more (segment_size fixups) (take i segments) x

    texts : flat_map (segment_text base fixups) (take i segments) ++ text ≡ flat_map (segment_text base fixups) (take (i + 1) segments)
    texts = sym (ap (flat_map (segment_text base fixups)) more ∙ flat_map-more (segment_text base fixups) (take i segments) x)

    offsets : old ++ le_bytes 4 offset ≡ offsets_text (4 + 4 * length segments) fixups (take (i + 1) segments)
    offsets =
        let far : place - at ≡ 4 + 4 * length segments + sum_by (segment_size fixups) (take i segments) = omega (arith, so_far.ends) in
        ap (λ (n : ℕ). old ++ le_bytes 4 n) (is ∙ ap (λ (p : ℕ). offset_at p fixups x) far)
        ∙ sym (ap (offsets_text (4 + 4 * length segments) fixups) more ∙ offsets_more (4 + 4 * length segments) fixups (take i segments) x)

    later : (j : ℕ) (e : FixupSegment) → i + 1 ≤ j → j < length segments → x.address + x.file_size ≤ (get_or segments j e).address
    later j e le within =
        let same : (get_or segments i e).address + (get_or segments i e).size ≡ x.address + x.size =
        ap (λ (s : FixupSegment). s.address + s.size) (get_or_default segments i e d lt) in
        omega (arith, order.in_order i j e (omega arith) within, order.sizes i d lt, same)

    joined : put place text (put slot (le_bytes 4 offset) (put (at + 4) old (put start
        (flat_map (segment_text base fixups) (take i segments)) before)))
        ≡ put (at + 4) (old ++ le_bytes 4 offset) (put start (flat_map (segment_text base fixups) (take i segments) ++ text) before)
    joined =
        let texts_now : List ℕ = flat_map (segment_text base fixups) (take i segments) in
        let fits = segment_room fixups segments i d lt in
        let four = little_is_sound.long 4 offset in
        let size = length-offsets (4 + 4 * length segments) fixups (take i segments) in
        let under : length (put start texts_now before) ≡ length before = length-put start texts_now before
        (omega (arith, so_far.long, room, fits)) in
        let whole : length (old ++ le_bytes 4 offset) ≡ 4 * i + 4 = omega (
          arith,
          length-append old (le_bytes 4 offset),
          four,
          size,
          so_far.count,
        ) in
        ap (put place text) (put-put (at + 4) slot old (le_bytes 4 offset) (put start texts_now before)
        (omega (arith, so_far.slots, size, so_far.count)) (omega (arith, so_far.slots, four, under, room)))
        ∙ sym (put_swap (at + 4) place (old ++ le_bytes 4 offset) text (put start texts_now before) (omega (arith, whole, so_far.ends))
        (omega (arith, long, so_far.ends, under, room, fits)))
        ∙ ap (put (at + 4) (old ++ le_bytes 4 offset)) (put-put start place texts_now text before (omega (arith, so_far.ends, so_far.long))
        (omega (arith, long, so_far.ends, room, fits)))

-- the same, of what the pass over a segment says: its text is written, and then its offset
pub segment_done : (base at : ℕ) (fixups : List Fixup) (segments : List FixupSegment) (d : FixupSegment)
    (slot place next i end offset pages size : ℕ)
    (before out a b : List ℕ) → i < length segments → AreSegments segments
    → at + (4 + 4 * length segments + sum_by (segment_size fixups) segments) ≤ length before → length out ≡ length before
    → SegmentsSoFar base at fixups segments slot place next i before out
    → IsCut fixups end ((get_or segments i d).address + (get_or segments i d).file_size) → pages ≡ pages_of (get_or segments i d) fixups
    → offset ≡ (if pages == 0 then 0 else place - at) → length (starts_text base fixups (get_or segments i d) pages) ≡ starts_size pages
    → a ≡ put place (starts_text base fixups (get_or segments i d) pages) out → b ≡ put slot (le_bytes 4 offset) a
    → size ≡ starts_size pages
    → SegmentsSoFar base at fixups segments (slot + 4) (place + size) end (i + 1) before b
unfolding segment_text segment_size
segment_done base at fixups segments d slot place next i end offset pages size before out a b lt order room kept so_far cut counted is
    long first second sized =
    let moved : place + starts_size (pages_of (get_or segments i d) fixups) ≡ place + size =
    ap (λ (n : ℕ). place + n) (sym (sized ∙ ap (λ (p : ℕ). starts_size p) counted)) in
    let text : List ℕ = starts_text base fixups (get_or segments i d) pages in
    let fits = segment_room fixups segments i d lt in
    let whole : place + length text ≤ length out
    = omega (arith, kept, so_far.ends, room, fits, long, ap (λ (p : ℕ). starts_size p) counted) in
    let swapped : b ≡ put place text (put slot (le_bytes 4 offset) out)
    = second ∙ ap (put slot (le_bytes 4 offset)) first
    ∙ put_swap slot place (le_bytes 4 offset) text out (omega (arith, little_is_sound.long 4 offset, so_far.slots, so_far.ends, lt))
    whole in
    subst (λ (n : ℕ). SegmentsSoFar base at fixups segments (slot + 4) n end (i + 1) before b) moved
    (segments_go_on base at fixups segments d slot place next i end offset before out (put slot (le_bytes 4 offset) out) b lt order room
    so_far cut
    (is ∙ ap (λ (p : ℕ). if p == 0 then 0 else place - at) counted)
    (ap (λ (p : ℕ). length (starts_text base fixups (get_or segments i d) p)) (sym counted) ∙ long
    ∙ ap (λ (p : ℕ). starts_size p) counted) refl
    (swapped ∙ ap (λ (p : ℕ). put place (starts_text base fixups (get_or segments i d) p) (put slot (le_bytes 4 offset) out)) counted))

-- the places that a segment is written to lie inside, and its distance is small
pub record HasRoom (at slot place : ℕ) (fixups : List Fixup) (segments : List FixupSegment) (i : ℕ) (d : FixupSegment) (n : ℕ) : Type 0
  where
    pub offset : slot + 4 ≤ n
    pub text : place + segment_size fixups (get_or segments i d) ≤ n
    pub near : place - at < 2 ^ 32

pub has_room : (base at : ℕ) (fixups : List Fixup) (segments : List FixupSegment) (d : FixupSegment) (slot place next i : ℕ)
    (before out : List ℕ)
    → i < length segments → length segments ≤ 6 → All (λ s. pages_of s fixups ≤ 65535) segments
    → at + (4 + 4 * length segments + sum_by (segment_size fixups) segments) ≤ length before
    → SegmentsSoFar base at fixups segments slot place next i before out → HasRoom at slot place fixups segments i d (length before)
has_room base at fixups segments d slot place next i before out lt few pages room so_far =
    let more = segment_room fixups segments i d lt in
    let most = sum_bound fixups segments pages in
    let part = sum_by-take-le (segment_size fixups) segments i in
    record {
      offset = omega (arith, so_far.slots, room);
      text = omega (arith, so_far.ends, more, room);
      near = omega (arith, so_far.ends, part, most, few);
    }

-- all segments
pub segments_end : (base at : ℕ) (fixups : List Fixup) (segments : List FixupSegment) (slot place next i : ℕ) (before now : List ℕ)
    → length segments ≤ i → at + (4 + 4 * length segments + sum_by (segment_size fixups) segments) ≤ length before
    → SegmentsSoFar base at fixups segments slot place next i before now
    → (now ≡ put (at + 4) (offsets_text (4 + 4 * length segments) fixups segments ++ flat_map (segment_text base fixups) segments) before)
    × (length (offsets_text (4 + 4 * length segments) fixups segments ++ flat_map (segment_text base fixups) segments)
    ≡ 4 * length segments + sum_by (segment_size fixups) segments)
    × (place ≡ at + (4 + 4 * length segments + sum_by (segment_size fixups) segments))
segments_end base at fixups segments slot place next i before now past room so_far =
    let all : take i segments ≡ segments = take_all i segments past in
    let size = length-offsets (4 + 4 * length segments) fixups segments in
    let long : length (flat_map (segment_text base fixups) segments) ≡ sum_by (segment_size fixups) segments =
    ap (λ (t : List FixupSegment). length (flat_map (segment_text base fixups) t)) (sym all) ∙ so_far.long
    ∙ ap (sum_by (segment_size fixups)) all in (
      so_far.written
          ∙ ap (λ (t : List FixupSegment). put (at + 4) (offsets_text (4 + 4 * length segments) fixups t)
          (put (at + 4 + 4 * length segments) (flat_map (segment_text base fixups) t) before)) all
          ∙ put_in_front (at + 4) (at + 4 + 4 * length segments) _ _ before (omega (arith, size)) (omega (arith, long, room)),
      omega (
        arith,
        size,
        long,
        length-append (offsets_text (4 + 4 * length segments) fixups segments)
            (flat_map (segment_text base fixups) segments),
      ),
      omega (arith, so_far.ends, ap (sum_by (segment_size fixups)) all),
    )
