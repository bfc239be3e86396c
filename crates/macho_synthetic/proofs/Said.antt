-- A file in which the texts that were made stand at their ranges says the initializers and the unwind information.
--
-- The range of initializers lies in the file part of `__TEXT`, so its addresses follow one another in the file as they do in memory, and
-- number k of the file's offsets is number k of the text. The range of unwind information has the room that was counted, so it begins with
-- the text, and what the text's look-up finds is found in it.
use Rattle.std.proofs.Common.{◌≡◌, ℕ, ◌+◌, ◌*◌, ◌-◌, ◌<◌, ◌≤◌, ◌⊎◌, inl, inr, ◌==◌, eq-eqb, Bool, true, cond, List, [], length, map, take, drop, refl, sym, ap, subst, ◌∙◌, arith}
use Rattle.std.specs.Prelude.{slice_range}
use Rattle.std.specs.List.{range_with_len}
use Rattle.std.proofs.lemmas.List.{take-take, length-take, length-drop}
use Rattle.macho_bytes.specs.Numbers.{le_at}
use Rattle.macho_bytes.specs.Texts.{Stands}
use Rattle.macho_bytes.proofs.Reading.{le_at-between}
use Rattle.macho_bytes.proofs.Members.{range_contains}
use Rattle.macho_model.specs.declared.placed.Counts.{Counts}
use Rattle.macho_model.specs.declared.placed.PlacedSegment.{PlacedSegment}
use Rattle.macho_model.specs.Links.{Link}
use Rattle.macho_model.specs.Segments.{TEXT}
use Rattle.macho_model.specs.Placement.{Placed}
use Rattle.macho_model.specs.steps.Parts.{LiesInNamed}
use Rattle.macho_model.specs.Spans.{range_span}
use Rattle.macho_model.specs.Addresses.{offset_in_file}
use Rattle.macho_model.specs.Made.{initializers_of}
use Rattle.macho_unwind_pages.specs.Bounds.{unwind_bound_of}
use Rattle.macho_unwind.specs.declared.lookup.Found.{Found}
use Rattle.macho_unwind.specs.Lookup.{UnwindFinds}
use Rattle.macho_unwind.specs.Entries.{BeginsWith, IsFoundFor}
use Rattle.macho_unwind.proofs.EntryLookup.{nothing-finds}
use Rattle.macho_model.specs.Order.{HaveRoom}
use Rattle.macho_promise.specs.Sizes.{AreCounts, counts_with, unwind_input, unwind_size, text_span}
use Rattle.macho_promise.specs.UnwindSays.{resolved_entries, unwind_bytes, IsUnwindText}
use Rattle.macho_model.specs.Consumed.{entries_of_link}
use Rattle.macho_consumed.proofs.Joined.{mapped_agree}
use Rattle.macho_placed_laws.proofs.Backed.{offset_is}
use Rattle.macho_synthetic.specs.Made.{IsToMake, offset_said, IsUnwindMade}
use Rattle.macho_synthetic.specs.Laws.{OffsetsAreSaid, UnwindIsSaid}
use Rattle.macho_synthetic.proofs.Passing.{as_many, unwind_counted}
use Rattle.macho_model.proofs.Parts.{in_order_of, in_segment_of}
use Rattle.macho_promise.proofs.Counted.{initializers_counted, unwind_counted as entries_counted}

pub initializers_room : (l : Link) (counts : Counts) (p : Placed) → AreCounts l counts → HaveRoom counts p
    → p.init_offsets.end ≡ p.init_offsets.start + 4 * length (initializers_of l)
initializers_room l counts p are rooms =
    rooms.initializers ∙ ap (λ (n : ℕ). p.init_offsets.start + 4 * n) (initializers_counted l counts are)

-- an address of the range is in the file where the range is
in_range_file : (l : Link) (counts : Counts) (p : Placed) (k : ℕ) → IsToMake l counts p → k < length (initializers_of l)
    → offset_in_file p (p.init_offsets.start + 4 * k) ≡ offset_in_file p p.init_offsets.start + 4 * k
in_range_file l counts p k make lt = by (in_segment_of make.placed.placed).init_offsets.1
  where
    room : p.init_offsets.end ≡ p.init_offsets.start + 4 * length (initializers_of l)
    room = initializers_room l counts p make.counted make.placed.least.rooms

    by : (p.init_offsets.end ≡ p.init_offsets.start) ⊎ LiesInNamed p TEXT true (range_span p.init_offsets)
        → offset_in_file p (p.init_offsets.start + 4 * k) ≡ offset_in_file p p.init_offsets.start + 4 * k
    by (inl none) = absurd (omega (arith, none, room, lt))
    by (inr lies) =
        let s : PlacedSegment = lies.0 in
        let from : s.address ≤ p.init_offsets.start = lies.3.from in
        let to : p.init_offsets.start + 4 * length (initializers_of l) ≤ s.address + s.file_size = omega (arith, lies.3.to, room) in
        let first = offset_is l p s p.init_offsets.start (in_order_of make.placed.placed) lies.1 from (omega (arith, to, lt)) in
        let here = offset_is l p s (p.init_offsets.start + 4 * k) (in_order_of make.placed.placed) lies.1 (omega (arith, from))
        (omega (arith, to, lt)) in
        omega (arith, first, here, from)

-- number k of the file
pub offsets_said : OffsetsAreSaid
offsets_said l counts p b text make told stands =
    mapped_agree said_at (offset_said p text) (range_with_len 0 (length (initializers_of l)))
    (λ k has. one k (range_contains (length (initializers_of l)) k has)) ∙ told.are
  where
    o : ℕ
    o = offset_in_file p p.init_offsets.start

    said_at : ℕ → ℕ
    said_at k = p.base + le_at 4 b (offset_in_file p (p.init_offsets.start + 4 * k))

    one : (k : ℕ) → k < length (initializers_of l) → said_at k ≡ offset_said p text k
    one k lt =
        let at = in_range_file l counts p k make lt in
        let read : le_at 4 text (4 * k) ≡ le_at 4 b (o + 4 * k) =
        ap (λ (t : List ℕ). le_at 4 t (4 * k)) (sym stands.same) ∙ le_at-between 4 o (o + length text) (4 * k) b
        (omega (arith, told.long, lt)) in
        ap (λ (n : ℕ). p.base + le_at 4 b n) at ∙ ap (λ (n : ℕ). p.base + n) (sym read)

-- what stands at the start of a range, the range begins with
begins : (b text : List ℕ) (o n : ℕ) → Stands b (record { at = o; text = text }) → length text ≤ n
    → BeginsWith (slice_range b o (o + n)) text
begins b text o n stands fits =
    let room : o + n - o ≡ n = omega arith in
    let own : o + length text - o ≡ length text = omega arith in
    let front : 0 + length text - 0 ≡ length text = omega arith in
    record {
      within = omega (arith, stands.within, fits, length-take (o + n - o) (drop o b), length-drop o b);
      same = ap (λ (m : ℕ). take m (slice_range b o (o + n))) front ∙ ap (λ (m : ℕ). take (length text) (take m (drop o b))) room
          ∙ take-take (length text) n (drop o b) fits ∙ sym (ap (λ (m : ℕ). take m (drop o b)) own) ∙ stands.same;
    }

pub no_room : (l : Link) (counts : Counts) (p : Placed) → AreCounts l counts → HaveRoom counts p → resolved_entries l p ≡ []
    → p.unwind.end ≡ p.unwind.start
no_room l counts p are rooms none =
    let zero_entries : (length (entries_of_link l) == 0) ≡ true = eq-eqb _ _ (omega (arith, ap length none, as_many l p)) in
    let size : unwind_size l ≡ 0 = ap (λ (t : Bool). cond t 0 (unwind_bound_of (map (unwind_input l) (entries_of_link l)) (text_span l)))
    zero_entries in
    omega (arith, rooms.unwind, entries_counted l counts are, size)

unwind_begins : (l : Link) (counts : Counts) (p : Placed) (b text : List ℕ) → IsToMake l counts p → IsUnwindMade l p text
    → Stands b (record { at = offset_in_file p p.unwind.start; text = text }) → BeginsWith (unwind_bytes b p) text
unfolding unwind_bytes
unwind_begins l counts p b text make made stands =
    begins b text (offset_in_file p p.unwind.start) (p.unwind.end - p.unwind.start) stands
    (omega (arith, made.room, make.placed.least.rooms.unwind, unwind_counted l counts p make))

no_bytes : (b : List ℕ) (p : Placed) → p.unwind.end ≡ p.unwind.start → unwind_bytes b p ≡ []
unfolding unwind_bytes
no_bytes b p none =
    let o : ℕ = offset_in_file p p.unwind.start in
    let zero_bytes : o + (p.unwind.end - p.unwind.start) - o ≡ 0 = omega (arith, none) in
    ap (λ (n : ℕ). take n (drop o b)) zero_bytes

-- THE unwind information of the file
pub unwind_said : UnwindIsSaid
unwind_said l counts p b text make made stands = record {
  says = record {
    content = text;
    exact = made.exact;
    begins = front;
    finds = λ offset x. (λ finds. by offset x finds made.exact, found offset x);
  };
  content = refl;
}
  where
    front : BeginsWith (unwind_bytes b p) text
    front = unwind_begins l counts p b text make made stands

    found : (offset : ℕ) (x : Found) → IsFoundFor p.base (resolved_entries l p) offset x → UnwindFinds (unwind_bytes b p) offset x
    found offset x is =
        subst (λ (y : Found). UnwindFinds (unwind_bytes b p) offset y) (sym is.is)
        (made.found (unwind_bytes b p) front offset is.entry is.of_offset)

    by : (offset : ℕ) (x : Found) → UnwindFinds (unwind_bytes b p) offset x → IsUnwindText p.base (resolved_entries l p) text
        → IsFoundFor p.base (resolved_entries l p) offset x
    by offset x finds (inl none) =
        absurd (nothing-finds (unwind_bytes b p) (no_bytes b p (no_room l counts p make.counted make.placed.least.rooms none.0)) offset
        x finds)
    by offset x finds (inr some) = made.only some.0 (unwind_bytes b p) front offset x finds
