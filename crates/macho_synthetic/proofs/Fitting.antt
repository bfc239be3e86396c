-- The texts have the room of their ranges, which end in the file.
--
-- The place of an address in the file is in a file part, or 0; file parts end in the file. A range that isn't empty lies in that of
-- `__TEXT`.
use Rattle.std.proofs.Common.{◌≡◌, ℕ, ◌+◌, ◌-◌, ◌<◌, ◌≤◌, ◌⊎◌, inl, inr, nat_le, nat_lt, Bool, true, false, cond, List, [], ◌∷◌, ◌&&◌, filter, refl, arith}
use Rattle.std.specs.Prelude.{All}
use Rattle.std.proofs.lemmas.Bool.{leb-true, ltb-true, cases_lt}
use Rattle.std.proofs.lemmas.List.Elements.{All-head, All-tail}
use Rattle.macho_bytes.proofs.Members.{all_contains, contains_all}
use Rattle.macho_model.specs.declared.placed.Counts.{Counts}
use Rattle.macho_model.specs.declared.placed.PlacedSegment.{PlacedSegment}
use Rattle.macho_model.specs.declared.placed.Range64.{Range64}
use Rattle.macho_model.specs.Links.{Link}
use Rattle.macho_model.specs.Segments.{TEXT}
use Rattle.macho_model.specs.Placement.{Placed}
use Rattle.macho_model.specs.steps.Parts.{RangeLies, LiesInNamed}
use Rattle.macho_model.specs.Spans.{range_span}
use Rattle.macho_model.specs.Lists.{of_first}
use Rattle.macho_model.specs.Addresses.{offset_in_file}
use Rattle.macho_promise.specs.Promise.{IsLaidOut}
use Rattle.macho_consumed.proofs.RowLaws.{are_many}
use Rattle.macho_placed_laws.proofs.Room.{file_parts_end}
use Rattle.macho_placed_laws.proofs.Backed.{offset_is}
use Rattle.macho_synthetic.specs.Made.{IsToMake}
use Rattle.macho_synthetic.specs.Laws.{TextsFitRanges}
use Rattle.macho_synthetic.proofs.Passing.{unwind_counted}
use Rattle.macho_synthetic.proofs.Said.{initializers_room}
use Rattle.macho_model.proofs.Parts.{in_order_of, in_segment_of}
use Rattle.macho_bytes.proofs.Bools.{and_left, and_right}

-- the first of some numbers that are all small
first_small : {X : Type 0} (test : X → Bool) (f : X → ℕ) (xs : List X) (b : ℕ) → All (λ x. test x ≡ true → f x ≤ b) xs
    → of_first 0 f (filter test xs) ≤ b
first_small test f [] b each = omega arith
first_small {X = X} test f (x ∷ xs) b each =
    by (test x) (All-head (λ (y : X). test y ≡ true → f y ≤ b) x xs each)
    (first_small test f xs b (All-tail (λ (y : X). test y ≡ true → f y ≤ b) x xs each))
  where
    by : (t : Bool) → (t ≡ true → f x ≤ b) → of_first 0 f (filter test xs) ≤ b
        → of_first 0 f (cond t (x ∷ filter test xs) (filter test xs)) ≤ b
    by true low rest = low refl
    by false low rest = rest

-- file parts end in the file
parts_end : (l : Link) (counts : Counts) (p : Placed) → IsToMake l counts p
    → All (λ (s : PlacedSegment). s.file_offset + s.file_size ≤ p.linkedit.signature.end) p.segments
parts_end l counts p make =
    let laid : IsLaidOut l counts p = record {
      segments = make.placed.order.segments;
      names = make.placed.order.names;
      least = make.placed.least;
      sections = make.placed.sections;
    } in
    file_parts_end l counts p make.placed.placed.follow laid

-- so the place of any address does
place_in_file : (l : Link) (counts : Counts) (p : Placed) (a : ℕ) → IsToMake l counts p → offset_in_file p a ≤ p.linkedit.signature.end
unfolding offset_in_file
place_in_file l counts p a make =
    first_small (λ (t : PlacedSegment). nat_le t.address a && nat_lt a (t.address + t.file_size))
    (λ (s : PlacedSegment). s.file_offset + (a - s.address)) p.segments p.linkedit.signature.end
    (contains_all (λ (s : PlacedSegment). (nat_le s.address a && nat_lt a (s.address + s.file_size)) ≡ true
    → s.file_offset + (a - s.address) ≤ p.linkedit.signature.end) p.segments
    (λ s has inside.
    let end = all_contains (λ (t : PlacedSegment). t.file_offset + t.file_size ≤ p.linkedit.signature.end) p.segments s
    (parts_end l counts p make) has in
    let from : s.address ≤ a = leb-true s.address a (and_left (nat_le s.address a) (nat_lt a (s.address + s.file_size)) inside) in
    let to : a < s.address + s.file_size = ltb-true a (s.address + s.file_size)
    (and_right (nat_le s.address a) (nat_lt a (s.address + s.file_size)) inside) in
    omega (arith, end, from, to)))

-- THE end of a range
range_end : (l : Link) (counts : Counts) (p : Placed) (r : Range64) → IsToMake l counts p → RangeLies p r
    → offset_in_file p r.start + (r.end - r.start) ≤ p.linkedit.signature.end
range_end l counts p r make lies = by (cases_lt r.start r.end) lies.1
  where
    by : (r.start < r.end) ⊎ (r.end ≤ r.start) → (r.end ≡ r.start) ⊎ LiesInNamed p TEXT true (range_span r)
        → offset_in_file p r.start + (r.end - r.start) ≤ p.linkedit.signature.end
    by (inr none) here = omega (arith, none, place_in_file l counts p r.start make)
    by (inl some) (inl none) = absurd (omega (arith, some, none))
    by (inl some) (inr here) =
        let s : PlacedSegment = here.0 in
        let end = all_contains (λ (t : PlacedSegment). t.file_offset + t.file_size ≤ p.linkedit.signature.end) p.segments s
        (parts_end l counts p make) here.1 in
        let from : s.address ≤ r.start = here.3.from in
        let to : r.start + (r.end - r.start) ≤ s.address + s.file_size = here.3.to in
        let at = offset_is l p s r.start (in_order_of make.placed.placed) here.1 from (omega (arith, some, to)) in
        omega (arith, end, from, to, at)

pub texts_fit : TextsFitRanges
texts_fit l counts p make = record {
  rows = omega (arith, initializers_room l counts p make.counted make.placed.least.rooms, are_many l);
  offsets = λ text is. omega (arith, is.long, initializers_room l counts p make.counted make.placed.least.rooms);
  unwind = λ text is. omega (arith, is.room, make.placed.least.rooms.unwind, unwind_counted l counts p make);
  offsets_end = range_end l counts p p.init_offsets make (in_segment_of make.placed.placed).init_offsets;
  unwind_end = range_end l counts p p.unwind make (in_segment_of make.placed.placed).unwind;
}
