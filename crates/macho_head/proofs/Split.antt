-- The headers of a segment stand behind those of the segments before it.
--
-- All headers are those of the segments, one segment behind the other. So from where those of the first ones end on, as many as
-- a segment has are
-- its own; and a command more says the segment with these.
use Rattle.std.proofs.Common.{◌≡◌, ℕ, zero, suc, ◌+◌, ◌-◌, ◌<◌, ◌≤◌, List, [], ◌∷◌, ◌++◌, map, length, get_or, take, drop, slice_range, refl, sym, ap, ◌∙◌, arith, append_assoc}
use Rattle.std.specs.List.{flat_map}
use Rattle.std.proofs.Math.Seq.{drop-append-add, take-append_seam}
use Rattle.std.proofs.lemmas.List.{map-append, take_more, length-append}
use Rattle.std.proofs.lemmas.List.Concat.{flat_map-cons}
use Rattle.std.proofs.lemmas.Grind.{flat_map-append}
use Rattle.std.proofs.lemmas.List.Folds.{length-flat_map-take}
use Rattle.macho_records.specs.declared.header.SectionHeader.{SectionHeader}
use Rattle.macho_model.specs.declared.placed.PlacedSegment.{PlacedSegment}
use Rattle.macho_model.specs.Placement.{Placed}
use Rattle.macho_model.specs.Head.{headers_in}
use Rattle.macho_model.specs.HeadCommands.{HeadCommand, segment_for}
use Rattle.macho_head.specs.Splits.{HeadersAreSplit}

part_first : {X : Type 0} (xs ys : List X) → slice_range (xs ++ ys) 0 (0 + length xs) ≡ xs
part_first xs ys =
    let n : 0 + length xs - 0 ≡ length xs = omega arith in
    ap (λ (k : ℕ). take k (xs ++ ys)) n ∙ take-append_seam xs ys

part_behind : {X : Type 0} (xs ys : List X) (a n : ℕ)
    → slice_range (xs ++ ys) (length xs + a) (length xs + a + n) ≡ slice_range ys a (a + n)
part_behind xs ys a n =
    let size : length xs + a + n - (length xs + a) ≡ a + n - a = omega arith in
    ap (λ (k : ℕ). take k (drop (length xs + a) (xs ++ ys))) size ∙ ap (take (a + n - a)) (drop-append-add xs ys a)

-- THE part of a list that one element makes
pub part_of : {X Y : Type 0} (f : X → List Y) (xs : List X) (i : ℕ) (d : X) → i < length xs
    → slice_range (flat_map f xs) (length (flat_map f (take i xs))) (length (flat_map f (take i xs)) + length (f (get_or xs i d))) ≡ f
    (get_or xs i d)
part_of f [] i d lt = absurd (omega arith)
part_of {Y = Y} f (x ∷ xs) zero d lt =
    ap (λ (ys : List Y). slice_range ys 0 (0 + length (f x))) (flat_map-cons f x xs) ∙ part_first (f x) (flat_map f xs)
part_of {Y = Y} f (x ∷ xs) (suc i) d lt =
    let n : ℕ = length (f (get_or xs i d)) in
    let at : length (flat_map f (x ∷ take i xs)) ≡ length (f x) + length (flat_map f (take i xs)) =
    ap length (flat_map-cons f x (take i xs)) ∙ length-append (f x) (flat_map f (take i xs)) in
    ap (λ (ys : List Y). slice_range ys (length (flat_map f (x ∷ take i xs))) (length (flat_map f (x ∷ take i xs)) + n))
    (flat_map-cons f x xs)
    ∙ ap (λ (k : ℕ). slice_range (f x ++ flat_map f xs) k (k + n)) at
    ∙ part_behind (f x) (flat_map f xs) (length (flat_map f (take i xs))) n ∙ part_of f xs i d (omega arith)

flat_map_next : {X Y : Type 0} (f : X → List Y) (xs : List X) (i : ℕ) (d : X) → i < length xs
    → length (flat_map f (take (i + 1) xs)) ≡ length (flat_map f (take i xs)) + length (f (get_or xs i d))
flat_map_next {X = X} {Y = Y} f xs i d lt =
    ap (λ (ys : List X). length (flat_map f ys)) (take_more xs i d lt) ∙ ap length (flat_map-append f (take i xs) (get_or xs i d ∷ []))
    ∙ length-append (flat_map f (take i xs)) (flat_map f (get_or xs i d ∷ []))
    ∙ ap (λ (n : ℕ). length (flat_map f (take i xs)) + n) (one f (get_or xs i d))
  where
    one : (g : X → List Y) (x : X) → length (flat_map g (x ∷ [])) ≡ length (g x)
    one g x = ap length (flat_map-cons g x []) ∙ length-append (g x) [] ∙ omega arith

-- the commands of the first segments are added, and their headers passed
pub record AddedSegments (p : Placed) (before now : List HeadCommand) (at i : ℕ) : Type 0 where
  pub passed : at ≡ length (flat_map (headers_in p) (take i p.segments))
  pub said : now ≡ before ++ map (segment_for p) (take i p.segments)

-- the headers of the next segment are there
pub next_inside : (p : Placed) (before now : List HeadCommand) (at i : ℕ) (s d : PlacedSegment) → HeadersAreSplit p
    → AddedSegments p before now at i
    → i < length p.segments → s ≡ get_or p.segments i d → at + length (headers_in p s) ≤ length p.output_sections
next_inside p before now at i s d split added lt is =
    let low = length-flat_map-take (headers_in p) p.segments i d lt in
    let own : length (headers_in p s) ≡ length (headers_in p (get_or p.segments i d)) =
    ap (λ (u : PlacedSegment). length (headers_in p u)) is in
    omega (arith, low, own, added.passed, ap length split.are)

-- and they are its own
pub next_own : (p : Placed) (before now : List HeadCommand) (at i : ℕ) (s d : PlacedSegment) → HeadersAreSplit p
    → AddedSegments p before now at i
    → i < length p.segments → s ≡ get_or p.segments i d → slice_range p.output_sections at (at + length (headers_in p s)) ≡ headers_in p s
next_own p before now at i s d split added lt is =
    rw is (ap (λ (hs : List SectionHeader). slice_range hs at (at + length (headers_in p (get_or p.segments i d)))) (sym split.are)
    ∙ ap (λ (k : ℕ). slice_range (flat_map (headers_in p) p.segments) k (k + length (headers_in p (get_or p.segments i d)))) added.passed
    ∙ part_of (headers_in p) p.segments i d lt)

-- one segment more
pub one_more : (p : Placed) (before now next : List HeadCommand) (at i n : ℕ) (c : HeadCommand) (s d : PlacedSegment)
    → AddedSegments p before now at i
    → i < length p.segments → s ≡ get_or p.segments i d → c ≡ segment_for p s → n ≡ length (headers_in p s) → next ≡ now ++ c ∷ []
    → AddedSegments p before next (at + n) (i + 1)
one_more p before now next at i n c s d added lt is said count pushed = record {
  passed =
      let step = flat_map_next (headers_in p) p.segments i d lt in
      let own : length (headers_in p s) ≡ length (headers_in p (get_or p.segments i d)) =
      ap (λ (u : PlacedSegment). length (headers_in p u)) is in
      omega (arith, step, own, added.passed, count);
  said =
      let last : c ∷ [] ≡ map (segment_for p) (get_or p.segments i d ∷ []) =
      ap (λ (x : HeadCommand). x ∷ []) (said ∙ ap (segment_for p) is) in
      pushed ∙ ap (λ (cs : List HeadCommand). cs ++ c ∷ []) added.said
      ∙ append_assoc before (map (segment_for p) (take i p.segments)) (c ∷ [])
      ∙ ap (λ (cs : List HeadCommand). before ++ (map (segment_for p) (take i p.segments) ++ cs)) last
      ∙ ap (λ (cs : List HeadCommand). before ++ cs) (sym (map-append (segment_for p) (take i p.segments) (get_or p.segments i d ∷ []))
      ∙ ap (map (segment_for p)) (sym (take_more p.segments i d lt)));
}

-- a segment that stands for none
abbrev pub no_segment : PlacedSegment
no_segment = record { name = record { 0 = [] }; address = 0; size = 0; file_offset = 0; file_size = 0 }
