-- The loader's rules on segments, of a file whose segments are those of a placement.
--
-- The records are those of the placed segments, by number: so it is enough to test these. Neighbours follow each other, so none
-- begins below the end of the one before it. Ranks of names rise from neighbour to neighbour, so from each segment to every later
-- one: two segments of one name would have one rank, so `__TEXT` stands once where it stands.
use Rattle.std.proofs.Common.{◌≡◌, ℕ, zero, suc, ◌+◌, ◌<◌, Bool, true, false, List, [], ◌∷◌, map, length, get_or, refl, sym, ap, subst, ◌∙◌, arith, All}
use Rattle.std.specs.Prelude.{filter, Contains}
use Rattle.std.proofs.lemmas.Bool.{le-leb}
use Rattle.std.proofs.lemmas.List.{get_or-map, length-map, get_or_default}
use Rattle.std.proofs.lemmas.List.Elements.{All-cons, All-nil, All-map, All-same, All-filter, filter_passes}
use Rattle.std.proofs.lemmas.Slice.Eq.{bytes_eq-Decides}
use Rattle.macho_records.specs.Segments.{text_of}
use Rattle.macho_records.specs.declared.header.SegmentCommand.{SegmentCommand}
use Rattle.macho_model.specs.declared.placed.PlacedSegment.{PlacedSegment}
use Rattle.macho_model.specs.Links.{Link}
use Rattle.macho_model.specs.Segments.{TEXT, segment_rank}
use Rattle.macho_model.specs.Placement.{Placed, is_segment_named, Follows}
use Rattle.macho_model.specs.Images.{segments_of, is_named}
use Rattle.macho_model.specs.HeadCommands.{segment_for}
use Rattle.macho_model.specs.Lists.{EachNext}
use Rattle.macho_commands.proofs.Told.{segment_taken}
use Rattle.macho_model.specs.SegmentRules.{begins_behind}

-- the record of a placed segment
abbrev pub record_for : Placed → PlacedSegment → SegmentCommand
record_for p s = segment_taken (segment_for p s)

records-are : (p : Placed) (segments : List PlacedSegment) → map segment_taken (map (segment_for p) segments) ≡ map (record_for p) segments
records-are p [] = refl
records-are p (s ∷ segments) = ap (λ (rs : List SegmentCommand). record_for p s ∷ rs) (records-are p segments)

-- the file's segments are a placement's
abbrev pub AreOf : List ℕ → Placed → Type 0
AreOf b p = segments_of b ≡ map (record_for p) p.segments

pub are-of : (b : List ℕ) (p : Placed) → segments_of b ≡ map segment_taken (map (segment_for p) p.segments) → AreOf b p
are-of b p told = told ∙ records-are p p.segments

-- a test of each segment is one of each placed segment
pub each_tested : (b : List ℕ) (p : Placed) (test : SegmentCommand → Bool) → AreOf b p → All (λ q. test (record_for p q) ≡ true) p.segments
    → All (λ s. test s ≡ true) (segments_of b)
each_tested b p test are each =
    All-same (λ s. test s ≡ true) (segments_of b) (map (record_for p) p.segments) are
    (All-map (λ s. test s ≡ true) (record_for p) p.segments each)

-- neighbours stand one behind the other
pub neighbours_follow : (l : Link) (b : List ℕ) (p : Placed) (s : PlacedSegment) → AreOf b p → EachNext (Follows l) p.segments
    → EachNext (λ x y. begins_behind x y ≡ true) (segments_of b)
neighbours_follow l b p s are follow = subst (EachNext (λ x y. begins_behind x y ≡ true)) (sym are) of_records
  where
    of_records : EachNext (λ x y. begins_behind x y ≡ true) (map (record_for p) p.segments)
    of_records k x y at_k at_next =
        let long = length-map p.segments (record_for p) in
        let one : PlacedSegment = get_or p.segments k s in
        let two : PlacedSegment = get_or p.segments (k + 1) s in
        let lt : k + 1 < length p.segments = omega (arith, long, at_next.0) in
        let there : k < length p.segments = omega (arith, lt) in
        let first : record_for p one ≡ x = sym (get_or-map (record_for p) p.segments k s x there) ∙ at_k.1 in
        let second : record_for p two ≡ y = sym (get_or-map (record_for p) p.segments (k + 1) s y lt) ∙ at_next.1 in
        let next = follow k one two (there, sym (get_or_default p.segments k s one there))
        (lt, sym (get_or_default p.segments (k + 1) s two lt)) in
        le-leb _ _ (omega (
          arith,
          ap (λ (r : SegmentCommand). r.vmaddr + r.vmsize) first,
          ap (λ (r : SegmentCommand). r.vmaddr) second,
          next.address,
        ))

-- ranks rise from each segment to every later one
abbrev rank : Link → PlacedSegment → ℕ
rank l s = segment_rank l (text_of s.name)

abbrev Rises : Link → List PlacedSegment → Type 0
Rises l [] = Unit {0}
Rises l (s ∷ segments) = All (λ t. rank l s < rank l t) segments × Rises l segments

follows_rise : (l : Link) (segments : List PlacedSegment) → EachNext (Follows l) segments → Rises l segments
follows_rise l [] follow = tt
follows_rise l (s ∷ []) follow = (All-nil (λ t. rank l s < rank l t), tt)
follows_rise l (s ∷ t ∷ segments) follow =
    let later : EachNext (Follows l) (t ∷ segments) = λ k x y at_k at_next.
    let more : suc k + 1 ≡ suc (k + 1) = omega arith in
    let here : suc k < length (s ∷ t ∷ segments) = omega (arith, at_k.0) in
    let behind : suc k + 1 < length (s ∷ t ∷ segments) = omega (arith, at_next.0) in
    follow (suc k) x y (here, at_k.1) (behind, ap (λ (n : ℕ). get_or (s ∷ t ∷ segments) n y) more ∙ at_next.1) in
    let rest = follows_rise l (t ∷ segments) later in
    let next : rank l s < rank l t = (follow 0 s t (omega arith, refl) (omega arith, refl)).rank in
    (All-cons (λ u. rank l s < rank l u) t segments next (λ k d lt. omega (arith, next, rest.0 k d lt)), rest)

-- a segment that has the name has its rank
text_rank : (l : Link) (s : PlacedSegment) → is_segment_named TEXT s ≡ true → rank l s ≡ 1
unfolding segment_rank
text_rank l s named = ap (segment_rank l) ((bytes_eq-Decides (text_of s.name) TEXT).0 named)

-- none of higher rank has the name
none_named : (l : Link) (segments : List PlacedSegment) → All (λ t. 1 < rank l t) segments → filter (is_segment_named TEXT) segments ≡ []
none_named l [] above = refl
none_named l (t ∷ segments) above = by (none_named l segments (λ k d lt. above (suc k) d (omega arith))) (is_segment_named TEXT t) refl
  where
    by : filter (is_segment_named TEXT) segments ≡ [] → (x : Bool) → is_segment_named TEXT t ≡ x
        → filter (is_segment_named TEXT) (t ∷ segments) ≡ []
    by rest true e = absurd (omega (arith, text_rank l t e, above 0 t (omega arith)))
    by rest false e = rw e rest

-- THE one `__TEXT`
one_named : (l : Link) (segments : List PlacedSegment) → Rises l segments → (k : ℕ) (s : PlacedSegment) → k < length segments
    → get_or segments k s ≡ s
    → is_segment_named TEXT s ≡ true → length (filter (is_segment_named TEXT) segments) ≡ 1
one_named l [] rises k s lt at_k named = absurd (omega arith)
one_named l (t ∷ segments) rises zero s lt at_k named =
    let first : is_segment_named TEXT t ≡ true = subst (λ (x : PlacedSegment). is_segment_named TEXT x ≡ true) (sym at_k) named in
    rw first (ap (λ (ss : List PlacedSegment). length (t ∷ ss))
    (none_named l segments (λ j d below. omega (arith, text_rank l t first, rises.0 j d below))))
one_named l (t ∷ segments) rises (suc k) s lt at_k named =
    let later : is_segment_named TEXT (get_or segments k s) ≡ true = subst (λ (x : PlacedSegment). is_segment_named TEXT x ≡ true)
    (sym at_k) named in
    by (one_named l segments rises.1 k s (omega arith) at_k named) (text_rank l (get_or segments k s) later) (rises.0 k s (omega arith))
    (is_segment_named TEXT t) refl
  where
    by : length (filter (is_segment_named TEXT) segments) ≡ 1 → rank l (get_or segments k s) ≡ 1 → rank l t < rank l (get_or segments k s)
        → (x : Bool)
        → is_segment_named TEXT t ≡ x → length (filter (is_segment_named TEXT) (t ∷ segments)) ≡ 1
    by rest one above true e = absurd (omega (arith, text_rank l t e, one, above))
    by rest one above false e = rw e rest

pub one_text : (l : Link) (p : Placed) (s : PlacedSegment) → EachNext (Follows l) p.segments → Contains p.segments s
    → is_segment_named TEXT s ≡ true
    → length (filter (is_segment_named TEXT) p.segments) ≡ 1
one_text l p s follow there named = one_named l p.segments (follows_rise l p.segments follow) there.0 s there.1 there.2 named

-- the records of a name are those of the placed segments of the name
pub named-records : (p : Placed) (segments : List PlacedSegment) (name : List ℕ)
    → filter (is_named name) (map (record_for p) segments) ≡ map (record_for p) (filter (is_segment_named name) segments)
named-records p [] name = refl
named-records p (s ∷ segments) name = by (named-records p segments name) (is_segment_named name s) refl
  where
    by : filter (is_named name) (map (record_for p) segments) ≡ map (record_for p) (filter (is_segment_named name) segments) → (x : Bool)
        → is_segment_named name s ≡ x
        → filter (is_named name) (map (record_for p) (s ∷ segments)) ≡ map (record_for p) (filter (is_segment_named name) (s ∷ segments))
    by rest true e = rw e (ap (λ (rs : List SegmentCommand). record_for p s ∷ rs) rest)
    by rest false e = rw e rest

-- what holds of each placed segment where it has a name holds of each that has it
pub named_each : (p : Placed) (name : List ℕ) (P : PlacedSegment → Type 0) → All (λ s. is_segment_named name s ≡ true → P s) p.segments
    → All P (filter (is_segment_named name) p.segments)
named_each p name P each =
    let named = filter_passes (is_segment_named name) p.segments in
    let kept = All-filter (is_segment_named name) (λ s. is_segment_named name s ≡ true → P s) p.segments each in
    λ k d lt. kept k d lt (named k d lt)
