-- The segments of a file, as the placement tells of them.
--
-- Lists of places that agree have the same numbers at each place: so each placed segment has its command, with its addresses
-- and its file part, and is mapped unless it is the one that keeps addresses free. Ranks of names rise from segment to segment,
-- so a name has one segment; hence the file's `__TEXT` is the placement's, and both begin at one base.
use Rattle.std.proofs.Common.{◌≡◌, ℕ, zero, suc, ◌+◌, ◌<◌, Bool, true, false, not, List, [], ◌∷◌, length, get_or, map, filter, cond, refl, sym, ap, subst, ◌∙◌, arith, inl, inr}
use Rattle.std.specs.Prelude.{Contains}
use Rattle.std.specs.Str.{bytes_eq}
use Rattle.std.proofs.lemmas.List.{get_or-map, length-map}
use Rattle.macho_bytes.specs.Texts.{name_of}
use Rattle.macho_records.specs.Segments.{text_of}
use Rattle.macho_records.specs.declared.header.SegmentCommand.{SegmentCommand}
use Rattle.macho_model.specs.declared.placed.Counts.{Counts}
use Rattle.macho_model.specs.declared.placed.PlacedSegment.{PlacedSegment}
use Rattle.macho_model.specs.Lists.{IsNumber, of_first, EachNext}
use Rattle.macho_model.specs.Links.{Link}
use Rattle.macho_model.specs.Segments.{PAGEZERO, TEXT, segment_rank}
use Rattle.macho_model.specs.Placement.{Placed, is_segment_named, IsPlaced, Follows}
use Rattle.macho_model.specs.Images.{segments_of, mapped_segments, is_named, base_of}
use Rattle.macho_model.specs.Agreement.{SegmentsAgree}
use Rattle.macho_fixups.specs.declared.run.FixupSegment.{FixupSegment}
use Rattle.macho_fixups.specs.Readings.{AreSegmentsOf}
use Rattle.macho_promise.specs.FixupsSay.{fixup_segments}
use Rattle.macho_promise.specs.steps.Segments.{fixup_segment}
use Rattle.macho_model.specs.steps.Agreement.{SegmentPlace, place_by_command, place_told}
use Rattle.macho_bytes.proofs.Members.{contains_first, nil_contains, contains_map, map_contains, contains_filter, filter_contains}
use Rattle.macho_model.proofs.Sections.{one_named}

-- a placed segment has a command of the file
pub record HasCommand (b : List ℕ) (s : PlacedSegment) : Type 0 where
  pub command : SegmentCommand
  pub one : Contains (segments_of b) command
  pub same : place_by_command command ≡ place_told s

pub has_command : (b : List ℕ) (p : Placed) (s : PlacedSegment) → SegmentsAgree b p → Contains p.segments s → HasCommand b s
has_command b p s agree one =
    let there = subst (λ (xs : List SegmentPlace). Contains xs (place_told s)) (sym agree) (contains_map place_told p.segments s one) in
    let r = map_contains place_by_command (segments_of b) (place_told s) there in
    record { command = r.0; one = r.1; same = r.2 }

-- and one that is mapped, with its numbers
pub record IsMapped (b : List ℕ) (s : PlacedSegment) : Type 0 where
  pub command : SegmentCommand
  pub one : Contains (mapped_segments b) command
  pub address : command.vmaddr ≡ s.address
  pub size : command.vmsize ≡ s.size
  pub file_offset : command.fileoff ≡ s.file_offset
  pub file_size : command.filesize ≡ s.file_size

pub is_mapped : (b : List ℕ) (p : Placed) (s : PlacedSegment) → SegmentsAgree b p → Contains p.segments s
    → is_segment_named PAGEZERO s ≡ false → IsMapped b s
unfolding mapped_segments
is_mapped b p s agree one named =
    let h = has_command b p s agree one in
    let name : name_of h.command.segname ≡ text_of s.name = ap (λ (x : SegmentPlace). x.0) h.same in
    let unnamed : is_named PAGEZERO h.command ≡ false = ap (λ (n : List ℕ). bytes_eq n PAGEZERO) name ∙ named in
    record {
      command = h.command;
      one = contains_filter (λ (c : SegmentCommand). not (is_named PAGEZERO c)) (segments_of b) h.command h.one (ap not unnamed);
      address = ap (λ (x : SegmentPlace). x.1) h.same;
      size = ap (λ (x : SegmentPlace). x.2) h.same;
      file_offset = ap (λ (x : SegmentPlace). x.3) h.same;
      file_size = ap (λ (x : SegmentPlace). x.4) h.same;
    }

-- no segment
pub no_placed : PlacedSegment
no_placed = record { name = record { 0 = [] }; address = 0; size = 0; file_offset = 0; file_size = 0 }

-- the file's segments are those that fixups see
pub segments_agree : (b : List ℕ) (p : Placed) → SegmentsAgree b p → AreSegmentsOf b (fixup_segments p)
segments_agree b p agree =
    record {
      count = many;
      each = λ k c d lt.
          let here : k < length p.segments = omega (arith, lt, length-map p.segments fixup_segment) in
          let there : k < length (segments_of b) = omega (arith, lt, many) in
          let said = get_or-map place_by_command (segments_of b) k c (place_by_command c) there in
          let told = get_or-map place_told p.segments k no_placed (place_by_command c) here in
          let seen = get_or-map fixup_segment p.segments k no_placed d here in
          let same : place_by_command (get_or (segments_of b) k c) ≡ place_told (get_or p.segments k no_placed) =
          sym said ∙ ap (λ (xs : List SegmentPlace). get_or xs k (place_by_command c)) agree ∙ told in
          record {
            address = ap (λ (x : SegmentPlace). x.1) same ∙ ap (λ (x : FixupSegment). x.address) (sym seen);
            file_offset = ap (λ (x : SegmentPlace). x.3) same ∙ ap (λ (x : FixupSegment). x.file_offset) (sym seen);
            file_size = ap (λ (x : SegmentPlace). x.4) same ∙ ap (λ (x : FixupSegment). x.file_size) (sym seen);
          };
    }
  where
    many : length (segments_of b) ≡ length (fixup_segments p)
    many =
        sym (length-map (segments_of b) place_by_command) ∙ ap (λ (xs : List SegmentPlace). length xs) agree
        ∙ length-map p.segments place_told
        ∙ sym (length-map p.segments fixup_segment)

-- ranks rise

-- the address of the first of some segments, as `base_of` has it
unfoldable first_placed : List PlacedSegment → ℕ
first_placed [] = 0
first_placed (s ∷ segments) = s.address

first_named : (name : List ℕ) (cs : List SegmentCommand) (ss : List PlacedSegment) → map place_by_command cs ≡ map place_told ss
    → of_first 0 (λ (s : SegmentCommand). s.vmaddr) (filter (is_named name) cs) ≡ first_placed (filter (is_segment_named name) ss)
unfolding first_placed
first_named name [] [] agree = refl
first_named name [] (s ∷ ss) agree = absurd (cc)
first_named name (c ∷ cs) [] agree = absurd (cc)
first_named name (c ∷ cs) (s ∷ ss) agree =
    by (first_named name cs ss (ap rest agree)) (is_segment_named name s) refl
  where
    rest : List SegmentPlace → List SegmentPlace
    rest [] = []
    rest (x ∷ xs) = xs

    front : List SegmentPlace → SegmentPlace
    front [] = place_told s
    front (x ∷ xs) = x

    same : place_by_command c ≡ place_told s
    same = ap front agree

    test_same : is_named name c ≡ is_segment_named name s
    test_same = ap (λ (x : SegmentPlace). bytes_eq x.0 name) same

    by : of_first 0 (λ (s : SegmentCommand). s.vmaddr) (filter (is_named name) cs) ≡ first_placed (filter (is_segment_named name) ss)
        → (t : Bool)
        → is_segment_named name s ≡ t
        → of_first 0 (λ (s : SegmentCommand). s.vmaddr) (cond (is_named name c) (c ∷ filter (is_named name) cs) (filter (is_named name) cs))
        ≡ first_placed (cond (is_segment_named name s) (s ∷ filter (is_segment_named name) ss) (filter (is_segment_named name) ss))
    by again true is = rw (test_same, is) (ap (λ (x : SegmentPlace). x.1) same)
    by again false is = rw (test_same, is) again

first_is : (s : PlacedSegment) (ss : List PlacedSegment) → ((t : PlacedSegment) → Contains ss t → t ≡ s) → Contains ss s
    → first_placed ss ≡ s.address
unfolding first_placed
first_is s [] only one = absurd (nil_contains s one)
first_is s (t ∷ ss) only one = ap (λ (x : PlacedSegment). x.address) (only t (contains_first t ss))

-- both begin at one base
pub one_base : (l : Link) (counts : Counts) (b : List ℕ) (p : Placed) → IsPlaced l counts p → SegmentsAgree b p → base_of b ≡ p.base
unfolding base_of
one_base l counts b p placed agree =
    let begins = placed.begins in
    let there = contains_filter (is_segment_named TEXT) p.segments begins.0 begins.1 begins.2 in
    let only : (t : PlacedSegment) → Contains (filter (is_segment_named TEXT) p.segments) t → t ≡ begins.0 = λ t h.
    let r = filter_contains (is_segment_named TEXT) p.segments t h in
    one_named l p.segments TEXT t begins.0 placed.follow r.0 begins.1 r.1 begins.2 in
    first_named TEXT (segments_of b) p.segments agree ∙ first_is begins.0 (filter (is_segment_named TEXT) p.segments) only there ∙ begins.3
    ∙ sym placed.base
