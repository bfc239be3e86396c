-- What the linker makes, and where it begins.
--
-- What the linker makes is not empty where it is there, and begins where the placement says. A merged output section of the same segment
-- with bytes can't begin there too, since of two in a row one ends before the other begins. Its name, its segment and its type are those of
-- its key.
use Rattle.std.proofs.Common.{◌≡◌, ℕ, suc, ◌+◌, ◌*◌, ◌<◌, ◌≤◌, ◌⊎◌, inl, inr, ◌==◌, ◌&&◌, ◌||◌, not, Bool, true, false, List, [], ◌∷◌, ◌++◌, ◌%◌, map, fold, length, get_or, refl, sym, ap, subst, ◌∙◌, arith, All, AllPairs, Contains, min}
use Rattle.std.specs.Prelude.{nat_lt}
use Rattle.std.proofs.lemmas.Bool.{lt-ltb}
use Rattle.std.proofs.lemmas.Bool.Decides.{nat_tests}
use Rattle.std.proofs.lemmas.List.{length-map, get_or-map}
use Rattle.std.proofs.lemmas.List.Elements.{All-map, Contains-append_left, Contains-append_right, Contains-append_cases}
use Rattle.macho_bytes.specs.Texts.{name_of}
use Rattle.macho_records.specs.Segments.{text_of, name_field}
use Rattle.macho_model.specs.declared.placed.Counts.{Counts}
use Rattle.macho_model.specs.declared.placed.PlacedSegment.{PlacedSegment}
use Rattle.macho_model.specs.declared.placed.Range64.{Range64}
use Rattle.macho_model.specs.declared.placed.Slot.{Slot}
use Rattle.macho_model.specs.Links.{Link, SectionId, header_at, carried_of}
use Rattle.macho_model.specs.Resolution.{chosen_commons}
use Rattle.macho_model.specs.Targets.{slots_of, stubs_of}
use Rattle.macho_model.specs.Segments.{PAGEZERO, TEXT, DATA_CONST, DATA, LINKEDIT, OutputKey, same_key, key_of, common_key, output_keys_of, segment_names_of, other_segments, has_section_in, list_if}
use Rattle.macho_model.specs.steps.Outputs.{OutputSection, Merged, InitOffsets, UnwindInfo, Stubs, Slots, pieces_of, extent_of, merged_in, output_sections_in, output_sections_of, output_header, POINTER_EXPONENT}
use Rattle.macho_model.specs.Placement.{Piece, Placed}
use Rattle.macho_model.specs.Spans.{piece, slot_span, range_span}
use Rattle.macho_model.specs.OutputSections.{around, flags_of_key, is_zeros, is_code}
use Rattle.macho_model.specs.steps.Least.{row_of, sections_in}
use Rattle.macho_model.proofs.Least.{EndsBefore, rows_in_order, pieces_in_order}
use Rattle.macho_layout_laws.specs.Laws.{IsWhollyPlaced}
use Rattle.macho_layout_laws.proofs.Names.{name_twice}
use Rattle.macho_bytes.proofs.Members.{map_contains, contains_flat_map, flat_map_contains, all_contains, contains_cases, nil_contains}
use Rattle.macho_bytes.proofs.Orders.{later_pairs}
use Rattle.macho_image_laws.proofs.Members.{one_or_pair}
use Rattle.macho_image_laws.proofs.LowByte.{type_is}
use Rattle.macho_model.proofs.Outputs.{least_of}
use Rattle.macho_model.proofs.Sections.{list_if_contains, name_in_field}
use Rattle.macho_model.proofs.Distinct.{distinct_contains}

-- An output section stands in a segment of the placement, with those of the same segment.
pub record IsOutput (l : Link) (counts : Counts) (p : Placed) (o : OutputSection) : Type 0 where
  pub segment : PlacedSegment
  pub placed : Contains p.segments segment
  pub there : Contains (sections_in l counts segment) o

pub output_of : (l : Link) (counts : Counts) (p : Placed) (o : OutputSection) → IsWhollyPlaced l counts p
    → Contains (output_sections_of l counts) o
    → IsOutput l counts p o
unfolding output_sections_of
output_of l counts p o placed has =
    let f = flat_map_contains (output_sections_in l counts) (segment_names_of l) o has in
    let s = map_contains (λ (t : PlacedSegment). text_of t.name) p.segments f.0
    (subst (λ (names : List (List ℕ)). Contains names f.0) (sym placed.order.segments) f.1) in
    record {
      segment = s.0;
      placed = s.1;
      there = subst (λ (n : List ℕ). Contains (output_sections_in l counts n) o) (sym s.2) f.2;
    }

-- two of one segment that are not one end before each other
ends_before : (l : Link) (counts : Counts) (p : Placed) (s : PlacedSegment) (o m : OutputSection) → IsWhollyPlaced l counts p
    → Contains p.segments s
    → Contains (sections_in l counts s) o → Contains (sections_in l counts s) m
    → (o ≡ m) ⊎ (EndsBefore (extent_of l p o) (extent_of l p m) ⊎ EndsBefore (extent_of l p m) (extent_of l p o))
unfolding row_of
ends_before l counts p s o m placed one in_o in_m =
    let pairs = all_contains (λ (t : PlacedSegment). AllPairs EndsBefore (row_of l counts p t (sections_in l counts t))) p.segments s
    (rows_in_order l counts p (least_of placed.least)) one in
    let behind : AllPairs EndsBefore (map (extent_of l p) (sections_in l counts s)) =
    λ i j d lt within. pairs (suc i) (suc j) d (omega arith) (omega (arith, within)) in
    one_or_pair (λ x y. EndsBefore (extent_of l p x) (extent_of l p y)) (sections_in l counts s) o m (mapped behind) in_o in_m
  where
    mapped : AllPairs EndsBefore (map (extent_of l p) (sections_in l counts s))
        → AllPairs (λ x y. EndsBefore (extent_of l p x) (extent_of l p y)) (sections_in l counts s)
    mapped pairs i j d lt within =
        let at : (k : ℕ) → k < length (sections_in l counts s)
        → get_or (map (extent_of l p) (sections_in l counts s)) k (extent_of l p d) ≡ extent_of l p (get_or (sections_in l counts s) k d) =
        λ k low. get_or-map (extent_of l p) (sections_in l counts s) k d (extent_of l p d) low in
        subst (λ (c : Piece). EndsBefore c (extent_of l p (get_or (sections_in l counts s) j d))) (at i (omega (arith, lt, within)))
        (subst (λ (c : Piece). EndsBefore (get_or (map (extent_of l p) (sections_in l counts s)) i (extent_of l p d)) c) (at j within)
        (pairs i j (extent_of l p d) lt (omega (arith, within, length-map (sections_in l counts s) (extent_of l p)))))

-- so with bytes they don't begin at one place
pub not_both : (l : Link) (counts : Counts) (p : Placed) (s : PlacedSegment) (o m : OutputSection) → IsWhollyPlaced l counts p
    → Contains p.segments s
    → Contains (sections_in l counts s) o → Contains (sections_in l counts s) m → (o ≡ m → ⊥)
    → (extent_of l p o).start ≡ (extent_of l p m).start → 1 ≤ (extent_of l p o).size → 1 ≤ (extent_of l p m).size → ⊥
not_both l counts p s o m placed one in_o in_m differ same some_o some_m =
    elim (ends_before l counts p s o m placed one in_o in_m) [
      | inl equal ↦ differ equal
      | inr pair ↦ elim pair [
        | inl before ↦ absurd (omega (arith, before, same, some_o))
        | inr behind ↦ absurd (omega (arith, behind, same, some_m))
      ]
    ]

-- A key's names end before a NUL, and its type is one byte.
pub record IsWholeKey (key : OutputKey) : Type 0 where
  pub segment : name_of key.segment ≡ key.segment
  pub name : name_of key.name ≡ key.name
  pub type : key.type < 256

pub key_whole : (l : Link) (key : OutputKey) → Contains (output_keys_of l) key → IsWholeKey key
unfolding output_keys_of
key_whole l key there = elim
    (Contains-append_cases (map (λ s. key_of (header_at l s)) (carried_of l))
    (list_if (not (length (chosen_commons l) == 0)) (common_key ∷ [])) key
    (distinct_contains same_key _ key there)) [
      | inl of_section ↦ section (map_contains (λ s. key_of (header_at l s)) (carried_of l) key of_section)
      | inr of_commons ↦ common (not (length (chosen_commons l) == 0)) of_commons
    ]
  where
    section : (s : SectionId) × Contains (carried_of l) s × (key_of (header_at l s) ≡ key) → IsWholeKey key
    section (s, carried, is) =
        subst IsWholeKey is
        (record {
          segment = name_twice (header_at l s).segname;
          name = name_twice (header_at l s).sectname;
          type = omega arith;
        })

    common : (b : Bool) → Contains (list_if b (common_key ∷ [])) key → IsWholeKey key
    common true has = elim (contains_cases common_key [] key has) [
      | inl here ↦ subst IsWholeKey here (record { segment = refl; name = refl; type = omega arith })
      | inr none ↦ absurd (nil_contains key none)
    ]
    common false has = absurd (nil_contains key has)

-- the header of a merged section tells its key
pub key_told : (l : Link) (p : Placed) (key : OutputKey) → Contains (output_keys_of l) key → key_of (output_header l p (Merged key)) ≡ key
key_told l p key there =
    let w = key_whole l key there in
    ap (λ (s : List ℕ). key_with s (name_of (name_field key.name)) (flags_of_key l key % 256))
    (name_in_field key.segment ∙ w.segment)
    ∙ ap (λ (n : List ℕ). key_with key.segment n (flags_of_key l key % 256)) (name_in_field key.name ∙ w.name)
    ∙ ap (key_with key.segment key.name) (type_is l key w.type)
  where
    key_with : List ℕ → List ℕ → ℕ → OutputKey
    key_with segment name type = record { segment = segment; name = name; type = type }

-- What the linker makes begins where the placement says, and is not empty.
pub record Begins (l : Link) (p : Placed) (o : OutputSection) (start : ℕ) : Type 0 where
  pub at : (extent_of l p o).start ≡ start
  pub some : 1 ≤ (extent_of l p o).size

range_begins : (r : Range64) (n : ℕ) → r.end ≡ r.start + 4 * n → 1 ≤ n
    → ((around (piece 2 (range_span r) ∷ [])).start ≡ r.start) × (1 ≤ (around (piece 2 (range_span r) ∷ [])).size)
range_begins r n room some = (refl, omega (arith, room, some))

pub init_begins : (l : Link) (counts : Counts) (p : Placed) → IsWhollyPlaced l counts p → 1 ≤ counts.initializers
    → Begins l p InitOffsets p.init_offsets.start
unfolding pieces_of
init_begins l counts p placed some =
    let b = range_begins p.init_offsets counts.initializers placed.least.rooms.initializers some in record { at = b.0; some = b.1 }

pub unwind_begins : (l : Link) (counts : Counts) (p : Placed) → IsWhollyPlaced l counts p → p.unwind.start < p.unwind.end
    → Begins l p UnwindInfo p.unwind.start
unfolding pieces_of
unwind_begins l counts p placed some = record { at = refl; some = omega (arith, some) }

-- the least of numbers of which the first is none greater
first_least : (n : ℕ) (ns : List ℕ) → All (λ m. n ≤ m) ns → fold min n ns ≡ n
first_least n [] each = refl
first_least n (m ∷ ns) each =
    let same : min n m ≡ n = omega (arith, each 0 m (omega arith)) in
    ap (λ (k : ℕ). fold min k ns) same ∙ first_least n ns (λ k d lt. each (suc k) d (omega (arith, lt)))

abbrev slot_piece : Slot → Piece
slot_piece t = piece POINTER_EXPONENT (slot_span t)

-- slots in a row begin with the first one
around_slots : (s : Slot) (rest : List Slot) → AllPairs EndsBefore (map slot_piece (s ∷ rest))
    → ((around (map slot_piece (s ∷ rest))).start ≡ s.address) × (1 ≤ (around (map slot_piece (s ∷ rest))).size)
around_slots s rest pairs =
    let later = later_pairs EndsBefore (map slot_piece (s ∷ rest)) pairs in
    let first = first_least s.address (map (λ (c : Piece). c.start) (map slot_piece rest))
    (All-map (λ (m : ℕ). s.address ≤ m) (λ (c : Piece). c.start) (map slot_piece rest) (λ k d lt. omega (arith, later.0 k d lt))) in
    (first, omega (arith, first))

pub slots_begin : (l : Link) (counts : Counts) (p : Placed) (s : Slot) (rest : List Slot) → IsWhollyPlaced l counts p → p.slots ≡ s ∷ rest
    → Contains (output_sections_of l counts) Slots
    → Begins l p Slots s.address
unfolding pieces_of
slots_begin l counts p s rest placed are there =
    let pairs = subst (λ (slots : List Slot). AllPairs EndsBefore (map slot_piece slots)) are
    (all_contains (λ (o : OutputSection). AllPairs EndsBefore (pieces_of l p o)) (output_sections_of l counts) Slots
    (pieces_in_order l counts p (least_of placed.least)) there) in
    let b = subst
    (λ (slots : List Slot). ((around (map slot_piece slots)).start ≡ s.address) × (1 ≤ (around (map slot_piece slots)).size)) (sym are)
    (around_slots s rest pairs) in
    record { at = b.0; some = b.1 }

-- what is made stands in its segment where it is not empty
module _ (l : Link) (counts : Counts) where
  abbrev code_in : List OutputSection
  code_in = merged_in l TEXT (is_code l)

  abbrev init_in : List OutputSection
  init_in = list_if (nat_lt 0 counts.initializers) (InitOffsets ∷ [])

  abbrev unwind_in : List OutputSection
  unwind_in = list_if (nat_lt 0 counts.unwind) (UnwindInfo ∷ [])

  abbrev stubs_in : List OutputSection
  stubs_in = list_if (not (length (stubs_of l) == 0)) (Stubs ∷ [])

  abbrev data_in : List OutputSection
  data_in = merged_in l TEXT (λ k. not (is_zeros k) && not (is_code l k))

  abbrev zeros_in : List OutputSection
  zeros_in = merged_in l TEXT is_zeros

  -- of `__TEXT`, in front of the stubs
  in_front : (o : OutputSection) → Contains ((code_in ++ init_in) ++ unwind_in) o → Contains (output_sections_in l counts TEXT) o
  in_front o has =
      Contains-append_left ((((code_in ++ init_in) ++ unwind_in) ++ stubs_in) ++ data_in) zeros_in o
      (Contains-append_left (((code_in ++ init_in) ++ unwind_in) ++ stubs_in) data_in o
      (Contains-append_left ((code_in ++ init_in) ++ unwind_in) stubs_in o has))

  pub init_there : 1 ≤ counts.initializers → Contains (output_sections_in l counts TEXT) InitOffsets
  init_there some =
      in_front InitOffsets
      (Contains-append_left (code_in ++ init_in) unwind_in InitOffsets (Contains-append_right code_in init_in InitOffsets
      (list_if_contains (nat_lt 0 counts.initializers) InitOffsets (lt-ltb 0 counts.initializers some))))

  pub unwind_there : 1 ≤ counts.unwind → Contains (output_sections_in l counts TEXT) UnwindInfo
  unwind_there some =
      in_front UnwindInfo
      (Contains-append_right (code_in ++ init_in) unwind_in UnwindInfo
      (list_if_contains (nat_lt 0 counts.unwind) UnwindInfo (lt-ltb 0 counts.unwind some)))

  not_none : (n : ℕ) → 1 ≤ n → not (n == 0) ≡ true
  not_none n one = grind (arith, nat_tests)

  pub slots_there : 1 ≤ length (slots_of l) → Contains (output_sections_in l counts DATA_CONST) Slots
  slots_there some =
      let slots : List OutputSection = list_if (not (length (slots_of l) == 0)) (Slots ∷ []) in
      let filled : List OutputSection = merged_in l DATA_CONST (λ k. not (is_zeros k)) in
      Contains-append_left (slots ++ filled) (merged_in l DATA_CONST is_zeros) Slots
      (Contains-append_left slots filled Slots (list_if_contains (not (length (slots_of l) == 0)) Slots
      (not_none (length (slots_of l)) some)))

  pub slots_placed : 1 ≤ length (slots_of l) → Contains (output_sections_of l counts) Slots
  unfolding output_sections_of segment_names_of
  slots_placed some =
      let zero : List (List ℕ) = list_if l.executable (PAGEZERO ∷ []) in
      let const : List (List ℕ) = list_if (has_section_in l DATA_CONST || not (length (slots_of l) == 0)) (DATA_CONST ∷ []) in
      let of_data : List (List ℕ) = list_if (has_section_in l DATA || not (length (chosen_commons l) == 0)) (DATA ∷ []) in
      contains_flat_map (output_sections_in l counts) (segment_names_of l) DATA_CONST Slots
      (Contains-append_left ((((zero ++ TEXT ∷ []) ++ const) ++ of_data) ++ other_segments l) (LINKEDIT ∷ []) DATA_CONST
      (Contains-append_left (((zero ++ TEXT ∷ []) ++ const) ++ of_data) (other_segments l) DATA_CONST
      (Contains-append_left ((zero ++ TEXT ∷ []) ++ const) of_data DATA_CONST
      (Contains-append_right (zero ++ TEXT ∷ []) const DATA_CONST
      (list_if_contains (has_section_in l DATA_CONST || not (length (slots_of l) == 0)) DATA_CONST
      (either (has_section_in l DATA_CONST) (not (length (slots_of l) == 0)) (not_none (length (slots_of l)) some)))))))
      (slots_there some)
    where
      either : (a b : Bool) → b ≡ true → (a || b) ≡ true
      either true b e = refl
      either false b e = e
