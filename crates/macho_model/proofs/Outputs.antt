-- The output sections by constructors are those of the records, with the same headers, and least places of the one are those of the other.
--
-- Each constructor has its record, which has the same pieces. So the lists are the same one by one, and rows, pieces and sizes with them.
use Rattle.std.proofs.Common.{◌≡◌, ℕ, ◌+◌, ◌-◌, ◌%◌, nat_lt, ◌==◌, ◌&&◌, not, Bool, true, false, List, [], ◌∷◌, ◌++◌, map, filter, length, get_or, All, refl, sym, ap, ◌∙◌, subst, cond}
use Rattle.std.specs.List.{flat_map, position_or_len}
use Rattle.std.specs.Str.{bytes_eq}
use Rattle.std.specs.Prelude.{codes, if◌then◌else◌}
use Rattle.std.proofs.lemmas.List.{map-append}
use Rattle.std.proofs.lemmas.List.Elements.{All-map}
use Rattle.std.proofs.lemmas.List.Concat.{flat_map-cons}
use Rattle.macho_records.specs.Numbers.{rounded_up}
use Rattle.macho_records.specs.Segments.{text_of}
use Rattle.macho_records.specs.declared.constants.TheConstants.{S_ATTR_PURE_INSTRUCTIONS, S_ATTR_SOME_INSTRUCTIONS, S_INIT_FUNC_OFFSETS, S_NON_LAZY_SYMBOL_POINTERS, S_SYMBOL_STUBS, S_THREAD_LOCAL_REGULAR, S_THREAD_LOCAL_ZEROFILL}
use Rattle.macho_model.specs.declared.placed.Counts.{Counts}
use Rattle.macho_model.specs.declared.placed.PlacedSegment.{PlacedSegment}
use Rattle.macho_model.specs.Lists.{EachNext}
use Rattle.macho_model.specs.Links.{Link}
use Rattle.macho_model.specs.Targets.{slots_of, stubs_of}
use Rattle.macho_model.specs.Segments.{TEXT, DATA_CONST, DATA, PAGEZERO, LINKEDIT, PAGEZERO_SIZE, SEGMENT_PAGE, OutputKey, same_key, common_key, list_if, output_keys_of, segment_names_of}
use Rattle.macho_model.specs.WrittenSum.{STUB_SIZE}
use Rattle.macho_model.specs.Placement.{Placed, Piece, stub_piece, slot_piece, range_piece}
use Rattle.macho_model.specs.OutputSections.{OutputSection as Section, merged, is_zeros, is_code, around, sections_of_text, sections_of_data, sections_of_other, merged_in as records_in, output_sections_in as sections_of_segment, output_sections_of as all_sections, extent_of as extent, output_header as header, output_sections_for as headers_for}
use Rattle.macho_model.specs.Order.{BeginsLeast, used_by, row_of as row, AreLeast as StandLeast, least_size as size_of_row, least_file_size as file_size_of_row}
use Rattle.macho_model.specs.SymbolEntries.{section_number}
use Rattle.macho_model.specs.steps.Outputs.{OutputSection, Merged, InitOffsets, UnwindInfo, Stubs, Slots, merged_in, output_sections_in, output_sections_of, pieces_of, sections_of_text as kinds_of_text, sections_of_data as kinds_of_data, sections_of_other as kinds_of_other, extent_of, output_header, output_sections_for, key_of_output, is_merged}
use Rattle.macho_model.specs.steps.Least.{front_of, row_of, sections_in, filled_in, AreLeast, least_size, least_file_size}
use Rattle.macho_bytes.proofs.Members.{all_unmap}

-- the record of a section that the linker makes
abbrev made_one : List ℕ → List ℕ → ℕ → ℕ → (Placed → List Piece) → Section
made_one segment name flags stub_size pieces = record {
  key = record { segment = segment; name = name; type = flags % 256 };
  is_merged = false;
  flags = flags;
  stub_size = stub_size;
  pieces = pieces;
}

-- the record of a constructor
abbrev pub made_of : Link → OutputSection → Section
made_of l (Merged key) = merged l key
made_of l InitOffsets = made_one TEXT (codes "__init_offsets") S_INIT_FUNC_OFFSETS 0 (λ p. range_piece 2 p.init_offsets ∷ [])
made_of l UnwindInfo = made_one TEXT (codes "__unwind_info") 0 0 (λ p. range_piece 2 p.unwind ∷ [])
made_of l Stubs =
    made_one TEXT (codes "__stubs") (S_SYMBOL_STUBS + S_ATTR_PURE_INSTRUCTIONS + S_ATTR_SOME_INSTRUCTIONS) STUB_SIZE
    (λ p. map stub_piece p.stubs)
made_of l Slots = made_one DATA_CONST (codes "__got") S_NON_LAZY_SYMBOL_POINTERS 0 (λ p. map slot_piece p.slots)

pieces_same : (l : Link) (p : Placed) (o : OutputSection) → (made_of l o).pieces p ≡ pieces_of l p o
unfolding pieces_of
pieces_same l p (Merged key) = refl
pieces_same l p InitOffsets = refl
pieces_same l p UnwindInfo = refl
pieces_same l p Stubs = refl
pieces_same l p Slots = refl

extent_same : (l : Link) (p : Placed) (o : OutputSection) → extent p (made_of l o) ≡ extent_of l p o
extent_same l p o = ap around (pieces_same l p o)

zeros_same : (l : Link) (o : OutputSection) → is_zeros (made_of l o).key ≡ is_zeros (key_of_output o)
zeros_same l (Merged key) = refl
zeros_same l InitOffsets = refl
zeros_same l UnwindInfo = refl
zeros_same l Stubs = refl
zeros_same l Slots = refl

header_same : (l : Link) (p : Placed) (o : OutputSection) → header p (made_of l o) ≡ output_header l p o
unfolding pieces_of
header_same l p (Merged key) = refl
header_same l p InitOffsets = refl
header_same l p UnwindInfo = refl
header_same l p Stubs = refl
header_same l p Slots = refl

-- an output section is the one that sections of a key are merged into
abbrev merges : OutputKey → Section → Bool
merges key o = o.is_merged && same_key key o.key

merges_same : (l : Link) (key : OutputKey) (o : OutputSection) → merges key (made_of l o) ≡ is_merged key o
merges_same l key (Merged other) = refl
merges_same l key InitOffsets = refl
merges_same l key UnwindInfo = refl
merges_same l key Stubs = refl
merges_same l key Slots = refl

map_map : {A B C : Type 0} (g : B → C) (f : A → B) (h : A → C) → ((x : A) → g (f x) ≡ h x) → (xs : List A) → map g (map f xs) ≡ map h xs
map_map g f h same [] = refl
map_map {A} {B} {C} g f h same (x ∷ xs) = ap (λ (y : C). y ∷ map g (map f xs)) (same x)
    ∙ ap (λ (ys : List C). h x ∷ ys) (map_map g f h same xs)

map_if : (l : Link) (b : Bool) (o : OutputSection) → list_if b (made_of l o ∷ []) ≡ map (made_of l) (list_if b (o ∷ []))
map_if l true o = refl
map_if l false o = refl

merged_same : (l : Link) (segment : List ℕ) (test : OutputKey → Bool)
    → records_in l segment test ≡ map (made_of l) (merged_in l segment test)
merged_same l segment test =
    sym (map_map (made_of l) Merged (merged l) (λ key. refl) (filter (λ key. bytes_eq key.segment segment && test key) (output_keys_of l)))

-- lists that are the same one behind the other
beside : (l : Link) (xs ys : List Section) (us vs : List OutputSection) → xs ≡ map (made_of l) us → ys ≡ map (made_of l) vs
    → xs ++ ys ≡ map (made_of l) (us ++ vs)
beside l xs ys us vs one two =
    ap (λ (zs : List Section). zs ++ ys) one ∙ ap (λ (zs : List Section). map (made_of l) us ++ zs) two ∙ sym (map-append (made_of l) us vs)

in_same : (l : Link) (counts : Counts) (segment : List ℕ)
    → sections_of_segment l counts segment ≡ map (made_of l) (output_sections_in l counts segment)
in_same l counts segment = by (bytes_eq segment TEXT) (bytes_eq segment DATA)
  where
    in_text : sections_of_text l counts ≡ map (made_of l) (kinds_of_text l counts)
    in_text =
        beside l _ _ _ _
        (beside l _ _ _ _
        (beside l _ _ _ _
        (beside l _ _ _ _
        (beside l _ _ _ _ (merged_same l TEXT (is_code l)) (map_if l (nat_lt 0 counts.initializers) InitOffsets))
        (map_if l (nat_lt 0 counts.unwind) UnwindInfo))
        (map_if l (not (length (stubs_of l) == 0)) Stubs))
        (merged_same l TEXT (λ key. not (is_zeros key) && not (is_code l key))))
        (merged_same l TEXT is_zeros)

    in_data : sections_of_data l ≡ map (made_of l) (kinds_of_data l)
    in_data =
        beside l _ _ _ _
        (beside l _ _ _ _
        (beside l _ _ _ _
        (beside l _ _ _ _ (merged_same l DATA (λ key. not (is_zeros key) && not (key.type == S_THREAD_LOCAL_REGULAR)))
        (merged_same l DATA (λ key. key.type == S_THREAD_LOCAL_REGULAR)))
        (merged_same l DATA (λ key. key.type == S_THREAD_LOCAL_ZEROFILL)))
        (merged_same l DATA (same_key common_key)))
        (merged_same l DATA (λ key. is_zeros key && not (key.type == S_THREAD_LOCAL_ZEROFILL) && not (same_key common_key key)))

    in_other : sections_of_other l segment ≡ map (made_of l) (kinds_of_other l segment)
    in_other =
        beside l _ _ _ _
        (beside l _ _ _ _ (map_if l (bytes_eq segment DATA_CONST && not (length (slots_of l) == 0)) Slots)
        (merged_same l segment (λ key. not (is_zeros key))))
        (merged_same l segment is_zeros)

    by : (a b : Bool)
        → (if a then sections_of_text l counts else if b then sections_of_data l else sections_of_other l segment)
        ≡ map (made_of l) (if a then kinds_of_text l counts else if b then kinds_of_data l else kinds_of_other l segment)
    by true b = in_text
    by false true = in_data
    by false false = in_other

sections_same : (l : Link) (counts : Counts) → all_sections l counts ≡ map (made_of l) (output_sections_of l counts)
unfolding all_sections output_sections_of
sections_same l counts = by (segment_names_of l)
  where
    by : (names : List (List ℕ))
        → flat_map (sections_of_segment l counts) names ≡ map (made_of l) (flat_map (output_sections_in l counts) names)
    by [] = refl
    by (name ∷ names) =
        flat_map-cons (sections_of_segment l counts) name names
        ∙ beside l _ _ _ _ (in_same l counts name) (by names)
        ∙ ap (map (made_of l)) (sym (flat_map-cons (output_sections_in l counts) name names))

-- THE headers are the same
pub headers_same : (l : Link) (counts : Counts) (p : Placed) → headers_for l counts p ≡ output_sections_for l counts p
unfolding headers_for output_sections_for
headers_same l counts p =
    ap (map (header p)) (sections_same l counts)
    ∙ map_map (header p) (made_of l) (output_header l p) (header_same l p) (output_sections_of l counts)

-- and so are the numbers of sections
pub number_same : (l : Link) (counts : Counts) (key : OutputKey)
    → section_number l counts key ≡ position_or_len (is_merged key) (output_sections_of l counts) + 1
number_same l counts key =
    ap (λ (os : List Section). position_or_len (merges key) os + 1) (sections_same l counts)
    ∙ ap (λ (n : ℕ). n + 1) (by (output_sections_of l counts))
  where
    by : (os : List OutputSection) → position_or_len (merges key) (map (made_of l) os) ≡ position_or_len (is_merged key) os
    by [] = refl
    by (o ∷ os) = step (merges key (made_of l o)) (is_merged key o) (merges_same l key o) (by os)
      where
        step : (a b : Bool) → a ≡ b → position_or_len (merges key) (map (made_of l) os) ≡ position_or_len (is_merged key) os
            → cond (not a) (1 + position_or_len (merges key) (map (made_of l) os)) 0
            ≡ cond (not b) (1 + position_or_len (is_merged key) os) 0
        step a true e same = ap (λ (c : Bool). cond (not c) (1 + position_or_len (merges key) (map (made_of l) os)) 0) e
        step a false e same =
            ap (λ (c : Bool). cond (not c) (1 + position_or_len (merges key) (map (made_of l) os)) 0) e ∙ ap (λ (n : ℕ). 1 + n) same

-- so are rows
row_same : (l : Link) (counts : Counts) (p : Placed) (s : PlacedSegment) (os : List OutputSection)
    → row l counts p s (map (made_of l) os) ≡ row_of l counts p s os
unfolding row row_of
row_same l counts p s os =
    ap (λ (cs : List Piece). front_of counts p s ∷ cs) (map_map (extent p) (made_of l) (extent_of l p) (extent_same l p) os)

whole_row : (l : Link) (counts : Counts) (p : Placed) (s : PlacedSegment)
    → row l counts p s (sections_of_segment l counts (text_of s.name)) ≡ row_of l counts p s (sections_in l counts s)
whole_row l counts p s = ap (row l counts p s) (in_same l counts (text_of s.name)) ∙ row_same l counts p s (sections_in l counts s)

filled_same : (l : Link) (os : List OutputSection)
    → filter (λ (o : Section). not (is_zeros o.key)) (map (made_of l) os)
    ≡ map (made_of l) (filter (λ o. not (is_zeros (key_of_output o))) os)
filled_same l [] = refl
filled_same l (o ∷ os) =
    ap (λ (b : Bool). cond (not b) (made_of l o ∷ rest) rest) (zeros_same l o) ∙ by (is_zeros (key_of_output o)) (filled_same l os)
  where
    rest : List Section
    rest = filter (λ (o : Section). not (is_zeros o.key)) (map (made_of l) os)

    keep : List OutputSection
    keep = filter (λ o. not (is_zeros (key_of_output o))) os

    by : (b : Bool) → rest ≡ map (made_of l) keep → cond (not b) (made_of l o ∷ rest) rest ≡ map (made_of l) (cond (not b) (o ∷ keep) keep)
    by true e = e
    by false e = ap (λ (ts : List Section). made_of l o ∷ ts) e

filled_row : (l : Link) (counts : Counts) (p : Placed) (s : PlacedSegment)
    → row l counts p s (filter (λ o. not (is_zeros o.key)) (sections_of_segment l counts (text_of s.name)))
    ≡ row_of l counts p s (filled_in l counts s)
filled_row l counts p s =
    ap (λ (os : List Section). row l counts p s (filter (λ (o : Section). not (is_zeros o.key)) os)) (in_same l counts (text_of s.name))
    ∙ ap (row l counts p s) (filled_same l (sections_in l counts s)) ∙ row_same l counts p s (filled_in l counts s)

size_same : (l : Link) (counts : Counts) (p : Placed) (s : PlacedSegment) → size_of_row l counts p s ≡ least_size l counts p s
size_same l counts p s =
    ap (λ (cs : List Piece). if bytes_eq (text_of s.name) PAGEZERO then PAGEZERO_SIZE
    else if bytes_eq (text_of s.name) LINKEDIT then rounded_up SEGMENT_PAGE (p.linkedit.signature.end - s.file_offset)
    else rounded_up SEGMENT_PAGE (used_by s cs)) (whole_row l counts p s)

file_size_same : (l : Link) (counts : Counts) (p : Placed) (s : PlacedSegment)
    → file_size_of_row l counts p s ≡ least_file_size l counts p s
file_size_same l counts p s =
    ap (λ (cs : List Piece). if bytes_eq (text_of s.name) PAGEZERO then 0
    else if bytes_eq (text_of s.name) LINKEDIT then p.linkedit.signature.end - s.file_offset
    else rounded_up SEGMENT_PAGE (used_by s cs)) (filled_row l counts p s)

module _ {l : Link} {counts : Counts} {p : Placed} where
  -- THE least places
  pub least_of : StandLeast l counts p → AreLeast l counts p
  least_of h = record {
    front = h.front;
    rows = λ k d lt. subst (EachNext BeginsLeast) (whole_row l counts p (get_or p.segments k d)) (h.rows k d lt);
    pieces = λ k d lt. subst (EachNext BeginsLeast) (pieces_same l p (get_or (output_sections_of l counts) k d))
        (all_unmap (λ (o : Section). EachNext BeginsLeast (o.pieces p)) (made_of l) (output_sections_of l counts)
        (subst (All (λ (o : Section). EachNext BeginsLeast (o.pieces p))) (sections_same l counts) h.pieces) k d lt);
    tables = h.tables;
    sizes = λ k d lt. h.sizes k d lt ∙ size_same l counts p (get_or p.segments k d);
    file_sizes = λ k d lt. h.file_sizes k d lt ∙ file_size_same l counts p (get_or p.segments k d);
    rooms = h.rooms;
  }

  pub stand_least : AreLeast l counts p → StandLeast l counts p
  stand_least h = record {
    front = h.front;
    rows = λ k d lt. subst (EachNext BeginsLeast) (sym (whole_row l counts p (get_or p.segments k d))) (h.rows k d lt);
    pieces = subst (All (λ (o : Section). EachNext BeginsLeast (o.pieces p))) (sym (sections_same l counts))
        (All-map (λ (o : Section). EachNext BeginsLeast (o.pieces p)) (made_of l) (output_sections_of l counts)
        (λ k d lt. subst (EachNext BeginsLeast) (sym (pieces_same l p (get_or (output_sections_of l counts) k d))) (h.pieces k d lt)));
    tables = h.tables;
    sizes = λ k d lt. h.sizes k d lt ∙ sym (size_same l counts p (get_or p.segments k d));
    file_sizes = λ k d lt. h.file_sizes k d lt ∙ sym (file_size_same l counts p (get_or p.segments k d));
    rooms = h.rooms;
  }
