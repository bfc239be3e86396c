-- What follows from least places: pieces and tables stand in order, and tables lie in the file bytes of `__LINKEDIT`.
--
-- A piece begins at a multiple that is not below the end of the piece before it, so behind that end; step by step, behind the end of
-- each earlier piece. The tables are such a row of pieces, which begins with the file offset of `__LINKEDIT`, and ends with the
-- signature, up to which its file bytes go. Of the segments' names the last alone is `__LINKEDIT`: the others are those that the linker
-- knows, and some that it doesn't know.
use Rattle.std.proofs.Common.{◌≡◌, ℕ, zero, suc, ◌+◌, ◌-◌, ◌^◌, ◌<◌, ◌≤◌, ◌==◌, ◌||◌, Bool, true, false, not, cond, List, [], ◌∷◌, ◌++◌, map, length, get_or, All, refl, sym, ap, subst, ◌∙◌, arith, inl, inr}
use Rattle.std.specs.Prelude.{AllPairs, filter}
use Rattle.std.specs.Str.{bytes_eq}
use Rattle.std.proofs.lemmas.Bool.{cases_lt}
use Rattle.std.proofs.lemmas.Nat.{pow_pos, div-add-mod'}
use Rattle.std.proofs.Math.Nat.{mod-lt}
use Rattle.std.proofs.lemmas.List.{get_or_default}
use Rattle.std.proofs.lemmas.List.Elements.{filter-append, All-filter, filter_passes, All-cons, All-nil}
use Rattle.std.proofs.lemmas.Slice.Eq.{bytes_eq-Decides}
use Rattle.macho_records.specs.Numbers.{rounded_up}
use Rattle.macho_records.specs.Segments.{text_of}
use Rattle.macho_records.specs.Sections.{segment_name_of}
use Rattle.macho_model.specs.declared.placed.Counts.{Counts}
use Rattle.macho_model.specs.declared.placed.PlacedSegment.{PlacedSegment}
use Rattle.macho_model.specs.declared.placed.Range64.{Range64}
use Rattle.macho_model.specs.Links.{Link, carried_of, header_at}
use Rattle.macho_model.specs.Lists.{EachNext, of_first}
use Rattle.macho_model.specs.Needs.{distinct}
use Rattle.macho_model.specs.Resolution.{chosen_commons}
use Rattle.macho_model.specs.Targets.{slots_of}
use Rattle.macho_model.specs.Segments.{PAGEZERO, TEXT, DATA_CONST, DATA, LINKEDIT, is_known_segment, list_if, other_segments, segment_names_of, has_section_in}
use Rattle.macho_model.specs.Placement.{Placed, Piece, end_of_piece, is_segment_named, linkedit_ranges}
use Rattle.macho_model.specs.Order.{BeginsLeast, table_pieces}
use Rattle.macho_model.specs.steps.Outputs.{pieces_of, output_sections_of}
use Rattle.macho_model.specs.steps.Least.{AreLeast, row_of, sections_in, least_file_size}

-- a piece ends before another one begins
abbrev pub EndsBefore : Piece → Piece → Type 0
EndsBefore c d = end_of_piece c ≤ d.start

-- a table lies in the file bytes of `__LINKEDIT`, an empty one too
abbrev pub LiesIn : Range64 → PlacedSegment → Type 0
LiesIn r s = (s.file_offset ≤ r.start) × (r.start ≤ r.end) × (r.end ≤ s.file_offset + s.file_size)

abbrev pub LiesInFile : List PlacedSegment → Range64 → Type 0
LiesInFile segments r = All (LiesIn r) (filter (is_segment_named LINKEDIT) segments)

-- a piece that begins least ends not before the one in front of it
next_behind : (c d : Piece) → BeginsLeast c d → EndsBefore c d
next_behind c d least = behind (2 ^ d.exponent) (end_of_piece c) (pow_pos d.exponent) least
  where
    behind : (k n : ℕ) → 0 < k → d.start ≡ rounded_up k n → n ≤ d.start
    behind k n some is = omega (arith, is, div-add-mod' (n + (k - 1)) k, mod-lt (n + (k - 1)) some)

-- THE step from neighbours to all
pub in_order : (cs : List Piece) → EachNext BeginsLeast cs → AllPairs EndsBefore cs
in_order cs next i zero d before within = absurd (omega (arith, before))
in_order cs next i (suc m) d before within =
    let step = next_behind (get_or cs m d) (get_or cs (m + 1) d)
    (next m (get_or cs m d) (get_or cs (m + 1) d) (omega (arith, within), get_or_default cs m (get_or cs m d) d (omega (arith, within)))
    (omega (arith, within), get_or_default cs (m + 1) (get_or cs (m + 1) d) d (omega (arith, within)))) in
    let same : m + 1 ≡ suc m = omega arith in
    let last : EndsBefore (get_or cs m d) (get_or cs (suc m) d) = subst (λ k. EndsBefore (get_or cs m d) (get_or cs k d)) same step in
    elim (cases_lt i m) [
      | inl lt ↦ let so_far = in_order cs next i m d lt (omega (arith, within)) in omega (arith, so_far, last)
      | inr le ↦ let here : i ≡ m = omega (arith, before) in subst (λ k. EndsBefore (get_or cs k d) (get_or cs (suc m) d)) (sym here) last
    ]

-- so rows, pieces and tables stand in order
pub rows_in_order : (l : Link) (counts : Counts) (p : Placed) → AreLeast l counts p
    → All (λ s. AllPairs EndsBefore (row_of l counts p s (sections_in l counts s))) p.segments
rows_in_order l counts p least k d lt =
    in_order (row_of l counts p (get_or p.segments k d) (sections_in l counts (get_or p.segments k d))) (least.rows k d lt)

pub pieces_in_order : (l : Link) (counts : Counts) (p : Placed) → AreLeast l counts p
    → All (λ o. AllPairs EndsBefore (pieces_of l p o)) (output_sections_of l counts)
pieces_in_order l counts p least k d lt = in_order (pieces_of l p (get_or (output_sections_of l counts) k d)) (least.pieces k d lt)

pub tables_in_order : (l : Link) (counts : Counts) (p : Placed) → AreLeast l counts p → AllPairs EndsBefore (table_pieces p)
tables_in_order l counts p least = in_order (table_pieces p) least.tables

-- one name is that of the tables
abbrev is_last : List ℕ → Bool
is_last name = bytes_eq name LINKEDIT

-- a name that the linker doesn't know isn't
unknown : (name : List ℕ) → not (is_known_segment name) ≡ true → is_last name ≡ false
unknown name h = by (is_last name) refl
  where
    by : (x : Bool) → is_last name ≡ x → x ≡ false
    by false e = refl
    by true e =
        let known : is_known_segment name ≡ true = ap is_known_segment ((bytes_eq-Decides name LINKEDIT).0 e) in
        sym h ∙ ap not known

none_last : (names : List (List ℕ)) → filter is_last (filter (λ name. not (is_known_segment name)) names) ≡ []
none_last [] = refl
none_last (name ∷ names) = by (not (is_known_segment name)) refl (none_last names)
  where
    keep : List (List ℕ)
    keep = filter (λ n. not (is_known_segment n)) names

    by : (x : Bool) → not (is_known_segment name) ≡ x → filter is_last keep ≡ [] → filter is_last (cond x (name ∷ keep) keep) ≡ []
    by false e none = none
    by true e none = ap (λ (b : Bool). cond b (name ∷ filter is_last keep) (filter is_last keep)) (unknown name e) ∙ none

behind_others : (others : List (List ℕ)) → filter is_last others ≡ [] → filter is_last (others ++ LINKEDIT ∷ []) ≡ LINKEDIT ∷ []
behind_others others none =
    filter-append is_last others (LINKEDIT ∷ []) ∙ ap (λ (ns : List (List ℕ)). ns ++ LINKEDIT ∷ []) none

one_of : (a b c : Bool) (others : List (List ℕ)) → filter is_last others ≡ []
    → filter is_last (list_if a (PAGEZERO ∷ []) ++ TEXT ∷ [] ++ list_if b (DATA_CONST ∷ []) ++ list_if c (DATA ∷ []) ++ others
    ++ LINKEDIT ∷ [])
    ≡ LINKEDIT ∷ []
one_of true true true others none = behind_others others none
one_of true true false others none = behind_others others none
one_of true false true others none = behind_others others none
one_of true false false others none = behind_others others none
one_of false true true others none = behind_others others none
one_of false true false others none = behind_others others none
one_of false false true others none = behind_others others none
one_of false false false others none = behind_others others none

others_differ : (l : Link) → filter is_last (other_segments l) ≡ []
unfolding other_segments
others_differ l = none_last (distinct bytes_eq (map (λ s. segment_name_of (header_at l s)) (carried_of l)))

one_name : (l : Link) → filter is_last (segment_names_of l) ≡ LINKEDIT ∷ []
unfolding segment_names_of
one_name l =
    one_of l.executable (has_section_in l DATA_CONST || not (length (slots_of l) == 0))
    (has_section_in l DATA || not (length (chosen_commons l) == 0)) (other_segments l) (others_differ l)

-- so one segment has it
named_alike : (segments : List PlacedSegment)
    → length (filter (is_segment_named LINKEDIT) segments) ≡ length (filter is_last (map (λ s. text_of s.name) segments))
named_alike [] = refl
named_alike (s ∷ segments) = by (is_last (text_of s.name)) (named_alike segments)
  where
    by : (x : Bool)
        → length (filter (is_segment_named LINKEDIT) segments) ≡ length (filter is_last (map (λ t. text_of t.name) segments))
        → length (cond x (s ∷ filter (is_segment_named LINKEDIT) segments) (filter (is_segment_named LINKEDIT) segments))
        ≡ length (cond x (text_of s.name ∷ filter is_last (map (λ t. text_of t.name) segments))
        (filter is_last (map (λ t. text_of t.name) segments)))
    by true alike = ap (λ (n : ℕ). suc n) alike
    by false alike = alike

one_segment : (l : Link) (counts : Counts) (p : Placed) → map (λ s. text_of s.name) p.segments ≡ segment_names_of l
    → length (filter (is_segment_named LINKEDIT) p.segments) ≡ 1
one_segment l counts p texts =
    named_alike p.segments ∙ ap (λ (ns : List (List ℕ)). length (filter is_last ns)) texts ∙ ap length (one_name l)

-- the size in the file of a segment with this name
sized : (l : Link) (counts : Counts) (p : Placed) (s : PlacedSegment) → s.file_size ≡ least_file_size l counts p s
    → is_segment_named LINKEDIT s ≡ true → s.file_size ≡ p.linkedit.signature.end - s.file_offset
sized l counts p s least named =
    let zero_page : bytes_eq (text_of s.name) PAGEZERO ≡ false =
    ap (λ (n : List ℕ). bytes_eq n PAGEZERO) ((bytes_eq-Decides (text_of s.name) LINKEDIT).0 named) in
    least ∙ rw (zero_page, named) refl

-- of one segment that ends with the tables
lies : (segments : List PlacedSegment) (r : Range64) (end : ℕ) → length segments ≡ 1 → of_first 0 (λ s. s.file_offset) segments ≤ r.start
    → r.start ≤ r.end → r.end ≤ end → All (λ s. s.file_size ≡ end - s.file_offset) segments → All (LiesIn r) segments
lies [] r end one from up to sizes k d lt = absurd (omega (arith, lt))
lies (s ∷ []) r end one from up to sizes zero d lt = (from, up, omega (arith, from, up, to, sizes 0 d lt))
lies (s ∷ []) r end one from up to sizes (suc k) d lt = absurd (omega (arith, lt))
lies (s ∷ t ∷ segments) r end one from up to sizes k d lt = absurd (omega (arith, one))

-- THE places of the tables
pub tables_lie : (l : Link) (counts : Counts) (p : Placed) → map (λ s. text_of s.name) p.segments ≡ segment_names_of l → AreLeast l counts p
    → All (LiesInFile p.segments) (linkedit_ranges p)
tables_lie l counts p texts least k d lt =
    let r : Range64 = get_or (linkedit_ranges p) k d in
    let place = places k d lt in
    lies tables r p.linkedit.signature.end (one_segment l counts p texts) place.0 place.1 place.2 sizes
  where
    tables : List PlacedSegment
    tables = filter (is_segment_named LINKEDIT) p.segments

    offset : ℕ
    offset = of_first 0 (λ s. s.file_offset) tables

    sizes : All (λ s. s.file_size ≡ p.linkedit.signature.end - s.file_offset) tables
    sizes k d lt =
        All-filter (is_segment_named LINKEDIT)
        (λ s. is_segment_named LINKEDIT s ≡ true → s.file_size ≡ p.linkedit.signature.end - s.file_offset) p.segments
        (λ j e low named. sized l counts p (get_or p.segments j e) (least.file_sizes j e low) named) k d lt
        (filter_passes (is_segment_named LINKEDIT) p.segments k d lt)

    Lie : Range64 → Type 0
    Lie r = (offset ≤ r.start) × (r.start ≤ r.end) × (r.end ≤ p.linkedit.signature.end)

    places : All Lie (linkedit_ranges p)
    places =
        let pairs = tables_in_order l counts p least in
        let rooms = least.rooms in
        let c : Piece = record { start = 0; size = 0; exponent = 0 } in
        let a = pairs 0 1 c (omega arith) (omega arith) in
        let t = pairs 1 2 c (omega arith) (omega arith) in
        let s = pairs 2 3 c (omega arith) (omega arith) in
        let n = pairs 3 4 c (omega arith) (omega arith) in
        let g = pairs 4 5 c (omega arith) (omega arith) in
        let fixups : p.linkedit.fixups.start ≤ p.linkedit.fixups.end = omega (arith, rooms.fixups) in
        let trie : p.linkedit.trie.start ≤ p.linkedit.trie.end = omega (arith, rooms.trie) in
        let symbols : p.linkedit.symtab.start ≤ p.linkedit.symtab.end = omega (arith, rooms.symbols) in
        let strings : p.linkedit.strtab.start ≤ p.linkedit.strtab.end = omega (arith, rooms.strings) in
        let signature : p.linkedit.signature.start ≤ p.linkedit.signature.end = omega (arith, rooms.signature) in
        All-cons Lie p.linkedit.fixups (p.linkedit.trie ∷ p.linkedit.symtab ∷ p.linkedit.strtab ∷ p.linkedit.signature ∷ [])
        (omega (arith, a), fixups, omega (arith, t, trie, s, symbols, n, strings, g, signature))
        (All-cons Lie p.linkedit.trie (p.linkedit.symtab ∷ p.linkedit.strtab ∷ p.linkedit.signature ∷ [])
        (omega (arith, a, t, fixups), trie, omega (arith, s, symbols, n, strings, g, signature))
        (All-cons Lie p.linkedit.symtab (p.linkedit.strtab ∷ p.linkedit.signature ∷ [])
        (omega (arith, a, t, fixups, s, trie), symbols, omega (arith, n, strings, g, signature))
        (All-cons Lie p.linkedit.strtab (p.linkedit.signature ∷ [])
        (omega (arith, a, t, fixups, s, trie, n, symbols), strings, omega (arith, g, signature))
        (All-cons Lie p.linkedit.signature []
        (omega (arith, a, t, fixups, s, trie, n, symbols, g, strings), signature, omega arith) (All-nil Lie)))))
