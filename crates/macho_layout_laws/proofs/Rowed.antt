-- Row by row, the cells are the output sections of the segment.
--
-- In `__TEXT` ranks are code, offsets of initializers, unwind information, stubs, other data, zeros; in `__DATA` data, the two parts of the
-- template, commons, other zeros; in any other segment slots, data, zeros. A rank that a segment doesn't have has no cell.
use Rattle.std.proofs.Common.{◌≡◌, ℕ, zero, suc, ◌+◌, ◌*◌, ◌<◌, ◌≤◌, ◌==◌, ◌&&◌, nat_lt, not, if◌then◌else◌, Bool, true, false, cond, List, [], ◌∷◌, ◌++◌, map, filter, length, get_or, refl, sym, ap, ◌∙◌, subst, arith, inl, inr}
use Rattle.std.specs.Str.{bytes_eq}
use Rattle.std.proofs.lemmas.Bool.{false≢true, cases_lt, cases_eq, eqb-true, eq-eqb, ne_eqb, lt-ltb, le-ltb}
use Rattle.std.proofs.lemmas.Bool.Decides.{same_from_decides}
use Rattle.std.proofs.lemmas.Slice.Eq.{bytes_eq-Decides}
use Rattle.std.proofs.lemmas.List.{append-nil, map-append, get_or_default}
use Rattle.std.specs.Prelude.{codes}
use Rattle.macho_bytes.specs.Texts.{name_of}
use Rattle.std.proofs.lemmas.Nat.{mul-lt}
use Rattle.macho_records.specs.Sections.{has_instructions}
use Rattle.macho_records.specs.declared.constants.TheConstants.{S_THREAD_LOCAL_REGULAR, S_THREAD_LOCAL_ZEROFILL}
use Rattle.macho_model.specs.declared.placed.Counts.{Counts}
use Rattle.macho_model.specs.Links.{Link}
use Rattle.macho_model.specs.Targets.{slots_of, stubs_of}
use Rattle.macho_model.specs.Segments.{TEXT, DATA_CONST, DATA, OutputKey, same_key, common_key, output_keys_of, list_if}
use Rattle.macho_model.specs.Placement.{Placed}
use Rattle.macho_model.specs.OutputSections.{is_zeros, is_code, flags_of_key}
use Rattle.macho_model.specs.steps.Outputs.{OutputSection, InitOffsets, UnwindInfo, Stubs, Slots, merged_in, sections_of_text, sections_of_data, sections_of_other, output_sections_in}
use Rattle.macho_stack.specs.declared.place.Cell.{Cell}
use Rattle.macho_stack.specs.Ranks.{has_rank, of_ranks}
use Rattle.macho_layout.specs.Plans.{Planning, IsPlanOf}
use Rattle.macho_layout.specs.Keys.{padded, same_segment, same_output}
use Rattle.macho_layout.specs.Names.{mapped_names, COMMON_NAME}
use Rattle.macho_layout.specs.Cells.{class_of, cell_if, made_cells, cells_of}
use Rattle.macho_layout.specs.Sums.{FitsLimits}
use Rattle.macho_layout.specs.Laid.{IsLaidOut}
use Rattle.macho_layout.proofs.CostLaw.{stubs_many}
use Rattle.macho_layout.proofs.Named.{fields_agree}
use Rattle.macho_layout_laws.proofs.Names.{mapped_of}
use Rattle.macho_layout_laws.proofs.Places.{number_in, number_at_place, text_mapped, mapped_number}
use Rattle.macho_layout_laws.proofs.Counted.{positive}
use Rattle.macho_layout_laws.proofs.Made.{init_cell, unwind_cell, stub_cell, slot_cell, const_number, const_there}
use Rattle.macho_layout_laws.proofs.Keys.{key_name, number_of, key_turn}
use Rattle.macho_layout_laws.proofs.Flags.{instructions_are}
use Rattle.macho_layout_laws.proofs.Ordered.{key_cell, cell_for, KeyFacts, key_flags, row_merged, row_empty, made_row, only_merged, only_made, flag_cell}
use Rattle.macho_layout_laws.proofs.Classes.{nine_row, nothing_more, regular_data, zero_data, common_data, data_class, four, five, six, seven, eight, none0, none1, none2, none3}
use Rattle.macho_bytes.proofs.Bools.{and_group}

module _ (l : Link) (p : Planning) (counts : Counts) (q : Placed) (plan : IsPlanOf l p) (fits : FitsLimits p counts)
    (h : IsLaidOut p counts q) where
  abbrev cells : List Cell
  cells = cells_of p counts (mapped_names p) h.extents

  abbrev keys_cells : List Cell
  keys_cells = map (key_cell l p counts q plan fits h) (output_keys_of l)

  abbrev made : List Cell
  made = made_cells p counts (length h.extents)

  abbrev Facts : OutputKey → Type 0
  Facts key = KeyFacts l p counts q plan fits h key

  abbrev flags_at : OutputKey → ℕ
  flags_at key = key_flags l p counts q plan fits h key

  abbrev cf : OutputSection → Cell
  cf o = cell_for l p counts q plan fits h o

  merged : (n c : ℕ) (N : List ℕ) (test : OutputKey → Bool) → n < length (mapped_of l) → get_or (mapped_of l) n N ≡ N → c < 9
      → ((key : OutputKey) → Facts key → key.segment ≡ N → (class_of (key_name key) (flags_at key) == c) ≡ test key) → filter
      (has_rank (9 * n + c)) keys_cells ≡ map cf (merged_in l N test)
  merged n c N test low is small agree = row_merged l p counts q plan fits h n c N test low is small agree

  empty : (n c : ℕ) (N : List ℕ) → n < length (mapped_of l) → get_or (mapped_of l) n N ≡ N → c < 9
      → ((key : OutputKey) → Facts key → key.segment ≡ N → (class_of (key_name key) (flags_at key) == c) ≡ false) → filter
      (has_rank (9 * n + c)) keys_cells ≡ []
  empty n c N low is small agree = row_empty l p counts q plan fits h n c N low is small agree

  -- classes of a key
  text_is : (key : OutputKey) → Facts key → key.segment ≡ TEXT → class_of (key_name key) (flags_at key) ≡
      (if is_zeros key then 8 else if has_instructions (flags_of_key l key) then 0 else 4)
  text_is key facts segment =
      ap (λ (s : List ℕ). class_of (record { segment = padded s; name = padded key.name; kind = key.type }) (flags_at key)) segment
      ∙ ap (λ (b : Bool). if is_zeros key then 8 else if b then 0 else 4)
      (instructions_are l p counts q plan fits h (number_of l key) key facts.low facts.at)

  data_is : (key : OutputKey) → Facts key → key.segment ≡ DATA → class_of (key_name key) (flags_at key)
      ≡ (if not (is_zeros key) then (if key.type == S_THREAD_LOCAL_REGULAR then 5 else 4) else if key.type == S_THREAD_LOCAL_ZEROFILL then 6
      else if same_key common_key key then 7 else 8)
  data_is key facts segment =
      let common : same_output (key_name key) COMMON_NAME ≡ same_key common_key key
      = ap (λ (b : Bool). b && (same_segment (padded key.name) (padded (codes "__common")) && (key.type == 1)))
      (fields_agree key.segment DATA)
      ∙ ap (λ (b : Bool). bytes_eq (name_of key.segment) DATA && (b && (key.type == 1))) (fields_agree key.name (codes "__common"))
      ∙ ap (λ (n : List ℕ). bytes_eq n DATA && (bytes_eq (name_of key.name) (codes "__common") && (key.type == 1))) facts.is_key.segment
      ∙ ap (λ (n : List ℕ). bytes_eq key.segment DATA && (bytes_eq n (codes "__common") && (key.type == 1))) facts.is_key.name
      ∙ and_group (bytes_eq key.segment DATA) (bytes_eq key.name (codes "__common")) (key.type == 1) ∙ key_turn key common_key in
      ap (λ (s : List ℕ). class_of (record { segment = padded s; name = padded key.name; kind = key.type }) (flags_at key)) segment
      ∙ ap (λ (b : Bool). if not (is_zeros key) then (if key.type == S_THREAD_LOCAL_REGULAR then 5 else 4) else if key.type ==
      S_THREAD_LOCAL_ZEROFILL then 6 else if b then 7 else 8)
      (ap (λ (s : List ℕ). same_output (record { segment = padded s; name = padded key.name; kind = key.type }) COMMON_NAME) (sym segment)
      ∙ common)

  other_is : (N : List ℕ) → bytes_eq N TEXT ≡ false → bytes_eq N DATA ≡ false → (key : OutputKey) → Facts key → key.segment ≡ N
      → class_of (key_name key) (flags_at key) ≡ (if is_zeros key then 8 else 4)
  other_is N not_text not_data key facts segment =
      let one : same_segment (padded key.segment) (padded TEXT) ≡ false
      = fields_agree key.segment TEXT ∙ ap (λ (n : List ℕ). bytes_eq n TEXT) (facts.is_key.segment ∙ segment) ∙ not_text in
      let two : same_segment (padded key.segment) (padded DATA) ≡ false
      = fields_agree key.segment DATA ∙ ap (λ (n : List ℕ). bytes_eq n DATA) (facts.is_key.segment ∙ segment) ∙ not_data in
      rw (one, two) refl

  -- what the linker makes of a rank behind the first row
  made_behind : (r : ℕ) → 3 < r → filter (has_rank r) made ≡ cond (12 == r) (cell_if (slot_cell l p counts q plan fits h)) []
  made_behind r more =
      made_row l p counts q plan fits h r
      ∙ rw (ne_eqb 1 r (λ e. omega (arith, e, more)), ne_eqb 2 r (λ e. omega (arith, e, more)), ne_eqb 3 r (λ e. omega (arith, e, more)))
      refl

  no_slots : length p.slots ≡ 0 → cell_if (slot_cell l p counts q plan fits h) ≡ []
  no_slots none = ap (λ (b : Bool). cond b (slot_cell l p counts q plan fits h ∷ []) [])
      (le-ltb 0 (8 * length p.slots) (omega (arith, none)))

  made_none : (r : ℕ) → 3 < r → (r ≡ 12 → length p.slots ≡ 0) → filter (has_rank r) made ≡ []
  made_none r more free = made_behind r more ∙ elim (cases_eq 12 r) [
    | inl same ↦ ap (cond (12 == r) (cell_if (slot_cell l p counts q plan fits h))) refl ∙ nothing (12 == r) (no_slots (free (sym same)))
    | inr other ↦ ap (λ (b : Bool). cond b (cell_if (slot_cell l p counts q plan fits h)) []) (ne_eqb 12 r other)
  ]
    where
      nothing : (b : Bool) → cell_if (slot_cell l p counts q plan fits h) ≡ [] → cond b (cell_if (slot_cell l p counts q plan fits h)) []
          ≡ []
      nothing true e = e
      nothing false e = refl

  text_low : 0 < length (mapped_of l)
  text_low = omega (arith, (mapped_number l TEXT (text_mapped l)).0)

  scaled : (n k : ℕ) → 0 < n → nat_lt 0 (n * k) ≡ nat_lt 0 k
  scaled n k some = elim (cases_lt 0 k) [
    | inl more ↦ lt-ltb 0 (n * k) (mul-lt 0 0 n k some more) ∙ sym (lt-ltb 0 k more)
    | inr none ↦
        let e : k ≡ 0 = omega (arith, none) in
        ap (λ (i : ℕ). nat_lt 0 (n * i)) e ∙ times_none n ∙ sym (ap (nat_lt 0) e)
  ]
    where
      times_none : (n : ℕ) → nat_lt 0 (n * 0) ≡ false
      times_none n = le-ltb 0 (n * 0) (omega arith)

  -- the row of `__TEXT`
  text_row : of_ranks 0 9 cells ≡ map cf (sections_of_text l counts)
  text_row =
      let M : (c : ℕ) (test : OutputKey → Bool) → c < 9 → ((key : OutputKey) → Facts key → key.segment ≡ TEXT →
      (class_of (key_name key) (flags_at key) == c) ≡ test key)
      → filter (has_rank (9 * 0 + c)) keys_cells ≡ map cf (merged_in l TEXT test) = λ c test small agree. merged 0 c TEXT test text_low refl
      small agree in
      let E : (c : ℕ) → c < 9 → ((key : OutputKey) → Facts key → key.segment ≡ TEXT → (class_of (key_name key) (flags_at key) == c) ≡ false)
      → filter (has_rank (9 * 0 + c)) keys_cells ≡ [] = λ c small agree. empty 0 c TEXT text_low refl small agree in
      let no : (c : ℕ) → ((z i : Bool) → ((if z then 8 else if i then 0 else 4) == c) ≡ false) → (key : OutputKey) → Facts key → key.segment
      ≡ TEXT → (class_of (key_name key) (flags_at key) == c) ≡ false
      = λ c f key facts segment. ap (λ (x : ℕ). x == c) (text_is key facts segment) ∙ f (is_zeros key)
      (has_instructions (flags_of_key l key)) in
      let a : List OutputSection = merged_in l TEXT (is_code l) in
      let b : List OutputSection = list_if (nat_lt 0 counts.initializers) (InitOffsets ∷ []) in
      let c : List OutputSection = list_if (nat_lt 0 counts.unwind) (UnwindInfo ∷ []) in
      let d : List OutputSection = list_if (not (length (stubs_of l) == 0)) (Stubs ∷ []) in
      let e : List OutputSection = merged_in l TEXT (λ key. not (is_zeros key) && not (is_code l key)) in
      let f : List OutputSection = merged_in l TEXT is_zeros in
      let stubs : nat_lt 0 (12 * length p.stubs) ≡ not (length (stubs_of l) == 0)
      = scaled 12 (length p.stubs) (omega arith) ∙ positive (length p.stubs) ∙ ap (λ (n : ℕ). not (n == 0)) (stubs_many l p plan) in
      let A : List Cell = cell_if (init_cell l p counts q plan fits h) in
      let B : List Cell = cell_if (unwind_cell l p counts q plan fits h) in
      let C : List Cell = cell_if (stub_cell l p counts q plan fits h) in
      let nil3 : (x : List Cell) → x ++ [] ++ [] ++ [] ≡ x = λ x. append-nil (x ++ [] ++ []) ∙ append-nil (x ++ []) ∙ append-nil x in
      let nil2 : (x : List Cell) → x ++ [] ++ [] ≡ x = λ x. append-nil (x ++ []) ∙ append-nil x in
      let row = nine_row 0 cells (map cf a) (map cf b) (map cf c) (map cf d) (map cf e) [] [] [] (map cf f)
      (only_merged l p counts q plan fits h 0 (map cf a) (M 0 (is_code l) (omega arith)
      (λ key facts segment. ap (λ (x : ℕ). x == 0) (text_is key facts segment) ∙ code (is_zeros key)
      (has_instructions (flags_of_key l key))))
      (made_row l p counts q plan fits h 0))
      (only_made l p counts q plan fits h 1 (map cf b) (E 1 (omega arith) (no 1 none1)) (made_row l p counts q plan fits h 1 ∙ nil3 A
      ∙ flag_cell l p counts q plan fits h (init_cell l p counts q plan fits h) InitOffsets (nat_lt 0 counts.initializers) refl
      (scaled 4 counts.initializers (omega arith))))
      (only_made l p counts q plan fits h 2 (map cf c) (E 2 (omega arith) (no 2 none2)) (made_row l p counts q plan fits h 2 ∙ nil2 B
      ∙ flag_cell l p counts q plan fits h (unwind_cell l p counts q plan fits h) UnwindInfo (nat_lt 0 counts.unwind) refl refl))
      (only_made l p counts q plan fits h 3 (map cf d) (E 3 (omega arith) (no 3 none3)) (made_row l p counts q plan fits h 3 ∙ append-nil C
      ∙ flag_cell l p counts q plan fits h (stub_cell l p counts q plan fits h) Stubs (not (length (stubs_of l) == 0)) refl stubs))
      (only_merged l p counts q plan fits h 4 (map cf e) (M 4 (λ key. not (is_zeros key) && not (is_code l key)) (omega arith)
      (λ key facts segment. ap (λ (x : ℕ). x == 4) (text_is key facts segment) ∙ rest (is_zeros key)
      (has_instructions (flags_of_key l key)))) (made_row l p counts q plan fits h 4))
      (only_merged l p counts q plan fits h 5 [] (E 5 (omega arith) (no 5 none5)) (made_row l p counts q plan fits h 5))
      (only_merged l p counts q plan fits h 6 [] (E 6 (omega arith) (no 6 none6)) (made_row l p counts q plan fits h 6))
      (only_merged l p counts q plan fits h 7 [] (E 7 (omega arith) (no 7 none7)) (made_row l p counts q plan fits h 7))
      (only_merged l p counts q plan fits h 8 (map cf f) (M 8 is_zeros (omega arith)
      (λ key facts segment. ap (λ (x : ℕ). x == 8) (text_is key facts segment) ∙ zeros (is_zeros key)
      (has_instructions (flags_of_key l key))))
      (made_row l p counts q plan fits h 8)) in
      row ∙ nothing_more (map cf a ++ map cf b ++ map cf c ++ map cf d ++ map cf e) (map cf f)
      ∙ sym (map-append cf (a ++ b ++ c ++ d ++ e) f ∙ ap (λ (x : List Cell). x ++ map cf f) (map-append cf (a ++ b ++ c ++ d) e
      ∙ ap (λ (x : List Cell). x ++ map cf e) (map-append cf (a ++ b ++ c) d ∙ ap (λ (x : List Cell). x ++ map cf d)
      (map-append cf (a ++ b) c ∙ ap (λ (x : List Cell). x ++ map cf c) (map-append cf a b)))))
    where
      code : (z i : Bool) → ((if z then 8 else if i then 0 else 4) == 0) ≡ (not z && i)
      code true i = refl
      code false true = refl
      code false false = refl

      rest : (z i : Bool) → ((if z then 8 else if i then 0 else 4) == 4) ≡ (not z && not (not z && i))
      rest true i = refl
      rest false true = refl
      rest false false = refl

      zeros : (z i : Bool) → ((if z then 8 else if i then 0 else 4) == 8) ≡ z
      zeros true i = refl
      zeros false true = refl
      zeros false false = refl

      none1 : (z i : Bool) → ((if z then 8 else if i then 0 else 4) == 1) ≡ false
      none1 true i = refl
      none1 false true = refl
      none1 false false = refl

      none2 : (z i : Bool) → ((if z then 8 else if i then 0 else 4) == 2) ≡ false
      none2 true i = refl
      none2 false true = refl
      none2 false false = refl

      none3 : (z i : Bool) → ((if z then 8 else if i then 0 else 4) == 3) ≡ false
      none3 true i = refl
      none3 false true = refl
      none3 false false = refl

      none5 : (z i : Bool) → ((if z then 8 else if i then 0 else 4) == 5) ≡ false
      none5 true i = refl
      none5 false true = refl
      none5 false false = refl

      none6 : (z i : Bool) → ((if z then 8 else if i then 0 else 4) == 6) ≡ false
      none6 true i = refl
      none6 false true = refl
      none6 false false = refl

      none7 : (z i : Bool) → ((if z then 8 else if i then 0 else 4) == 7) ≡ false
      none7 true i = refl
      none7 false true = refl
      none7 false false = refl

  -- a row behind the first one has no slots of its rank but those of `__DATA_CONST`
  behind_first : (n : ℕ) (N : List ℕ) → n < length (mapped_of l) → get_or (mapped_of l) n N ≡ N → bytes_eq N TEXT ≡ false → 1 ≤ n
  behind_first zero N low is not_text = absurd (false≢true (sym not_text ∙ (bytes_eq-Decides N TEXT).1 (sym is)))
  behind_first (suc n) N low is not_text = omega arith

  free_slots : (n c : ℕ) (N : List ℕ) → n < length (mapped_of l) → get_or (mapped_of l) n N ≡ N → bytes_eq N DATA_CONST ≡ false → c < 9
      → 9 * n + c ≡ 12 → length p.slots ≡ 0
  free_slots n c N low is other small e = elim (cases_lt 0 (length p.slots)) [
    | inr none ↦ omega (arith, none)
    | inl some ↦
        let one : n ≡ 1 = omega (arith, e, small) in
        let k = const_number l p counts q plan fits h some in
        let there = mapped_number l DATA_CONST (const_there l p counts q plan fits h some) in
        let same : N ≡ DATA_CONST
        = sym is ∙ ap (λ (i : ℕ). get_or (mapped_of l) i N) (one ∙ sym k.1) ∙ get_or_default (mapped_of l)
        (number_in l DATA_CONST) N DATA_CONST there.0 ∙ there.1 in
        absurd (false≢true (sym other ∙ (bytes_eq-Decides N DATA_CONST).1 same))
  ]

  -- the row of `__DATA`
  data_row : (n : ℕ) → n < length (mapped_of l) → get_or (mapped_of l) n DATA ≡ DATA → of_ranks (9 * n) 9 cells ≡ map cf
      (sections_of_data l)
  data_row n low is =
      let first : 1 ≤ n = behind_first n DATA low is refl in
      let no_made : (c : ℕ) → c < 9 → filter (has_rank (9 * n + c)) made ≡ [] = λ c small. made_none (9 * n + c) (omega (arith, first))
      (free_slots n c DATA low is refl small) in
      let M : (c : ℕ) (test : OutputKey → Bool) → c < 9 → ((key : OutputKey) → Facts key → key.segment ≡ DATA →
      (class_of (key_name key) (flags_at key) == c) ≡ test key)
      → filter (has_rank (9 * n + c)) cells ≡ map cf (merged_in l DATA test)
      = λ c test small agree. only_merged l p counts q plan fits h (9 * n + c) (map cf (merged_in l DATA test))
      (merged n c DATA test low is small agree) (no_made c small) in
      let E : (c : ℕ) → c < 9 → ((z r x m : Bool) → (data_class z r x m == c) ≡ false) → filter (has_rank (9 * n + c)) cells ≡ []
      = λ c small none. only_merged l p counts q plan fits h (9 * n + c) []
      (empty n c DATA low is small (λ key facts segment. ap (λ (x : ℕ). x == c) (data_is key facts segment)
      ∙ none (is_zeros key) (key.type == S_THREAD_LOCAL_REGULAR) (key.type == S_THREAD_LOCAL_ZEROFILL) (same_key common_key key)))
      (no_made c small) in
      let a : List OutputSection = merged_in l DATA (λ key. not (is_zeros key) && not (key.type == S_THREAD_LOCAL_REGULAR)) in
      let b : List OutputSection = merged_in l DATA (λ key. key.type == S_THREAD_LOCAL_REGULAR) in
      let c : List OutputSection = merged_in l DATA (λ key. key.type == S_THREAD_LOCAL_ZEROFILL) in
      let d : List OutputSection = merged_in l DATA (same_key common_key) in
      let e : List OutputSection = merged_in l DATA (λ key. is_zeros key && not (key.type == S_THREAD_LOCAL_ZEROFILL) && not
      (same_key common_key key)) in
      nine_row (9 * n) cells [] [] [] [] (map cf a) (map cf b) (map cf c) (map cf d) (map cf e)
      (E 0 (omega arith) none0) (E 1 (omega arith) none1) (E 2 (omega arith) none2) (E 3 (omega arith) none3)
      (M 4 (λ key. not (is_zeros key) && not (key.type == S_THREAD_LOCAL_REGULAR)) (omega arith)
      (λ key facts segment. ap (λ (x : ℕ). x == 4) (data_is key facts segment) ∙ four (is_zeros key) (key.type == S_THREAD_LOCAL_REGULAR)
      (key.type == S_THREAD_LOCAL_ZEROFILL) (same_key common_key key)))
      (M 5 (λ key. key.type == S_THREAD_LOCAL_REGULAR) (omega arith)
      (λ key facts segment. ap (λ (x : ℕ). x == 5) (data_is key facts segment)
      ∙ five (is_zeros key) (key.type == S_THREAD_LOCAL_REGULAR) (key.type == S_THREAD_LOCAL_ZEROFILL) (same_key common_key key)
      (regular_data key.type)))
      (M 6 (λ key. key.type == S_THREAD_LOCAL_ZEROFILL) (omega arith)
      (λ key facts segment. ap (λ (x : ℕ). x == 6) (data_is key facts segment)
      ∙ six (is_zeros key) (key.type == S_THREAD_LOCAL_REGULAR) (key.type == S_THREAD_LOCAL_ZEROFILL) (same_key common_key key)
      (zero_data key.type)))
      (M 7 (same_key common_key) (omega arith)
      (λ key facts segment. ap (λ (x : ℕ). x == 7) (data_is key facts segment)
      ∙ seven (is_zeros key) (key.type == S_THREAD_LOCAL_REGULAR) (key.type == S_THREAD_LOCAL_ZEROFILL) (same_key common_key key)
      (common_data key)))
      (M 8 (λ key. is_zeros key && not (key.type == S_THREAD_LOCAL_ZEROFILL) && not (same_key common_key key)) (omega arith)
      (λ key facts segment. ap (λ (x : ℕ). x == 8) (data_is key facts segment) ∙ eight (is_zeros key) (key.type == S_THREAD_LOCAL_REGULAR)
      (key.type == S_THREAD_LOCAL_ZEROFILL) (same_key common_key key)))
      ∙ sym (map-append cf (a ++ b ++ c ++ d) e ∙ ap (λ (x : List Cell). x ++ map cf e) (map-append cf (a ++ b ++ c) d
      ∙ ap (λ (x : List Cell). x ++ map cf d) (map-append cf (a ++ b) c ∙ ap (λ (x : List Cell). x ++ map cf c) (map-append cf a b))))

  -- the rank of slots in the row of a segment
  slots_row : (n : ℕ) (N : List ℕ) → n < length (mapped_of l) → get_or (mapped_of l) n N ≡ N
      → cond (12 == 9 * n + 3) (cell_if (slot_cell l p counts q plan fits h)) [] ≡ map cf
      (list_if (bytes_eq N DATA_CONST && not (length (slots_of l) == 0)) (Slots ∷ []))
  slots_row n N low is = elim (cases_lt 0 (length p.slots)) [
    | inr none ↦
        let zero_it : length (slots_of l) ≡ 0 = sym (ap length plan.slots) ∙ omega (arith, none) in
        let no_one : not (length (slots_of l) == 0) ≡ false = ap (λ (k : ℕ). not (k == 0)) zero_it in
        nothing (12 == 9 * n + 3) (no_slots (omega (arith, none))) ∙ sym
        (ap (λ (b : Bool). map cf (list_if (bytes_eq N DATA_CONST && b) (Slots ∷ []))) no_one ∙ free (bytes_eq N DATA_CONST))
    | inl some ↦
        let k = const_number l p counts q plan fits h some in
        let there = mapped_number l DATA_CONST (const_there l p counts q plan fits h some) in
        let is_some : not (length (slots_of l) == 0) ≡ true = ap (λ (k : ℕ). not (k == 0)) (sym (ap length plan.slots)) ∙ sym
        (positive (length p.slots)) ∙ lt-ltb 0 (length p.slots) some in
        let same : (12 == 9 * n + 3) ≡ bytes_eq N DATA_CONST
        = same_from_decides (12 == 9 * n + 3) (bytes_eq N DATA_CONST) (
          λ t. sym is ∙ ap (λ (i : ℕ). get_or (mapped_of l) i N) (omega (arith, eqb-true 12 (9 * n + 3) t, k.1)) ∙ get_or_default
              (mapped_of l) (number_in l DATA_CONST) N DATA_CONST there.0 ∙ there.1,
          λ e. eq-eqb 12 (9 * n + 3) (omega (arith, number_at_place l n N low is, ap (number_in l) e, k.1)),
        ) (bytes_eq-Decides N DATA_CONST) in
        let cell = flag_cell l p counts q plan fits h (slot_cell l p counts q plan fits h) Slots (not (length (slots_of l) == 0)) refl
        (scaled 8 (length p.slots) (omega arith) ∙ positive (length p.slots) ∙ ap (λ (k : ℕ). not (k == 0)) (ap length plan.slots)) in
        ap (λ (b : Bool). cond b (cell_if (slot_cell l p counts q plan fits h)) []) same ∙ ap
        (cond (bytes_eq N DATA_CONST) (cell_if (slot_cell l p counts q plan fits h))) refl
        ∙ both (bytes_eq N DATA_CONST) cell
  ]
    where
      nothing : (b : Bool) → cell_if (slot_cell l p counts q plan fits h) ≡ [] → cond b (cell_if (slot_cell l p counts q plan fits h)) []
          ≡ []
      nothing true e = e
      nothing false e = refl

      free : (b : Bool) → map cf (list_if (b && false) (Slots ∷ [])) ≡ []
      free true = refl
      free false = refl

      both : (b : Bool) → cell_if (slot_cell l p counts q plan fits h) ≡ map cf (list_if (not (length (slots_of l) == 0)) (Slots ∷ []))
          → cond b (cell_if (slot_cell l p counts q plan fits h)) [] ≡ map cf (list_if (b && not (length (slots_of l) == 0)) (Slots ∷ []))
      both true e = e
      both false e = refl

  -- the row of any other segment
  other_row : (n : ℕ) (N : List ℕ) → n < length (mapped_of l) → get_or (mapped_of l) n N ≡ N → bytes_eq N TEXT ≡ false → bytes_eq N DATA
      ≡ false
      → of_ranks (9 * n) 9 cells ≡ map cf (sections_of_other l N)
  other_row n N low is not_text not_data =
      let first : 1 ≤ n = behind_first n N low is not_text in
      let no_made : (c : ℕ) → c < 9 → (c ≡ 3 → ⊥) → filter (has_rank (9 * n + c)) made ≡ [] = λ c small other. made_none (9 * n + c)
      (omega (arith, first)) (λ e. absurd (other (omega (arith, e, small)))) in
      let K : (c : ℕ) → c < 9 → ((z : Bool) → ((if z then 8 else 4) == c) ≡ false) → filter (has_rank (9 * n + c)) keys_cells ≡ []
      = λ c small none. empty n c N low is small (λ key facts segment. ap (λ (x : ℕ). x == c)
      (other_is N not_text not_data key facts segment) ∙ none (is_zeros key)) in
      let E : (c : ℕ) → c < 9 → (c ≡ 3 → ⊥) → ((z : Bool) → ((if z then 8 else 4) == c) ≡ false) → filter (has_rank (9 * n + c)) cells ≡ []
      = λ c small other none. only_merged l p counts q plan fits h (9 * n + c) [] (K c small none) (no_made c small other) in
      let a : List OutputSection = list_if (bytes_eq N DATA_CONST && not (length (slots_of l) == 0)) (Slots ∷ []) in
      let b : List OutputSection = merged_in l N (λ key. not (is_zeros key)) in
      let c : List OutputSection = merged_in l N is_zeros in
      nine_row (9 * n) cells [] [] [] (map cf a) (map cf b) [] [] [] (map cf c)
      (E 0 (omega arith) (λ e. absurd (omega (arith, e))) only0) (E 1 (omega arith) (λ e. absurd (omega (arith, e))) only1)
      (E 2 (omega arith) (λ e. absurd (omega (arith, e))) only2)
      (only_made l p counts q plan fits h (9 * n + 3) (map cf a) (K 3 (omega arith) only3)
      (made_behind (9 * n + 3) (omega (arith, first)) ∙ slots_row n N low is))
      (only_merged l p counts q plan fits h (9 * n + 4) (map cf b) (merged n 4 N (λ key. not (is_zeros key)) low is (omega arith)
      (λ key facts segment. ap (λ (x : ℕ). x == 4) (other_is N not_text not_data key facts segment) ∙ four (is_zeros key)))
      (no_made 4 (omega arith) (λ e. absurd (omega (arith, e)))))
      (E 5 (omega arith) (λ e. absurd (omega (arith, e))) only5) (E 6 (omega arith) (λ e. absurd (omega (arith, e))) only6)
      (E 7 (omega arith) (λ e. absurd (omega (arith, e))) only7)
      (only_merged l p counts q plan fits h (9 * n + 8) (map cf c) (merged n 8 N is_zeros low is (omega arith)
      (λ key facts segment. ap (λ (x : ℕ). x == 8) (other_is N not_text not_data key facts segment) ∙ eight (is_zeros key)))
      (no_made 8 (omega arith) (λ e. absurd (omega (arith, e)))))
      ∙ nothing_more (map cf a ++ map cf b) (map cf c) ∙ sym (map-append cf (a ++ b) c ∙ ap (λ (x : List Cell). x ++ map cf c)
      (map-append cf a b))
    where
      four : (z : Bool) → ((if z then 8 else 4) == 4) ≡ not z
      four true = refl
      four false = refl

      eight : (z : Bool) → ((if z then 8 else 4) == 8) ≡ z
      eight true = refl
      eight false = refl

      only0 : (z : Bool) → ((if z then 8 else 4) == 0) ≡ false
      only0 true = refl
      only0 false = refl

      only1 : (z : Bool) → ((if z then 8 else 4) == 1) ≡ false
      only1 true = refl
      only1 false = refl

      only2 : (z : Bool) → ((if z then 8 else 4) == 2) ≡ false
      only2 true = refl
      only2 false = refl

      only3 : (z : Bool) → ((if z then 8 else 4) == 3) ≡ false
      only3 true = refl
      only3 false = refl

      only5 : (z : Bool) → ((if z then 8 else 4) == 5) ≡ false
      only5 true = refl
      only5 false = refl

      only6 : (z : Bool) → ((if z then 8 else 4) == 6) ≡ false
      only6 true = refl
      only6 false = refl

      only7 : (z : Bool) → ((if z then 8 else 4) == 7) ≡ false
      only7 true = refl
      only7 false = refl

  -- the cells of a row are the output sections of its segment
  pub row_is : (n : ℕ) (N : List ℕ) → n < length (mapped_of l) → get_or (mapped_of l) n N ≡ N → of_ranks (9 * n) 9 cells ≡ map cf
      (output_sections_in l counts N)
  row_is n N low is = by (bytes_eq N TEXT) refl (bytes_eq N DATA) refl
    where
      by : (t : Bool) → bytes_eq N TEXT ≡ t → (d : Bool) → bytes_eq N DATA ≡ d
          → of_ranks (9 * n) 9 cells ≡ map cf (if t then sections_of_text l counts else if d then sections_of_data l else sections_of_other
          l N)
      by true e d f =
          let name : N ≡ TEXT = (bytes_eq-Decides N TEXT).0 e in
          let zero_it : n ≡ 0 = sym (number_at_place l n N low is) ∙ ap (number_in l) name ∙ number_at_place l 0 TEXT text_low refl in
          ap (λ (i : ℕ). of_ranks (9 * i) 9 cells) zero_it ∙ text_row
      by false e true f =
          let name : N ≡ DATA = (bytes_eq-Decides N DATA).0 f in
          data_row n low (subst (λ (m : List ℕ). get_or (mapped_of l) n m ≡ m) name is)
      by false e false f = other_row n N low is e f
