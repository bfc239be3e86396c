-- The cells of a row are the output sections of its segment, in the link's order.
--
-- A key's cell has a rank of row n exactly where the key's segment is the n-th mapped one, and of class c in it where the key passes the
-- test of the link's c-th list for that segment. What the linker makes has one rank each. So rank by rank the cells are the lists.
use Rattle.std.proofs.Common.{◌≡◌, ℕ, ◌+◌, ◌*◌, ◌<◌, ◌==◌, ◌&&◌, nat_lt, if◌then◌else◌, Bool, true, false, cond, List, [], ◌∷◌, ◌++◌, map, filter, length, get_or, All, refl, sym, ap, ◌∙◌, subst, arith, inl, inr}
use Rattle.std.specs.Str.{bytes_eq}
use Rattle.std.specs.List.{range_with_len}
use Rattle.std.proofs.lemmas.Bool.{false≢true, cases_Bool, eqb-true, eq-eqb, ne_eqb}
use Rattle.std.proofs.lemmas.Bool.Decides.{same_from_decides, Decides-eqb}
use Rattle.std.proofs.lemmas.Slice.Eq.{bytes_eq-Decides}
use Rattle.std.proofs.lemmas.List.{append-nil, length-map, get_or-map, get_or_default}
use Rattle.std.proofs.lemmas.List.Elements.{All-head, All-tail, filter-append}
use Rattle.std.proofs.lemmas.List.FromFn.{fill_by_all}
use Rattle.macho_bytes.specs.Texts.{name_of}
use Rattle.macho_records.specs.declared.segments.SegmentName.{SegmentName}
use Rattle.macho_model.specs.declared.placed.Counts.{Counts}
use Rattle.macho_model.specs.Links.{Link}
use Rattle.macho_model.specs.Segments.{OutputKey, common_key, output_keys_of, list_if}
use Rattle.macho_model.specs.Placement.{Placed}
use Rattle.macho_model.specs.steps.Outputs.{OutputSection, Merged, InitOffsets, UnwindInfo, Stubs, Slots, merged_in}
use Rattle.macho_stack.specs.declared.place.Cell.{Cell}
use Rattle.macho_stack.specs.Ranks.{has_rank, of_ranks}
use Rattle.macho_stack.specs.Stacks.{extent_at}
use Rattle.macho_stack.proofs.Ranks.{of_ranks-none, of_ranks-more}
use Rattle.macho_layout.specs.declared.spec.OutputName.{OutputName}
use Rattle.macho_layout.specs.Plans.{Planning, IsPlanOf}
use Rattle.macho_layout.specs.Names.{mapped_names, output_at}
use Rattle.macho_layout.specs.Cells.{segment_number, class_of, cell_if, made_cells, cells_of}
use Rattle.macho_layout.specs.Sums.{FitsLimits}
use Rattle.macho_layout.specs.Laid.{IsLaidOut}
use Rattle.macho_layout_laws.proofs.Names.{mapped_of}
use Rattle.macho_layout_laws.proofs.Places.{number_in, number_is, IsMapped, mapped_number, number_at_place, class_small}
use Rattle.macho_layout_laws.proofs.Scene.{home}
use Rattle.macho_layout_laws.proofs.Counted.{output_mapped}
use Rattle.macho_layout_laws.proofs.Made.{init_cell, unwind_cell, stub_cell, slot_cell}
use Rattle.macho_layout_laws.proofs.Keys.{IsKey, key_name, keys_are_keys, number_of, key_number, keys_many, output_named}
use Rattle.macho_bytes.proofs.Maps.{map_map, filter-map}
use Rattle.macho_model.proofs.Sections.{name_in_field}

-- filters that agree on each element
pub filter_same : {X : Type 0} (t u : X → Bool) (xs : List X) → All (λ x. t x ≡ u x) xs → filter t xs ≡ filter u xs
filter_same t u [] h = refl
filter_same {X} t u (x ∷ xs) h =
    ap (λ (b : Bool). cond b (x ∷ filter t xs) (filter t xs)) (All-head (λ a. t a ≡ u a) x xs h)
    ∙ ap (λ (ys : List X). cond (u x) (x ∷ ys) ys) (filter_same t u xs (All-tail (λ a. t a ≡ u a) x xs h))

-- a filter of a cell that may be there
flag_rank : (r : ℕ) (c : Cell) → filter (has_rank r) (cell_if c) ≡ cond (c.rank == r) (cell_if c) []
flag_rank r c = by (nat_lt 0 c.size) (c.rank == r) refl
  where
    by : (b t : Bool) → (c.rank == r) ≡ t → filter (has_rank r) (cond b (c ∷ []) []) ≡ cond t (cond b (c ∷ []) []) []
    by true true e = ap (λ (x : Bool). cond x (c ∷ []) []) e
    by true false e = ap (λ (x : Bool). cond x (c ∷ []) []) e
    by false true e = refl
    by false false e = refl

-- nine ranks
pub nine_ranks : (n : ℕ) (cells : List Cell) → of_ranks n 9 cells
    ≡ filter (has_rank (n + 0)) cells ++ filter (has_rank (n + 1)) cells ++ filter (has_rank (n + 2)) cells ++ filter
    (has_rank (n + 3)) cells ++ filter (has_rank (n + 4)) cells
    ++ filter (has_rank (n + 5)) cells ++ filter (has_rank (n + 6)) cells ++ filter (has_rank (n + 7)) cells ++ filter
    (has_rank (n + 8)) cells
nine_ranks n cells =
    let f : ℕ → List Cell = λ k. filter (has_rank (n + k)) cells in
    let r1 : of_ranks n 1 cells ≡ f 0 = of_ranks-more n 0 cells ∙ ap (λ (cs : List Cell). cs ++ f 0) (of_ranks-none n cells) in
    let r2 : of_ranks n 2 cells ≡ f 0 ++ f 1 = of_ranks-more n 1 cells ∙ ap (λ (cs : List Cell). cs ++ f 1) r1 in
    let r3 : of_ranks n 3 cells ≡ f 0 ++ f 1 ++ f 2 = of_ranks-more n 2 cells ∙ ap (λ (cs : List Cell). cs ++ f 2) r2 in
    let r4 : of_ranks n 4 cells ≡ f 0 ++ f 1 ++ f 2 ++ f 3 = of_ranks-more n 3 cells ∙ ap (λ (cs : List Cell). cs ++ f 3) r3 in
    let r5 : of_ranks n 5 cells ≡ f 0 ++ f 1 ++ f 2 ++ f 3 ++ f 4 = of_ranks-more n 4 cells ∙ ap (λ (cs : List Cell). cs ++ f 4) r4 in
    let r6 : of_ranks n 6 cells ≡ f 0 ++ f 1 ++ f 2 ++ f 3 ++ f 4 ++ f 5 = of_ranks-more n 5 cells ∙ ap
    (λ (cs : List Cell). cs ++ f 5) r5 in
    let r7 : of_ranks n 7 cells ≡ f 0 ++ f 1 ++ f 2 ++ f 3 ++ f 4 ++ f 5 ++ f 6 = of_ranks-more n 6 cells ∙ ap
    (λ (cs : List Cell). cs ++ f 6) r6 in
    let r8 : of_ranks n 8 cells ≡ f 0 ++ f 1 ++ f 2 ++ f 3 ++ f 4 ++ f 5 ++ f 6 ++ f 7 = of_ranks-more n 7 cells ∙ ap
    (λ (cs : List Cell). cs ++ f 7) r7 in
    of_ranks-more n 8 cells ∙ ap (λ (cs : List Cell). cs ++ f 8) r8

-- lists that are the same, one behind the other
pub pair_same : {X : Type 0} (a b c d : List X) → a ≡ c → b ≡ d → a ++ b ≡ c ++ d
pair_same {X} a b c d e f = ap (λ (x : List X). x ++ b) e ∙ ap (λ (x : List X). c ++ x) f

module _ (l : Link) (p : Planning) (counts : Counts) (q : Placed) (plan : IsPlanOf l p) (fits : FitsLimits p counts)
    (h : IsLaidOut p counts q) where
  abbrev keys : List OutputKey
  keys = output_keys_of l

  -- the cell of a key, and of an output section
  abbrev pub key_cell : OutputKey → Cell
  key_cell key = home l p counts q plan fits h (number_of l key)

  abbrev pub cell_for : OutputSection → Cell
  cell_for (Merged key) = key_cell key
  cell_for InitOffsets = init_cell l p counts q plan fits h
  cell_for UnwindInfo = unwind_cell l p counts q plan fits h
  cell_for Stubs = stub_cell l p counts q plan fits h
  cell_for Slots = slot_cell l p counts q plan fits h

  abbrev cells : List Cell
  cells = cells_of p counts (mapped_names p) h.extents

  abbrev made : List Cell
  made = made_cells p counts (length h.extents)

  abbrev pub key_flags : OutputKey → ℕ
  key_flags key = (extent_at h.extents (number_of l key)).flags

  -- what is known of each key
  pub record KeyFacts (key : OutputKey) : Type 0 where
    pub is_key : IsKey key
    pub mapped : IsMapped l key.segment
    pub low : number_of l key < length (output_keys_of l)
    pub at : get_or (output_keys_of l) (number_of l key) key ≡ key
    pub rank : (key_cell key).rank ≡ 9 * number_in l key.segment + class_of (key_name key) (key_flags key)

  pub keys_known : All KeyFacts (output_keys_of l)
  keys_known k d low =
      let key : OutputKey = get_or keys k d in
      let at : get_or keys k key ≡ key = get_or_default keys k key d low in
      let number : number_of l key ≡ k = key_number l k key low at in
      let is = keys_are_keys l k d low in
      let named : output_at p k ≡ key_name key = output_named l p counts q plan fits h k d low in
      let o = output_mapped l p counts q plan fits h k (omega (arith, low, keys_many l p counts q plan fits h)) in
      let segment : key.segment ≡ o.0
      = sym is.segment ∙ sym (name_in_field key.segment) ∙ ap (λ (x : OutputName). name_of x.segment.0) (sym named) ∙ ap
      (λ (s : SegmentName). name_of s.0) o.1 ∙ name_in_field o.0 ∙ o.2 in
      record {
        is_key = is;
        mapped = subst (IsMapped l) (sym segment) o.3;
        low = omega (arith, number, low);
        at = ap (λ (i : ℕ). get_or keys i key) number ∙ at;
        rank = ap (λ (x : OutputName). 9 * segment_number (mapped_names p) x.segment + class_of x (key_flags key))
            (ap (output_at p) number ∙ named)
            ∙ ap (λ (i : ℕ). 9 * i + class_of (key_name key) (key_flags key)) (number_is l p key.segment plan is.segment);
      }

  -- the merged cells are those of the keys
  merged_are : map (home l p counts q plan fits h) (range_with_len 0 (length h.extents)) ≡ map key_cell keys
  merged_are =
      sym (fill_by_all (home l p counts q plan fits h) (map key_cell keys) (length h.extents) (init_cell l p counts q plan fits h)
      (omega (arith, length-map keys key_cell, keys_many l p counts q plan fits h))
      (λ k low.
      let inside : k < length keys = omega (arith, low, keys_many l p counts q plan fits h) in
      let d : OutputKey = common_key in
      get_or-map key_cell keys k d (init_cell l p counts q plan fits h) inside
      ∙ ap (home l p counts q plan fits h) (key_number l k (get_or keys k d) inside (get_or_default keys k (get_or keys k d) d inside))))

  -- which keys have a rank
  has_row : (n c : ℕ) (N : List ℕ) → n < length (mapped_of l) → get_or (mapped_of l) n N ≡ N → c < 9 → (key : OutputKey) → KeyFacts key
      → has_rank (9 * n + c) (key_cell key) ≡ (bytes_eq key.segment N && (class_of (key_name key) (key_flags key) == c))
  has_row n c N low is small key facts =
      let class : ℕ = class_of (key_name key) (key_flags key) in
      let less = class_small (key_name key) (key_flags key) in
      elim (cases_Bool (bytes_eq key.segment N)) [
        | inl yes_it ↦
            let segment = (bytes_eq-Decides key.segment N).0 yes_it in
            let number : number_in l key.segment ≡ n = ap (number_in l) segment ∙ number_at_place l n N low is in
            let same : ((key_cell key).rank == 9 * n + c) ≡ (class == c)
            = same_from_decides ((key_cell key).rank == 9 * n + c) (class == c) (
              λ t. let e = eqb-true (key_cell key).rank (9 * n + c) t in omega (arith, e, facts.rank, number),
              λ e. eq-eqb
                  (key_cell key).rank (9 * n + c) (omega (arith, e, facts.rank, number)),
            ) (Decides-eqb class c) in
            same ∙ sym (ap (λ (b : Bool). b && (class == c)) yes_it)
        | inr not_it ↦
            let other : number_in l key.segment ≡ n → ⊥ = λ e.
            let place = (mapped_number l key.segment facts.mapped).1 in
            let here : key.segment ≡ N
            = sym place ∙ get_or_default (mapped_of l) (number_in l key.segment) key.segment N (mapped_number l key.segment facts.mapped).0
            ∙ ap (λ (i : ℕ). get_or (mapped_of l) i N) e ∙ is in
            false≢true (sym not_it ∙ (bytes_eq-Decides key.segment N).1 here) in
            ne_eqb (key_cell key).rank (9 * n + c) (λ e. other (omega (arith, e, facts.rank, less, small))) ∙ sym
            (ap (λ (b : Bool). b && (class == c)) not_it)
      ]

  -- the merged cells of a rank
  pub row_merged : (n c : ℕ) (N : List ℕ) (test : OutputKey → Bool) → n < length (mapped_of l) → get_or (mapped_of l) n N ≡ N → c < 9
      → ((key : OutputKey) → KeyFacts key → key.segment ≡ N → (class_of (key_name key) (key_flags key) == c) ≡ test key)
      → filter (has_rank (9 * n + c)) (map key_cell keys) ≡ map cell_for (merged_in l N test)
  row_merged n c N test low is small agree =
      filter-map (has_rank (9 * n + c)) key_cell keys
      ∙ ap (map key_cell) (filter_same (λ key. has_rank (9 * n + c) (key_cell key)) (λ key. bytes_eq key.segment N && test key) keys
      (λ k d inside. one (get_or keys k d) (keys_known k d inside)))
      ∙ sym (map_map cell_for Merged (filter (λ key. bytes_eq key.segment N && test key) keys))
    where
      one : (key : OutputKey) → KeyFacts key → has_rank (9 * n + c) (key_cell key) ≡ (bytes_eq key.segment N && test key)
      one key facts = has_row n c N low is small key facts ∙ by (bytes_eq key.segment N) refl
        where
          by : (b : Bool) → bytes_eq key.segment N ≡ b → (b && (class_of (key_name key) (key_flags key) == c)) ≡ (b && test key)
          by true e = agree key facts ((bytes_eq-Decides key.segment N).0 e)
          by false e = refl

  -- no merged cell of a rank
  pub row_empty : (n c : ℕ) (N : List ℕ) → n < length (mapped_of l) → get_or (mapped_of l) n N ≡ N → c < 9
      → ((key : OutputKey) → KeyFacts key → key.segment ≡ N → (class_of (key_name key) (key_flags key) == c) ≡ false) → filter
      (has_rank (9 * n + c)) (map key_cell keys) ≡ []
  row_empty n c N low is small agree =
      row_merged n c N (λ key. false) low is small agree ∙ ap (λ (ks : List OutputKey). map cell_for (map Merged ks)) (none keys)
    where
      none : (ks : List OutputKey) → filter (λ key. bytes_eq key.segment N && false) ks ≡ []
      none [] = refl
      none (k ∷ ks) = by (bytes_eq k.segment N) (none ks)
        where
          by : (b : Bool) → filter (λ key. bytes_eq key.segment N && false) ks ≡ [] → cond (b && false)
              (k ∷ filter (λ key. bytes_eq key.segment N && false) ks) (filter (λ key. bytes_eq key.segment N && false) ks) ≡ []
          by true e = e
          by false e = e

  abbrev A : List Cell
  A = cell_if (init_cell l p counts q plan fits h)

  abbrev B : List Cell
  B = cell_if (unwind_cell l p counts q plan fits h)

  abbrev C : List Cell
  C = cell_if (stub_cell l p counts q plan fits h)

  abbrev D : List Cell
  D = cell_if (slot_cell l p counts q plan fits h)

  -- what the linker makes of a rank
  pub made_row : (r : ℕ) → filter (has_rank r) made ≡ cond (1 == r) A [] ++ cond (2 == r) B [] ++ cond (3 == r) C [] ++ cond (12 == r) D []
  made_row r =
      filter-append (has_rank r) (A ++ B ++ C) D
      ∙ pair_same (filter (has_rank r) (A ++ B ++ C)) (filter (has_rank r) D)
      (cond (1 == r) A [] ++ cond (2 == r) B [] ++ cond (3 == r) C []) (cond (12 == r) D [])
      (filter-append (has_rank r) (A ++ B) C
      ∙ pair_same (filter (has_rank r) (A ++ B)) (filter (has_rank r) C) (cond (1 == r) A [] ++ cond (2 == r) B []) (cond (3 == r) C [])
      (filter-append (has_rank r) A B
      ∙ pair_same (filter (has_rank r) A) (filter (has_rank r) B) (cond (1 == r) A []) (cond (2 == r) B [])
      (flag_rank r (init_cell l p counts q plan fits h)) (flag_rank r (unwind_cell l p counts q plan fits h)))
      (flag_rank r (stub_cell l p counts q plan fits h))) (flag_rank r (slot_cell l p counts q plan fits h))

  -- all cells of a rank: the merged ones, then what the linker makes
  rank_parts : (r : ℕ) (xs ys : List Cell) → filter (has_rank r) (map key_cell keys) ≡ xs → filter (has_rank r) made ≡ ys → filter
      (has_rank r) cells ≡ xs ++ ys
  unfolding cells_of
  rank_parts r xs ys e f =
      filter-append (has_rank r) (map (home l p counts q plan fits h) (range_with_len 0 (length h.extents))) made
      ∙ pair_same (filter (has_rank r) (map (home l p counts q plan fits h) (range_with_len 0 (length h.extents))))
      (filter (has_rank r) made) xs ys (ap (filter (has_rank r)) merged_are ∙ e) f

  pub only_merged : (r : ℕ) (xs : List Cell) → filter (has_rank r) (map key_cell keys) ≡ xs → filter (has_rank r) made ≡ [] → filter
      (has_rank r) cells ≡ xs
  only_merged r xs e f = rank_parts r xs [] e f ∙ append-nil xs

  pub only_made : (r : ℕ) (ys : List Cell) → filter (has_rank r) (map key_cell keys) ≡ [] → filter (has_rank r) made ≡ ys → filter
      (has_rank r) cells ≡ ys
  only_made r ys e f = rank_parts r [] ys e f

  -- a made cell is there as the link has it
  pub flag_cell : (c : Cell) (o : OutputSection) (b : Bool) → cell_for o ≡ c → nat_lt 0 c.size ≡ b → cell_if c ≡ map cell_for
      (list_if b (o ∷ []))
  flag_cell c o b is e = ap (λ (x : Bool). list_if x (c ∷ [])) e ∙ by b
    where
      by : (b : Bool) → list_if b (c ∷ []) ≡ map cell_for (list_if b (o ∷ []))
      by true = ap (λ (x : Cell). x ∷ []) (sym is)
      by false = refl
