-- What the linker makes: slots, stubs, offsets of initializers and unwind information, each in a cell of its own.
--
-- Such a cell is there where it isn't empty. Its rank is one of `__TEXT`, or for slots one of `__DATA_CONST`, which is the second segment
-- where there are slots. An empty one has no start but 0. Number k of equal parts stands k times their size behind the first.
use Rattle.std.proofs.Common.{◌≡◌, ℕ, zero, suc, ◌+◌, ◌*◌, ◌/◌, ◌%◌, ◌<◌, ◌≤◌, ◌==◌, ◌||◌, nat_lt, not, Bool, true, false, cond, List, [], ◌∷◌, ◌++◌, map, length, get_or, All, Contains, refl, sym, ap, ◌∙◌, subst, arith, inl, inr}
use Rattle.std.specs.List.{enumerate_from, range_with_len}
use Rattle.std.proofs.lemmas.Bool.{false≢true, lt-ltb, le-ltb, ne_eqb, or_right, cases_lt}
use Rattle.std.proofs.lemmas.List.Elements.{All-nil, All-append, Contains-append_left, Contains-append_right}
use Rattle.std.proofs.lemmas.List.FromFn.{length-map-range_with_len, get_or-map-range_with_len}
use Rattle.macho_model.specs.declared.placed.Counts.{Counts}
use Rattle.macho_model.specs.declared.placed.Range64.{Range64}
use Rattle.macho_model.specs.Links.{Link}
use Rattle.macho_model.specs.Targets.{slots_of}
use Rattle.macho_model.specs.Segments.{DATA, DATA_CONST, TEXT, has_section_in, other_segments, list_if}
use Rattle.macho_model.specs.Resolution.{chosen_commons}
use Rattle.macho_model.specs.Placement.{Placed}
use Rattle.macho_stack.specs.declared.place.Cell.{Cell}
use Rattle.macho_stack.specs.declared.place.PlacedCell.{PlacedCell}
use Rattle.macho_stack.specs.Ranks.{of_ranks}
use Rattle.macho_layout.specs.Plans.{Planning, IsPlanOf}
use Rattle.macho_layout.specs.Names.{mapped_names}
use Rattle.macho_layout.specs.Cells.{cell_if, text_cell, made_cells, cells_of}
use Rattle.macho_layout.specs.Places.{behind, number_at}
use Rattle.macho_layout.specs.Sums.{FitsLimits}
use Rattle.macho_layout.specs.Laid.{IsLaidOut}
use Rattle.macho_layout.proofs.Rooms.{ranks_keep, unmapped, if_small}
use Rattle.macho_layout.proofs.TableRooms.{names_some}
use Rattle.macho_layout_laws.proofs.Names.{mapped_of}
use Rattle.macho_layout_laws.proofs.Places.{number_in, IsMapped, mapped_number, const_mapped, text_mapped, number_at_place}
use Rattle.macho_layout_laws.proofs.Scene.{laid_cells, home, Stands, stands, no_wrap, count_is}

-- number k of what is told by numbers
pub numbered_at : {X Y : Type 0} (f : ℕ × X → Y) (n : ℕ) (xs : List X) (k : ℕ) (d : Y) → k < length xs → (x : X) ×
    (get_or (map f (enumerate_from n xs)) k d ≡ f (n + k, x))
numbered_at f n [] k d low = absurd (omega arith)
numbered_at {X} {Y} f n (x ∷ xs) zero d low = let e : n ≡ n + 0 = omega arith in (x, ap (λ (i : ℕ). f (i, x)) e)
numbered_at {X} {Y} f n (x ∷ xs) (suc k) d low =
    let rest = numbered_at f (n + 1) xs k d (omega arith) in
    let e : n + 1 + k ≡ n + suc k = omega arith in
    (rest.0, rest.1 ∙ ap (λ (i : ℕ). f (i, rest.0)) e)

pub length-numbered : {X Y : Type 0} (f : ℕ × X → Y) (n : ℕ) (xs : List X) → length (map f (enumerate_from n xs)) ≡ length xs
length-numbered f n [] = refl
length-numbered f n (x ∷ xs) = omega (arith, length-numbered f (n + 1) xs)

flag_has : (c : Cell) → 0 < c.size → Contains (cell_if c) c
flag_has c some = subst (λ (b : Bool). Contains (cond b (c ∷ []) []) c) (sym (lt-ltb 0 c.size some)) (0, omega arith, refl)

flag_none : (P : Cell → Type 0) (c : Cell) → c.size ≡ 0 → All P (cell_if c)
flag_none P c none = subst (λ (b : Bool). All P (cond b (c ∷ []) [])) (sym (le-ltb 0 c.size (omega (arith, none)))) (All-nil P)

second_in : {X : Type 0} (b : Bool) (x y : X) (xs ys : List X) → b ≡ true → (1 < length (x ∷ [] ++ list_if b (y ∷ []) ++ xs ++ ys)) ×
    (get_or (x ∷ [] ++ list_if b (y ∷ []) ++ xs ++ ys) 1 y ≡ y)
second_in true x y xs ys is = (omega arith, refl)
second_in false x y xs ys is = absurd (false≢true is)

module _ (l : Link) (p : Planning) (counts : Counts) (q : Placed) (plan : IsPlanOf l p) (fits : FitsLimits p counts)
    (h : IsLaidOut p counts q) where
  abbrev pub init_cell : Cell
  init_cell = text_cell (length h.extents + 0) 1 (4 * counts.initializers)

  abbrev pub unwind_cell : Cell
  unwind_cell = text_cell (length h.extents + 1) 2 counts.unwind

  abbrev pub stub_cell : Cell
  stub_cell = text_cell (length h.extents + 2) 3 (12 * length p.stubs)

  abbrev pub slot_cell : Cell
  slot_cell = record { number = length h.extents + 3; rank = 12; exponent = 3; size = 8 * length p.slots }

  abbrev cells : List Cell
  cells = laid_cells l p counts q plan fits h

  -- a cell is among those that the linker makes, and so among all
  abbrev among : Cell → Type 0
  among c = Contains (cells_of p counts (mapped_names p) h.extents) c

  in_made : (c : Cell) → Contains (made_cells p counts (length h.extents)) c → among c
  unfolding cells_of
  in_made c there = Contains-append_right (map (home l p counts q plan fits h) (range_with_len 0 (length h.extents)))
      (made_cells p counts (length h.extents)) c there

  pub init_there : 0 < counts.initializers → Contains (cells_of p counts (mapped_names p) h.extents) init_cell
  init_there some =
      in_made init_cell (Contains-append_left (cell_if init_cell ++ cell_if unwind_cell ++ cell_if stub_cell) (cell_if slot_cell) init_cell
      (Contains-append_left (cell_if init_cell ++ cell_if unwind_cell) (cell_if stub_cell) init_cell
      (Contains-append_left (cell_if init_cell) (cell_if unwind_cell) init_cell (flag_has init_cell (omega (arith, some))))))

  pub unwind_there : 0 < counts.unwind → Contains (cells_of p counts (mapped_names p) h.extents) unwind_cell
  unwind_there some =
      in_made unwind_cell (Contains-append_left (cell_if init_cell ++ cell_if unwind_cell ++ cell_if stub_cell)
      (cell_if slot_cell) unwind_cell
      (Contains-append_left (cell_if init_cell ++ cell_if unwind_cell) (cell_if stub_cell) unwind_cell
      (Contains-append_right (cell_if init_cell) (cell_if unwind_cell) unwind_cell (flag_has unwind_cell some))))

  pub stubs_there : 0 < length p.stubs → Contains (cells_of p counts (mapped_names p) h.extents) stub_cell
  stubs_there some =
      in_made stub_cell (Contains-append_left (cell_if init_cell ++ cell_if unwind_cell ++ cell_if stub_cell) (cell_if slot_cell) stub_cell
      (Contains-append_right (cell_if init_cell ++ cell_if unwind_cell) (cell_if stub_cell) stub_cell
      (flag_has stub_cell (omega (arith, some)))))

  pub slots_there : 0 < length p.slots → Contains (cells_of p counts (mapped_names p) h.extents) slot_cell
  slots_there some =
      in_made slot_cell (Contains-append_right (cell_if init_cell ++ cell_if unwind_cell ++ cell_if stub_cell) (cell_if slot_cell) slot_cell
      (flag_has slot_cell (omega (arith, some))))

  -- where there are slots, `__DATA_CONST` is the second segment
  pub const_there : 0 < length p.slots → IsMapped l DATA_CONST
  const_there some =
      const_mapped l (or_right (has_section_in l DATA_CONST) (not (length (slots_of l) == 0))
      (ap not (ne_eqb (length (slots_of l)) 0 (λ e. omega (arith, some, e, ap length plan.slots)))))

  pub const_number : 0 < length p.slots → (1 < length (mapped_of l)) × (number_in l DATA_CONST ≡ 1)
  const_number some =
      let there : (has_section_in l DATA_CONST || not (length (slots_of l) == 0)) ≡ true
      = or_right (has_section_in l DATA_CONST) (not (length (slots_of l) == 0))
      (ap not (ne_eqb (length (slots_of l)) 0 (λ e. omega (arith, some, e, ap length plan.slots)))) in
      let second = second_in (has_section_in l DATA_CONST || not (length (slots_of l) == 0)) TEXT DATA_CONST
      (list_if (has_section_in l DATA || not (length (chosen_commons l) == 0)) (DATA ∷ [])) (other_segments l) there in
      (second.0, number_at_place l 1 DATA_CONST second.0 second.1)

  pub slots_rank : 0 < length p.slots → slot_cell.rank < 9 * length (mapped_names p)
  slots_rank some = omega (arith, count_is l p counts q plan fits h, (const_number some).0)

  pub slots_class : 0 < length p.slots → (slot_cell.rank / 9 ≡ number_in l DATA_CONST) × (slot_cell.rank % 9 < 6)
  slots_class some = (sym (const_number some).1, omega arith)

  pub text_number : number_in l TEXT ≡ 0
  text_number = number_at_place l 0 TEXT (omega (arith, (mapped_number l TEXT (text_mapped l)).0)) refl

  -- where they stand
  pub init_stands : 0 < counts.initializers → Stands l p counts q plan fits h init_cell
  init_stands some = stands l p counts q plan fits h init_cell (init_there some) (omega (arith, names_some p))

  pub unwind_stands : 0 < counts.unwind → Stands l p counts q plan fits h unwind_cell
  unwind_stands some = stands l p counts q plan fits h unwind_cell (unwind_there some) (omega (arith, names_some p))

  pub stubs_stand : 0 < length p.stubs → Stands l p counts q plan fits h stub_cell
  stubs_stand some = stands l p counts q plan fits h stub_cell (stubs_there some) (omega (arith, names_some p))

  pub slots_stand : 0 < length p.slots → Stands l p counts q plan fits h slot_cell
  slots_stand some = stands l p counts q plan fits h slot_cell (slots_there some) (slots_rank some)

  -- an empty one has no cell, so no start but 0
  no_cell : (n : ℕ) → All (λ c. c.number ≡ n → ⊥) (cells_of p counts (mapped_names p) h.extents) → number_at h.starts n ≡ 0
  no_cell n none =
      h.have.rest n (unmapped (λ (c : Cell). c.number ≡ n → ⊥) (λ (x : PlacedCell). x.cell) h.cells
      (of_ranks 0 (9 * length (mapped_names p)) cells) h.rows.same
      (ranks_keep (λ c. c.number ≡ n → ⊥) 0 (9 * length (mapped_names p)) cells none))

  merged_other : (n : ℕ) → length h.extents ≤ n → All (λ c. c.number ≡ n → ⊥)
      (map (home l p counts q plan fits h) (range_with_len 0 (length h.extents)))
  merged_other n above k d low same =
      let f : ℕ → Cell = home l p counts q plan fits h in
      let e = ap (λ (c : Cell). c.number) (get_or-map-range_with_len f 0 (length h.extents) k k d
      (omega (arith, low, length-map-range_with_len f 0 (length h.extents))) (omega arith)) in
      absurd (omega (arith, above, low, same, e, length-map-range_with_len f 0 (length h.extents)))

  pub no_init : counts.initializers ≡ 0 → number_at h.starts (length h.extents + 0) ≡ 0
  unfolding cells_of
  no_init none =
      let P : Cell → Type 0 = λ c. c.number ≡ length h.extents + 0 → ⊥ in
      no_cell (length h.extents + 0) (All-append P (map (home l p counts q plan fits h) (range_with_len 0 (length h.extents)))
      (made_cells p counts (length h.extents)) (merged_other (length h.extents + 0) (omega arith))
      (All-append P (cell_if init_cell ++ cell_if unwind_cell ++ cell_if stub_cell) (cell_if slot_cell)
      (All-append P (cell_if init_cell ++ cell_if unwind_cell) (cell_if stub_cell)
      (All-append P (cell_if init_cell) (cell_if unwind_cell) (flag_none P init_cell (omega (arith, none)))
      (if_small P unwind_cell (λ e. absurd (omega (arith, e)))))
      (if_small P stub_cell (λ e. absurd (omega (arith, e))))) (if_small P slot_cell (λ e. absurd (omega (arith, e))))))

  pub no_unwind : counts.unwind ≡ 0 → number_at h.starts (length h.extents + 1) ≡ 0
  unfolding cells_of
  no_unwind none =
      let P : Cell → Type 0 = λ c. c.number ≡ length h.extents + 1 → ⊥ in
      no_cell (length h.extents + 1) (All-append P (map (home l p counts q plan fits h) (range_with_len 0 (length h.extents)))
      (made_cells p counts (length h.extents)) (merged_other (length h.extents + 1) (omega arith))
      (All-append P (cell_if init_cell ++ cell_if unwind_cell ++ cell_if stub_cell) (cell_if slot_cell)
      (All-append P (cell_if init_cell ++ cell_if unwind_cell) (cell_if stub_cell)
      (All-append P (cell_if init_cell) (cell_if unwind_cell) (if_small P init_cell (λ e. absurd (omega (arith, e))))
      (flag_none P unwind_cell (omega (arith, none))))
      (if_small P stub_cell (λ e. absurd (omega (arith, e))))) (if_small P slot_cell (λ e. absurd (omega (arith, e))))))

  -- a range that the linker fills has the room that was counted, and begins where its cell does
  pub init_range : (q.init_offsets.start ≡ number_at h.starts (length h.extents + 0)) ×
      (q.init_offsets.end ≡ q.init_offsets.start + 4 * counts.initializers)
  init_range =
      let start = ap (λ (r : Range64). r.start) h.from_them.init_offsets in
      let end = ap (λ (r : Range64). r.end) h.from_them.init_offsets in
      elim (cases_lt 0 counts.initializers) [
        | inl some ↦ (
          start,
          omega (
            arith,
            start,
            end,
            no_wrap l p counts q plan fits h init_cell (4 * counts.initializers)
                (init_stands some) (omega arith),
          ),
        )
        | inr none ↦
            let zero : number_at h.starts (length h.extents + 0) ≡ 0 = no_init (omega (arith, none)) in
            let wrapped : behind (number_at h.starts (length h.extents + 0)) (4 * counts.initializers) ≡ 0 = omega (arith, zero, none) in
            (start, omega (arith, start, end, zero, wrapped, none))
      ]

  pub unwind_range : (q.unwind.start ≡ number_at h.starts (length h.extents + 1)) × (q.unwind.end ≡ q.unwind.start + counts.unwind)
  unwind_range =
      let start = ap (λ (r : Range64). r.start) h.from_them.unwind in
      let end = ap (λ (r : Range64). r.end) h.from_them.unwind in
      elim (cases_lt 0 counts.unwind) [
        | inl some ↦ (
          start,
          omega (
            arith,
            start,
            end,
            no_wrap l p counts q plan fits h unwind_cell counts.unwind (unwind_stands some)
                (omega arith),
          ),
        )
        | inr none ↦
            let zero : number_at h.starts (length h.extents + 1) ≡ 0 = no_unwind (omega (arith, none)) in
            let wrapped : behind (number_at h.starts (length h.extents + 1)) counts.unwind ≡ 0 = omega (arith, zero, none) in
            (start, omega (arith, start, end, zero, wrapped, none))
      ]
