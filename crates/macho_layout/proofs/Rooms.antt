-- The room that a plan's parts need.
--
-- Each section has the number of an output section, and so have the commons: that of their name, which is the next number
-- where no section has it. No alignment passes a page's. All cells cost what sections, commons and what the linker makes have in
-- bytes, and at most 16 bytes more for the alignments of what it makes.
use Rattle.std.proofs.Common.{◌≡◌, ℕ, ◌+◌, ◌*◌, ◌<◌, ◌≤◌, ◌==◌, ◌&&◌, zero, suc, nat_lt, not, Bool, true, false, cond, List, [], ◌∷◌, ◌++◌, map, filter, length, get_or, All, sum_by, refl, sym, ap, ◌∙◌, subst, arith, inl, inr}
use Rattle.std.specs.List.{range_with_len, list_any, position_or_len}
use Rattle.std.proofs.lemmas.Bool.{cases_Bool, ne_eqb}
use Rattle.std.proofs.lemmas.List.{get_or-map, length-map}
use Rattle.std.proofs.lemmas.List.Elements.{recursion_from_All, All-from_recursion, All-filter, All-map, All-append, All-same}
use Rattle.std.proofs.lemmas.List.Folds.{fold-map}
use Rattle.std.proofs.lemmas.List.FromFn.{fill_by_all, length-map-range_with_len, get_or-map-range_with_len}
use Rattle.std.proofs.lemmas.List.Sums.{sum_by-append, sum_by-cons, prefix_len-le-length}
use Rattle.macho_model.specs.declared.placed.Counts.{Counts}
use Rattle.macho_model.specs.Segments.{one_if}
use Rattle.macho_records.specs.declared.segments.SegmentName.{SegmentName}
use Rattle.macho_stack.specs.declared.members.Member.{Member}
use Rattle.macho_stack.specs.declared.members.PlacedMember.{PlacedMember}
use Rattle.macho_stack.specs.declared.members.Extent.{Extent}
use Rattle.macho_stack.specs.declared.place.Cell.{Cell}
use Rattle.macho_stack.specs.declared.place.PlacedCell.{PlacedCell}
use Rattle.macho_stack.specs.Costs.{extent_cost}
use Rattle.macho_stack.specs.Stacks.{extent_at, empty_extent, members_in, is_in_cell, AreStacked}
use Rattle.macho_stack.specs.Ranks.{cell_cost, of_ranks, has_rank}
use Rattle.macho_stack.proofs.Ranks.{of_ranks-none, of_ranks-more}
use Rattle.macho_layout.specs.declared.spec.SectionSpec.{SectionSpec}
use Rattle.macho_layout.specs.declared.spec.OutputName.{OutputName}
use Rattle.macho_layout.specs.declared.spec.Planned.{Planned}
use Rattle.macho_layout.specs.Plans.{Planning}
use Rattle.macho_layout.specs.Keys.{same_output, output_key_of, outputs_seen, specs_of}
use Rattle.macho_layout.specs.steps.Holding.{HoldNames}
use Rattle.macho_layout.specs.Names.{section_outputs, merged_count, common_output, has_new_commons, COMMON_NAME}
use Rattle.macho_layout.specs.Members.{section_member, common_member, members_of, template_align, first_flags}
use Rattle.macho_layout.specs.Cells.{merged_cell, cell_if, text_cell, made_cells, cells_of}
use Rattle.macho_layout.proofs.Costs.{most-max, template-small, placed-small}
use Rattle.macho_bytes.proofs.Members.{place_inside}

-- the commons have a number, where there are some
pub commons_there : (p : Planning) → 0 < length p.commons → common_output p < merged_count p
commons_there p some =
    let q : OutputName → Bool = same_output COMMON_NAME in
    let empty : (length p.commons == 0) ≡ false = ne_eqb (length p.commons) 0 (λ e. omega arith) in
    let most = prefix_len-le-length (λ x. not (same_output COMMON_NAME x)) (section_outputs p) in
    elim (cases_Bool (list_any (same_output COMMON_NAME) (section_outputs p))) [
      | inl there ↦ omega (arith, place_inside (same_output COMMON_NAME) (section_outputs p) there)
      | inr new ↦
          let one : one_if (has_new_commons p) ≡ 1
          = ap (λ (b : Bool). one_if (not b && not (list_any (same_output COMMON_NAME) (section_outputs p)))) empty ∙ ap
          (λ (b : Bool). one_if (not b)) new in
          omega (arith, one, most)
    ]

-- all members are in output sections
pub members_there : (p : Planning) (sections : List Planned) (keys : List OutputName) (segments : List SegmentName) → p.sections
    ≡ specs_of sections
    → HoldNames sections keys segments → All (λ m. m.cell < merged_count p) (members_of p)
unfolding members_of
members_there p sections keys segments e h =
    let table : keys ≡ section_outputs p = h.keys_are ∙ ap outputs_seen (sym e) in
    let one : All (λ s. position_or_len (same_output (output_key_of s)) (section_outputs p) < merged_count p) (specs_of sections)
    = All-map (λ s. position_or_len (same_output (output_key_of s)) (section_outputs p) < merged_count p) (λ (s : Planned). s.spec) sections
    (λ k d low.
    let place = ap (position_or_len (same_output (output_key_of (get_or sections k d).spec))) table in
    let long = ap length table in
    omega (arith, h.outputs k d low, h.within k d low, place, long)) in
    All-append (λ m. m.cell < merged_count p) (map (section_member p) p.sections) (map (common_member p) p.commons)
    (All-map (λ m. m.cell < merged_count p) (section_member p) p.sections
    (subst (λ (ss : List SectionSpec). All (λ s. position_or_len (same_output (output_key_of s)) (section_outputs p) < merged_count p) ss)
    (sym e) one))
    (All-map (λ m. m.cell < merged_count p) (common_member p) p.commons (λ k d low. commons_there p (omega arith)))

-- no alignment passes a page's
pub members_small : (p : Planning) → All (λ s. s.align ≤ 14) p.sections → All (λ c. c.align ≤ 14) p.commons → All (λ m. m.exponent ≤ 14)
    (members_of p)
unfolding members_of
members_small p ss cs =
    All-append (λ m. m.exponent ≤ 14) (map (section_member p) p.sections) (map (common_member p) p.commons)
    (All-map (λ m. m.exponent ≤ 14) (section_member p) p.sections (λ k d low. placed-small (template_align p) (get_or p.sections k d)
    (template-small p ss) (ss k d low)))
    (All-map (λ m. m.exponent ≤ 14) (common_member p) p.commons cs)

pub flags_many : (p : Planning) → length (first_flags p) ≡ merged_count p
unfolding first_flags
flags_many p = length-map-range_with_len _ 0 (merged_count p)

-- a fact about mapped elements
pub unmapped : {X Y : Type 0} (P : Y → Type 0) (f : X → Y) (xs : List X) (ys : List Y) → map f xs ≡ ys → All P ys → All (λ x. P (f x)) xs
unmapped P f xs ys e h k d low =
    subst P (ap (λ zs. get_or zs k (f d)) (sym e) ∙ get_or-map f xs k d (f d) low) (h k (f d) (omega (arith, ap length e, length-map xs f)))

-- no output section's alignment passes a page's
pub extents_small : (flags : List ℕ) (members : List Member) (extents : List Extent) (placed : List PlacedMember) (c : ℕ)
    → AreStacked flags members extents placed
    → All (λ m. m.exponent ≤ 14) members → c < length flags → (extent_at extents c).exponent ≤ 14
extents_small flags members extents placed c s small there =
    let each = unmapped (λ (m : Member). m.exponent ≤ 14) (λ (q : PlacedMember). q.member) placed members s.same small in
    let most = most-max (λ (q : PlacedMember). q.member.exponent) 14 0 (members_in c placed) (omega arith)
    (recursion_from_All (λ (q : PlacedMember). q.member.exponent ≤ 14) (members_in c placed)
    (All-filter (is_in_cell c) (λ (q : PlacedMember). q.member.exponent ≤ 14) placed each)) in
    omega (arith, s.exponents c there, most)

-- a cell that isn't empty
pub if_small : (P : Cell → Type 0) (c : Cell) → P c → All P (cell_if c)
if_small P c h = by (nat_lt 0 c.size)
  where
    by : (b : Bool) → All P (cond b (c ∷ []) [])
    by true = All-from_recursion P (c ∷ []) (h, tt)
    by false = λ k d low. absurd (omega arith)

-- what all cells keep
pub cells_keep : (P : Cell → Type 0) (p : Planning) (counts : Counts) (names : List SegmentName) (extents : List Extent)
    → ((n : ℕ) → n < length extents → P (merged_cell p names n (extent_at extents n))) → P
    (text_cell (length extents + 0) 1 (4 * counts.initializers))
    → P (text_cell (length extents + 1) 2 counts.unwind) → P (text_cell (length extents + 2) 3 (12 * length p.stubs))
    → P (record { number = length extents + 3; rank = 12; exponent = 3; size = 8 * length p.slots }) → All P
    (cells_of p counts names extents)
unfolding cells_of
cells_keep P p counts names extents merged a b c d =
    let made = All-append P _ _ (All-append P _ _ (All-append P _ _ (if_small P _ a) (if_small P _ b)) (if_small P _ c)) (if_small P _ d) in
    All-append P (map (λ number. merged_cell p names number (extent_at extents number)) (range_with_len 0 (length extents)))
    (made_cells p counts (length extents))
    (λ k e low.
    let inside : k < length extents = omega (
      arith,
      length-map-range_with_len
          (λ number. merged_cell p names number (extent_at extents number)) 0 (length extents),
    ) in
    subst P (sym (get_or-map-range_with_len (λ number. merged_cell p names number (extent_at extents number)) 0
    (length extents) k k e inside (omega arith))) (merged k inside)) made

pub cells_small : (p : Planning) (counts : Counts) (names : List SegmentName) (extents : List Extent) →
    ((c : ℕ) → c < length extents → (extent_at extents c).exponent ≤ 14)
    → All (λ c. c.exponent ≤ 14) (cells_of p counts names extents)
cells_small p counts names extents h =
    cells_keep (λ c. c.exponent ≤ 14) p counts names extents h (omega arith) (omega arith) (omega arith) (omega arith)

pub cells_numbered : (p : Planning) (counts : Counts) (names : List SegmentName) (extents : List Extent)
    → All (λ c. c.number < length extents + 4) (cells_of p counts names extents)
cells_numbered p counts names extents =
    cells_keep (λ c. c.number < length extents + 4) p counts names extents (λ n low. omega arith) (omega arith) (omega arith) (omega arith)
    (omega arith)

-- what a cell costs where it isn't empty
if_cost : (c : Cell) → sum_by cell_cost (cell_if c) ≤ cell_cost c
if_cost c = by (nat_lt 0 c.size)
  where
    by : (b : Bool) → sum_by cell_cost (cond b (c ∷ []) []) ≤ cell_cost c
    by true = omega (arith, sum_by-cons cell_cost c [])
    by false = omega arith

-- a sum over numbers is one over the list
sum_numbered : {X : Type 0} (f : X → ℕ) (xs : List X) (d : X) → sum_by (λ n. f (get_or xs n d)) (range_with_len 0 (length xs)) ≡ sum_by f xs
sum_numbered f xs d =
    sym (fold-map (λ (n : ℕ) x. n + f x) (λ (n : ℕ). get_or xs n d) 0 (range_with_len 0 (length xs)))
    ∙ sym (ap (sum_by f) (fill_by_all (λ n. get_or xs n d) xs (length xs) d refl (λ k low. refl)))

-- what all cells cost
pub cells-cost : (p : Planning) (counts : Counts) (names : List SegmentName) (extents : List Extent)
    → sum_by cell_cost (cells_of p counts names extents) ≤ sum_by extent_cost extents + 4 * counts.initializers + counts.unwind + 12 *
    length p.stubs + 8 * length p.slots + 16
unfolding cells_of
cells-cost p counts names extents =
    let a : Cell = text_cell (length extents + 0) 1 (4 * counts.initializers) in
    let b : Cell = text_cell (length extents + 1) 2 counts.unwind in
    let c : Cell = text_cell (length extents + 2) 3 (12 * length p.stubs) in
    let d : Cell = record { number = length extents + 3; rank = 12; exponent = 3; size = 8 * length p.slots } in
    let front = sum_by-append cell_cost (map (λ number. merged_cell p names number (extent_at extents number))
    (range_with_len 0 (length extents))) (made_cells p counts (length extents)) in
    let merged = fold-map (λ (n : ℕ) (x : Cell). n + cell_cost x) (λ (number : ℕ). merged_cell p names number (extent_at extents number)) 0
    (range_with_len 0 (length extents)) in
    let sums = sum_numbered extent_cost extents (empty_extent 0) in
    omega (
      arith,
      front,
      merged,
      sums,
      sum_by-append cell_cost (cell_if a ++ cell_if b ++ cell_if c) (cell_if d),
      sum_by-append cell_cost (cell_if a ++ cell_if b) (cell_if c),
      sum_by-append cell_cost (cell_if a) (cell_if b),
      if_cost a,
      if_cost b,
      if_cost c,
      if_cost d,
    )

-- what holds of all cells holds of those of some ranks
pub ranks_keep : (P : Cell → Type 0) (first n : ℕ) (cells : List Cell) → All P cells → All P (of_ranks first n cells)
ranks_keep P first zero cells h = All-same P (of_ranks first 0 cells) [] (of_ranks-none first cells) (λ k d low. absurd (omega arith))
ranks_keep P first (suc n) cells h =
    let next : suc n ≡ n + 1 = omega arith in
    All-same P (of_ranks first (suc n) cells) (of_ranks first n cells ++ filter (has_rank (first + n)) cells)
    (ap (λ (k : ℕ). of_ranks first k cells) next ∙ of_ranks-more first n cells)
    (All-append P (of_ranks first n cells) (filter (has_rank (first + n)) cells) (ranks_keep P first n cells h)
    (All-filter (has_rank (first + n)) P cells h))

-- the numbers of placed cells
pub placed_numbered : (p : Planning) (counts : Counts) (names : List SegmentName) (extents : List Extent) (placed : List PlacedCell) (n : ℕ)
    → map (λ q. q.cell) placed ≡ of_ranks 0 n (cells_of p counts names extents) → All (λ q. q.cell.number < length extents + 4) placed
placed_numbered p counts names extents placed n e =
    unmapped (λ (c : Cell). c.number < length extents + 4) (λ (q : PlacedCell). q.cell) placed
    (of_ranks 0 n (cells_of p counts names extents)) e
    (ranks_keep (λ c. c.number < length extents + 4) 0 n (cells_of p counts names extents) (cells_numbered p counts names extents))
