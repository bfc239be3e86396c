-- Cells that are added to a row.
--
-- No cell leaves the list and the place as they were. A cell at the least place behind the row makes the row longer, and so
-- does a row behind a row. The place behind the row passes its start by no more than what the cells cost.
use Rattle.std.proofs.Common.{◌≡◌, ℕ, ◌+◌, ◌^◌, ◌<◌, ◌≤◌, Bool, true, false, cond, List, [], ◌∷◌, ◌++◌, length, map, filter, take, get_or, sum_by, refl, sym, ap, ◌∙◌, subst, arith}
use Rattle.std.proofs.lemmas.Bool.{eq-eqb}
use Rattle.std.proofs.lemmas.List.{append-nil, append_assoc, map-append, map_push}
use Rattle.std.proofs.lemmas.List.Elements.{filter_more}
use Rattle.std.proofs.lemmas.List.Folds.{fold-map}
use Rattle.std.proofs.lemmas.List.Sums.{sum_by_push}
use Rattle.macho_bytes.specs.Numbers.{rounded_up}
use Rattle.macho_stack.specs.declared.place.Cell.{Cell}
use Rattle.macho_stack.specs.declared.place.PlacedCell.{PlacedCell}
use Rattle.macho_stack.specs.Blocks.{Block, StandLeast}
use Rattle.macho_stack.specs.Ranks.{AddsCells, cell_block, cell_cost, has_rank}
use Rattle.macho_stack.proofs.StackRows.{row-push, row-append, row-within}
use Rattle.macho_stack.proofs.Ranks.{taken-cost}

pub adds_none : (place : ℕ) (placed : List PlacedCell) → AddsCells [] place placed placed place
adds_none place placed = record { added = []; are = sym (append-nil placed); same = refl; stack = record { least = refl } }

pub adds_one : (cells : List Cell) (start : ℕ) (old now next : List PlacedCell) (place : ℕ) (q : PlacedCell) → next ≡ now ++ q ∷ []
    → q.start ≡ rounded_up (2 ^ q.cell.exponent) place → AddsCells cells start old now place
    → AddsCells (cells ++ q.cell ∷ []) start old next (q.start + q.cell.size)
adds_one cells start old now next place q is least a = record {
  added = a.added ++ q ∷ [];
  are = is ∙ ap (λ (qs : List PlacedCell). qs ++ q ∷ []) a.are ∙ append_assoc old a.added (q ∷ []);
  same = map_push (λ (x : PlacedCell). x.cell) a.added q ∙ ap (λ (cs : List Cell). cs ++ q.cell ∷ []) a.same;
  stack = record {
    least = subst (λ (bs : List Block). StandLeast start bs (q.start + q.cell.size)) (sym (map_push cell_block a.added q))
        (row-push start (map cell_block a.added) place (cell_block q) a.stack.least least);
  };
}

pub adds_more : (cells others : List Cell) (start : ℕ) (old now next : List PlacedCell) (place end : ℕ)
    → AddsCells cells start old now place
    → AddsCells others place now next end → AddsCells (cells ++ others) start old next end
adds_more cells others start old now next place end a b = record {
  added = a.added ++ b.added;
  are = b.are ∙ ap (λ (qs : List PlacedCell). qs ++ b.added) a.are ∙ append_assoc old a.added b.added;
  same = map-append (λ (x : PlacedCell). x.cell) a.added b.added ∙ ap
      (λ (cs : List Cell). cs ++ map (λ (x : PlacedCell). x.cell) b.added) a.same
      ∙ ap (λ (cs : List Cell). cells ++ cs) b.same;
  stack = record {
    least = subst (λ (bs : List Block). StandLeast start bs end) (sym (map-append cell_block a.added b.added))
        (row-append start (map cell_block a.added) (map cell_block b.added) place end a.stack.least b.stack.least);
  };
}

-- how far a row goes
pub adds-within : (cells : List Cell) (start : ℕ) (old now : List PlacedCell) (place : ℕ) → AddsCells cells start old now place
    → place ≤ start + sum_by cell_cost cells
adds-within cells start old now place a =
    let cost = fold-map (λ (s : ℕ) (x : Cell). s + cell_cost x) (λ (x : PlacedCell). x.cell) 0 a.added in
    let same = ap (sum_by cell_cost) a.same in
    let long = row-within cell_block start a.added place a.stack.least in
    omega (arith, cost, same, long)

-- a filter of one element more, which passes
pub filter_next : {X : Type 0} (p : X → Bool) (xs : List X) (i : ℕ) (d : X) → i < length xs → p (get_or xs i d) ≡ true
    → filter p (take (i + 1) xs) ≡ filter p (take i xs) ++ get_or xs i d ∷ []
filter_next p xs i d low passes =
    filter_more p xs i d low ∙ ap (λ (b : Bool). filter p (take i xs) ++ cond b (get_or xs i d ∷ []) []) passes

-- a cell of a rank that isn't added yet has room
pub room_in_rank : (cells : List Cell) (rank : ℕ) (start : ℕ) (old now : List PlacedCell) (place i : ℕ) (d : Cell) → i < length cells
    → (get_or cells i d).rank ≡ rank → AddsCells (filter (has_rank rank) (take i cells)) start old now place
    → start + sum_by cell_cost (filter (has_rank rank) cells) + 2 ^ 14 ≤ 2 ^ 64 → place + cell_cost (get_or cells i d) + 2 ^ 14 ≤ 2 ^ 64
room_in_rank cells rank start old now place i d low own a fits =
    let within = adds-within (filter (has_rank rank) (take i cells)) start old now place a in
    let next = ap (sum_by cell_cost) (filter_next (has_rank rank) cells i d low (eq-eqb (get_or cells i d).rank rank own)) in
    let sums = sum_by_push cell_cost (filter (has_rank rank) (take i cells)) (get_or cells i d) in
    let all = taken-cost cell_cost (has_rank rank) (i + 1) cells in
    omega (arith, within, next, sums, all, fits)

-- a filter of one element more, which fails
pub filter_passed : {X : Type 0} (p : X → Bool) (xs : List X) (i : ℕ) (d : X) → i < length xs → p (get_or xs i d) ≡ false
    → filter p (take (i + 1) xs) ≡ filter p (take i xs)
filter_passed p xs i d low fails =
    filter_more p xs i d low ∙ ap (λ (b : Bool). filter p (take i xs) ++ cond b (get_or xs i d ∷ []) []) fails ∙ append-nil
    (filter p (take i xs))
