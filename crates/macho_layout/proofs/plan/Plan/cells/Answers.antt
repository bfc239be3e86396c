-- All cells.
--
-- One number more adds its cell at the end; behind the last one stand those of what the linker makes.
use Rattle.std.proofs.Common.{◌≡◌, ℕ, List, ◌∷◌, [], ◌++◌, map, length, sym, ap, ◌∙◌, arith}
use Rattle.std.specs.List.{range_with_len}
use Rattle.std.proofs.lemmas.List.{get_or_default}
use Rattle.std.proofs.lemmas.List.FromFn.{map-range_with_len_more}
use Rattle.macho_stack.specs.declared.members.Extent.{Extent}
use Rattle.macho_stack.specs.declared.place.Cell.{Cell}
use Rattle.macho_stack.specs.Stacks.{extent_at, empty_extent}
use Rattle.macho_layout.specs.Cells.{merged_cell, made_cells, cells_of}
use Rattle.macho_layout.proofs.plan.Plan.cells.Goals as goal

pub loop-number-preserved : goal.loop-number-preserved
loop-number-preserved c =
    let k = c.loop-number.number in
    c.in_ok-push.ensures.items
    ∙ ap (λ (q : Cell). c.loop-number.cells.items ++ q ∷ []) (c.merged_cell.ensures
    ∙ ap (λ (e : Extent). merged_cell c.args.self.now c.args.names.now c.loop-number.number e)
    (get_or_default c.args.extents.now c.loop-number.number _ (empty_extent 0) c.loop-number-test.true))
    ∙ ap (λ (qs : List Cell). qs ++ merged_cell c.args.self.now c.args.names.now c.loop-number.number
    (extent_at c.args.extents.now c.loop-number.number) ∷ []) c.loop-number.invariant
    ∙ sym (map-range_with_len_more (λ (number : ℕ). merged_cell c.args.self.now c.args.names.now number
    (extent_at c.args.extents.now number)) 0 k k (omega arith))

pub returns : goal.returns
unfolding cells_of
returns c =
    let all : c.loop-number.number ≡ length c.args.extents.now = omega arith in
    c.in_ok-made_cells.ensures
    ∙ ap (λ (qs : List Cell). qs ++ made_cells c.args.self.now c.args.counts.now (length c.args.extents.now)) (c.loop-number.invariant
    ∙ ap (λ (n : ℕ). map (λ (number : ℕ). merged_cell c.args.self.now c.args.names.now number (extent_at c.args.extents.now number))
    (range_with_len 0 n)) all)
