use Rattle.std.proofs.Common.{ℕ, ◌≤◌, List, length, take, arith, subst}
use Rattle.std.proofs.lemmas.List.{take_all}
use Rattle.std.proofs.lemmas.List.Elements.{All-more}
use Rattle.std.specs.List.{All}
use Rattle.macho_reading.specs.steps.Rows.{IsWhole}
use Rattle.macho_reading.proofs.rows.are_whole.Goals as goal

-- a list that is looked at to its end
checked_all : {X : Type 0} (P : X → Type 0) (xs : List X) (i : ℕ) → length xs ≤ i → All P (take i xs) → All P xs
checked_all {X = X} P xs i past all = subst (λ (ys : List X). All P ys) (take_all i xs past) all

pub loop-view-preserved : goal.loop-view-preserved
loop-view-preserved c =
    All-more IsWhole c.args.views.now c.loop-view.view-index c.view-item.result c.loop-view-test.true c.loop-view.invariant
    (subst IsWhole c.view-item.is c.is_whole.ensures)

pub returns : goal.returns
returns c = checked_all IsWhole c.args.views.now c.loop-view.view-index (omega arith) c.loop-view.invariant
