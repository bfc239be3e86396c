use Rattle.std.proofs.Common.{◌≡◌, ◌∙◌, ◌++◌, ap, sym, append-nil, not, map, Bool, true, false}
use Rattle.macho_symbols.specs.steps.Solved.{common_told}
use Rattle.macho_symbol_names.proofs.Taking.{file_rows_none}
use Rattle.macho_symbols.proofs.ChosenOnes.{chosen_more, not_chosen_more}
use Rattle.macho_symbols.proofs.choosing.add_commons.Goals as goal

not_not : (t u : Bool) → t ≡ u → not t ≡ true → u ≡ false
not_not true true e p = cc
not_not true false e p = cc
not_not false true e p = cc
not_not false false e p = sym e

pub loop-row-init : goal.loop-row-init
loop-row-init c = rw (file_rows_none _ _) (sym (append-nil c.args.commons.now.items))

pub loop-row-preserved-then-not-is_chosen : goal.loop-row-preserved-then-not-is_chosen
loop-row-preserved-then-not-is_chosen c =
    c.loop-row.invariant
    ∙ ap (λ es. c.args.commons.now.items ++ map common_told es) (not_chosen_more _ _ _ (sym c.if-not-is_chosen.ensures))

pub loop-row-preserved : goal.loop-row-preserved
loop-row-preserved c =
    rw (c.in_ok-push.ensures.items, c.loop-row.invariant)
    (chosen_more c.args.files.now _ _ c.args.commons.now.items _ (sym c.if-not-is_chosen.ensures) c.in_ok-common_at.ensures.told)
