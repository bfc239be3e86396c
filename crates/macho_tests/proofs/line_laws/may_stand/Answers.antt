use Rattle.std.proofs.Common.{◌≡◌, Bool, true, false, not, refl, sym, ◌∙◌}
use Rattle.macho_tests.proofs.line_laws.may_stand.Goals as goal

not_true : (b : Bool) → not b ≡ true → b ≡ false
not_true true h = absurd (cc)
not_true false h = refl

pub returns-clause-plain : goal.returns-clause-plain
returns-clause-plain c h =
    c.lines_hold_no_nul.ensures c.args.line.now (sym c.has_barred.ensures ∙ not_true c.has_barred.result h)
