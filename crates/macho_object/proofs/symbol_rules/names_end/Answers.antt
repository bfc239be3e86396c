use Rattle.std.proofs.Common.{eq-eqb}
use Rattle.std.proofs.lemmas.Bool.{eqb-true}
use Rattle.macho_object.proofs.Ends.{names_end_at, names_end_never}
use Rattle.macho_object.proofs.symbol_rules.names_end.Goals as goal

pub returns-in-Some : goal.returns-in-Some
returns-in-Some c =
    let last = c.in-Some.ensures.0 in
    names_end_at c.args.strings.now c.in-Some.last last.high (eqb-true _ 0 c.in-Some.ensures.1)
    (λ k from lt is. last.after k from lt (eq-eqb _ 0 is))

pub returns-in-None : goal.returns-in-None
returns-in-None c = names_end_never c.args.strings.now (λ k from lt is. c.in-None.ensures k from lt (eq-eqb _ 0 is))
