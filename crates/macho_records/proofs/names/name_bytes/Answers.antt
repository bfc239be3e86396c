use Rattle.std.proofs.Common.{sym, arith, eq-eqb}
use Rattle.std.proofs.lemmas.Bool.{eqb-true}
use Rattle.macho_bytes.proofs.Names.{name_of-ends, name_of-whole}
use Rattle.macho_records.proofs.names.name_bytes.Goals as goal

pub returns-in-Some : goal.returns-in-Some
returns-in-Some c =
    let first = c.in-Some.ensures.0 in
    let lt = first.high in
    sym (name_of-ends c.args.field.now c.in-Some.end lt (λ i before is. first.before i (omega arith) before (eq-eqb _ 0 is))
    (eqb-true _ 0 c.in-Some.ensures.1))

pub returns-in-None : goal.returns-in-None
returns-in-None c = sym (name_of-whole c.args.field.now (λ i lt is. c.in-None.ensures i (omega arith) lt (eq-eqb _ 0 is)))
