use Rattle.std.proofs.Common.{◌+◌, ◌*◌, ◌/◌, ◌<◌, ◌≤◌, length, ap, sym, ◌∙◌, arith}
use Rattle.macho_symbol_names.proofs.Strings.{ends_inside, ends_behind, end_from, end_within}
use Rattle.macho_symbol_names.proofs.ends.string_end.Goals as goal

-- the string ends in its block
pub returns-then-end-next-clause-is : goal.returns-then-end-next-clause-is
returns-then-end-next-clause-is c =
    let within : (c.args.at / 256 + 1) * 256 ≤ length c.args.strings.now = omega (arith, c.if-strings-block.false) in
    let name = ap (λ n. c.args.at + length n) c.name_bytes.ensures in
    name
    ∙ sym (ends_inside c.args.strings.now c.args.at ((c.args.at / 256 + 1) * 256) (omega arith) within
    (omega (arith, name, c.if-end-next.true)))

-- or where the one does that reaches the next block
pub returns-else-end-next-clause-is : goal.returns-else-end-next-clause-is
returns-else-end-next-clause-is c =
    let block : c.args.at / 256 + 1 < length c.args.ends.now = omega (arith, c.requires.ends.long, c.if-strings-block.false) in
    let within : (c.args.at / 256 + 1) * 256 ≤ length c.args.strings.now = omega (arith, c.if-strings-block.false) in
    let name = ap (λ n. c.args.at + length n) c.name_bytes.ensures in
    c.requires.ends.each (c.args.at / 256 + 1) block
    ∙ sym (ends_behind c.args.strings.now c.args.at ((c.args.at / 256 + 1) * 256) (omega arith) within
    (omega (arith, name, c.if-end-next.false)))

pub returns-else-end-next-clause-from : goal.returns-else-end-next-clause-from
returns-else-end-next-clause-from c = omega (arith, returns-else-end-next-clause-is c, end_from c.args.strings.now c.args.at)

pub returns-else-end-next-clause-to : goal.returns-else-end-next-clause-to
returns-else-end-next-clause-to c =
    omega (arith, returns-else-end-next-clause-is c, end_within c.args.strings.now c.args.at c.requires.within)
