use Rattle.std.proofs.Common.{◌/◌, ◌<◌, length, arith}
use Rattle.macho_consumed.proofs.PlaceTables.{table_same, table_more, more_of}
use Rattle.macho_consumed.proofs.places.note.Goals as goal

pub returns-then-address-ne0 : goal.returns-then-address-ne0
returns-then-address-ne0 c = λ b k table is. table_same b k _ _ table (λ i lt same. c.if-address-ne0.true (omega (arith, is, same)))

pub returns-then-place-len : goal.returns-then-place-len
returns-then-place-len c = λ b k table is.
    table_same b k _ _ table (λ i lt same. absurd (omega (arith, is, same, lt, c.if-place-len.true, c.len.ensures)))

pub returns : goal.returns
returns c = λ b k table is.
    let within : c.args.address / 8 < length c.args.cells.now.items = omega (arith, c.if-place-len.false, c.len.ensures) in
    table_more b k _ (c.args.address / 8) _ _ table (omega (arith, is, c.if-address-ne0.false)) within
    (more_of _ _ (c.args.address / 8) c.args.cells.now.items _ within c.index.ensures c.with.ensures)
