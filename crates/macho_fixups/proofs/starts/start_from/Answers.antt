use Rattle.std.proofs.Common.{arith}
use Rattle.macho_fixups.proofs.FirstWords.{no_start_at_end, no_start_behind, start_here}
use Rattle.macho_fixups.proofs.starts.start_from.Goals as goal

pub returns-then-next-fixups : goal.returns-then-next-fixups
returns-then-next-fixups c =
    no_start_at_end c.args.fixups.now c.args.next c.args.number c.requires.next (omega (arith, c.if-next-fixups.true))

pub returns-then-address-number : goal.returns-then-address-number
returns-then-address-number c =
    no_start_behind c.args.fixups.now c.args.next c.args.number _ c.requires.sorted c.requires.next
    (omega (arith, c.if-next-fixups.false, c.requires.next.within))
    c.if-address-number.true

pub returns : goal.returns
returns c =
    start_here c.args.fixups.now c.args.next c.args.number _ c.requires.next (omega (arith, c.if-next-fixups.false, c.requires.next.within))
    c.if-address-number.false
