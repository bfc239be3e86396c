-- Each mapped segment has been asked.
use Rattle.std.proofs.Common.{arith}
use Rattle.macho_image_walks.proofs.LoadedMemory.{byte_lacks}
use Rattle.macho_image_walks.proofs.mapped.segment_byte.Goals as goal

pub returns-clause-only : goal.returns-clause-only
returns-clause-only c _ v byte =
    let past = c.loop-number-test.false in
    let end = c.count_of-number-end.ensures in
    byte_lacks c.args.bytes.now c.args.address v (λ k within. c.loop-number.invariant k (omega (arith, past, end, within))) byte
