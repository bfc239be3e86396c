use Rattle.std.proofs.Common.{arith}
use Rattle.macho_signature.proofs.digests.page_count.Goals as goal

pub returns : goal.returns
returns c = omega (arith, c.div_ceil.ensures)
