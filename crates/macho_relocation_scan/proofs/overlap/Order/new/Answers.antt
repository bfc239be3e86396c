-- No field was seen.
use Rattle.macho_relocation_scan.proofs.Hulls.{order_none}
use Rattle.macho_relocation_scan.proofs.overlap.Order.new.Goals as goal

pub returns : goal.returns
returns c b k = order_none b k _
