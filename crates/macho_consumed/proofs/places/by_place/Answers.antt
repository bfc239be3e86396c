use Rattle.std.proofs.Common.{◌/◌, ap}
use Rattle.macho_consumed.proofs.PlaceTables.{table_none, least_none}
use Rattle.macho_consumed.proofs.places.by_place.Goals as goal

pub loop-index-init : goal.loop-index-init
loop-index-init c = record {
  table = table_none _ _ (c.args.size / 8) _ (ap (λ n. n / 8) c.requires.size) c.in_ok-cells.ensures;
  least = least_none _ _;
}
