-- What commons cost: what holds before common k is that the sum has the first k.
use Rattle.std.proofs.Common.{◌≡◌, ◌<◌, ◌^◌, ◌+◌, take, sum_by}
use Rattle.macho_layout.specs.Sums.{section_cost}
use Rattle.macho_layout.proofs.sums.commons_cost.Given as goal

abbrev pub invariant-loop-common : goal.invariant-loop-common
invariant-loop-common l = record {
  value : l.sum ≡ l.before + sum_by (λ c. section_cost c.size c.align)
      (take l.common-index l.commons);
  fits : l.sum < 2 ^ 64;
}
