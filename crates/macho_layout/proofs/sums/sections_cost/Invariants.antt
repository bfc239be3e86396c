-- What sections cost: what holds before section k is that the sum has the first k.
use Rattle.std.proofs.Common.{◌≡◌, ◌<◌, ◌^◌, take, sum_by}
use Rattle.macho_layout.specs.Members.{placed_align}
use Rattle.macho_layout.specs.Sums.{section_cost}
use Rattle.macho_layout.proofs.sums.sections_cost.Given as goal

abbrev pub invariant-loop-section : goal.invariant-loop-section
invariant-loop-section l = record {
  value : l.sum ≡ sum_by (λ s. section_cost s.spec.size (placed_align l.template s.spec))
      (take l.section-index l.sections);
  fits : l.sum < 2 ^ 64;
}
