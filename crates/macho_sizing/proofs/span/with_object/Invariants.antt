-- The span of an object: what holds before section k is that the first k were added.
use Rattle.std.proofs.Common.{◌≡◌, ◌+◌, ◌<◌, ◌^◌, take, sum_by}
use Rattle.std.specs.List.{range_with_len}
use Rattle.macho_model.specs.Objects.{num_sections, section_at}
use Rattle.macho_sizing.specs.steps.Spans.{span_of}
use Rattle.macho_sizing.proofs.span.with_object.Given as goal

abbrev pub invariant-loop-section : goal.invariant-loop-section
invariant-loop-section l = record {
  value : l.span ≡ l.before + sum_by (λ k. span_of (section_at l.object.bytes k)) (take l.section (range_with_len 0
      (num_sections l.object.bytes)));
  fits : l.span < 2 ^ 64;
}
