-- The span of all objects: what holds before view k is that the first k were added.
use Rattle.std.proofs.Common.{◌≡◌, ◌<◌, ◌^◌, take}
use Rattle.macho_sizing.specs.steps.Spans.{span_of_views}
use Rattle.macho_sizing.proofs.span.text_span.Given as goal

abbrev pub invariant-loop-view : goal.invariant-loop-view
invariant-loop-view l = record {
  value : l.span ≡ span_of_views (take l.view-index l.views);
  fits : l.span < 2 ^ 64;
}
