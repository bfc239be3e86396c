-- The span of all objects: where the next view doesn't fit any more, neither do all.
use Rattle.std.proofs.Common.{ap, ◌∙◌, arith}
use Rattle.std.proofs.lemmas.List.{take_all}
use Rattle.macho_sizing.specs.steps.Spans.{span_of_views}
use Rattle.macho_layout.proofs.Costs.{fitting-is}
use Rattle.macho_sizing.proofs.span.text_span.Goals as goal

pub returns : goal.returns
returns c =
    fitting-is _ _ (c.loop-view.invariant.value ∙ ap span_of_views
    (take_all c.loop-view.view-index c.args.views.now (omega arith))) c.loop-view.invariant.fits
