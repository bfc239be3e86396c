-- One segment more is added at the end, and `__LINKEDIT` behind the last.
use Rattle.std.proofs.Common.{◌≡◌, ◌++◌, ◌∷◌, [], List, ap, sym, refl, append_assoc}
use Rattle.std.proofs.lemmas.List.{take_more, take_all}
use Rattle.macho_model.specs.declared.placed.PlacedSegment.{PlacedSegment}
use Rattle.macho_model.specs.Segments.{list_if}
use Rattle.macho_layout.specs.Laid.{zero_page}
use Rattle.macho_layout.proofs.compute.all_segments.Goals as goal
use Rattle.macho_layout.proofs.compute.all_segments.Goals.{then-executable+in_ok-push, else-executable}

pub loop-segment-preserved : goal.loop-segment-preserved
loop-segment-preserved c =
    rw (c.in_ok-push-2.ensures.items, c.loop-segment.invariant, append_assoc)
    (ap (λ (ss : List PlacedSegment). c.if-executable.segments.items ++ ss)
    (sym (take_more c.args.mapped.now _ _ c.loop-segment-test.true)))

pub returns : goal.returns
returns c =
    let front : c.if-executable.segments.items ≡ list_if c.args.executable (zero_page ∷ []) = elim c.if-executable.branch [
      | then-executable+in_ok-push w ↦ rw
          (w.segments-is, w.in_ok-push.ensures.items, c.new-segments.ensures.items, w.if-executable.true) refl
      | else-executable w ↦ rw (w.segments-is, c.new-segments.ensures.items, w.if-executable.false) refl
    ] in
    rw (c.in_ok-push-3.ensures.items, c.loop-segment.invariant, take_all _ c.args.mapped.now c.loop-segment-test.false, front) refl
