-- Where there is too much unwind information the placement shows it, where a segment has too many pages that one does.
use Rattle.std.proofs.Common.{refl, subst}
use Rattle.macho_model.specs.declared.placed.Counts.{Counts}
use Rattle.macho_layout.specs.Placements.{placed_of}
use Rattle.macho_sizing.specs.steps.Rooms.{IsLaid}
use Rattle.macho_sizing.proofs.Placements.{is_kept, unwind_passes, kept_same, pages_few}
use Rattle.macho_sizing.proofs.placing.place.Goals as goal

pub returns-then-counts-ge-LIMIT_32-clause-why : goal.returns-then-counts-ge-LIMIT_32-clause-why
returns-then-counts-ge-LIMIT_32-clause-why c l plan are =
    let counts = c.args.counts.now in
    let q = placed_of c.in_ok-placement.placement in
    let laid = c.in_ok-placement.ensures.done l plan in
    c.too_large.ensures l counts (unwind_passes l counts q laid.placed c.if-counts-ge-LIMIT_32.true) (is_kept l counts q are laid.placed)

pub returns-in-Some-clause-why : goal.returns-in-Some-clause-why
returns-in-Some-clause-why c l plan are =
    let laid = c.in_ok-placement.ensures.done l plan in
    record { stands = c.in-Some.ensures.many; kept = is_kept l c.args.counts.now (placed_of c.in_ok-placement.placement) are laid.placed }

pub returns-in-None-clause-done : goal.returns-in-None-clause-done
returns-in-None-clause-done c l plan are =
    let counts = c.args.counts.now in
    let q = placed_of c.in_ok-placement.placement in
    record {
      laid = subst (λ (n : Counts). IsLaid l n q) (kept_same counts c.if-counts-ge-LIMIT_32.false) (c.in_ok-placement.ensures.done l plan);
      pages = pages_few l counts q (c.in-None.ensures.few refl);
    }
