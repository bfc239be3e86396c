-- The run is sorted, and has words; so all are written.
use Rattle.std.proofs.Common.{subst, sym, List, ◌∙◌, length}
use Rattle.macho_fixups.specs.declared.run.FixupSegment.{FixupSegment}
use Rattle.macho_fixups.specs.Runs.{AreFixups}
use Rattle.macho_fixups.specs.Chains.{HaveRoom, AreWritten, ChainIsRun}
use Rattle.macho_layout.specs.Placements.{placed_of}
use Rattle.macho_promise.specs.FixupsSay.{fixup_segments}
use Rattle.macho_contents.proofs.Made.{run_of, room_of_run, none_refused, chained}
use Rattle.macho_contents.proofs.words.write_words.Goals as goal

pub write_chains-requires-clause-fixups : goal.write_chains-requires-clause-fixups
write_chains-requires-clause-fixups c =
    let some = c.requires.link in
    let segments = sym (c.deref.ensures.value ∙ c.in_ok-segments.ensures) in
    subst (λ (xs : List FixupSegment). AreFixups xs c.sort_run.new.fixups) segments
    (run_of some.0 some.1 (placed_of c.args.placement.now) c.args.run.now c.sort_run.new.fixups _ some.2 c.sort_run.ensures).run

pub write_chains-requires-clause-room : goal.write_chains-requires-clause-room
write_chains-requires-clause-room c =
    let some = c.requires.link in
    subst (λ (xs : List FixupSegment). HaveRoom xs c.sort_run.new.fixups (length c.args.out.now))
    (sym (c.deref.ensures.value ∙ c.in_ok-segments.ensures))
    (room_of_run (fixup_segments (placed_of c.args.placement.now)) c.args.run.now c.sort_run.new.fixups _ c.sort_run.ensures some.2.room)

pub unreachable-requires : goal.unreachable-requires
unreachable-requires c =
    let some = c.requires.link in
    none_refused some.0 some.1 (placed_of c.args.placement.now) c.args.run.now c.sort_run.new.fixups _ c.in-Err.field-0.index some.2
    c.sort_run.ensures c.in-Err.ensures.why

pub returns-clause-done : goal.returns-clause-done
returns-clause-done c l counts to =
    let segments = c.deref.ensures.value ∙ c.in_ok-segments.ensures in
    chained l counts (placed_of c.args.placement.now) c.args.run.now c.sort_run.new.fixups c.args.out.now c.write_chains.new.out to
    c.sort_run.ensures
    (subst (λ (xs : List FixupSegment). AreWritten xs c.sort_run.new.fixups (length c.sort_run.new.fixups) c.args.out.now
    c.write_chains.new.out) segments c.in-Ok.ensures.done)
    (subst (λ (xs : List FixupSegment). ChainIsRun xs c.sort_run.new.fixups) segments c.in-Ok.ensures.chain)
