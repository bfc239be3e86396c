-- One path more has moved, by what was told before.
use Rattle.std.proofs.Common.{arith, ◌∙◌}
use Rattle.macho_args.proofs.Moves.{moved-more, moved-later}
use Rattle.macho_args.proofs.search_paths.moved_paths.Goals as goal

pub loop-path-preserved : goal.loop-path-preserved
loop-path-preserved g c =
    let told = g.D.Paths.state c.args.paths.now in
    let before = c.loop-path.invariant in
    let later = moved-later told (g.D.Paths.state c.loop-path.paths) in
    let moved = rw (c.as_str.ensures.value) at (later _ _ _ before.outside c.in_ok-moved_path.ensures.moved) in
    let more = moved-more told.directories c.args.root.now c.args.old.now c.loop-path.new.items c.loop-path.path-index in
    record {
      each =
          rw (c.in_ok-push.ensures.items)
          (more c.path-item.result c.in_ok-moved_path.field-0 (omega arith) c.path-item.is before.each moved);
      outside = c.moved_path.ensures.outside ∙ before.outside;
    }
