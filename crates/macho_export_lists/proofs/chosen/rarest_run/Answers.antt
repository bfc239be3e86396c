use Rattle.std.proofs.Common.{◌+◌}
use Rattle.macho_export_lists.proofs.Runs.{run_between, tail_more}
use Rattle.macho_export_lists.proofs.chosen.rarest_run.Goals as goal

pub loop-star-preserved : goal.loop-star-preserved
loop-star-preserved c =
    let pattern = c.args.pattern.now in
    let star = c.in-Some-memchr.star in
    let run = run_between pattern c.loop-star.left.now star c.loop-star.invariant.1 c.in-Some-memchr.ensures.0 in (
      c.rarest_in-rarest.ensures pattern c.loop-star.invariant.0 run,
      tail_more pattern c.loop-star.left.now c.behind-left-in-Some-memchr.result.now (star + 1) c.loop-star.invariant.1
          c.behind-left-in-Some-memchr.ensures,
    )
