use Rattle.std.proofs.Common.{◌+◌, ◌-◌, ◌/◌, sym, ◌∙◌, arith}
use Rattle.macho_symbols.proofs.Ascending.{below_middle, above_middle}
use Rattle.macho_symbols.proofs.solved.commons_before.Goals as goal

pub loop-low-preserved-then-is_before : goal.loop-low-preserved-then-is_before
loop-low-preserved-then-is_before c =
    let middle = c.loop-low.low + (c.loop-low.high - c.loop-low.low) / 2 in
    record {
      order = omega arith;
      within = c.loop-low.invariant.within;
      below = below_middle c.args.commons.now _ middle _ c.requires (omega arith) (sym c.is_before.ensures ∙ c.if-is_before.true);
      above = c.loop-low.invariant.above;
    }

pub loop-low-preserved : goal.loop-low-preserved
loop-low-preserved c =
    let middle = c.loop-low.low + (c.loop-low.high - c.loop-low.low) / 2 in
    record {
      order = omega arith;
      within = omega arith;
      below = c.loop-low.invariant.below;
      above = above_middle c.args.commons.now _ middle _ c.requires (omega arith) (sym c.is_before.ensures ∙ c.if-is_before.false);
    }
