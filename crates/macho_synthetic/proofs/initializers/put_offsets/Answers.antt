use Rattle.std.proofs.Common.{subst, arith}
use Rattle.macho_model.specs.declared.targets.Target.{Target}
use Rattle.macho_synthetic.specs.steps.Offsets.{IsOffset}
use Rattle.macho_synthetic.proofs.Writing.{offsets_more, offset_small}
use Rattle.macho_synthetic.proofs.initializers.put_offsets.Goals as goal
use Rattle.macho_bytes.proofs.Comparing.{read_alike}

pub loop-index-preserved : goal.loop-index-preserved
loop-index-preserved g c =
    let look = g.P.Places.look c.args.places.now in
    offsets_more look c.args.rows.now c.loop-index.index _ c.in-Some.offset c.loop-index.out c.put_little.new.out c.loop-index.invariant
    c.loop-index-test.true (read_alike c.args.rows.now c.loop-index.index _ _ c.loop-index-test.true)
    (subst (λ (t : Target). IsOffset look t c.in-Some.offset) c.target-target.ensures c.in-Some.ensures)
    (offset_small look c.target-target.result c.in-Some.offset c.in-Some.ensures) (omega (arith, c.requires.long, c.loop-index.auto.out))
    c.put_little.ensures.long c.put_little.ensures.written
