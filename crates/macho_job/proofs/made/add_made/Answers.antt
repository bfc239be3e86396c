-- Object by object.
use Rattle.std.proofs.lemmas.Result.{err_from_is_err_and}
use Rattle.macho_job.specs.Names.{names_of}
use Rattle.macho_job.proofs.Making.{made-more, objects-more, paths-more, all-made, made-fails}
use Rattle.macho_job.proofs.made.add_made.Goals as goal

pub returns-in_err-add_object-clause-why : goal.returns-in_err-add_object-clause-why
returns-in_err-add_object-clause-why c =
    let p = err_from_is_err_and c.from_residual-in_err-add_object.result c.from_residual-in_err-add_object.ensures.1 in
    λ told s old new asked. rw (p.1, p.2) (made-fails told s c.args.count c.loop-index.index (names_of c.push.new.self) old new _ asked
    c.loop-index-test.true c.loop-index.invariant.1
    (paths-more c.loop-index.index _ _ _ c.loop-index.invariant.2 c.in_ok-push.ensures.added c.in_ok-generated_path.ensures)
    c.in_err-add_object.ensures.why)

pub loop-index-preserved : goal.loop-index-preserved
loop-index-preserved c =
    let added = c.in_ok-add_object.ensures.added in (
      made-more c.args.linker.now c.loop-index.linker c.add_object.new.linker c.args.count c.loop-index.index c.loop-index.invariant.0
          added,
      objects-more c.args.count c.loop-index.index c.loop-index.invariant.1 added.object,
      paths-more c.loop-index.index _ _ _ c.loop-index.invariant.2 c.in_ok-push.ensures.added c.in_ok-generated_path.ensures,
    )

pub returns-clause-added : goal.returns-clause-added
returns-clause-added c =
    λ told s asked empty. all-made told s c.args.count c.loop-index.index (names_of c.loop-index.names) c.args.linker.now
    c.loop-index.linker asked empty
    c.loop-index-test.false c.loop-index.auto.index-end c.loop-index.invariant.0 c.loop-index.invariant.1 c.loop-index.invariant.2
