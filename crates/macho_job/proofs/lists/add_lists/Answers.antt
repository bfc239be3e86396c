-- List by list.
use Rattle.std.proofs.Common.{refl}
use Rattle.std.proofs.lemmas.Result.{err_from_is_err_and}
use Rattle.macho_args.specs.Settings.{settings_of}
use Rattle.macho_devices.proofs.Counts.{reads-since}
use Rattle.macho_job.specs.Job.{AreFiles}
use Rattle.macho_job.proofs.Gathers.{lists-more, all-lists, list-fails}
use Rattle.macho_job.proofs.lists.add_lists.Goals as goal

pub returns-in_err-text-clause-why : goal.returns-in_err-text-clause-why
returns-in_err-text-clause-why g c =
    let p = err_from_is_err_and c.from_residual.result c.from_residual.ensures.1 in
    rw (p.1, p.2) (λ paths have. list-fails (g.F.Paths.state c.args.files.now).files (g.F.Paths.state c.loop-list.files).files
    (settings_of c.args.args.now) c.args.args.now.export_list_paths.items c.loop-list.list-index c.list-item.result paths paths
    c.loop-list.linker _ _ _ _ c.loop-list.invariant.1.same_files refl
    (rw c.deref-list-items.ensures.value at c.loop-list-test.true) (rw c.deref-list-items.ensures.value at c.list-item.is)
    (c.loop-list.invariant.0 paths have)
    c.loop-list.invariant.1.counted c.read_list.ensures.kept.counted (rw c.as_str.ensures.value at c.in_err-text.ensures.why))

pub loop-list-preserved : goal.loop-list-preserved
loop-list-preserved g c = (
  λ paths have. lists-more (g.F.Paths.state c.args.files.now).files (g.F.Paths.state c.loop-list.files).files (settings_of c.args.args.now)
      (AreFiles (g.F.Paths.state c.args.files.now).files (settings_of c.args.args.now) (settings_of c.args.args.now).generate)
      c.args.args.now.export_list_paths.items
      c.loop-list.list-index c.list-item.result paths c.loop-list.linker c.add_list.new.linker c.in_ok-text.text.items
      c.loop-list.invariant.1.same_files
      (rw c.deref-list-items.ensures.value at c.loop-list-test.true) (rw c.deref-list-items.ensures.value at c.list-item.is)
      (c.loop-list.invariant.0 paths have)
      (rw c.as_str.ensures.value at c.in_ok-text.ensures.held) (rw c.deref.ensures.value at c.in_ok-add_list.ensures.added),
  reads-since _ _ _ c.loop-list.invariant.1 c.read_list.ensures.kept,
)

pub returns-clause-added : goal.returns-clause-added
returns-clause-added g c =
    λ paths have. all-lists (g.F.Paths.state c.args.files.now).files (settings_of c.args.args.now) c.args.args.now.export_list_paths.items
    c.loop-list.list-index
    paths c.loop-list.linker (rw c.deref-list-items.ensures.value at c.loop-list-test.false) (c.loop-list.invariant.0 paths have)
