-- Input by input.
use Rattle.std.proofs.Common.{rules, refl}
use Rattle.std.proofs.lemmas.Result.{err_from_is_err_and}
use Rattle.macho_args.specs.Settings.{settings_of}
use Rattle.macho_devices.proofs.Counts.{reads-since}
use Rattle.macho_job.specs.Names.{names_of}
use Rattle.macho_job.proofs.Gathers.{no-inputs, inputs-more, input-fails}
use Rattle.macho_job.proofs.inputs.add_inputs.Goals as goal

pub loop-spec-init : goal.loop-spec-init
loop-spec-init g c = (
  no-inputs (g.F.Paths.state c.args.files.now).files (settings_of c.args.args.now) (names_of c.args.names.now) c.args.linker.now
      c.requires.empty c.requires.unnamed,
  search rules,
)

pub returns-in_err-add_input-clause-why : goal.returns-in_err-add_input-clause-why
returns-in_err-add_input-clause-why g c =
    let p = err_from_is_err_and c.from_residual.result c.from_residual.ensures.1 in
    rw (p.1, p.2) (input-fails (g.F.Paths.state c.args.files.now).files (g.F.Paths.state c.loop-spec.files).files
    (settings_of c.args.args.now)
    c.args.args.now.inputs.items c.loop-spec.spec-index c.spec-item.result (names_of c.loop-spec.names) (names_of c.add_input.new.names)
    c.loop-spec.linker _ _ _ _ c.loop-spec.invariant.1.same_files refl
    (rw c.deref-spec-items.ensures.value at c.loop-spec-test.true) (rw c.deref-spec-items.ensures.value at c.spec-item.is)
    c.loop-spec.invariant.0 c.requires.alone c.loop-spec.invariant.1.counted c.add_input.ensures.kept.counted
    c.in_err-add_input.ensures.why)

pub loop-spec-preserved : goal.loop-spec-preserved
loop-spec-preserved g c = (
  inputs-more (g.F.Paths.state c.args.files.now).files (g.F.Paths.state c.loop-spec.files).files (settings_of c.args.args.now)
      c.args.args.now.inputs.items
      c.loop-spec.spec-index c.spec-item.result (names_of c.loop-spec.names) (names_of c.add_input.new.names) c.loop-spec.linker
      c.add_input.new.linker
      c.loop-spec.invariant.1.same_files (rw c.deref-spec-items.ensures.value at c.loop-spec-test.true)
      (rw c.deref-spec-items.ensures.value at c.spec-item.is)
      c.loop-spec.invariant.0 c.in_ok-add_input.ensures.added,
  reads-since _ _ _ c.loop-spec.invariant.1 c.add_input.ensures.kept,
)
