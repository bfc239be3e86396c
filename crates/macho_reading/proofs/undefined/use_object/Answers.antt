-- Rows of symbols stay those of the inputs, section by section.
use Rattle.std.proofs.Common.{◌≡◌, ap, ◌∙◌, arith, if◌then◌else◌}
use Rattle.std.proofs.lemmas.Result.{err_from_is_err_and}
use Rattle.macho_model.specs.Objects.{num_sections}
use Rattle.macho_relocation_scan.proofs.Walking.{rows_kept}
use Rattle.macho_reading.proofs.undefined.use_object.Goals as goal

pub loop-section-init : goal.loop-section-init
loop-section-init c inputs keeps = keeps

pub use_section-requires-clause-there : goal.use_section-requires-clause-there
use_section-requires-clause-there c =
    let count : c.num_sections-section-end.result ≡ num_sections c.args.object.now.bytes
    = c.num_sections-section-end.ensures ∙ ap (λ b. if b then 0 else num_sections c.args.object.now.bytes) c.requires.kind in
    omega (arith, count)

pub use_section-requires-clause-rows : goal.use_section-requires-clause-rows
use_section-requires-clause-rows c =
    rows_kept c.args.needs.now.resolved.files c.loop-section.needs.resolved.files c.args.file c.args.object.now.bytes c.requires.rows
    c.loop-section.invariant

pub loop-section-preserved : goal.loop-section-preserved
loop-section-preserved c inputs keeps = c.in_ok-use_section.ensures.kept inputs (c.loop-section.invariant inputs keeps)

pub returns-in_err-use_section-clause-why : goal.returns-in_err-use_section-clause-why
returns-in_err-use_section-clause-why c l counts has keeps =
    let e = err_from_is_err_and c.from_residual.result c.from_residual.ensures.1 in
    rw (e.1, e.2)
    (c.in_err-use_section.ensures.why l counts has (c.loop-section.invariant l.inputs keeps))
