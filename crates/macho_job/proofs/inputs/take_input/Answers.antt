-- What the linker refuses is refused by the head of the bytes.
use Rattle.std.proofs.Common.{sym, ap, ◌∙◌}
use Rattle.macho_linker.specs.Refusals.{ObjectRefused, DylibRefused}
use Rattle.macho_job.specs.declared.heads.Head.TheVariants as head
use Rattle.macho_job.specs.Heads.{head_of}
use Rattle.macho_job.specs.steps.Gathering.{TextRefused}
use Rattle.macho_job.proofs.Refusing.{answer_fails, kept_object, kept_dylib, kept_text}
use Rattle.macho_job.proofs.inputs.take_input.Goals as goal
use Rattle.macho_job.proofs.inputs.take_input.Goals.{in-Object, in-Dylib, in-Stub}

pub returns-in-Err-clause-why : goal.returns-in-Err-clause-why
returns-in-Err-clause-why c =
    let begins = sym (c.head_of.ensures ∙ ap head_of c.deref.ensures.value) in
    elim c.match-head_of.branch [
      | in-Object w ↦
          answer_fails c.args.word c.args.bytes.items head.Object (ObjectRefused c.args.bytes.items) w.add_object-added.result
          c.in-Err.error c.of_input.result (kept_object c.args.bytes.items) (begins ∙ w.in-Object.is)
          (sym w.added-is ∙ c.in-Err.is) w.add_object-added.ensures.why c.of_input.ensures
      | in-Dylib w ↦
          answer_fails c.args.word c.args.bytes.items head.Dylib (DylibRefused c.args.bytes.items) w.add_dylib-added.result
          c.in-Err.error c.of_input.result (kept_dylib c.args.bytes.items) (begins ∙ w.in-Dylib.is)
          (sym w.added-is ∙ c.in-Err.is) w.add_dylib-added.ensures.why c.of_input.ensures
      | in-Stub w ↦
          answer_fails c.args.word c.args.bytes.items head.Stub (TextRefused c.args.bytes.items) w.add_text-added.result
          c.in-Err.error c.of_input.result (kept_text c.args.bytes.items) (begins ∙ w.in-Stub.is)
          (sym w.added-is ∙ c.in-Err.is) w.add_text-added.ensures.why c.of_input.ensures
    ]
