-- The run ends behind its read, or with the print of the report.
use Rattle.std.proofs.Common.{refl, [], ◌∷◌}
use Rattle.macho_tools.proofs.Ends.{bytes-as, file-refused, answer-printed, print-failed}
use Rattle.macho_inspect.specs.Lines.{report_text}
use Rattle.macho_inspect.specs.Runs.{inspector}
use Rattle.macho_inspect.specs.declared.report.InspectFault.TheVariants.{Rejected}
use Rattle.macho_inspect.proofs.running.inspect_file.Goals as goal

pub returns-in-Err-Rejected : goal.returns-in-Err-Rejected
returns-in-Err-Rejected g c =
    file-refused inspector (c.args.path.now ∷ []) c.args.path.now _ _ _ c.deref.result.now (Rejected c.in-Err-Rejected.fault) refl
    c.read_word.ensures.kept (bytes-as _ _ _ _ c.deref.ensures.value c.in-Ok.ensures.found)
    (rw c.in-Err-Rejected.field-0-is at c.in-Err-Rejected.ensures.why)

pub returns-in-Ok-print_report : goal.returns-in-Ok-print_report
returns-in-Ok-print_report g c =
    answer-printed inspector (c.args.path.now ∷ []) c.args.path.now _ _ _ _ c.deref.result.now (report_text c.in-Ok-inspect.report) refl
    c.read_word.ensures.kept (bytes-as _ _ _ _ c.deref.ensures.value c.in-Ok.ensures.found)
    (c.in-Ok-inspect.report, c.in-Ok-inspect.ensures.found, refl) refl c.in-Ok-print_report.ensures.done c.print_report.ensures.counted

pub returns : goal.returns
returns g c =
    print-failed inspector (c.args.path.now ∷ []) c.args.path.now _ _ _ _ c.deref.result.now (report_text c.in-Ok-inspect.report) refl
    c.read_word.ensures.kept (bytes-as _ _ _ _ c.deref.ensures.value c.in-Ok.ensures.found)
    (c.in-Ok-inspect.report, c.in-Ok-inspect.ensures.found, refl) refl c.in-Err-print_report.ensures.left
    c.in-Err-print_report.ensures.why c.print_report.ensures.counted
