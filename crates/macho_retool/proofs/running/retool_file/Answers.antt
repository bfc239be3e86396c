-- The run ends behind its read, or with the write of the changed image.
use Rattle.std.proofs.Common.{refl, sym, subst}
use Rattle.macho_tools.specs.Runs.{ReadFails}
use Rattle.macho_tools.proofs.Ends.{bytes-as, read-failed, file-refused, memory-ended, write-ended}
use Rattle.macho_retool.specs.Runs.{retooler}
use Rattle.macho_retool.specs.Retooled.{IsRetooled}
use Rattle.macho_retool.specs.steps.Asked.{job_of}
use Rattle.macho_retool.proofs.running.retool_file.Goals as goal

pub returns-in-Err : goal.returns-in-Err
returns-in-Err g c words out asks =
    let old = g.F.Paths.state c.args.files.now in
    let new = g.F.Paths.state c.read_word.new.files in
    read-failed retooler words (job_of c.args.asked.now) old new out c.in-Err.fault asks c.read_word.ensures.kept
    (subst (λ n. ReadFails old new n c.args.asked.now.image.now c.in-Err.fault) c.image_word.ensures c.in-Err.ensures.why)

pub returns-in_default : goal.returns-in_default
returns-in_default g c words out asks =
    memory-ended retooler words (job_of c.args.asked.now) _ _ out asks c.read_word.ensures.kept

pub returns-in-Err-retool : goal.returns-in-Err-retool
returns-in-Err-retool g c words out asks =
    memory-ended retooler words (job_of c.args.asked.now) _ _ out asks c.read_word.ensures.kept

pub returns-in-Err-2 : goal.returns-in-Err-2
returns-in-Err-2 g c words out asks =
    file-refused retooler words (job_of c.args.asked.now) _ _ out c.deref.result.now c.in-Err-retool.fault asks c.read_word.ensures.kept
    (bytes-as _ _ _ _ c.deref.ensures.value c.in-Ok.ensures.found) (
      c.in-Ok-change_of.change,
      c.in-Ok-change_of.ensures,
      record {
        refusal = c.is_want_of_memory.ensures.no c.if-is_want_of_memory.false;
        told = c.in-Err-retool.ensures.why;
        first = λ other stands. c.in-Err-retool.ensures.only other stands;
      },
    )

pub returns : goal.returns
returns g c words out asks =
    write-ended retooler words (job_of c.args.asked.now) _ _ _ out c.deref.result.now c.deref-2.result.now c.args.asked.now.output.now
    c.write_answer.result asks c.read_word.ensures.kept (bytes-as _ _ _ _ c.deref.ensures.value c.in-Ok.ensures.found) (
      c.in-Ok-change_of.change,
      c.in-Ok-change_of.ensures,
      subst (IsRetooled c.in-Ok-change_of.change c.deref.result.now) (sym c.deref-2.ensures.value) c.in-Ok-retool.ensures.found,
    ) refl
    c.write_answer.ensures.kept c.write_answer.ensures.done c.write_answer.ensures.why
