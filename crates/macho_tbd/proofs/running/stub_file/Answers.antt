-- The run ends behind its read, or with the write of the stub.
use Rattle.std.proofs.Common.{refl, sym, subst, [], ◌∷◌}
use Rattle.macho_tools.proofs.Ends.{bytes-as, read-failed, file-refused, memory-ended, write-ended}
use Rattle.macho_tbd.specs.Answer.{IsStubOf}
use Rattle.macho_tbd.specs.Runs.{Paths, stub_generator}
use Rattle.macho_tbd.specs.declared.fault.TbdFault.TheVariants.{BadDylib, Unwritable}
use Rattle.macho_tbd.proofs.running.stub_file.Goals as goal

pub returns-in-Err : goal.returns-in-Err
returns-in-Err g c out =
    let paths : Paths = record { library = c.args.path.now; stub = c.args.output.now } in
    read-failed stub_generator (c.args.path.now ∷ c.args.output.now ∷ []) paths _ _ out c.in-Err.fault refl c.read_word.ensures.kept
    c.in-Err.ensures.why

pub returns-in-Err-BadDylib : goal.returns-in-Err-BadDylib
returns-in-Err-BadDylib g c out =
    let paths : Paths = record { library = c.args.path.now; stub = c.args.output.now } in
    file-refused stub_generator (c.args.path.now ∷ c.args.output.now ∷ []) paths _ _ out c.deref.result.now
    (BadDylib c.in-Err-BadDylib.fault) refl c.read_word.ensures.kept (bytes-as _ _ _ _ c.deref.ensures.value c.in-Ok.ensures.found)
    (rw c.in-Err-BadDylib.field-0-is at c.in-Err-BadDylib.ensures.why)

pub returns-in-Err-Unwritable : goal.returns-in-Err-Unwritable
returns-in-Err-Unwritable g c out =
    let paths : Paths = record { library = c.args.path.now; stub = c.args.output.now } in
    file-refused stub_generator (c.args.path.now ∷ c.args.output.now ∷ []) paths _ _ out c.deref.result.now
    (Unwritable c.in-Err-Unwritable.symbol) refl c.read_word.ensures.kept
    (bytes-as _ _ _ _ c.deref.ensures.value c.in-Ok.ensures.found)
    (rw c.in-Err-Unwritable.field-0-is at c.in-Err-Unwritable.ensures.why)

pub returns-in-Err-OutOfMemory : goal.returns-in-Err-OutOfMemory
returns-in-Err-OutOfMemory g c out =
    let paths : Paths = record { library = c.args.path.now; stub = c.args.output.now } in
    memory-ended stub_generator (c.args.path.now ∷ c.args.output.now ∷ []) paths _ _ out refl c.read_word.ensures.kept

pub returns : goal.returns
returns g c out =
    let paths : Paths = record { library = c.args.path.now; stub = c.args.output.now } in
    write-ended stub_generator (c.args.path.now ∷ c.args.output.now ∷ []) paths _ _ _ out c.deref.result.now c.as_bytes.result.now
    c.args.output.now c.write_answer.result refl c.read_word.ensures.kept
    (bytes-as _ _ _ _ c.deref.ensures.value c.in-Ok.ensures.found)
    (subst (IsStubOf c.deref.result.now) (sym c.as_bytes.ensures.value) c.in-Ok-stub_text.ensures.found) refl
    c.write_answer.ensures.kept c.write_answer.ensures.done c.write_answer.ensures.why
