-- The texts are those of the file.
use Rattle.ld64_words.proofs.files.inputs_in.Goals as goal

pub returns-clause-only : goal.returns-clause-only
returns-clause-only c = λ all. c.all_inputs.ensures.only (rw (c.deref.ensures.value, c.in_ok-paths.ensures.done) all)
