-- The texts are those of the file.
use Rattle.ld64_words.proofs.files.words_in.Goals as goal

pub returns-clause-only : goal.returns-clause-only
returns-clause-only c = λ all. c.all_texts.ensures.only (rw (c.deref.ensures.value, c.in_ok-texts.ensures.done) all)
