use Rattle.std.proofs.Common.{◌≡◌, vec_len}
use Rattle.macho_tools.proofs.words.words_of.Given as goal

-- so many words are had
abbrev pub invariant-loop-word : goal.invariant-loop-word
invariant-loop-word g l = vec_len l.words ≡ l.word
