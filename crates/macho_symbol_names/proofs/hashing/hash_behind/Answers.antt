use Rattle.std.proofs.Common.{◌≡◌, ◌/◌, length, ap, sym, ◌∙◌, arith}
use Rattle.macho_symbol_names.specs.Hashing.{hash_step, hash_words, hash_behind, last_word}
use Rattle.macho_symbol_names.proofs.Words.{words_none, words_more}
use Rattle.macho_symbol_names.proofs.hashing.hash_behind.Goals as goal

pub loop-word-init : goal.loop-word-init
loop-word-init c = sym (words_none c.args.start c.args.bytes.now)

pub loop-word-preserved : goal.loop-word-preserved
loop-word-preserved c =
    c.mix-hash.ensures ∙ rw (c.loop-word.invariant, c.word_at.ensures) (sym (words_more c.args.start c.args.bytes.now c.loop-word.word))

pub returns : goal.returns
unfolding hash_behind
returns c =
    let bytes = c.args.bytes.now in
    let all : c.loop-word.word ≡ length bytes / 8 = omega arith in
    c.mix.ensures
    ∙ rw (c.loop-word.invariant, c.last_word.ensures)
    (ap (λ n. hash_step (hash_words c.args.start bytes n) (last_word bytes)) all)
