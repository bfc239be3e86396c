-- `starts_with` compares the front of the word.
use Rattle.std.proofs.lemmas.Str.Pattern.{starts_text}
use Rattle.ld64_words.proofs.table.begins_with.Goals as goal

pub returns : goal.returns
returns c = starts_text c.starts_with.result c.args.text.now c.args.word.now c.starts_with.ensures.cases
