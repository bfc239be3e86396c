-- `ends_with` compares the end of the word.
use Rattle.std.proofs.lemmas.Str.Pattern.{ends_text}
use Rattle.macho_args.proofs.words.ends_with.Goals as goal

pub returns : goal.returns
returns c = ends_text c.ends_with.result c.args.text.now c.args.word.now c.ends_with.ensures.cases
