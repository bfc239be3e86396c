-- `strip_prefix` answers what is behind the text.
use Rattle.macho_args.proofs.Prefixes.{prefix-stripped}
use Rattle.ld64_words.proofs.table.after_prefix.Goals as goal

pub returns : goal.returns
returns c = prefix-stripped c.args.word.now c.args.prefix.now c.strip_prefix.result c.strip_prefix.ensures.cases
