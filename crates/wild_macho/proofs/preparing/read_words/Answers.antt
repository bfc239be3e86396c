-- What the words are refused for is told.
use Rattle.std.proofs.Common.{map}
use Rattle.std.specs.String.{string_bytes}
use Rattle.wild_macho.proofs.Joining.{words-fail}
use Rattle.wild_macho.proofs.preparing.read_words.Goals as goal

pub returns-in-Err-clause-why : goal.returns-in-Err-clause-why
returns-in-Err-clause-why g c = words-fail (map string_bytes c.args.words.now) c.in-Err.fault c.of_words.result c.in-Err.ensures.why
    c.of_words.ensures
