-- What the words ask for is done.
use Rattle.std.proofs.Common.{map}
use Rattle.std.specs.String.{string_bytes}
use Rattle.macho_retool.proofs.running.retool_words.Goals as goal

pub returns-in-Some : goal.returns-in-Some
returns-in-Some g c out = c.retool_file.ensures (map string_bytes c.args.words.now) out c.in-Some.ensures
