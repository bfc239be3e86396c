use Rattle.std.proofs.Common.{arith}
use Rattle.std.proofs.lemmas.Bool.Decides.{nat_tests}
use Rattle.macho_trie.proofs.Followed.{no_bytes}
use Rattle.macho_trie.proofs.names.list_exports.Goals as goal

pub returns-then-is_empty : goal.returns-then-is_empty
returns-then-is_empty c = no_bytes c.args.bytes.now c.new.result.items (grind (arith, nat_tests)) c.new.ensures.items

pub returns-in-Some : goal.returns-in-Some
returns-in-Some c = rw c.in-Some.is at c.in_ok-place.ensures.whole

pub returns-in-Some-2 : goal.returns-in-Some-2
returns-in-Some-2 c = rw c.in-Some-2.is at c.in_ok-place-2.ensures.whole
