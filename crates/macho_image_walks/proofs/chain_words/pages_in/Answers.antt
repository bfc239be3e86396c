-- The table has as many starts for the segment as its record says.
use Rattle.std.proofs.Common.{sym, ◌∙◌, arith}
use Rattle.std.proofs.lemmas.Bool.Decides.{nat_tests}
use Rattle.macho_image_walks.specs.Readings.{table_there}
use Rattle.macho_image_walks.proofs.WordWalk.{length_starts}
use Rattle.macho_image_walks.proofs.chain_words.pages_in.Goals as goal

pub returns : goal.returns
returns c =
    let within = c.if-number-count_of_starts.false in
    let some = c.if-offset_of_starts-eq0.false in
    let count = c.count_of_starts.ensures in
    let offset = c.offset_of_starts.ensures in
    c.count_of_pages.ensures
    ∙ sym (length_starts c.args.bytes.now (table_there c.args.bytes.now c.args.table) c.args.number
    (grind (arith, nat_tests, within, count)) (grind (arith, nat_tests, some, offset)))
