-- The operands are passed over, as far as they are there.
use Rattle.std.proofs.Common.{◌+◌, ◌-◌, length, sym, take, drop, []}
use Rattle.std.proofs.lemmas.List.{take_rest}
use Rattle.std.proofs.Math.ListN.{drop_of_length-le}
use Rattle.ld64_words.specs.Rows.{row_said}
use Rattle.ld64_words.proofs.Expanding.{behind-is}
use Rattle.ld64_words.proofs.named.words_behind.Goals as goal

pub returns-then-count-behind : goal.returns-then-count-behind
returns-then-count-behind c =
    let words = c.args.words.now in
    let next = c.args.place + 1 in
    let behind = take (length words - next) (drop next words) in
    let count = c.count-count.result in
    behind-is words behind (take (length behind - count) (drop count behind)) c.args.place count c.index-words-place.result
    c.as_str.result.now (row_said c.row_for-row.result) c.requires c.index-words-place.is c.as_str.ensures.value (take_rest words next)
    c.row_for-row.ensures c.count-count.ensures (take_rest behind count)

pub returns-else-count-behind : goal.returns-else-count-behind
returns-else-count-behind c =
    let words = c.args.words.now in
    let next = c.args.place + 1 in
    let behind = take (length words - next) (drop next words) in
    let count = c.count-count.result in
    behind-is words behind [] c.args.place count c.index-words-place.result
    c.as_str.result.now (row_said c.row_for-row.result) c.requires c.index-words-place.is c.as_str.ensures.value (take_rest words next)
    c.row_for-row.ensures c.count-count.ensures (sym (drop_of_length-le behind c.if-count-behind.false))
