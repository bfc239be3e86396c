-- Three parts, one behind the other.
use Rattle.std.proofs.Common.{map, ap}
use Rattle.std.specs.String.{string_bytes}
use Rattle.ld64_words.proofs.Expanding.{expanded-is}
use Rattle.ld64_words.proofs.named.expanded.Goals as goal

pub returns-clause-done : goal.returns-clause-done
returns-clause-done c =
    expanded-is c.args.words.now c.args.place (map string_bytes c.args.texts.now) (map string_bytes c.new-all.result.items)
    (map string_bytes c.add_texts.new.texts.items) (map string_bytes c.add_texts-2.new.texts.items) _
    (map string_bytes c.words_behind.result.now)
    (ap (map string_bytes) c.new-all.ensures.items) c.in_ok-add_texts.ensures.done c.in_ok-add_texts-2.ensures.done c.words_behind.ensures
    c.in_ok-add_texts-3.ensures.done
