-- Two words and two more.
use Rattle.std.proofs.Common.{map}
use Rattle.std.specs.String.{string_bytes}
use Rattle.std.proofs.lemmas.Result.{on_ok_weaker}
use Rattle.ld64_words.specs.Words.{said_by}
use Rattle.ld64_words.proofs.Readings.{lowest-added}
use Rattle.ld64_words.proofs.reading.Reading.add.Goals as goal

pub returns-in_ok-add_two-in-Lowest-clause-done : goal.returns-in_ok-add_two-in-Lowest-clause-done
returns-in_ok-add_two-in-Lowest-clause-done c =
    on_ok_weaker c.add_two-in-Lowest-2.result
    (λ valued. lowest-added c.args.effect c.args.place _ c.args.text.now (map string_bytes c.args.self.now.front.items)
    (map string_bytes c.args.self.now.words.items) (map string_bytes c.add_two-in-Lowest.new.texts.items) _
    (map said_by c.args.self.now.notes.items) c.in-Lowest.is c.in_ok-add_two-in-Lowest.ensures.done valued)
    c.add_two-in-Lowest-2.ensures.done
