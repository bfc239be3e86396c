-- What entries have of each thing.
--
-- Each number was told of its own list: the ids of the entries, their codes under these ids, and the ranks of the codes. The
-- lists are those that the definition has, by the contracts of the calls that made them; so the numbers are too. Of the
-- ranks, each page may name the first 224, which are as many as there are ranks, and 224 at most.
use Rattle.std.proofs.Common.{ℕ, ap, ◌∙◌, map, take, arith}
use Rattle.std.proofs.lemmas.List.{length-map}
use Rattle.indexmap.specs.IndexMap.{keys}
use Rattle.macho_unwind_pages.specs.Entries.{code_in}
use Rattle.macho_unwind_pages.specs.steps.Ranks.{ranked}
use Rattle.macho_unwind_pages.specs.steps.Tallies.{locals_in}
use Rattle.macho_unwind_pages.proofs.Tallying.{tallied}
use Rattle.macho_unwind_pages.proofs.bound.tally.Goals as goal

pub returns-clause-done : goal.returns-clause-done
returns-clause-done c =
    tallied c.args.entries.now c.in_ok-ids.ids.items c.in_ok-codes.codes.items (keys c.in_ok-ranks.ranks) c.local_count.result c.min.result
    c.len-2.result c.lsda_count.result c.in_ok-ids.ensures.done
    (c.in_ok-codes.ensures ∙ ap (λ ids. map (code_in ids) c.args.entries.now) c.as_slice.ensures.value)
    (c.in_ok-ranks.ensures ∙ ap ranked c.as_slice-2.ensures.value)
    (c.local_count.ensures ∙ ap (locals_in (take 224 (keys c.in_ok-ranks.ranks))) c.as_slice-3.ensures.value)
    (omega (arith, c.min.ensures, c.len.ensures.len, length-map c.in_ok-ranks.ranks.entries (λ (e : ℕ × ℕ). e.0)))
    (omega (arith, c.len-2.ensures)) c.lsda_count.ensures
