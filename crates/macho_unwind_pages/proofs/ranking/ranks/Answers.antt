-- The codes of a list by rank.
--
-- The table has each code once, with how often it stands. The sort keeps that, and puts the entries in the order of the
-- closure: counts fall, and where they are equal codes fall. That is the order of ranks, which is strict, so the keys are
-- the one list of these codes in this order.
use Rattle.std.proofs.Common.{is_lt, ap, ◌∙◌}
use Rattle.std.proofs.lemmas.List.Sorted.{answers_always}
use Rattle.macho_unwind_pages.proofs.Ranked.{sorts_by-weak, outranks-compares, keys_ranked}
use Rattle.macho_unwind_pages.proofs.ranking.ranks.Goals as goal

pub returns : goal.returns
returns c =
    keys_ranked c.args.codes.now c.sort_by.new.self c.in_ok-sort_by.ensures.unique
    (λ q. c.in_ok-sort_by.ensures.reordered.2 q ∙ c.in_ok-ranks.ensures q)
    (c.in_ok-sort_by.ensures.sorted _ sorts_by-weak
    (answers_always _ _ _ (λ f a r f' called. ap is_lt called.met.0 ∙ outranks-compares a.1.0.now a.1.1.1.0.now a.0.now a.1.1.0.now)))
