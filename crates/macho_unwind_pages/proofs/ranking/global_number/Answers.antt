-- The number of a code among those that every page may name, the first 224 ranks.
--
-- A rank is the place where the code first stands among the keys. A rank below 224 is a place among the first 224, so it is
-- the number. A rank of 224 or more is the first place, so the code is at none of the first 224. A code without a rank is at
-- no place at all.
use Rattle.std.proofs.Common.{sym, ◌∙◌, ap, ◌==◌, is_some}
use Rattle.std.proofs.lemmas.Map.Made.{is_some-lookup}
use Rattle.indexmap.specs.IndexMap.{keys}
use Rattle.macho_unwind_pages.proofs.Ranked.{among_first, behind_first, nowhere}
use Rattle.macho_unwind_pages.proofs.ranking.global_number.Goals as goal

pub returns-in-Some : goal.returns-in-Some
returns-in-Some c =
    let first = among_first (keys c.args.ranks.now) c.args.code c.in-Some.rank 224 (sym c.get_index_of.ensures.index ∙ c.in-Some.is)
    c.if-rank-lt-MOST_GLOBALS.true in
    record { number = first.0; found = sym first.1 }

pub returns-in_default : goal.returns-in_default
returns-in_default c =
    let absent = behind_first (keys c.args.ranks.now) c.args.code c.in-Some.rank 224
    (sym c.get_index_of.ensures.index ∙ c.in-Some.is) c.if-rank-lt-MOST_GLOBALS.false in
    record { number = tt; found = sym absent }

pub returns-in_default-2 : goal.returns-in_default-2
returns-in_default-2 c =
    let absent = nowhere (keys c.args.ranks.now) c.args.code 224
    (sym (is_some-lookup (λ other. c.args.code == other) c.args.ranks.now.entries)
    ∙ sym c.get_index_of.ensures.found ∙ ap is_some c.in_default.is) in
    record { number = tt; found = sym absent }
