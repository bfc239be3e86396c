-- Entries by rising start.
--
-- The sort gives a permutation of the entries whose starts don't fall. The starts of the entries differ two by two, and
-- those of a permutation do as well. Numbers that differ and don't fall rise.
use Rattle.std.proofs.Common.{subst, refl, IsPermutation, List}
use Rattle.std.proofs.lemmas.List.Sorted.{IsNonDecreasingBy-from_sort_by_key}
use Rattle.macho_unwind_pages.specs.declared.entries.ResolvedUnwindInfo.{ResolvedUnwindInfo}
use Rattle.macho_unwind_pages.proofs.Told.{starts_rise}
use Rattle.macho_unwind_pages.proofs.offsets.by_start.Goals as goal

pub returns-clause-rising : goal.returns-clause-rising
returns-clause-rising c =
    let moved = subst (λ (l : List ResolvedUnwindInfo). IsPermutation l c.sort_by_key.new.self.items)
    c.in_ok-run.ensures.items c.in_ok-sort_by_key.ensures.permutation in
    starts_rise c.args.entries.now c.sort_by_key.new.self.items c.requires moved
    (IsNonDecreasingBy-from_sort_by_key (λ e. e.start) c.sort_by_key.new.self.items c.in_ok-sort_by_key.ensures.sorted
    (λ a r f' called. (called.met, refl)))
