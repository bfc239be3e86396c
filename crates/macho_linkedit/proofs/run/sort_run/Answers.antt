-- The sort moves the fixups, and their addresses don't fall.
use Rattle.std.proofs.Common.{refl}
use Rattle.std.proofs.lemmas.List.Sorted.{IsNonDecreasingBy-from_sort_by_key}
use Rattle.macho_linkedit.proofs.run.sort_run.Goals as goal

pub returns : goal.returns
returns c = record {
  same = c.sort_unstable_by_key.ensures.permutation;
  order =
      IsNonDecreasingBy-from_sort_by_key (λ f. f.address) c.sort_unstable_by_key.new.self c.sort_unstable_by_key.ensures.sorted
      (λ a r f' called. (called.met, refl));
}
