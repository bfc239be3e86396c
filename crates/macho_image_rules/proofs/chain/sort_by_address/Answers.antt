-- The words in the order of their addresses.
use Rattle.macho_image_rules.specs.declared.chain.Needed.{Needed}
use Rattle.std.proofs.Common.{refl}
use Rattle.std.proofs.lemmas.List.Sorted.{IsNonDecreasingBy-from_sort_by_key}
use Rattle.macho_image_rules.proofs.chain.sort_by_address.Goals as goal

pub returns-clause-sorted : goal.returns-clause-sorted
returns-clause-sorted c =
    IsNonDecreasingBy-from_sort_by_key (λ (n : Needed). n.address) c.sort_unstable_by_key.new.self c.sort_unstable_by_key.ensures.sorted
    (λ a r f' called. (called.met, refl))
