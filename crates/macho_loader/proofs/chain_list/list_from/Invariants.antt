-- The walk stands at a word of the page, and what is left of the page becomes less.
use Rattle.std.proofs.Common.{◌-◌}
use Rattle.macho_loader.specs.steps.Listing.{IsListing}
use Rattle.macho_loader.proofs.chain_list.list_from.Given as goal

abbrev pub invariant-words : goal.invariant-words
invariant-words l = IsListing l.bytes l.walk l.page l.offset l.lines.items

abbrev pub decreases-words : goal.decreases-words
decreases-words l = 2147483648 - l.offset
