-- The words are listed by the first table; without a table there are none.
use Rattle.std.proofs.Common.{refl}
use Rattle.macho_loader.proofs.ListingWalks.{none_at_all}
use Rattle.macho_loader.proofs.chain_list.list_fixups.Goals as goal

pub list_words-requires-clause-table : goal.list_words-requires-clause-table
list_words-requires-clause-table c = c.in-Some.ensures.found c.in-Some.table refl

pub returns-in-None : goal.returns-in-None
returns-in-None c =
    none_at_all c.args.bytes.now c.new.result.items c.requires.accepted (c.in-None.ensures.only refl) c.new.ensures.items
