-- The row is made of the entry, its name, its section and its address.
use Rattle.macho_linkedit.proofs.RowsMade.{row_made}
use Rattle.macho_linkedit.proofs.listing.table_row.Goals as goal

pub returns : goal.returns
returns c l counts p o index entry is =
    row_made l counts p o index c.args.entry c.args.name.now c.args.is_listed c.args.section c.args.address c.placed_type.result
    c.placed_description.result entry is c.placed_type.ensures c.placed_description.ensures
