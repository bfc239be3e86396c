-- The words of the pages so far are listed.
use Rattle.macho_image_walks.specs.Readings.{segment_there}
use Rattle.macho_loader.specs.steps.Listing.{ListsTo, page_from}
use Rattle.macho_loader.proofs.chain_list.list_segment.Given as goal

abbrev pub invariant-loop-page : goal.invariant-loop-page
invariant-loop-page l = ListsTo l.bytes l.lines.items (page_from (segment_there l.bytes l.fn.segment.place) l.page)
