use Rattle.std.proofs.Common.{◌-◌, ◌/◌}
use Rattle.macho_model.specs.Segments.{SEGMENT_PAGE}
use Rattle.macho_fixups.specs.Runs.{pages_of}
use Rattle.macho_fixups.proofs.FirstWords.{PagesSoFar}
use Rattle.macho_fixups.proofs.PagePasses.{ArePassedPages}
use Rattle.macho_fixups.proofs.starts.write_page_starts.Given as goal

-- the starts so far are put, and their pages passed
abbrev pub invariant-pages : goal.invariant-pages
invariant-pages l = record {
  so_far : PagesSoFar l.fixups (l.segment.address / SEGMENT_PAGE) (pages_of l.segment l.fixups) l.at l.place l.pages l.initial.out l.out;
  passed : ArePassedPages l.fixups l.segment l.next l.pages;
}

abbrev pub decreases-pages : goal.decreases-pages
decreases-pages l = pages_of l.segment l.fixups - l.pages
