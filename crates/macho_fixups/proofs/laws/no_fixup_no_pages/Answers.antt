use Rattle.macho_fixups.proofs.Bounds.{none_no_pages}
use Rattle.macho_fixups.proofs.laws.no_fixup_no_pages.Goals as goal

pub returns : goal.returns
returns c = none_no_pages
