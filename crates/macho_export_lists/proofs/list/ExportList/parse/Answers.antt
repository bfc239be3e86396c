use Rattle.std.proofs.Common.{[]}
use Rattle.macho_export_lists.proofs.Adding.{no_text}
use Rattle.macho_export_lists.proofs.list.ExportList.parse.Goals as goal

pub returns : goal.returns
returns c = c.in_ok-add.ensures.added [] (no_text c.new-list.result c.new-list.ensures)
