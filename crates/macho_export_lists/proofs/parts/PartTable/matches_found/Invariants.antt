use Rattle.std.proofs.Common.{◌≡◌, false, take}
use Rattle.std.specs.List.{list_any}
use Rattle.macho_export_lists.specs.Entries.{texts_of}
use Rattle.macho_export_lists.specs.steps.Indexed.{is_match_under}
use Rattle.macho_export_lists.proofs.parts.PartTable.matches_found.Given as goal

abbrev pub invariant-loop-length : goal.invariant-loop-length
invariant-loop-length l = list_any (is_match_under l.self (texts_of l.patterns) l.name) (take l.length-index l.self.lengths.items) ≡ false
