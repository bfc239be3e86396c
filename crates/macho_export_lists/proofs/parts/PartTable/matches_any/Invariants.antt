use Rattle.std.proofs.Common.{◌≡◌, false, take}
use Rattle.std.specs.List.{list_any}
use Rattle.macho_export_lists.specs.Entries.{texts_of}
use Rattle.macho_export_lists.specs.steps.Indexed.{is_match_of}
use Rattle.macho_export_lists.proofs.parts.PartTable.matches_any.Given as goal

abbrev pub invariant-loop-numbers : goal.invariant-loop-numbers
invariant-loop-numbers l =
    list_any (is_match_of (texts_of l.patterns) l.name) (texts_of (take l.numbers-index l.self.groups.items)) ≡ false
