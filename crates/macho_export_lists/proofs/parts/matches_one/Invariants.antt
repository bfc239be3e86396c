use Rattle.std.proofs.Common.{◌≡◌, false, take}
use Rattle.macho_export_lists.specs.Entries.{texts_of}
use Rattle.macho_export_lists.specs.steps.Indexed.{is_match_of}
use Rattle.macho_export_lists.proofs.parts.matches_one.Given as goal

abbrev pub invariant-loop-number : goal.invariant-loop-number
invariant-loop-number l = is_match_of (texts_of l.patterns) l.name (take l.number-index l.numbers) ≡ false
