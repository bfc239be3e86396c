use Rattle.std.proofs.Common.{◌≡◌, ℕ, ◌<◌, ◌≤◌, false}
use Rattle.macho_export_lists.specs.Entries.{texts_of}
use Rattle.macho_export_lists.specs.steps.Indexed.{is_match_from}
use Rattle.macho_export_lists.proofs.parts.PartTable.matches_under.Given as goal

abbrev pub invariant-loop-at : goal.invariant-loop-at
invariant-loop-at l =
    (k : ℕ) → l.first ≤ k → k < l.at → is_match_from l.self (texts_of l.patterns) l.name l.count l.first k ≡ false
