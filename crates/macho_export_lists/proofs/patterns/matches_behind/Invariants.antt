use Rattle.std.proofs.Common.{◌≡◌, length}
use Rattle.macho_export_lists.specs.steps.Matching.{matches_behind}
use Rattle.macho_export_lists.proofs.patterns.matches_behind.Given as goal

abbrev pub invariant-loop-star : goal.invariant-loop-star
invariant-loop-star l = matches_behind l.entry l.left ≡ matches_behind l.fn.rest l.fn.name

abbrev pub decreases-loop-star : goal.decreases-loop-star
decreases-loop-star l = length l.entry
