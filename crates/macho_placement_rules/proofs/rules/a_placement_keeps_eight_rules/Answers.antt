-- A placement is right exactly where it keeps the eight rules.
use Rattle.macho_placement_rules.proofs.First.{eight_rules, keeps_eight}
use Rattle.macho_placement_rules.proofs.rules.a_placement_keeps_eight_rules.Goals as goal

pub returns-clause-found : goal.returns-clause-found
returns-clause-found c = eight_rules

pub returns-clause-only : goal.returns-clause-only
returns-clause-only c = keeps_eight
