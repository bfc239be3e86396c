use Rattle.macho_fields.proofs.Once.{placed_once}
use Rattle.macho_fields.proofs.Found.{found}
use Rattle.macho_fields.proofs.Kept.{targets_kept}
use Rattle.macho_fields.proofs.laws.placed_things_are_found.Goals as goal

pub returns-clause-once : goal.returns-clause-once
returns-clause-once c = placed_once

pub returns-clause-found : goal.returns-clause-found
returns-clause-found c = found

pub returns-clause-kept : goal.returns-clause-kept
returns-clause-kept c = targets_kept
