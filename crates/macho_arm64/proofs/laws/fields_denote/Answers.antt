use Rattle.macho_arm64.proofs.FieldLaws.{points_to, offsets_from, is_difference, branches_to, pages_to, offsets_to, is_distance, loads_from, adds_to}
use Rattle.macho_arm64.proofs.StubLaws.{goes_through}
use Rattle.macho_arm64.proofs.laws.fields_denote.Goals as goal

pub returns-clause-fields : goal.returns-clause-fields
returns-clause-fields c = record {
  pointers = points_to;
  offsets_from = offsets_from;
  differences = is_difference;
  branches = branches_to;
  pages = pages_to;
  offsets = offsets_to;
  distances = is_distance;
  loads = loads_from;
  adds = adds_to;
}

pub returns-clause-stubs : goal.returns-clause-stubs
returns-clause-stubs c = goes_through
