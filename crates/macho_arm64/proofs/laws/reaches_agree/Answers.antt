use Rattle.macho_arm64.proofs.FieldLaws.{add_can_hold, slot_load_can_hold}
use Rattle.macho_arm64.proofs.ReachLaws.{less_leads, branch_can_hold, page_can_hold, offset_can_hold, distance_can_hold, stub_too_far}
use Rattle.macho_arm64.proofs.RangeLaws.{holds_only}
use Rattle.macho_arm64.proofs.laws.reaches_agree.Goals as goal

pub returns-clause-fields : goal.returns-clause-fields
returns-clause-fields c = record {
  leads = less_leads;
  branches = branch_can_hold;
  pages = page_can_hold;
  offsets = offset_can_hold;
  distances = distance_can_hold;
  loads = slot_load_can_hold;
  adds = add_can_hold;
  stubs = stub_too_far;
}

pub returns-clause-only : goal.returns-clause-only
returns-clause-only c = holds_only
