-- The members: what holds before section k is that the list has those of the first k sections; before common k, those of all sections and
-- of the first k commons.
use Rattle.std.proofs.Common.{◌≡◌, ◌++◌, map, take}
use Rattle.macho_layout.specs.Keys.{specs_of}
use Rattle.macho_layout.specs.Members.{section_member, common_member}
use Rattle.macho_layout.proofs.plan.Plan.members.Given as goal

abbrev pub invariant-loop-section : goal.invariant-loop-section
invariant-loop-section l = l.members.items ≡ map (section_member l.self) (specs_of (take l.section-index l.section-items))

abbrev pub invariant-loop-common : goal.invariant-loop-common
invariant-loop-common l = l.members.items ≡ map (section_member l.self) l.self.sections ++ map (common_member l.self)
    (take l.common-index l.common-items)
