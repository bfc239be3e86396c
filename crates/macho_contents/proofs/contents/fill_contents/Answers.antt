-- Slots, sections and stubs, one after the other.
use Rattle.std.proofs.Common.{length}
use Rattle.macho_layout.specs.Placements.{placed_of}
use Rattle.macho_contents.proofs.Viewing.{sections_seen}
use Rattle.macho_contents.proofs.Firsts.{asked_joined}
use Rattle.macho_contents.proofs.NoneBad.{none_is_bad}
use Rattle.macho_contents.proofs.contents.fill_contents.Goals as goal
use Rattle.macho_bytes.proofs.Comparing.{on_ok_always, on_ok_one}

pub returns-clause-asked : goal.returns-clause-asked
returns-clause-asked g c l all =
    let p = placed_of c.args.placement.now in
    on_ok_always c.set_stubs.result
    (asked_joined l p c.deref.result.now c.args.run.now.items c.slot_fixups.new.run.items c.fill_sections.new.run.items
    c.deref.ensures.value
    (c.in_default.ensures.done l p all.sections.tells c.deref.ensures.value) (c.in_default-fill_sections.ensures.asked l all.sections))

pub returns-clause-only : goal.returns-clause-only
returns-clause-only g c l all =
    let p = placed_of c.args.placement.now in
    on_ok_one c.set_stubs.result
    (none_is_bad l p all.sections.listed (c.in_default.ensures.only l p all.sections.tells all.slots c.deref.ensures.value)
    (c.in_default-fill_sections.ensures.only l all.sections))
    (c.set_stubs.ensures.only l all.sections.tells.addresses all.stubs)

pub returns-clause-why : goal.returns-clause-why
returns-clause-why g c l all = c.set_stubs.ensures.why l all.sections.tells.addresses all.stubs

-- a refusal that was met, or one of a section that is told before it
pub returns-in-Err-clause-why : goal.returns-in-Err-clause-why
returns-in-Err-clause-why g c l all =
    let p = placed_of c.args.placement.now in
    c.least_fault.ensures l all.sections (c.in-Err.ensures.why l p all.sections.tells all.slots c.deref.ensures.value)

pub returns-in-Err-fill_sections-clause-why : goal.returns-in-Err-fill_sections-clause-why
returns-in-Err-fill_sections-clause-why g c l all =
    c.least_fault-in-Err-fill_sections.ensures l all.sections (c.in-Err-fill_sections.ensures.why l all.sections)

pub least_fault-requires-clause-seen : goal.least_fault-requires-clause-seen
least_fault-requires-clause-seen g c =
    sections_seen c.args.views.now (placed_of c.args.placement.now) (length c.args.out.now) c.requires.sections

pub least_fault-requires-in-Err-fill_sections-clause-seen : goal.least_fault-requires-in-Err-fill_sections-clause-seen
least_fault-requires-in-Err-fill_sections-clause-seen g c =
    sections_seen c.args.views.now (placed_of c.args.placement.now) (length c.args.out.now) c.requires.sections
