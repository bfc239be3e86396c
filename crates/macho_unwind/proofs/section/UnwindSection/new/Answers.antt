-- The section of entries.
--
-- No entries give no bytes: they have no id and no page, so neither too many of them nor a far page. One entry or more have
-- a plan, which has a page, and the bytes are its text. So they are the entries' section, and look-up in a section finds
-- each offset's entry and nothing else. The plan is the entries' only one and its places fit 32 bits, so no plan of them has
-- a far page.
use Rattle.std.proofs.Common.{◌<◌, length, refl, arith}
use Rattle.std.proofs.lemmas.Bool.Decides.{nat_tests}
use Rattle.std.proofs.lemmas.List.{length-map}
use Rattle.macho_unwind_pages.specs.Plans.{plan_list, page_list}
use Rattle.macho_unwind.proofs.EntryRows.{made_of}
use Rattle.macho_unwind.specs.Texts.{section_text}
use Rattle.macho_unwind.proofs.EntryLookup.{sections_are_read, no-ids, some-page}
use Rattle.macho_unwind.proofs.Lengths.{length-section}
use Rattle.macho_unwind.proofs.OnePlace.{no_far_page, no_page_at_all}
use Rattle.macho_unwind.proofs.section.UnwindSection.new.Goals as goal

pub returns-then-is_empty-clause-few : goal.returns-then-is_empty-clause-few
returns-then-is_empty-clause-few c =
    let test = c.is_empty.ensures in
    let empty = c.if-is_empty.true in
    no-ids c.args.entries.now (grind (arith, nat_tests))

pub returns-then-is_empty-clause-fits : goal.returns-then-is_empty-clause-fits
returns-then-is_empty-clause-fits c =
    let test = c.is_empty.ensures in
    let empty = c.if-is_empty.true in
    no_page_at_all c.args.text_start c.args.entries.now (grind (arith, nat_tests))

pub section_size-requires-clause-some : goal.section_size-requires-clause-some
section_size-requires-clause-some c =
    let test = c.is_empty.ensures in
    let full = c.if-is_empty.false in
    let some : 0 < length c.args.entries.now = grind (arith, nat_tests) in
    omega (
      arith,
      some-page c.args.text_start c.args.entries.now (plan_list c.in_ok-plan.plan)
          (made_of c.args.text_start c.args.entries.now (plan_list c.in_ok-plan.plan) c.requires c.in_ok-plan.ensures.done
          c.in_ok-plan.ensures.formed) some,
      length-map c.in_ok-plan.plan.pages.items page_list,
    )

pub returns-clause-done : goal.returns-clause-done
returns-clause-done c some = record {
  plan = plan_list c.in_ok-plan.plan;
  of_entries = c.in_ok-plan.ensures.done;
  formed = c.in_ok-plan.ensures.formed;
  places = c.in-Some.ensures.1;
  is = refl;
}

pub returns-clause-found : goal.returns-clause-found
returns-clause-found c =
    (sections_are_read c.args.text_start c.args.entries.now (section_text (plan_list c.in_ok-plan.plan)) c.requires
    (record {
      plan = plan_list c.in_ok-plan.plan;
      of_entries = c.in_ok-plan.ensures.done;
      formed = c.in_ok-plan.ensures.formed;
      places = c.in-Some.ensures.1;
      is = refl;
    })).0

pub returns-clause-only : goal.returns-clause-only
returns-clause-only c some =
    (sections_are_read c.args.text_start c.args.entries.now (section_text (plan_list c.in_ok-plan.plan)) c.requires
    (returns-clause-done c some)).1

pub returns-clause-room : goal.returns-clause-room
returns-clause-room c span spans =
    omega (arith, length-section (plan_list c.in_ok-plan.plan), c.in_ok-plan.ensures.short span spans)

pub returns-clause-fits : goal.returns-clause-fits
returns-clause-fits c =
    let test = c.is_empty.ensures in
    let full = c.if-is_empty.false in
    let some : 0 < length c.args.entries.now = grind (arith, nat_tests) in
    no_far_page c.args.text_start c.args.entries.now (plan_list c.in_ok-plan.plan) some c.in_ok-plan.ensures.done
    c.in-Some.ensures.1
