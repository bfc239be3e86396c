-- What the walks say of the commands of a list is what the rules say.
use Rattle.std.proofs.Common.{refl, sym, subst, ◌∙◌, inl, inr}
use Rattle.macho_model.specs.Loader.{ImageBreaks}
use Rattle.macho_model.proofs.SegmentTests.{each_segment, next_segments}
use Rattle.macho_image_walks.specs.Readings.{listed}
use Rattle.macho_image_walks.specs.steps.Asked.{LoadKeeps}
use Rattle.macho_image_walks.proofs.BrokenRules.{whole_kept, whole_broken, text_kept, text_broken, tables_kept}
use Rattle.macho_loader.proofs.accept.broken_at.Goals as goal
use Rattle.macho_model.specs.SegmentRules.{segment_ends, begins_behind, file_part_inside, segment_is_paged}
use Rattle.macho_model.specs.LoadRules.{protections_fit}

pub returns-in-L2-clause-found : goal.returns-in-L2-clause-found
returns-in-L2-clause-found c place is =
    subst (λ r. ImageBreaks c.args.bytes.now r place) (sym c.in-L2.is)
    (inr (whole_broken c.args.bytes.now place (c.first_failing.ensures.found place is)))

pub returns-in-L2-clause-only : goal.returns-in-L2-clause-only
returns-in-L2-clause-only c is =
    subst (λ r. LoadKeeps c.args.bytes.now r) (sym c.in-L2.is)
    (sym c.commands_end_inside.ensures ∙ c.if-commands_end_inside.true, whole_kept c.args.bytes.now (c.first_failing.ensures.only is))

pub returns-in-L3-clause-found : goal.returns-in-L3-clause-found
unfolding listed
returns-in-L3-clause-found c place is =
    subst (λ r. ImageBreaks c.args.bytes.now r place) (sym c.in-L3.is)
    (c.first_failing-in-L3.ensures.found place is)

pub returns-in-L3-clause-only : goal.returns-in-L3-clause-only
unfolding listed
returns-in-L3-clause-only c is =
    subst (λ r. LoadKeeps c.args.bytes.now r) (sym c.in-L3.is)
    (each_segment c.args.bytes.now protections_fit (c.first_failing-in-L3.ensures.only is))

pub returns-in-L4-clause-found : goal.returns-in-L4-clause-found
unfolding listed
returns-in-L4-clause-found c place is =
    subst (λ r. ImageBreaks c.args.bytes.now r place) (sym c.in-L4.is)
    (c.first_failing-in-L4.ensures.found place is)

pub returns-in-L4-clause-only : goal.returns-in-L4-clause-only
unfolding listed
returns-in-L4-clause-only c is =
    subst (λ r. LoadKeeps c.args.bytes.now r) (sym c.in-L4.is)
    (each_segment c.args.bytes.now (file_part_inside c.args.bytes.now) (c.first_failing-in-L4.ensures.only is))

pub returns-in-L5-clause-found : goal.returns-in-L5-clause-found
unfolding listed
returns-in-L5-clause-found c place is =
    subst (λ r. ImageBreaks c.args.bytes.now r place) (sym c.in-L5.is)
    (c.first_failing-in-L5.ensures.found place is)

pub returns-in-L5-clause-only : goal.returns-in-L5-clause-only
unfolding listed
returns-in-L5-clause-only c is =
    subst (λ r. LoadKeeps c.args.bytes.now r) (sym c.in-L5.is)
    (each_segment c.args.bytes.now segment_is_paged (c.first_failing-in-L5.ensures.only is))

pub returns-in-Some-clause-found : goal.returns-in-Some-clause-found
unfolding listed
returns-in-Some-clause-found c place is =
    subst (λ r. ImageBreaks c.args.bytes.now r place) (sym c.in-L6.is)
    (inl (c.in-Some.ensures.found place is))

pub returns-in-None-clause-only : goal.returns-in-None-clause-only
unfolding listed
returns-in-None-clause-only c is =
    subst (λ r. LoadKeeps c.args.bytes.now r) (sym c.in-L6.is) (
      each_segment c.args.bytes.now segment_ends (c.in-None.ensures.only refl),
      next_segments c.args.bytes.now begins_behind (c.first_overlapping.ensures.only is),
    )

pub returns-in-None-other_text-clause-found : goal.returns-in-None-other_text-clause-found
returns-in-None-other_text-clause-found c place is =
    subst (λ r. ImageBreaks c.args.bytes.now r place) (sym c.in-L7.is)
    (inr (text_broken c.args.bytes.now place (c.first_failing-in-None-other_text.ensures.found place is)))

pub returns-in-None-other_text-clause-only : goal.returns-in-None-other_text-clause-only
returns-in-None-other_text-clause-only c is =
    subst (λ r. LoadKeeps c.args.bytes.now r) (sym c.in-L7.is)
    (text_kept c.args.bytes.now (c.in-None-other_text.ensures.only refl) (c.first_failing-in-None-other_text.ensures.only is))

pub returns-in-None-second_table-clause-found : goal.returns-in-None-second_table-clause-found
unfolding listed
returns-in-None-second_table-clause-found c place is =
    subst (λ r. ImageBreaks c.args.bytes.now r place) (sym c.in-L8.is)
    (inr (c.first_failing-in-None-second_table.ensures.found place is))

pub returns-in-None-second_table-clause-only : goal.returns-in-None-second_table-clause-only
returns-in-None-second_table-clause-only c is =
    subst (λ r. LoadKeeps c.args.bytes.now r) (sym c.in-L8.is)
    (tables_kept c.args.bytes.now (c.in-None-second_table.ensures.only refl) (c.first_failing-in-None-second_table.ensures.only is))
