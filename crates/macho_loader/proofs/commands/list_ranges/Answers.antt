-- The range of a command with the number is the next one; another command leaves the list.
use Rattle.std.proofs.Common.{◌==◌, ◌++◌, [], ◌∷◌, List, map, refl, sym, ap, ◌∙◌}
use Rattle.std.specs.Prelude.{filter}
use Rattle.std.proofs.lemmas.List.{take_all}
use Rattle.macho_model.specs.Commands.{Command}
use Rattle.macho_image_walks.specs.declared.walk.Listed.TheVariants as list
use Rattle.macho_image_walks.specs.Readings.{listed}
use Rattle.macho_image_walks.proofs.ListedLaws.{all_listed}
use Rattle.macho_loader.specs.Lists.{range_of}
use Rattle.macho_loader.specs.declared.commands.LinkeditRange.{LinkeditRange}
use Rattle.macho_loader.proofs.CommandLists.{passing_none, passing_more, failing_more}
use Rattle.macho_loader.proofs.commands.list_ranges.Goals as goal
use Rattle.macho_loader.proofs.commands.list_ranges.Goals.{then-has_number+in_ok-push, else-has_number}

pub loop-step-init : goal.loop-step-init
loop-step-init c =
    let b = c.args.bytes.now in (
      c.first-at.ensures.at list.All b,
      passing_none (range_of b) (λ x. x.number == c.args.number) (listed list.All b) c.first-at.result.number c.new-ranges.result.items
          c.first-at.ensures.none c.new-ranges.ensures.items,
    )

pub loop-step-preserved : goal.loop-step-preserved
loop-step-preserved c =
    let b = c.args.bytes.now in
    let at = c.in-Some.step.place in
    let step = c.in-Some.ensures.found c.in-Some.step refl in (
      step.next,
      elim c.if-has_number.branch [
        | then-has_number+in_ok-push w ↦
            ap (λ v. v.items) w.ranges-is ∙ w.in_ok-push.ensures.items
            ∙ ap (λ (r : LinkeditRange). c.loop-step.ranges.items ++ r ∷ []) w.range_at.ensures
            ∙ passing_more (range_of b) (λ x. x.number == c.args.number) list.All b c.loop-step.at.number c.in-Some.step.next.number at
            c.loop-step.ranges.items step.more step.nth (sym c.has_number.ensures ∙ w.if-has_number.true) c.loop-step.invariant.1
        | else-has_number w ↦
            ap (λ v. v.items) w.ranges-is
            ∙ failing_more (range_of b) (λ x. x.number == c.args.number) list.All b c.loop-step.at.number c.in-Some.step.next.number at
            c.loop-step.ranges.items step.more step.nth (sym c.has_number.ensures ∙ w.if-has_number.false) c.loop-step.invariant.1
      ],
    )

pub returns : goal.returns
returns c =
    let b = c.args.bytes.now in
    c.loop-step.invariant.1
    ∙ ap (λ (cs : List Command). map (range_of b) (filter (λ x. x.number == c.args.number) cs))
    (take_all c.loop-step.at.number (listed list.All b) (c.step_from.ensures.only c.in_default.is) ∙ all_listed b)
