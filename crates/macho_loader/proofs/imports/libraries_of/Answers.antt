-- The library that the walk came to is the next one of the list.
use Rattle.std.proofs.Common.{map, refl, sym, ap, ◌∙◌}
use Rattle.macho_model.specs.Commands.{command_at}
use Rattle.macho_image_walks.specs.declared.walk.Listed.TheVariants as list
use Rattle.macho_loader.proofs.CommandLists.{said_none, said_more, said_all, names_more, library_in, libraries_are, command_inside}
use Rattle.macho_loader.proofs.imports.libraries_of.Goals as goal

pub loop-step-init : goal.loop-step-init
loop-step-init c = (
  c.first-at.ensures.at list.Libraries c.args.bytes.now,
  said_none _ _ _ c.first-at.ensures.none (ap (λ xs. map (λ n. n.now) xs) c.new-names.ensures.items),
)

pub path_at-requires : goal.path_at-requires
path_at-requires c =
    let step = c.in-Some.ensures.found c.in-Some.step refl in
    command_inside list.Libraries c.args.bytes.now c.loop-step.at.number c.in-Some.step.place c.requires step.nth

pub loop-step-preserved : goal.loop-step-preserved
loop-step-preserved c =
    let b = c.args.bytes.now in
    let step = c.in-Some.ensures.found c.in-Some.step refl in (
      step.next,
      ap (λ xs. map (λ n. n.now) xs) c.in_ok-push.ensures.items
          ∙ names_more (λ n. n.now) c.loop-step.names.items _ _ c.path_at.result (library_in b (command_at b c.in-Some.step.place))
          c.path_at.ensures c.loop-step.invariant.1
          (said_more (library_in b) list.Libraries b c.loop-step.at.number c.in-Some.step.next.number c.in-Some.step.place _
          step.more step.nth refl),
    )

pub returns : goal.returns
returns c =
    let b = c.args.bytes.now in
    said_all (library_in b) list.Libraries b c.loop-step.at.number (map (λ n. n.now) c.loop-step.names.items)
    (c.step_from.ensures.only c.in_default.is) c.loop-step.invariant.1 ∙ sym (libraries_are b)
