use Rattle.std.proofs.Common.{◌≡◌, [], arith, sym, ap, ◌∙◌}
use Rattle.macho_export_lists.specs.steps.Tables.{numbers_of}
use Rattle.macho_export_lists.proofs.Tables.{new_group, no_group, group_past}
use Rattle.macho_export_lists.proofs.parts.group_of.Goals as goal
use Rattle.macho_export_lists.proofs.parts.group_of.Goals.{in-Some+else-group-len, in_default}

pub returns-clause-kept : goal.returns-clause-kept
returns-clause-kept c =
    let parts = c.args.parts.now in
    let groups = c.args.groups.now.items in
    let none : numbers_of parts groups c.args.part.now ≡ [] = elim c.match-get.branch [
      | in-Some+else-group-len w ↦ group_past parts groups c.args.part.now w.in-Some.group.now (sym w.in-Some.ensures.value) (omega arith)
      | in_default w ↦ no_group parts groups c.args.part.now (sym w.in_default.ensures.value)
    ] in
    rw c.in_ok-push.ensures.items
    (new_group parts c.insert.new.self groups c.in_ok-key.key c.new.result _
    (ap (numbers_of parts groups) c.in_ok-key.ensures.items ∙ none) c.in_ok-insert.ensures.updates)
