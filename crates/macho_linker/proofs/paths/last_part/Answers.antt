use Rattle.std.proofs.Common.{◌-◌, length, take, drop, arith, ◌∙◌}
use Rattle.std.proofs.lemmas.List.{take_all, length-drop}
use Rattle.macho_linker.proofs.LastPart.{last_part-is}
use Rattle.macho_linker.proofs.paths.last_part.Goals as goal

pub returns : goal.returns
returns c =
    let named = take c.behind_last.result c.args.path.now in
    let start = c.behind_last-2.result in
    take_all (length named - start) (drop start named) (omega (arith, length-drop start named))
    ∙ last_part-is c.args.path.now c.behind_last.result start c.behind_last.ensures c.behind_last-2.ensures
