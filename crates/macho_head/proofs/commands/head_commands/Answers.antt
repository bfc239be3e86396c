use Rattle.std.proofs.Common.{map, ap, ◌∙◌}
use Rattle.macho_commands.specs.Commands.{said_by}
use Rattle.macho_layout.specs.Placements.{placed_of}
use Rattle.macho_head.proofs.Joined.{joined_parts, parts_said}
use Rattle.macho_head.proofs.commands.head_commands.Goals as goal

pub returns : goal.returns
returns c =
    let said = joined_parts (placed_of c.args.placement.now) c.args.parts.now _ _ _ _ _ _ (ap (map said_by) c.new-commands.ensures.items)
    c.in_ok-add_segments.ensures c.in_ok-add_own.ensures.said c.in_ok-add_libraries.ensures c.in_ok-add_rpaths.ensures
    c.in_ok-add_tables.ensures in
    record {
      said = said;
      fit = c.in_ok-add_own.ensures.fit;
      done = λ l counts uuid are. said ∙ parts_said l counts uuid (placed_of c.args.placement.now) c.args.parts.now are;
    }
