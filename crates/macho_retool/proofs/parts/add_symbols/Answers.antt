-- Each element adds its part.
use Rattle.std.proofs.Common.{ap, ◌∙◌, ◌++◌, ◌∷◌, []}
use Rattle.macho_retool.specs.steps.PartLists.{symbols_part}
use Rattle.macho_retool.proofs.Lists.{map_begins, map_goes_on, map_ends}
use Rattle.macho_retool.proofs.parts.add_symbols.Goals as goal

pub loop-command-init : goal.loop-command-init
loop-command-init c = map_begins (symbols_part c.args.bytes.now) c.args.commands.now c.args.parts.now.items

pub loop-command-preserved : goal.loop-command-preserved
loop-command-preserved c =
    map_goes_on (symbols_part c.args.bytes.now) c.args.commands.now c.loop-command.command-index _ c.args.parts.now.items
    c.loop-command.parts.items c.push.new.self.items
    c.loop-command-test.true c.loop-command.invariant (c.in_ok-push.ensures.items
    ∙ ap (λ p. c.loop-command.parts.items ++ p ∷ []) c.symbols_part.ensures)

pub returns : goal.returns
returns c =
    map_ends (symbols_part c.args.bytes.now) c.args.commands.now c.loop-command.command-index c.args.parts.now.items
    c.loop-command.parts.items c.loop-command-test.false
    c.loop-command.invariant
