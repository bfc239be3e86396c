-- The elements so far have their parts.
use Rattle.std.proofs.Common.{◌≡◌, ◌++◌, map, take}
use Rattle.macho_retool.specs.steps.PartLists.{strings_part}
use Rattle.macho_retool.proofs.parts.add_strings.Given as goal

abbrev pub invariant-loop-command : goal.invariant-loop-command
invariant-loop-command l = l.parts.items ≡ l.fn.parts.items ++ map (strings_part l.bytes) (take l.command-index l.commands)
