-- What holds before segment k: those of the first k that have bytes in memory are listed.
use Rattle.std.proofs.Common.{◌≡◌, ◌==◌, not, filter, take}
use Rattle.macho_image_rules.proofs.segments.sized_commands.Given as goal

abbrev pub invariant-loop-command : goal.invariant-loop-command
invariant-loop-command l = l.sized.items ≡ filter (λ s. not (s.vmsize == 0)) (take l.command-index l.commands)
