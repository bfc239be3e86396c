use Rattle.std.proofs.Common.{◌≡◌, ◌++◌, take}
use Rattle.std.specs.List.{flat_map}
use Rattle.macho_bytes.specs.Numbers.{le_bytes}
use Rattle.macho_job.proofs.made.push_words.Given as goal

abbrev pub invariant-loop-number : goal.invariant-loop-number
invariant-loop-number l = l.bytes.items ≡ l.initial.bytes.items ++ flat_map (le_bytes 4) (take l.number-index l.numbers)
