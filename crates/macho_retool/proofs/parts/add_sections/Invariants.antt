-- The sections so far have their parts.
use Rattle.std.proofs.Common.{◌≡◌, ◌++◌, map}
use Rattle.std.specs.List.{range_with_len}
use Rattle.macho_retool.specs.steps.PartLists.{section_part}
use Rattle.macho_retool.proofs.parts.add_sections.Given as goal

abbrev pub invariant-loop-number : goal.invariant-loop-number
invariant-loop-number l = l.parts.items ≡ l.fn.parts.items ++ map (section_part l.bytes l.place) (range_with_len 0 l.number)
