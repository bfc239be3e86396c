-- What holds before number k: the first k have been added.
use Rattle.std.proofs.Common.{◌≡◌, ◌++◌, map, get_or}
use Rattle.std.specs.List.{range_with_len}
use Rattle.macho_placement_rules.specs.steps.Pieces.{section_part, no_section, no_spec}
use Rattle.macho_placement_rules.proofs.pieces.push_sections.Given as goal

abbrev pub invariant-loop-number : goal.invariant-loop-number
invariant-loop-number l =
    l.parts.items ≡ l.initial.parts.items
    ++ map (λ k. section_part l.template (get_or l.sections k no_section) (get_or l.specs k no_spec))
    (range_with_len 0 l.number)
