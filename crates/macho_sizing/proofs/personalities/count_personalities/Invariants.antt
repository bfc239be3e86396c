-- Personality functions: what holds before entry k is that those of the first k were seen.
use Rattle.std.proofs.Common.{◌≡◌, map, take}
use Rattle.std.specs.List.{filter_map}
use Rattle.macho_model.specs.Links.{Link}
use Rattle.macho_model.specs.Needs.{imports_of, distinct}
use Rattle.macho_model.specs.Targets.{same_target}
use Rattle.macho_symbols.specs.Kept.{IsResolved}
use Rattle.macho_needs.specs.Tables.{target_of}
use Rattle.macho_sizing.specs.steps.Personalities.{personality_of}
use Rattle.macho_sizing.proofs.personalities.count_personalities.Given as goal

abbrev pub invariant-loop-entry : goal.invariant-loop-entry
invariant-loop-entry l = (m : Link) → IsResolved m (imports_of m) l.needs.resolved
    → map target_of l.seen.keys ≡ distinct same_target (filter_map (personality_of m) (take l.entry-index l.entries))
