-- What holds before part k: the first k share no address with the one.
use Rattle.std.proofs.Common.{ℕ, ◌<◌, get_or}
use Rattle.macho_model.specs.Placement.{AreApart}
use Rattle.macho_placement_rules.specs.declared.parts.Part.{Part}
use Rattle.macho_placement_rules.specs.Parts.{piece_of}
use Rattle.macho_placement_rules.proofs.template.meets_none.Given as goal

abbrev pub invariant-loop-part : goal.invariant-loop-part
invariant-loop-part l = (k : ℕ) (d : Part) → k < l.part-index → AreApart (piece_of l.whole) (piece_of (get_or l.parts k d))
