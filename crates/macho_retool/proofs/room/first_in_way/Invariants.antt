-- None of the parts so far is in the way.
use Rattle.std.proofs.Common.{◌≡◌, All, take, false}
use Rattle.macho_retool.specs.Parts.{is_in_way}
use Rattle.macho_retool.proofs.room.first_in_way.Given as goal

abbrev pub invariant-loop-part : goal.invariant-loop-part
invariant-loop-part l = All (λ p. is_in_way l.end l.limit p ≡ false) (take l.part-index l.parts)
