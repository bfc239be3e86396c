-- The least of the parts so far.
use Rattle.std.proofs.Common.{◌≡◌, take}
use Rattle.macho_retool.specs.Parts.{least, begins_from}
use Rattle.macho_retool.proofs.room.room_before.Given as goal

abbrev pub invariant-loop-part : goal.invariant-loop-part
invariant-loop-part l = l.room ≡ least l.text_end (begins_from l.end (take l.part-index l.parts))
