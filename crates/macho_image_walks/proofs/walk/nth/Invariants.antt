use Rattle.macho_image_walks.proofs.NthWalk.{Passed}
use Rattle.macho_image_walks.proofs.walk.nth.Given as goal

-- of the commands before the place so many are of the list as the number has lost
abbrev pub invariant-loop-i : goal.invariant-loop-i
invariant-loop-i l = Passed l.list l.bytes l.number l.i l.place l.left
