-- The words of the pointers so far stand behind those that were there.
use Rattle.std.proofs.Common.{◌≡◌, ◌++◌, map, take}
use Rattle.macho_image_rules.specs.steps.Gathered.{word_of}
use Rattle.macho_image_rules.proofs.needing.push_pointers.Given as goal

abbrev pub invariant-loop-pointer : goal.invariant-loop-pointer
invariant-loop-pointer l = l.needed.items ≡ l.initial.needed.items ++ map word_of (take l.pointer-index l.pointers)
