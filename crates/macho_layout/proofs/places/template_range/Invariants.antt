-- The template: what holds before number k is that it is that of the first k.
use Rattle.std.proofs.Common.{◌≡◌, take}
use Rattle.macho_layout.specs.Places.{template_range}
use Rattle.macho_layout.proofs.places.template_range.Given as goal

abbrev pub invariant-loop-one : goal.invariant-loop-one
invariant-loop-one l = l.range ≡ template_range (take l.one-index l.placed)
