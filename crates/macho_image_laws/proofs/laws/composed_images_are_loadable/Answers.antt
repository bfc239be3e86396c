-- The three parts are the two laws that are called, and the placement.
use Rattle.macho_image_laws.proofs.laws.composed_images_are_loadable.Goals as goal

pub returns : goal.returns
returns c l counts uuid b p h = record {
  placed = h.link.placed;
  accepted = c.composed_images_are_accepted.ensures l counts uuid b p h;
  stands = λ s choice whole fits binds. c.composed_images_stand.ensures.stands l counts uuid b p h s choice whole binds;
}
