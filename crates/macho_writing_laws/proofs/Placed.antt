-- What the placement of a link has for each thing of the link.
--
-- Relocations of objects that keep their rules lead inside the link, and each thing of the link has its place. That lists stand
-- in the link's order is a part of 'placed whole', as all is that the promise of an image asks.
use Rattle.macho_fields.proofs.Found.{found}
use Rattle.macho_fields.proofs.Kept.{targets_kept}
use Rattle.macho_writing_laws.specs.Things.{ThingsAreFound, ThingsAreListed, PlacesAreLaidOut, LinksArePlaced}

pub things_found : ThingsAreFound
things_found l counts p objects placed = found l counts p placed (targets_kept l (record { each = objects }))

pub things_listed : ThingsAreListed
things_listed l counts p whole = record {
  sections = whole.order.sections;
  commons = whole.order.commons;
  slots = whole.placed.whole_list.slots;
}

pub laid_out : PlacesAreLaidOut
laid_out l counts p whole
    = record { segments = whole.order.segments; names = whole.order.names; least = whole.least; sections = whole.sections }

pub link_placed : LinksArePlaced
link_placed l counts p sound = record {
  objects = sound.objects;
  sound = sound.sound;
  personalities = sound.personalities;
  placed = sound.placed.placed;
}
