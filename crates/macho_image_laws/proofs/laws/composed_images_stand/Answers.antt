-- The lemmas say just this, by the laws that are called.
use Rattle.macho_image_laws.proofs.Whole.{composed_stands, composed_chains}
use Rattle.macho_image_laws.proofs.laws.composed_images_stand.Goals as goal

pub returns-clause-stands : goal.returns-clause-stands
returns-clause-stands c = composed_stands (record {
  memory = record {
    texts = c.what_no_word_covers_is_held.ensures.texts;
    zeros = c.what_no_word_covers_is_held.ensures.zeros;
    numbers = c.what_no_word_covers_is_held.ensures.numbers;
  };
  slides = record {
    fields = c.fields_denote_at_every_slide.ensures.plain;
    pointers = c.fields_denote_at_every_slide.ensures.moved;
    imports = c.fields_denote_at_every_slide.ensures.bound;
    plain = c.plain_pointers_stay.ensures;
    slots = c.slots_stand_at_every_slide.ensures.moved;
    import_slots = c.slots_stand_at_every_slide.ensures.bound;
  };
  stubs = c.fields_denote.ensures.stubs;
  chains = c.chains_are_told.ensures;
})

pub returns-clause-chain : goal.returns-clause-chain
returns-clause-chain c = composed_chains c.chains_are_told.ensures
