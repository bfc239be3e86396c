-- The lemma, with each law that is called.
use Rattle.macho_promise_laws.proofs.Whole.{whole_is_linked}
use Rattle.macho_promise_laws.proofs.laws.composed_files_are_linked.Goals as goal

pub returns : goal.returns
returns c = whole_is_linked (record {
  ties = c.head_agrees.ensures;
  libraries = c.libraries_are_said.ensures;
  room = c.segments_have_room.ensures;
  head = c.head_is_read.ensures;
  signature = c.signature_is_the_links.ensures;
  chains = c.composed_images_stand.ensures.chain;
  loadable = c.composed_images_are_loadable.ensures;
  template = c.headers_tell_the_template.ensures;
})
