-- The lemma, with each law that is called.
use Rattle.macho_promise_laws.proofs.Linked.{written_is_linked}
use Rattle.macho_promise_laws.proofs.laws.written_files_are_linked.Goals as goal

pub returns : goal.returns
returns c = written_is_linked (record {
  apart = c.parts_have_ranges_of_their_own.ensures.apart;
  ends = c.parts_have_ranges_of_their_own.ensures.inside;
  tables = c.heads_fit.ensures.ends;
  outside = c.chained_words_lie_in_ranges.ensures.outside;
  words = c.chained_words_lie_in_ranges.ensures.stay;
  sections = c.words_leave_the_rest.ensures.sections;
  stubs = c.words_leave_the_rest.ensures.stubs;
}) (record {
  head = c.head_is_read.ensures;
  fixups = c.fixups_are_kept.ensures.fixups;
  imports = c.fixups_are_kept.ensures.imports;
  trie = c.exports_are_said.ensures.trie;
  symbols = c.symbols_are_said.ensures.entries;
  offsets = c.texts_are_said.ensures.offsets;
  unwind = c.texts_are_said.ensures.unwind;
  whole = c.composed_files_are_linked.ensures;
})
