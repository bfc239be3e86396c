-- A placement without where its lists lie in memory.
use Rattle.macho_model.specs.Placement.{Placed}
use Rattle.macho_layout.specs.declared.placement.Placement.{Placement}

abbrev pub placed_of : Placement → Placed
placed_of p = record {
  base = p.base;
  segments = p.segments.items;
  sections = p.sections.items;
  commons = p.commons.items;
  slots = p.slots.items;
  stubs = p.stubs.items;
  output_sections = p.output_sections.items;
  init_offsets = p.init_offsets;
  unwind = p.unwind;
  template = p.template;
  linkedit = p.linkedit;
}
