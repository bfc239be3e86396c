-- The smallest link and its placement, with the parts that the changes of it turn.
use Rattle.std.proofs.Common.{ℕ, [], ◌∷◌, None}
use Rattle.std.specs.Prelude.{codes, Option}
use Rattle.macho_records.specs.declared.header.SectionHeader.{SectionHeader}
use Rattle.macho_model.specs.declared.placed.Counts.{Counts}
use Rattle.macho_model.specs.declared.placed.PlacedSegment.{PlacedSegment}
use Rattle.macho_records.specs.declared.segments.TheConstants.SegmentName as name
use Rattle.macho_model.specs.declared.placed.PlacedSection.{PlacedSection}
use Rattle.macho_model.specs.declared.placed.Range64.{Range64}
use Rattle.macho_model.specs.declared.placed.Linkedit.{Linkedit}
use Rattle.macho_model.specs.Links.{Object, Link}
use Rattle.macho_model.specs.Placement.{Placed}
use Rattle.macho_model_checks.proofs.Examples.{name16, object_a}
use Rattle.macho_model_checks.proofs.ExampleLinks.{executable_of}

-- the object with `_main` alone, made an executable
abbrev pub link_a : Link
link_a = executable_of (Object object_a ∷ [])

-- its sizes: the entry point and the dynamic linker are 56 bytes of commands, and nothing else is built
abbrev pub counts_a : Counts
counts_a = record {
  commands = 56;
  padding = 0;
  initializers = 0;
  unwind = 0;
  imports = 0;
  import_size = 4;
  name_bytes = 0;
  trie = 0;
  symbols = 0;
  strings = 0;
  identifier = 0;
}

-- a range of nothing
abbrev pub nothing : Range64
nothing = record { start = 0; end = 0 }

abbrev pub no_tables : Linkedit
no_tables = record { fixups = nothing; trie = nothing; symtab = nothing; strtab = nothing; signature = nothing }

-- the addresses in front of `__TEXT`, and `__TEXT` from an address on
abbrev pub pagezero_to : ℕ → PlacedSegment
pagezero_to start = record { name = name.PAGEZERO; address = 0; size = start; file_offset = 0; file_size = 0 }

abbrev pub text_from : ℕ → ℕ → PlacedSegment
text_from start size = record { name = name.TEXT; address = start; size = size; file_offset = 0; file_size = 0x4000 }

abbrev pub section_a : ℕ → PlacedSection
section_a address = record { file = 0; section = 0; segment = 1; address = address }

abbrev pub header_a : SectionHeader
header_a = record {
  sectname = name16 (codes "__text");
  segname = name16 (codes "__TEXT");
  addr = 0x100000138;
  size = 8;
  offset = 0x138;
  align = 2;
  reloff = 0;
  nreloc = 0;
  flags = 0x80000400;
  reserved1 = 0;
  reserved2 = 0;
  reserved3 = 0;
}

-- a placement with a base, a start of `__TEXT`, an address of the section, a size of `__TEXT` and a template
abbrev pub placed_with : ℕ → ℕ → ℕ → ℕ → Option Range64 → Placed
placed_with base start address size template = record {
  base = base;
  segments = pagezero_to start ∷ text_from start size ∷ [];
  sections = section_a address ∷ [];
  commons = [];
  slots = [];
  stubs = [];
  output_sections = header_a ∷ [];
  init_offsets = nothing;
  unwind = nothing;
  template = template;
  linkedit = no_tables;
}

-- the placement of the smallest image
abbrev pub placed_a : Placed
placed_a = placed_with 0x100000000 0x100000000 0x100000138 0x4000 None
