-- The written sum: a bound on the bytes of an image, from sizes alone, before any address is known. It keeps a linker
-- from spreading an image over the address space: a placement ends at most this far behind its base.
use Rattle.std.specs.Prelude.{ℕ, ◌+◌, ◌*◌, ◌-◌, ◌/◌, ◌^◌, length, sum_by}
use Rattle.macho_records.specs.Layouts.{mach_header, segment_command, section_header}
use Rattle.macho_records.specs.ByteLayouts.{size_of}
use Rattle.macho_model.specs.declared.placed.Counts.{Counts}
use Rattle.macho_records.specs.Symbols.{common_exponent_of, common_size_of}
use Rattle.macho_model.specs.Links.{Link, SectionId, header_at, carried_of, placed_exponent}
use Rattle.macho_model.specs.Resolution.{entry_at, chosen_commons}
use Rattle.macho_model.specs.Targets.{slots_of, stubs_of}
use Rattle.macho_model.specs.Segments.{SEGMENT_PAGE, segment_names_of, output_count, one_if}
use Rattle.macho_model.specs.Needs.{POINTER_SIZE}

-- what alignment to 2 ^ exponent may cost: in front of the section, and in front of its output section
abbrev pub padding_of : ℕ → ℕ
padding_of exponent = 2 * (2 ^ exponent - 1)

abbrev pub STUB_SIZE : ℕ
STUB_SIZE = 12

abbrev pub INITIALIZER_SIZE : ℕ
INITIALIZER_SIZE = 4

abbrev pub SYMBOL_SIZE : ℕ
SYMBOL_SIZE = 16

abbrev pub SIGNED_PAGE : ℕ
SIGNED_PAGE = 4096

abbrev pub DIGEST_SIZE : ℕ
DIGEST_SIZE = 32

abbrev pub section_cost : Link → SectionId → ℕ
section_cost l s = (header_at l s).size + padding_of (placed_exponent l s)

-- sections, commons, slots, stubs, initializers and unwind information
unfoldable pub content_sum : Link → Counts → ℕ
content_sum l counts =
    sum_by (section_cost l) (carried_of l)
    + sum_by (λ s. common_size_of (entry_at l s) + padding_of (common_exponent_of (entry_at l s))) (chosen_commons l)
    + POINTER_SIZE * length (slots_of l) + STUB_SIZE * length (stubs_of l) + INITIALIZER_SIZE * counts.initializers + counts.unwind

-- the load commands
unfoldable pub command_sum : Link → Counts → ℕ
command_sum l counts =
    size_of segment_command * length (segment_names_of l) + size_of section_header * output_count l counts + counts.commands

-- what a fixup table has beside imports and pages: its header of 28 bytes, a count of 4, and for each of at most six segments an
-- offset of 4 bytes and a record of 22 without its page starts (`mach-o/fixup-chains.h`)
abbrev pub FIXUP_RECORDS : ℕ
FIXUP_RECORDS = 188

-- The sum without the signature: with header, commands and tables; with two bytes for each page that fixups may be in (one for each
-- page of content, one for each section and common, and one more); and with what alignment costs: 28 bytes, and two pages of 16 KiB for
-- each segment but `__PAGEZERO` (alignment fills less than one of the two)
unfoldable pub unsigned_sum : Link → Counts → ℕ
unsigned_sum l counts =
    content_sum l counts + size_of mach_header + command_sum l counts + counts.padding + counts.trie + SYMBOL_SIZE * counts.symbols
    + counts.strings + (FIXUP_RECORDS + 28) + counts.import_size * counts.imports + counts.name_bytes
    + 2 * (content_sum l counts / SEGMENT_PAGE + (length (carried_of l) + length (chosen_commons l) + 1))
    + 2 * SEGMENT_PAGE * (length (segment_names_of l) - one_if l.executable)

-- the fixed parts of a signature: its superblob and code directory
abbrev pub SIGNATURE_FIXED : ℕ
SIGNATURE_FIXED = 108

-- with the signature: the identifier and a digest for each page
unfoldable pub written_sum_of : Link → Counts → ℕ
written_sum_of l counts =
    unsigned_sum l counts + SIGNATURE_FIXED + counts.identifier + DIGEST_SIZE * (unsigned_sum l counts / SIGNED_PAGE + 1)
