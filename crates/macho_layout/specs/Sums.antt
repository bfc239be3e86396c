-- The written sum of a plan.
use Rattle.std.specs.Prelude.{ℕ, ◌+◌, ◌*◌, ◌-◌, ◌/◌, ◌^◌, ◌==◌, ◌≤◌, ◌<◌, nat_lt, not, if◌then◌else◌, Option, Some, None, length, sum_by}
use Rattle.macho_model.specs.declared.placed.Counts.{Counts}
use Rattle.macho_model.specs.Segments.{SEGMENT_PAGE, PAGEZERO_SIZE, one_if}
use Rattle.macho_model.specs.WrittenSum.{FIXUP_RECORDS, STUB_SIZE, INITIALIZER_SIZE, SYMBOL_SIZE, SIGNED_PAGE, DIGEST_SIZE, SIGNATURE_FIXED, padding_of}
use Rattle.macho_model.specs.Needs.{POINTER_SIZE}
use Rattle.macho_layout.specs.Plans.{Planning}
use Rattle.macho_layout.specs.Names.{segment_count, merged_count}
use Rattle.macho_layout.specs.Members.{template_align, placed_align}

-- a number that fits 64 bits
abbrev pub fitting : ℕ → Option ℕ
fitting n = if nat_lt n (2 ^ 64) then Some n else None

abbrev pub section_cost : ℕ → ℕ → ℕ
section_cost size align = size + padding_of align

-- sections and commons
unfoldable pub members_cost : Planning → ℕ
members_cost p =
    sum_by (λ s. section_cost s.size (placed_align (template_align p) s)) p.sections + sum_by (λ c. section_cost c.size c.align) p.commons

abbrev pub output_count : Planning → Counts → ℕ
output_count p counts =
    merged_count p + one_if (nat_lt 0 counts.initializers) + one_if (nat_lt 0 counts.unwind) + one_if (not (length p.stubs == 0))
    + one_if (not (length p.slots == 0))

abbrev pub content_sum : Planning → Counts → ℕ
content_sum p counts =
    members_cost p + POINTER_SIZE * length p.slots + STUB_SIZE * length p.stubs + INITIALIZER_SIZE * counts.initializers + counts.unwind

abbrev pub command_sum : Planning → Counts → ℕ
command_sum p counts = 72 * segment_count p + 80 * output_count p counts + counts.commands

abbrev pub unsigned_sum : Planning → Counts → ℕ
unsigned_sum p counts =
    content_sum p counts + 32 + command_sum p counts + counts.padding + counts.trie + SYMBOL_SIZE * counts.symbols + counts.strings
    + (FIXUP_RECORDS + 28) + counts.import_size * counts.imports + counts.name_bytes
    + 2 * (content_sum p counts / SEGMENT_PAGE + (length p.sections + length p.commons + 1))
    + 2 * SEGMENT_PAGE * (segment_count p - one_if p.executable)

abbrev pub written_sum : Planning → Counts → ℕ
written_sum p counts =
    unsigned_sum p counts + SIGNATURE_FIXED + counts.identifier + DIGEST_SIZE * (unsigned_sum p counts / SIGNED_PAGE + 1)

-- the bytes of header and load commands, with the padding behind them
abbrev pub head_size : Planning → Counts → ℕ
head_size p counts = 32 + 72 * segment_count p + 80 * output_count p counts + counts.commands + counts.padding

-- the address of the image's first byte
abbrev pub base_of : Planning → ℕ
base_of p = if p.executable then PAGEZERO_SIZE else 0

-- what is known before any address is: no limit is passed, and the sum stays well below 2^64
pub record FitsLimits (p : Planning) (counts : Counts) : Type 0 where
  pub segments : segment_count p ≤ 6
  pub sections : output_count p counts ≤ 255
  pub sum : written_sum p counts + 2 ^ 32 < 2 ^ 64
  pub entries : counts.import_size ≤ 8
