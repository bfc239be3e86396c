-- How many bytes the fixup table and the signature may take, by names that laws of other crates cite. `Order` says what they are for.
use Rattle.std.specs.Prelude.{ℕ, ◌+◌, ◌*◌, filter, sum_by, ◌/◌}
use Rattle.macho_records.specs.Numbers.{rounded_up}
use Rattle.macho_model.specs.declared.placed.Counts.{Counts}
use Rattle.macho_model.specs.WrittenSum.{FIXUP_RECORDS, SIGNED_PAGE, DIGEST_SIZE, SIGNATURE_FIXED}
use Rattle.macho_records.specs.Segments.{text_of}
use Rattle.macho_model.specs.Segments.{may_hold_pointers}
use Rattle.macho_model.specs.Placement.{Placed}
use Rattle.macho_model.specs.Order.{pages_of}

-- The room of a fixup table: its records, the import entries and names, and two bytes for each page (`mach-o/fixup-chains.h`).
abbrev pub fixup_room : Counts → ℕ → ℕ
fixup_room counts pages = rounded_up 8 (FIXUP_RECORDS + counts.import_size * counts.imports + counts.name_bytes) + rounded_up 8 (2 * pages)

-- the pages of the segments that the loader writes pointers in
abbrev pub pointer_pages : Placed → ℕ
pointer_pages p = sum_by pages_of (filter (λ s. may_hold_pointers (text_of s.name)) p.segments)

-- the room of a signature: its records, the identifier, and a digest for each page before it
abbrev pub signature_room : Counts → ℕ → ℕ
signature_room counts limit = SIGNATURE_FIXED + counts.identifier + DIGEST_SIZE * (rounded_up SIGNED_PAGE limit / SIGNED_PAGE)
