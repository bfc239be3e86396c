-- The span of functions, from views of objects.
use Rattle.std.specs.Prelude.{ℕ, Bool, ◌&&◌, not, if◌then◌else◌, List, Option, Some, None, sum_by}
use Rattle.std.specs.List.{range_with_len}
use Rattle.std.specs.Str.{bytes_eq}
use Rattle.macho_records.specs.declared.header.SectionHeader.{SectionHeader}
use Rattle.macho_records.specs.Sections.{is_zerofill, segment_name_of}
use Rattle.macho_model.specs.Links.{is_carried}
use Rattle.macho_model.specs.Objects.{num_sections, section_at}
use Rattle.macho_model.specs.Segments.{TEXT}
use Rattle.macho_object.specs.Views.{FileBytes}
use Rattle.macho_layout.specs.Sums.{section_cost}

-- what a section adds
abbrev pub holds_text : SectionHeader → Bool
holds_text h = is_carried h && (bytes_eq (segment_name_of h) TEXT && not (is_zerofill h))

unfoldable pub span_of : SectionHeader → ℕ
span_of h = if holds_text h then section_cost h.size h.align else 0

-- the sections of an object below a number, of a view, and of all views
abbrev pub span_below : List ℕ → ℕ → ℕ
span_below bytes count = sum_by (λ k. span_of (section_at bytes k)) (range_with_len 0 count)

abbrev pub span_of_view : Option FileBytes → ℕ
span_of_view None = 0
span_of_view (Some f) = span_below f.bytes (num_sections f.bytes)

abbrev pub span_of_views : List (Option FileBytes) → ℕ
span_of_views views = sum_by span_of_view views
