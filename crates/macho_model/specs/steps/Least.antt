-- The least places of pieces, by output sections of constructors.
use Rattle.std.specs.Prelude.{◌≡◌, ℕ, ◌-◌, not, if◌then◌else◌, List, ◌∷◌, map, filter, All}
use Rattle.std.specs.Str.{bytes_eq}
use Rattle.macho_records.specs.Numbers.{rounded_up}
use Rattle.macho_records.specs.Segments.{text_of}
use Rattle.macho_model.specs.declared.placed.Counts.{Counts}
use Rattle.macho_model.specs.declared.placed.PlacedSegment.{PlacedSegment}
use Rattle.macho_model.specs.Lists.{IsNumber, EachNext}
use Rattle.macho_model.specs.Links.{Link}
use Rattle.macho_model.specs.Segments.{PAGEZERO, TEXT, LINKEDIT, SEGMENT_PAGE, PAGEZERO_SIZE}
use Rattle.macho_model.specs.Placement.{Placed, Piece, head_size}
use Rattle.macho_model.specs.OutputSections.{is_zeros}
use Rattle.macho_model.specs.Order.{table_pieces, BeginsLeast, used_by, HaveRoom}
use Rattle.macho_model.specs.steps.Outputs.{OutputSection, output_sections_in, output_sections_of, key_of_output, pieces_of, extent_of}

-- what stands first in a segment: header, commands and padding in `__TEXT`, nothing in any other
abbrev pub front_of : Counts → Placed → PlacedSegment → Piece
front_of counts p s = record { start = s.address; size = if bytes_eq (text_of s.name) TEXT then head_size counts p else 0; exponent = 0 }

-- the output sections of a placed segment, and those with bytes in the file
abbrev pub sections_in : Link → Counts → PlacedSegment → List OutputSection
sections_in l counts s = output_sections_in l counts (text_of s.name)

abbrev pub filled_in : Link → Counts → PlacedSegment → List OutputSection
filled_in l counts s = filter (λ o. not (is_zeros (key_of_output o))) (sections_in l counts s)

-- The row of a segment: its front, and then its output sections.
unfoldable pub row_of : Link → Counts → Placed → PlacedSegment → List OutputSection → List Piece
row_of l counts p s sections = front_of counts p s ∷ map (extent_of l p) sections

-- the bytes of a segment in the file: up to the end of the page of its last data, or to the end of the signature, where the file ends
abbrev pub least_file_size : Link → Counts → Placed → PlacedSegment → ℕ
least_file_size l counts p s =
    if bytes_eq (text_of s.name) PAGEZERO then 0
    else if bytes_eq (text_of s.name) LINKEDIT then p.linkedit.signature.end - s.file_offset
    else rounded_up SEGMENT_PAGE (used_by s (row_of l counts p s (filled_in l counts s)))

-- the bytes of a segment in memory: whole pages
abbrev pub least_size : Link → Counts → Placed → PlacedSegment → ℕ
least_size l counts p s =
    if bytes_eq (text_of s.name) PAGEZERO then PAGEZERO_SIZE
    else if bytes_eq (text_of s.name) LINKEDIT then rounded_up SEGMENT_PAGE (p.linkedit.signature.end - s.file_offset)
    else rounded_up SEGMENT_PAGE (used_by s (row_of l counts p s (sections_in l counts s)))

-- The least places: nothing stands higher than what is in front of it, its alignment and its room ask for.
pub record AreLeast (l : Link) (counts : Counts) (p : Placed) : Type 0 where
  -- the first segment begins the file
  pub front : (s : PlacedSegment) → IsNumber p.segments 0 s → s.file_offset ≡ 0
  -- in a segment stand its front and its output sections, one behind the other, and in an output section its pieces
  pub rows : All (λ s. EachNext BeginsLeast (row_of l counts p s (sections_in l counts s))) p.segments
  pub pieces : All (λ o. EachNext BeginsLeast (pieces_of l p o)) (output_sections_of l counts)
  -- the tables of `__LINKEDIT` stand in the order of their commands, the signature last
  pub tables : EachNext BeginsLeast (table_pieces p)
  -- a segment ends with the page of its last piece, its file bytes with that of its last data
  pub sizes : All (λ s. s.size ≡ least_size l counts p s) p.segments
  pub file_sizes : All (λ s. s.file_size ≡ least_file_size l counts p s) p.segments
  pub rooms : HaveRoom counts p
