-- In which order the parts of a placement stand, and that each stands as low as it may: so, with `IsPlaced`, the link and its counts tell
-- where each part stands; only an empty range of initializers or unwind information may stand anywhere.
use Rattle.std.specs.Prelude.{◌≡◌, ℕ, ◌+◌, ◌*◌, ◌-◌, ◌/◌, ◌^◌, not, if◌then◌else◌, List, [], ◌∷◌, map, filter, All, sum_by}
use Rattle.std.specs.Str.{bytes_eq}
use Rattle.macho_records.specs.Numbers.{rounded_up}
use Rattle.macho_records.specs.Segments.{text_of}
use Rattle.macho_model.specs.declared.placed.Counts.{Counts}
use Rattle.macho_model.specs.declared.placed.PlacedSegment.{PlacedSegment}
use Rattle.macho_model.specs.Lists.{IsNumber, EachNext, of_first}
use Rattle.macho_model.specs.Links.{Link, greatest}
use Rattle.macho_model.specs.Segments.{PAGEZERO, TEXT, LINKEDIT, SEGMENT_PAGE, PAGEZERO_SIZE, may_hold_pointers}
use Rattle.macho_model.specs.WrittenSum.{FIXUP_RECORDS, INITIALIZER_SIZE, SYMBOL_SIZE, SIGNED_PAGE, DIGEST_SIZE, SIGNATURE_FIXED}
use Rattle.macho_model.specs.Placement.{Placed, Piece, end_of_piece, range_piece, head_size, is_segment_named}
use Rattle.macho_model.specs.OutputSections.{OutputSection, output_sections_in, output_sections_of, is_zeros, extent_of}

-- The row of a segment: what stands first in it (header, commands and padding in `__TEXT`, nothing in any other), and then output sections.
unfoldable pub row_of : Link → Counts → Placed → PlacedSegment → List OutputSection → List Piece
row_of l counts p s sections =
    record { start = s.address; size = if bytes_eq (text_of s.name) TEXT then head_size counts p else 0; exponent = 0 }
    ∷ map (extent_of p) sections

-- the file offset of `__LINKEDIT`, 0 where there is none, and its tables, in file offsets; the fixup table and the symbol table
-- begin at multiples of 8, a signature at one of 16
abbrev pub table_pieces : Placed → List Piece
table_pieces p =
    record { start = of_first 0 (λ s. s.file_offset) (filter (is_segment_named LINKEDIT) p.segments); size = 0; exponent = 0 }
    ∷ range_piece 3 p.linkedit.fixups ∷ range_piece 0 p.linkedit.trie ∷ range_piece 3 p.linkedit.symtab ∷ range_piece 0 p.linkedit.strtab
    ∷ range_piece 4 p.linkedit.signature ∷ []

-- a piece begins at the least multiple of its alignment that is not below the end of the one before it
abbrev pub BeginsLeast : Piece → Piece → Type 0
BeginsLeast c d = d.start ≡ rounded_up (2 ^ d.exponent) (end_of_piece c)

-- the bytes from the start of a segment to the end of the last of its pieces
abbrev pub used_by : PlacedSegment → List Piece → ℕ
used_by s row = greatest (map end_of_piece row) - s.address

-- the bytes of a segment in the file: up to the end of the page of its last data, or to the end of the signature, where the file ends;
-- none of `__PAGEZERO`
abbrev pub least_file_size : Link → Counts → Placed → PlacedSegment → ℕ
least_file_size l counts p s =
    if bytes_eq (text_of s.name) PAGEZERO then 0
    else if bytes_eq (text_of s.name) LINKEDIT then p.linkedit.signature.end - s.file_offset
    else rounded_up SEGMENT_PAGE
    (used_by s (row_of l counts p s (filter (λ o. not (is_zeros o.key)) (output_sections_in l counts (text_of s.name)))))

-- the bytes of a segment in memory: whole pages
abbrev pub least_size : Link → Counts → Placed → PlacedSegment → ℕ
least_size l counts p s =
    if bytes_eq (text_of s.name) PAGEZERO then PAGEZERO_SIZE
    else if bytes_eq (text_of s.name) LINKEDIT then rounded_up SEGMENT_PAGE (p.linkedit.signature.end - s.file_offset)
    else rounded_up SEGMENT_PAGE (used_by s (row_of l counts p s (output_sections_in l counts (text_of s.name))))

abbrev pub pages_of : PlacedSegment → ℕ
pages_of s = (s.file_size + (SEGMENT_PAGE - 1)) / SEGMENT_PAGE

-- The ranges that the linker fills have the room that was counted.
pub record HaveRoom (counts : Counts) (p : Placed) : Type 0 where
  pub initializers : p.init_offsets.end ≡ p.init_offsets.start + INITIALIZER_SIZE * counts.initializers
  pub unwind : p.unwind.end ≡ p.unwind.start + counts.unwind
  -- records, import entries and their names; and two bytes for each page that may hold pointers
  pub fixups : p.linkedit.fixups.end ≡ p.linkedit.fixups.start
      + (rounded_up 8 (FIXUP_RECORDS + counts.import_size * counts.imports + counts.name_bytes)
      + rounded_up 8 (2 * sum_by pages_of (filter (λ s. may_hold_pointers (text_of s.name)) p.segments)))
  pub trie : p.linkedit.trie.end ≡ p.linkedit.trie.start + counts.trie
  pub symbols : p.linkedit.symtab.end ≡ p.linkedit.symtab.start + SYMBOL_SIZE * counts.symbols
  pub strings : p.linkedit.strtab.end ≡ p.linkedit.strtab.start + counts.strings
  -- and a digest for each page of the file before the signature
  pub signature : p.linkedit.signature.end ≡ p.linkedit.signature.start
      + (SIGNATURE_FIXED + counts.identifier + DIGEST_SIZE * (rounded_up SIGNED_PAGE p.linkedit.signature.start / SIGNED_PAGE))

-- THE least places: nothing stands higher than what is in front of it, its alignment and its room ask for.
pub record AreLeast (l : Link) (counts : Counts) (p : Placed) : Type 0 where
  -- the first segment begins the file
  pub front : (s : PlacedSegment) → IsNumber p.segments 0 s → s.file_offset ≡ 0
  -- in a segment stand its front and its output sections, one behind the other, and in an output section its pieces
  pub rows : All (λ s. EachNext BeginsLeast (row_of l counts p s (output_sections_in l counts (text_of s.name)))) p.segments
  pub pieces : All (λ o. EachNext BeginsLeast (o.pieces p)) (output_sections_of l counts)
  -- the tables of `__LINKEDIT` stand in the order of their commands, the signature last
  pub tables : EachNext BeginsLeast (table_pieces p)
  -- a segment ends with the page of its last piece, its file bytes with that of its last data
  pub sizes : All (λ s. s.size ≡ least_size l counts p s) p.segments
  pub file_sizes : All (λ s. s.file_size ≡ least_file_size l counts p s) p.segments
  pub rooms : HaveRoom counts p
