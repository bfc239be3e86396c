-- Which bytes of an image are told of: header, commands, sections, what the linker makes, and tables. All others are 0.
use Rattle.std.specs.Prelude.{◌≡◌, ℕ, ◌+◌, ◌<◌, ◌≤◌, ◌⊎◌, not, List, ◌∷◌, ◌++◌, length, map, filter, slice_index, All}
use Rattle.macho_records.specs.Sections.{is_zerofill}
use Rattle.macho_model.specs.Commands.{commands_end}
use Rattle.macho_model.specs.Links.{Link, header_at}
use Rattle.macho_model.specs.Images.{tables_of, tries_of, symbol_tables_of, string_tables_of, signatures_of, fixups_header}
use Rattle.macho_model.specs.Placement.{Placed, Piece, id_of, section_piece, slot_piece, stub_piece, range_piece}
use Rattle.macho_model.specs.Addresses.{offset_in_file}
use Rattle.macho_model.specs.ImportTable.{names_text}

-- A range by its first place and its size: of the file here, of addresses in `Spans`.
pub record Span : Type 0 where
  pub start : ℕ
  pub size : ℕ

-- where a piece stands in the file
abbrev pub span_of : Placed → Piece → Span
span_of p c = record { start = offset_in_file p c.start; size = c.size }

-- the ranges of the file that have content: of the range of unwind information as many bytes as are told, of a fixup table what ends with
-- its names, of any other table its whole range
unfoldable pub contents_of : Link → List ℕ → Placed → ℕ → List Span
contents_of l b p unwind =
    record { start = 0; size = commands_end b }
    ∷ map (λ q. span_of p (section_piece l q)) (filter (λ q. not (is_zerofill (header_at l (id_of q)))) p.sections)
    ++ map (λ s. span_of p (slot_piece s)) p.slots ++ map (λ s. span_of p (stub_piece s)) p.stubs
    ++ span_of p (range_piece 0 p.init_offsets) ∷ record { start = offset_in_file p p.unwind.start; size = unwind }
    ∷ map (λ t. record { start = t.at; size = (fixups_header b t).symbols_offset + length (names_text l) }) (tables_of b)
    ++ map (λ t. record { start = t.at; size = t.size }) (tries_of b ++ symbol_tables_of b ++ string_tables_of b ++ signatures_of b)

-- Every other byte of the file is 0: in header padding, in gaps, and behind the content of a range.
abbrev pub IsZeroElsewhere : Link → List ℕ → Placed → ℕ → Type 0
IsZeroElsewhere l b p unwind =
    (i : ℕ) → i < length b → All (λ s. (i + 1 ≤ s.start) ⊎ (s.start + s.size ≤ i)) (contents_of l b p unwind) → slice_index b i ≡ 0
