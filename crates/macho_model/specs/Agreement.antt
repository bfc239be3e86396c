-- What ties a file to the placement that tells of it: what the load commands say, read from the bytes, is what the placement
-- says (`mach-o/loader.h`). Without it each could be right by itself: a loader goes by the commands alone.
use Rattle.std.specs.Prelude.{◌≡◌, ℕ, ◌+◌, ◌*◌, ◌-◌, ◌≤◌, true, false, List, [], ◌∷◌, map}
use Rattle.std.specs.List.{flat_map, range_with_len}
use Rattle.macho_records.specs.ByteLayouts.{reading, size_of}
use Rattle.macho_records.specs.ByteTexts.{name_of}
use Rattle.macho_records.specs.Segments.{text_of}
use Rattle.macho_records.specs.Layouts.{segment_command, section_header}
use Rattle.macho_records.specs.declared.header.SectionHeader.{SectionHeader}
use Rattle.macho_records.specs.declared.constants.TheConstants.{LC_SEGMENT_64}
use Rattle.macho_model.specs.declared.placed.Counts.{Counts}
use Rattle.macho_model.specs.declared.placed.Range64.{Range64}
use Rattle.macho_model.specs.Commands.{commands_end, numbered}
use Rattle.macho_model.specs.Links.{Link}
use Rattle.macho_model.specs.Targets.{target_of_name}
use Rattle.macho_model.specs.Images.{segments_of, base_of, Table, tables_of, tries_of, signatures_of, symbol_tables_of, string_tables_of, entries_of_file}
use Rattle.macho_model.specs.Placement.{Placed, head_size}
use Rattle.macho_model.specs.Memory.{Choice}
use Rattle.macho_model.specs.Stands.{IsAt}

-- the segments of the file are those of the placement, in order: name, address, size, and file range
abbrev pub SegmentsAgree : List ℕ → Placed → Type 0
SegmentsAgree b p =
    map {B = List ℕ × ℕ × ℕ × ℕ × ℕ} (λ s. (name_of s.segname, s.vmaddr, s.vmsize, s.fileoff, s.filesize)) (segments_of b)
    ≡ map (λ s. (text_of s.name, s.address, s.size, s.file_offset, s.file_size)) p.segments

-- the section headers behind a segment's command, and those of a file, in order
unfoldable pub section_headers_at : List ℕ → ℕ → List SectionHeader
section_headers_at b at =
    map (λ k. reading section_header b (at + size_of segment_command + size_of section_header * k))
    (range_with_len 0 (reading segment_command b at).nsects)

unfoldable pub section_headers_of : List ℕ → List SectionHeader
section_headers_of b = flat_map (λ c. section_headers_at b c.at) (numbered LC_SEGMENT_64 b)

abbrev pub table_of_range : Range64 → Table
table_of_range r = record { at = r.start; size = r.end - r.start }

-- The tables of `__LINKEDIT` that the commands of the file name, one of each kind, stand in the placement's ranges.
pub record TablesAgree (b : List ℕ) (p : Placed) : Type 0 where
  pub fixups : tables_of b ≡ table_of_range p.linkedit.fixups ∷ []
  -- the exports trie begins where its range does, and may be shorter
  pub trie_size : ℕ
  pub trie : tries_of b ≡ record { at = p.linkedit.trie.start; size = trie_size } ∷ []
  pub trie_fits : p.linkedit.trie.start + trie_size ≤ p.linkedit.trie.end
  pub symbols : symbol_tables_of b ≡ table_of_range p.linkedit.symtab ∷ []
  pub strings : string_tables_of b ≡ table_of_range p.linkedit.strtab ∷ []
  pub signature : signatures_of b ≡ table_of_range p.linkedit.signature ∷ []

-- An executable begins at one place, counted from where the file's own `__TEXT` is: at its entry, at every slide. A dynamic library
-- begins nowhere.
pub record EntryAgrees (l : Link) (b : List ℕ) (p : Placed) : Type 0 where
  pub executable : l.executable ≡ true → (offset : ℕ) × (entries_of_file b ≡ offset ∷ [])
      × ((s : ℕ) (choice : Choice) → IsAt l p s choice (target_of_name l l.entry) (base_of b + offset + s))
  pub library : l.executable ≡ false → entries_of_file b ≡ []

-- What the load commands say is what the placement says.
pub record CommandsAgree (l : Link) (counts : Counts) (b : List ℕ) (p : Placed) : Type 0 where
  -- segments, in order, with their names and ranges
  pub segments : SegmentsAgree b p
  -- the load commands of the file end, with the padding behind them, where the placement's head ends
  pub head : commands_end b + counts.padding ≡ head_size counts p
  -- the section headers of the file are the placement's output sections, in order
  pub headers : section_headers_of b ≡ p.output_sections
  -- where an executable begins; a library begins nowhere
  pub entry : EntryAgrees l b p
