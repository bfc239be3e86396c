-- The placement relation: what any placement of a link's parts has to keep, whoever made it and however.
use Rattle.std.specs.Prelude.{◌≡◌, ℕ, ◌+◌, ◌*◌, ◌-◌, ◌%◌, ◌^◌, ◌≤◌, ◌<◌, ◌⊎◌, ◌==◌, ◌&&◌, not, if◌then◌else◌, Bool, true, false, List, [], ◌∷◌, ◌++◌, length, map, filter, get_or, All, AllPairs, Contains, Option, MatchOption}
use Rattle.std.specs.Str.{bytes_eq}
use Rattle.std.specs.List.{range_with_len}
use Rattle.macho_records.specs.ByteLayouts.{size_of}
use Rattle.macho_records.specs.Layouts.{mach_header, segment_command, section_header}
use Rattle.macho_records.specs.declared.header.SectionHeader.{SectionHeader}
use Rattle.macho_model.specs.declared.placed.Counts.{Counts}
use Rattle.macho_model.specs.declared.placed.PlacedSegment.{PlacedSegment}
use Rattle.macho_model.specs.declared.placed.PlacedSection.{PlacedSection}
use Rattle.macho_model.specs.declared.placed.PlacedCommon.{PlacedCommon}
use Rattle.macho_model.specs.declared.placed.Slot.{Slot}
use Rattle.macho_model.specs.declared.placed.Stub.{Stub}
use Rattle.macho_model.specs.declared.placed.Range64.{Range64}
use Rattle.macho_model.specs.declared.placed.Linkedit.{Linkedit}
use Rattle.macho_model.specs.declared.targets.Target.TheVariants as target
use Rattle.macho_records.specs.Sections.{is_zerofill, segment_name_of}
use Rattle.macho_records.specs.Segments.{text_of}
use Rattle.macho_records.specs.Symbols.{common_exponent_of, common_size_of}
use Rattle.macho_model.specs.Lists.{IsNumber, EachNext, of_first}
use Rattle.macho_model.specs.Links.{Link, SectionId, header_at, carried_of, is_template, placed_exponent}
use Rattle.macho_model.specs.Resolution.{SymbolId, entry_at, chosen_commons}
use Rattle.macho_model.specs.Targets.{slots_of, stubs_of, slot_number}
use Rattle.macho_model.specs.Segments.{TEXT, DATA_CONST, DATA, LINKEDIT, SEGMENT_PAGE, base_of_link, segment_rank}
use Rattle.macho_model.specs.WrittenSum.{STUB_SIZE, written_sum_of}
use Rattle.macho_model.specs.Needs.{POINTER_SIZE}

-- A placement in plain lists: where each thing got its addresses and its file range.
pub record Placed : Type 0 where
  pub base : ℕ
  pub segments : List PlacedSegment
  pub sections : List PlacedSection
  pub commons : List PlacedCommon
  pub slots : List Slot
  pub stubs : List Stub
  pub output_sections : List SectionHeader
  pub init_offsets : Range64
  pub unwind : Range64
  pub template : Option Range64
  pub linkedit : Linkedit

-- A piece of the image: a range (of addresses; of file offsets for the tables in `Order`), and its alignment as an exponent of 2.
pub record Piece : Type 0 where
  pub start : ℕ
  pub size : ℕ
  pub exponent : ℕ

abbrev pub end_of_piece : Piece → ℕ
end_of_piece c = c.start + c.size

-- two pieces share no address; an empty one shares none with anything
abbrev pub AreApart : Piece → Piece → Type 0
AreApart a b = (a.size ≡ 0) ⊎ (b.size ≡ 0) ⊎ (end_of_piece a ≤ b.start) ⊎ (end_of_piece b ≤ a.start)

abbrev pub id_of : PlacedSection → SectionId
id_of p = record { file = p.file; section = p.section }

-- the parts of a placement as pieces
abbrev pub section_piece : Link → PlacedSection → Piece
section_piece l p = record { start = p.address; size = (header_at l (id_of p)).size; exponent = placed_exponent l (id_of p) }

-- the symbol of a chosen common by its number
abbrev pub common_of : Link → ℕ → SymbolId
common_of l id = get_or (chosen_commons l) id (record { file = 0; symbol = 0 })

abbrev pub common_piece : Link → PlacedCommon → Piece
common_piece l c =
    let e = entry_at l (common_of l c.id) in record { start = c.address; size = common_size_of e; exponent = common_exponent_of e }

-- slots are pointers of 8 bytes, stubs are instructions of 4
abbrev pub slot_piece : Slot → Piece
slot_piece s = record { start = s.address; size = POINTER_SIZE; exponent = 3 }

abbrev pub stub_piece : Stub → Piece
stub_piece s = record { start = s.address; size = STUB_SIZE; exponent = 2 }

-- a range that the linker fills, with an alignment; 0 where none is asked for
abbrev pub range_piece : ℕ → Range64 → Piece
range_piece exponent r = record { start = r.start; size = r.end - r.start; exponent = exponent }

-- the bytes of header, load commands and the padding behind them
abbrev pub head_size : Counts → Placed → ℕ
head_size counts p =
    size_of mach_header + size_of segment_command * length p.segments + size_of section_header * length p.output_sections
    + counts.commands + counts.padding

abbrev pub is_segment_named : List ℕ → PlacedSegment → Bool
is_segment_named name s = bytes_eq (text_of s.name) name

-- a table of `__LINKEDIT` has a file range; in memory it stands where the segment's file bytes are mapped to (`table_pieces` of `Order` has
-- the tables by file offsets)
abbrev pub mapped_table : Placed → Range64 → Piece
mapped_table p r = record (range_piece 0 r) {
  start = of_first r.start (λ s. s.address + r.start - s.file_offset) (filter (is_segment_named LINKEDIT) p.segments);
}

abbrev pub linkedit_ranges : Placed → List Range64
linkedit_ranges p = p.linkedit.fixups ∷ p.linkedit.trie ∷ p.linkedit.symtab ∷ p.linkedit.strtab ∷ p.linkedit.signature ∷ []

-- all parts, with these of the sections; how the ranges and the tables are aligned is part of their least places, `AreLeast`
unfoldable pub pieces_with : Link → Counts → Placed → List PlacedSection → List Piece
pieces_with l counts p sections =
    record { start = p.base; size = head_size counts p; exponent = 0 } ∷ map (section_piece l) sections ++ map (common_piece l) p.commons
    ++ map slot_piece p.slots ++ map stub_piece p.stubs
    ++ range_piece 0 p.init_offsets ∷ range_piece 0 p.unwind ∷ map (mapped_table p) (linkedit_ranges p)

-- a piece lies in a segment, and in its file part where it has bytes in the file
abbrev pub LiesIn : Bool → Piece → PlacedSegment → Type 0
LiesIn in_file c s = (s.address ≤ c.start) × (end_of_piece c ≤ s.address + (if in_file then s.file_size else s.size))

-- some segment that has this name is such
abbrev pub IsInNamed : Placed → List ℕ → (PlacedSegment → Type 0) → Type 0
IsInNamed p name Such = (s : PlacedSegment) × Contains p.segments s × (is_segment_named name s ≡ true) × Such s

-- a section's segment has the section's segment name and holds it, in its file part if the section has bytes there; an empty section lies
-- anywhere in it
abbrev pub SectionLies : Link → Placed → PlacedSection → Type 0
SectionLies l p q =
    (s : PlacedSegment) × IsNumber p.segments q.segment s × (is_segment_named (segment_name_of (header_at l (id_of q))) s ≡ true)
    × LiesIn (not (is_zerofill (header_at l (id_of q))) && not ((header_at l (id_of q)).size == 0)) (section_piece l q) s

-- each thing of a link has its place, and nothing else has one
pub record IsWholeList (l : Link) (p : Placed) : Type 0 where
  -- the carried sections, by file, then section
  pub sections : map id_of p.sections ≡ carried_of l
  -- the chosen commons, by number
  pub commons : map (λ c. c.id) p.commons ≡ range_with_len 0 (length (chosen_commons l))
  -- the slots, by first need
  pub slots : map (λ s. s.target) p.slots ≡ slots_of l
  -- the stubs, by first call
  pub stubs : map (λ s. target.Import s.import) p.stubs ≡ stubs_of l
  -- each stub goes through the slot of its import
  pub stub_slots : All (λ s. s.slot ≡ slot_number l (target.Import s.import)) p.stubs

-- each part lies whole in its segment; what has bytes in the file lies in its file part
pub record IsInSegment (l : Link) (p : Placed) : Type 0 where
  pub sections : All (SectionLies l p) p.sections
  pub commons : All (λ c. IsInNamed p DATA (LiesIn false (common_piece l c))) p.commons
  pub slots : All (λ s. IsInNamed p DATA_CONST (LiesIn true (slot_piece s))) p.slots
  pub stubs : All (λ s. IsInNamed p TEXT (LiesIn true (stub_piece s))) p.stubs
  -- a range that isn't empty lies in the file part of `__TEXT`; a table that isn't empty lies, by its file offsets, in that of `__LINKEDIT`
  pub ranges : All (λ r. (r.start ≤ r.end) × ((r.end ≡ r.start) ⊎ IsInNamed p TEXT (LiesIn true (range_piece 0 r))))
      (p.init_offsets ∷ p.unwind ∷ [])
  pub linkedit : All (λ r. (r.end ≡ r.start)
      ⊎ IsInNamed p LINKEDIT (λ s. (s.file_offset ≤ r.start) × (r.start ≤ r.end) × (r.end ≤ s.file_offset + s.file_size)))
      (linkedit_ranges p)

-- a segment is made of whole pages, and has at most its memory's bytes in the file
pub record IsPaged (s : PlacedSegment) : Type 0 where
  pub address : s.address % SEGMENT_PAGE ≡ 0
  pub size : s.size % SEGMENT_PAGE ≡ 0
  pub file_offset : s.file_offset % SEGMENT_PAGE ≡ 0
  pub file_size : s.file_size ≤ s.size

-- a segment stands where the one before it ends, in memory and in the file, and behind it in the order of names
pub record Follows (l : Link) (s t : PlacedSegment) : Type 0 where
  pub rank : segment_rank l (text_of s.name) < segment_rank l (text_of t.name)
  pub address : t.address ≡ s.address + s.size
  pub file_offset : t.file_offset ≡ s.file_offset + s.file_size

abbrev pub template_sections : Link → Placed → List PlacedSection
template_sections l p = filter (λ q. is_template (header_at l (id_of q))) p.sections

-- a range holds the whole thread-local template and shares no address with any other part
pub record HoldsTemplate (l : Link) (counts : Counts) (p : Placed) (r : Range64) : Type 0 where
  pub some : 1 ≤ length (template_sections l p)
  pub holds : All (λ q. (r.start ≤ q.address) × (end_of_piece (section_piece l q) ≤ r.end)) (template_sections l p)
  pub apart : All (AreApart (range_piece 0 r)) (pieces_with l counts p (filter (λ q. not (is_template (header_at l (id_of q)))) p.sections))

-- the template is told exactly where it has sections
abbrev pub TemplateHolds : Link → Counts → Placed → Option Range64 → Type 0
TemplateHolds l counts p template = MatchOption template (template_sections l p ≡ []) (HoldsTemplate l counts p)

-- THE placement relation.
pub record IsPlaced (l : Link) (counts : Counts) (p : Placed) : Type 0 where
  -- an executable stands behind its first 4 GiB, a library at 0
  pub base : p.base ≡ base_of_link l
  -- each thing has a place, once, and nothing else has one
  pub whole_list : IsWholeList l p
  -- addresses are multiples of the alignments
  pub aligned : All (λ c. c.start % 2 ^ c.exponent ≡ 0) (pieces_with l counts p p.sections)
  -- each part lies in its segment
  pub in_segment : IsInSegment l p
  -- no two parts share an address
  pub apart : AllPairs AreApart (pieces_with l counts p p.sections)
  -- segments are made of whole pages and stand one behind the other, in the order of their names; `__TEXT` begins at the base, so that all
  -- behind it stand there or later
  pub paged : All IsPaged p.segments
  pub follow : EachNext (Follows l) p.segments
  pub begins : IsInNamed p TEXT (λ s. s.address ≡ base_of_link l)
  -- thread-local initial values stand together, apart from all else
  pub template : TemplateHolds l counts p p.template
  -- the image is no longer than its written sum: every segment ends at most that far behind the base
  pub within_sum : All (λ s. s.address + s.size ≤ p.base + written_sum_of l counts) p.segments
