-- What the code's own steps over pieces say.
use Rattle.std.specs.Prelude.{ℕ, ◌+◌, ◌-◌, List, [], ◌∷◌, ◌++◌, map, filter, fold, max, length, get_or}
use Rattle.std.specs.List.{range_with_len}
use Rattle.macho_records.specs.Sections.{is_template_type}
use Rattle.macho_model.specs.declared.placed.Counts.{Counts}
use Rattle.macho_model.specs.declared.placed.PlacedSegment.{PlacedSegment}
use Rattle.macho_model.specs.declared.placed.PlacedSection.{PlacedSection}
use Rattle.macho_model.specs.declared.placed.PlacedCommon.{PlacedCommon}
use Rattle.macho_model.specs.declared.placed.Slot.{Slot}
use Rattle.macho_model.specs.declared.placed.Stub.{Stub}
use Rattle.macho_model.specs.declared.placed.Range64.{Range64}
use Rattle.macho_model.specs.declared.placed.Linkedit.{Linkedit}
use Rattle.macho_model.specs.Lists.{of_first}
use Rattle.macho_model.specs.Segments.{LINKEDIT}
use Rattle.macho_model.specs.Placement.{Placed, Piece, range_piece, head_size, is_segment_named}
use Rattle.macho_layout.specs.declared.spec.SectionSpec.{SectionSpec}
use Rattle.macho_layout.specs.declared.spec.CommonSpec.{CommonSpec}
use Rattle.macho_layout.specs.Members.{type_of_spec, placed_align}
use Rattle.macho_placement_rules.specs.declared.parts.Part.{Part}

-- the alignment of the template
abbrev pub template_exponent_of : List SectionSpec → ℕ
template_exponent_of specs = fold max 0 (map (λ s. s.align) (filter (λ s. is_template_type (type_of_spec s)) specs))

-- a section as a part
abbrev pub section_part : ℕ → PlacedSection → SectionSpec → Part
section_part template q s = record { start = q.address; size = s.size; exponent = placed_align template s }

-- nothing, in place of what isn't there
abbrev pub no_section : PlacedSection
no_section = record { file = 0; section = 0; segment = 0; address = 0 }

abbrev pub no_spec : SectionSpec
no_spec = record { file = 0; section = 0; segment = record { 0 = [] }; name = []; flags = 0; align = 0; size = 0 }

-- the sections as parts
abbrev pub section_parts : ℕ → List SectionSpec → List PlacedSection → List Part
section_parts template specs qs =
    map (λ k. section_part template (get_or qs k no_section) (get_or specs k no_spec)) (range_with_len 0 (length qs))

-- commons, slots and stubs as parts
abbrev pub common_part : List CommonSpec → PlacedCommon → Part
common_part specs c =
    let s = get_or specs c.id (record { id = 0; size = 0; align = 0 }) in record { start = c.address; size = s.size; exponent = s.align }

abbrev pub slot_part : Slot → Part
slot_part s = record { start = s.address; size = 8; exponent = 3 }

abbrev pub stub_part : Stub → Part
stub_part s = record { start = s.address; size = 12; exponent = 2 }

-- a table as a piece
abbrev pub table_piece : List PlacedSegment → Range64 → Piece
table_piece segments r = record (range_piece 0 r) {
  start = of_first r.start (λ s. s.address + r.start - s.file_offset) (filter (is_segment_named LINKEDIT) segments);
}

-- a piece as a part
abbrev pub as_part : Piece → Part
as_part c = record { start = c.start; size = c.size; exponent = c.exponent }

-- the tables of `__LINKEDIT`, in the order of their commands
abbrev pub tables_of : Linkedit → List Range64
tables_of t = t.fixups ∷ t.trie ∷ t.symtab ∷ t.strtab ∷ t.signature ∷ []

-- all parts of a placement
unfoldable pub made_parts : Counts → Placed → List SectionSpec → List CommonSpec → List Part
made_parts counts p specs commons =
    record { start = p.base; size = head_size counts p; exponent = 0 } ∷ section_parts (template_exponent_of specs) specs p.sections
    ++ map (common_part commons) p.commons ++ map slot_part p.slots ++ map stub_part p.stubs
    ++ as_part (range_piece 0 p.init_offsets) ∷ as_part (range_piece 0 p.unwind)
    ∷ map (λ r. as_part (table_piece p.segments r)) (tables_of p.linkedit)
