-- Output sections as cells.
use Rattle.std.specs.Prelude.{ℕ, ◌+◌, ◌*◌, ◌<◌, ◌^◌, ◌==◌, nat_lt, not, ◌||◌, if◌then◌else◌, Bool, List, [], ◌∷◌, ◌++◌, map, length}
use Rattle.std.specs.List.{range_with_len, position_or_len}
use Rattle.macho_records.specs.declared.segments.SegmentName.{SegmentName}
use Rattle.macho_records.specs.declared.constants.TheConstants.{S_THREAD_LOCAL_REGULAR, S_THREAD_LOCAL_ZEROFILL}
use Rattle.macho_records.specs.Sections.{is_zerofill_type, has_instructions}
use Rattle.macho_model.specs.declared.placed.Counts.{Counts}
use Rattle.macho_model.specs.Segments.{TEXT, DATA, list_if}
use Rattle.macho_stack.specs.declared.members.Extent.{Extent}
use Rattle.macho_stack.specs.declared.place.Cell.{Cell}
use Rattle.macho_stack.specs.Stacks.{extent_at}
use Rattle.macho_layout.specs.declared.spec.OutputName.{OutputName}
use Rattle.macho_layout.specs.Plans.{Planning}
use Rattle.macho_layout.specs.Keys.{padded, same_segment, same_output}
use Rattle.macho_layout.specs.Names.{COMMON_NAME, output_at}

abbrev pub class_of_data : OutputName → Bool → ℕ
class_of_data name zeros =
    if not zeros then (if name.kind == S_THREAD_LOCAL_REGULAR then 5 else 4)
    else if name.kind == S_THREAD_LOCAL_ZEROFILL then 6
    else if same_output name COMMON_NAME then 7 else 8

-- the class of a merged output section in its segment
abbrev pub class_of : OutputName → ℕ → ℕ
class_of name flags =
    if same_segment name.segment (padded TEXT) then (if is_zerofill_type name.kind then 8 else if has_instructions flags then 0 else 4)
    else if same_segment name.segment (padded DATA) then class_of_data name (is_zerofill_type name.kind)
    else if is_zerofill_type name.kind then 8 else 4

abbrev pub segment_number : List SegmentName → SegmentName → ℕ
segment_number names name = position_or_len (λ other. same_segment other name) names

abbrev pub merged_cell : Planning → List SegmentName → ℕ → Extent → Cell
merged_cell p names number extent = record {
  number = number;
  rank = 9 * segment_number names (output_at p number).segment + class_of (output_at p number) extent.flags;
  exponent = extent.exponent;
  size = extent.size;
}

-- a cell where it isn't empty
abbrev pub cell_if : Cell → List Cell
cell_if c = list_if (nat_lt 0 c.size) (c ∷ [])

abbrev pub text_cell : ℕ → ℕ → ℕ → Cell
text_cell number rank size = record { number = number; rank = rank; exponent = 2; size = size }

-- what the linker makes, numbered from a number on
abbrev pub made_cells : Planning → Counts → ℕ → List Cell
made_cells p counts first =
    cell_if (text_cell (first + 0) 1 (4 * counts.initializers)) ++ cell_if (text_cell (first + 1) 2 counts.unwind)
    ++ cell_if (text_cell (first + 2) 3 (12 * length p.stubs))
    ++ cell_if (record { number = first + 3; rank = 12; exponent = 3; size = 8 * length p.slots })

-- the sizes of what the linker makes fit their type
pub record FitSizes (p : Planning) (counts : Counts) : Type 0 where
  pub initializers : 4 * counts.initializers < 2 ^ 64
  pub stubs : 12 * length p.stubs < 2 ^ 64
  pub slots : 8 * length p.slots < 2 ^ 64

-- all cells
unfoldable pub cells_of : Planning → Counts → List SegmentName → List Extent → List Cell
cells_of p counts names extents =
    map (λ number. merged_cell p names number (extent_at extents number)) (range_with_len 0 (length extents))
    ++ made_cells p counts (length extents)

-- the classes of the template
abbrev pub is_template_class : ℕ → Bool
is_template_class class = class == 5 || class == 6
