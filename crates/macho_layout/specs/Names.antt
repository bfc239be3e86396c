-- The names of segments and output sections of a plan.
use Rattle.std.specs.Prelude.{ℕ, ◌+◌, ◌==◌, ◌&&◌, ◌||◌, not, Bool, List, [], ◌∷◌, ◌++◌, filter, length, get_or, codes}
use Rattle.std.specs.List.{list_any, position_or_len}
use Rattle.macho_records.specs.declared.segments.SegmentName.{SegmentName}
use Rattle.macho_records.specs.declared.constants.TheConstants.{S_ZEROFILL}
use Rattle.macho_records.specs.Segments.{text_of}
use Rattle.macho_model.specs.Segments.{TEXT, DATA_CONST, DATA, is_known_segment, list_if, one_if}
use Rattle.macho_layout.specs.declared.spec.OutputName.{OutputName}
use Rattle.macho_layout.specs.Plans.{Planning}
use Rattle.macho_layout.specs.Keys.{padded, same_segment, same_output, segments_seen, outputs_seen}

-- the segments of the sections, as first seen
abbrev pub section_segments : Planning → List SegmentName
section_segments p = segments_seen p.sections

abbrev pub has_segment : Planning → SegmentName → Bool
has_segment p name = list_any (same_segment name) (section_segments p)

abbrev pub has_data_const : Planning → Bool
has_data_const p = not (length p.slots == 0) || has_segment p (padded DATA_CONST)

abbrev pub has_data : Planning → Bool
has_data p = not (length p.commons == 0) || has_segment p (padded DATA)

-- the segments without a place of their own in the order
abbrev pub is_other : SegmentName → Bool
is_other name = not (is_known_segment (text_of name))

-- the segments that are mapped from the file, in order, without `__LINKEDIT`
unfoldable pub mapped_names : Planning → List SegmentName
mapped_names p =
    padded TEXT ∷ [] ++ list_if (has_data_const p) (padded DATA_CONST ∷ []) ++ list_if (has_data p) (padded DATA ∷ [])
    ++ filter is_other (section_segments p)

abbrev pub segment_count : Planning → ℕ
segment_count p = length (mapped_names p) + 1 + one_if p.executable

-- the names that sections are merged by, as first seen
abbrev pub section_outputs : Planning → List OutputName
section_outputs p = outputs_seen p.sections

abbrev pub COMMON_NAME : OutputName
COMMON_NAME = record { segment = padded DATA; name = padded (codes "__common"); kind = S_ZEROFILL }

abbrev pub has_new_commons : Planning → Bool
has_new_commons p = not (length p.commons == 0) && not (list_any (same_output COMMON_NAME) (section_outputs p))

-- with that of the commons
abbrev pub merged_names : Planning → List OutputName
merged_names p = section_outputs p ++ list_if (has_new_commons p) (COMMON_NAME ∷ [])

abbrev pub merged_count : Planning → ℕ
merged_count p = length (section_outputs p) + one_if (has_new_commons p)

abbrev pub output_at : Planning → ℕ → OutputName
output_at p number = get_or (section_outputs p) number COMMON_NAME

abbrev pub common_output : Planning → ℕ
common_output p = position_or_len (same_output COMMON_NAME) (section_outputs p)
