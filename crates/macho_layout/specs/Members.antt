-- The members of output sections.
use Rattle.std.specs.Prelude.{ℕ, ◌==◌, if◌then◌else◌, List, ◌++◌, map, filter, fold, max, ◌%◌}
use Rattle.std.specs.List.{range_with_len, position_or_len}
use Rattle.macho_records.specs.declared.constants.TheConstants.{S_THREAD_LOCAL_VARIABLES}
use Rattle.macho_records.specs.Sections.{is_template_type}
use Rattle.macho_stack.specs.declared.members.Member.{Member}
use Rattle.macho_layout.specs.declared.spec.SectionSpec.{SectionSpec}
use Rattle.macho_layout.specs.declared.spec.CommonSpec.{CommonSpec}
use Rattle.macho_layout.specs.Plans.{Planning}
use Rattle.macho_layout.specs.Keys.{same_output, output_key_of}
use Rattle.macho_layout.specs.Names.{section_outputs, merged_count, output_at, common_output}

abbrev pub type_of_spec : SectionSpec → ℕ
type_of_spec s = s.flags % 256

-- the alignment of the template
unfoldable pub template_align : Planning → ℕ
template_align p = fold max 0 (map (λ s. s.align) (filter (λ s. is_template_type (type_of_spec s)) p.sections))

-- the alignment that a section is placed at, beside a template of this alignment
abbrev pub placed_align : ℕ → SectionSpec → ℕ
placed_align template s =
    if is_template_type (type_of_spec s) then template
    else if type_of_spec s == S_THREAD_LOCAL_VARIABLES then max s.align 3 else s.align

abbrev pub section_member : Planning → SectionSpec → Member
section_member p s = record {
  cell = position_or_len (same_output (output_key_of s)) (section_outputs p);
  exponent = placed_align (template_align p) s;
  flags = s.flags;
  size = s.size;
}

abbrev pub common_member : Planning → CommonSpec → Member
common_member p c = record { cell = common_output p; exponent = c.align; flags = 0; size = c.size }

unfoldable pub members_of : Planning → List Member
members_of p = map (section_member p) p.sections ++ map (common_member p) p.commons

-- the types of the output sections
unfoldable pub first_flags : Planning → List ℕ
first_flags p = map (λ number. (output_at p number).kind) (range_with_len 0 (merged_count p))
