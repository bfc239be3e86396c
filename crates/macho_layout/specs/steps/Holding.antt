-- A plan as its tables hold it: what is true of them between two calls.
use Rattle.std.specs.Prelude.{◌≡◌, ◌≤◌, ◌<◌, List, length, All}
use Rattle.std.specs.List.{position_or_len}
use Rattle.macho_records.specs.declared.segments.SegmentName.{SegmentName}
use Rattle.macho_layout.specs.declared.spec.SectionSpec.{SectionSpec}
use Rattle.macho_layout.specs.declared.spec.CommonSpec.{CommonSpec}
use Rattle.macho_layout.specs.declared.spec.OutputName.{OutputName}
use Rattle.macho_layout.specs.declared.spec.Planned.{Planned}
use Rattle.macho_layout.specs.Plans.{MayStand}
use Rattle.macho_layout.specs.Keys.{same_output, output_key_of, segments_seen, outputs_seen, specs_of}

-- the tables hold the names of the sections, as first seen, and each section the number of its output section
pub record HoldNames (sections : List Planned) (keys : List OutputName) (segments : List SegmentName) : Type 0 where
  pub keys_are : keys ≡ outputs_seen (specs_of sections)
  pub segments_are : segments ≡ segments_seen (specs_of sections)
  pub outputs : All (λ s. s.output ≡ position_or_len (same_output (output_key_of s.spec)) keys) sections
  pub within : All (λ s. s.output < length keys) sections

-- what is asked of the parts of a plan
pub record AreSound (sections : List SectionSpec) (commons : List CommonSpec) : Type 0 where
  pub sections_small : All (λ s. s.align ≤ 14) sections
  pub commons_small : All (λ c. c.align ≤ 14) commons
  pub places : All MayStand sections
