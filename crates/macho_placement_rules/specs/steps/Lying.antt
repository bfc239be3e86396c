-- What the code's own steps over segments that hold parts say.
use Rattle.std.specs.Prelude.{◌≡◌, ℕ, ◌+◌, ◌≤◌, ◌<◌, ◌==◌, ◌&&◌, not, Bool, List, Contains, length, get_or, true, if◌then◌else◌}
use Rattle.std.specs.Str.{bytes_eq}
use Rattle.macho_records.specs.Segments.{text_of}
use Rattle.macho_model.specs.declared.placed.PlacedSegment.{PlacedSegment}
use Rattle.macho_records.specs.Sections.{is_zerofill_type}
use Rattle.macho_model.specs.declared.placed.PlacedSection.{PlacedSection}
use Rattle.macho_model.specs.declared.placed.Range64.{Range64}
use Rattle.macho_model.specs.Lists.{IsNumber}
use Rattle.macho_model.specs.Segments.{LINKEDIT}
use Rattle.macho_layout.specs.declared.spec.SectionSpec.{SectionSpec}
use Rattle.macho_layout.specs.Members.{type_of_spec}

-- some segment of a name has some addresses, in its file part where these have bytes in the file
abbrev pub HasRoom : Bool → List PlacedSegment → List ℕ → ℕ → ℕ → Type 0
HasRoom in_file segments name start size =
    (s : PlacedSegment) × Contains segments s × (bytes_eq (text_of s.name) name ≡ true)
    × ((s.address ≤ start) × (start + size ≤ s.address + (if in_file then s.file_size else s.size)))

-- some `__LINKEDIT` has some file offsets in its file part
abbrev pub HasTableOf : List PlacedSegment → Range64 → Type 0
HasTableOf segments r =
    (s : PlacedSegment) × Contains segments s × (bytes_eq (text_of s.name) LINKEDIT ≡ true)
    × ((s.file_offset ≤ r.start) × (r.start ≤ r.end) × (r.end ≤ s.file_offset + s.file_size))

-- the segment of a section's number has the segment's name that the plan says and holds the section, in its file part where the section has
-- bytes there
abbrev pub HoldsSection : List PlacedSegment → PlacedSection → SectionSpec → Type 0
HoldsSection segments q t =
    (s : PlacedSegment) × IsNumber segments q.segment s × (bytes_eq (text_of s.name) (text_of t.segment) ≡ true)
    × ((s.address ≤ q.address)
    × (q.address + t.size ≤ s.address + (if not (is_zerofill_type (type_of_spec t)) && not (t.size == 0) then s.file_size else s.size)))

-- so is each of some sections held, beside what the plan says of its number
abbrev pub HoldEach : List PlacedSegment → List PlacedSection → List SectionSpec → Type 0
HoldEach segments qs ts =
    (k : ℕ) (d : PlacedSection) (e : SectionSpec) → k < length qs → HoldsSection segments (get_or qs k d) (get_or ts k e)
