-- The carried sections of views of objects, as a plan has them.
use Rattle.std.specs.Prelude.{◌≡◌, ℕ, ◌≤◌, true, bytes_eq, List, [], length, get_or, map, filter, Option, Some, None}
use Rattle.std.specs.List.{flat_map, range_with_len}
use Rattle.macho_records.specs.declared.header.SectionHeader.{SectionHeader}
use Rattle.macho_records.specs.Segments.{name_field}
use Rattle.macho_records.specs.Sections.{type_of, segment_name_of}
use Rattle.macho_model.specs.ObjectRules.{is_thread_local}
use Rattle.macho_model.specs.Segments.{DATA}
use Rattle.macho_model.specs.Objects.{num_sections, section_at}
use Rattle.macho_model.specs.Links.{Link, is_carried, carried_of}
use Rattle.macho_object.specs.Views.{FileBytes}
use Rattle.macho_layout.specs.Plans.{spec_of}
use Rattle.macho_promise.specs.Views.{views_of}
use Rattle.macho_layout.specs.declared.spec.SectionSpec.{SectionSpec}

-- a section of a file with this header
abbrev pub spec_for : ℕ → ℕ → SectionHeader → SectionSpec
spec_for file section h = record {
  file = file;
  section = section;
  segment = record { 0 = name_field h.segname };
  name = h.sectname;
  flags = h.flags;
  align = h.align;
  size = h.size;
}

-- the numbers of the carried sections of an object, of those below a count
abbrev pub carried_below : List ℕ → ℕ → List ℕ
carried_below bytes count = filter (λ k. is_carried (section_at bytes k)) (range_with_len 0 count)

abbrev pub specs_below : ℕ → List ℕ → ℕ → List SectionSpec
specs_below file bytes count = map (λ k. spec_for file k (section_at bytes k)) (carried_below bytes count)

-- those of a file, none of what is no object
abbrev pub specs_of_view : ℕ → Option FileBytes → List SectionSpec
specs_of_view file None = []
specs_of_view file (Some f) = specs_below file f.bytes (num_sections f.bytes)

-- and of all files, in order
unfoldable pub specs_of_views : List (Option FileBytes) → List SectionSpec
specs_of_views views = flat_map (λ i. specs_of_view i (get_or views i None)) (range_with_len 0 (length views))

-- A header keeps the rules of objects on alignments and on thread-local sections.
pub record KeepsRules (h : SectionHeader) : Type 0 where
  pub aligned : h.align ≤ 14
  pub thread_local : is_thread_local (type_of h) ≡ true → bytes_eq (segment_name_of h) DATA ≡ true

-- the sections of a link's views are those of the link's plan
abbrev pub SectionsArePlanned : Type 0
SectionsArePlanned = (l : Link) → specs_of_views (views_of l) ≡ map (spec_of l) (carried_of l)
