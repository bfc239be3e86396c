-- The consumed sections of the files that are viewed, in order.
use Rattle.std.specs.Prelude.{ℕ, List, [], map, filter, Option, Some, None, get_or}
use Rattle.std.specs.List.{flat_map, range_with_len}
use Rattle.macho_object.specs.Views.{FileBytes}
use Rattle.macho_model.specs.Objects.{num_sections, section_at}
use Rattle.macho_model.specs.Links.{SectionId}
use Rattle.macho_consumed.specs.declared.listing.Kind.{Kind}
use Rattle.macho_consumed.specs.declared.listing.SectionRef.{SectionRef}
use Rattle.macho_consumed.specs.Kinds.{is_of_kind}

abbrev pub ref : ℕ → ℕ → SectionRef
ref file k = record { file = file; section = k }

abbrev pub id_of_ref : SectionRef → SectionId
id_of_ref s = record { file = s.file; section = s.section }

-- the sections of a kind, of a file, and of the files before a number
unfoldable pub refs_in : Kind → ℕ → List ℕ → ℕ → List SectionRef
refs_in kind file b n = map (ref file) (filter (λ k. is_of_kind kind (section_at b k)) (range_with_len 0 n))

abbrev pub refs_of_file : Kind → ℕ → Option FileBytes → List SectionRef
refs_of_file kind file None = []
refs_of_file kind file (Some f) = refs_in kind file f.bytes (num_sections f.bytes)

unfoldable pub refs_of : Kind → List (Option FileBytes) → ℕ → List SectionRef
refs_of kind files n = flat_map (λ i. refs_of_file kind i (get_or files i None)) (range_with_len 0 n)

-- the bytes of a file that is viewed, none of another
abbrev pub bytes_viewed : Option FileBytes → List ℕ
bytes_viewed None = []
bytes_viewed (Some f) = f.bytes

abbrev pub bytes_in : List (Option FileBytes) → ℕ → List ℕ
bytes_in files i = bytes_viewed (get_or files i None)
