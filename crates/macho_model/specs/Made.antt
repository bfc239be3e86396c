-- What the linker makes of consumed sections and of the thread-local template, as the file says it: offsets of initializers
-- (`mach-o/loader.h`, `S_INIT_FUNC_OFFSETS`), and section headers of initial values.
use Rattle.std.specs.Prelude.{◌≡◌, ℕ, ◌+◌, ◌-◌, ◌*◌, ◌≤◌, List, length, map, filter, All}
use Rattle.std.specs.List.{range_with_len}
use Rattle.macho_records.specs.Numbers.{le_at}
use Rattle.macho_records.specs.Sections.{type_of, is_template_type}
use Rattle.macho_records.specs.declared.header.SectionHeader.{SectionHeader}
use Rattle.macho_model.specs.declared.placed.Range64.{Range64}
use Rattle.macho_model.specs.declared.targets.Target.{Target}
use Rattle.macho_model.specs.Lists.{IsNumber}
use Rattle.macho_model.specs.Links.{Link}
use Rattle.macho_model.specs.Needs.{initializer_relocations}
use Rattle.macho_model.specs.Targets.{targets_at}
use Rattle.macho_model.specs.WrittenSum.{INITIALIZER_SIZE}
use Rattle.macho_model.specs.Placement.{Placed}
use Rattle.macho_model.specs.Addresses.{address_of, offset_in_file}
use Rattle.macho_model.specs.Agreement.{section_headers_of}

-- the initializers, by file, section and slot
unfoldable pub initializers_of : Link → List Target
initializers_of l = targets_at l (initializer_relocations l)

-- the range of initializers holds one offset from the base for each, in order (that it has room for no more is part of the sizes)
abbrev pub InitOffsetsSay : Link → List ℕ → Placed → Type 0
InitOffsetsSay l b p =
    map (λ k. p.base + le_at INITIALIZER_SIZE b (offset_in_file p (p.init_offsets.start + INITIALIZER_SIZE * k)))
    (range_with_len 0 (length (initializers_of l))) ≡ map (address_of p) (initializers_of l)

-- the headers of sections with initial values of thread-local variables
unfoldable pub template_headers : List ℕ → List SectionHeader
template_headers b = filter (λ h. is_template_type (type_of h)) (section_headers_of b)

-- Such headers lie in a range; the first one begins it, the last one ends it.
pub record FillTemplate (headers : List SectionHeader) (r : Range64) : Type 0 where
  pub within : All (λ h. (r.start ≤ h.addr) × (h.addr + h.size ≤ r.end)) headers
  pub begins : (h : SectionHeader) × IsNumber headers 0 h × (h.addr ≡ r.start)
  pub ends : (h : SectionHeader) × IsNumber headers (length headers - 1) h × (h.addr + h.size ≡ r.end)
