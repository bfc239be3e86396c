-- Where the parts of a link are by a placement of them: addresses before any slide, and offsets in the file.
use Rattle.std.specs.Prelude.{ℕ, ◌+◌, ◌-◌, ◌==◌, ◌&&◌, nat_le, nat_lt, filter}
use Rattle.macho_model.specs.declared.targets.Target.{Target}
use Rattle.macho_model.specs.declared.targets.Target.TheVariants as target
use Rattle.macho_model.specs.Lists.{of_first}
use Rattle.macho_model.specs.Targets.{same_target}
use Rattle.macho_model.specs.Placement.{Placed}

-- the address of a section, of a chosen common by its number, and of the slot of a target; 0 where it has no place
unfoldable pub section_address : Placed → ℕ → ℕ → ℕ
section_address p file section = of_first 0 (λ q. q.address) (filter (λ q. (q.file == file) && (q.section == section)) p.sections)

unfoldable pub common_address : Placed → ℕ → ℕ
common_address p id = of_first 0 (λ c. c.address) (filter (λ c. c.id == id) p.commons)

unfoldable pub slot_address : Placed → Target → ℕ
slot_address p t = of_first 0 (λ s. s.address) (filter (λ s. same_target s.target t) p.slots)

-- the address of a target that is in the image, or its value; 0 for an import, which is elsewhere
abbrev pub address_of : Placed → Target → ℕ
address_of p (target.Section file section offset) = section_address p file section + offset
address_of p (target.Common id) = common_address p id
address_of p target.Base = p.base
address_of p (target.Absolute value) = value
address_of p t = 0

-- the file offset of the byte at an address, 0 where no byte of the file is mapped there
unfoldable pub offset_in_file : Placed → ℕ → ℕ
offset_in_file p a =
    of_first 0 (λ s. s.file_offset + (a - s.address)) (filter (λ s. nat_le s.address a && nat_lt a (s.address + s.file_size)) p.segments)
