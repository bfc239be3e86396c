-- The layout of a relocation: its second word packs five fields in bits.
use Rattle.std.specs.Prelude.{◌^◌, ◌<◌, ◌==◌}
use Rattle.macho_bytes.specs.Numbers.{bits}
use Rattle.macho_bytes.specs.Layouts.{Layout, little_record}
use Rattle.macho_wire.specs.declared.relocations.RelocationInfo.{RelocationInfo}

-- `struct relocation_info`, mach-o/reloc.h: in the second word, from its lowest bit, the symbol number has 24 bits, then pcrel 1, length 2,
-- extern 1, type 4
abbrev pub relocation_info : Layout RelocationInfo
relocation_info = little_record 8 (λ n t. record {
  r_address = n 4 0;
  r_symbolnum = bits 0 24 (n 4 4);
  r_pcrel = bits 24 1 (n 4 4) == 1;
  r_length = bits 25 2 (n 4 4);
  r_extern = bits 27 1 (n 4 4) == 1;
  r_type = bits 28 4 (n 4 4);
})

-- each field is below the bound of its bits
pub record BitsFit (r : RelocationInfo) : Type 0 where
  pub symbolnum : r.r_symbolnum < 2 ^ 24
  pub length : r.r_length < 2 ^ 2
  pub type : r.r_type < 2 ^ 4
