-- What the definitions of a changed name say of small numbers, by computing. The numbers are those of the smallest program with an import:
-- load commands up to 768, where the first section begins, a signature at 0x8100, and `/usr/lib/libSystem.B.dylib` of 56 bytes at 640.
use Rattle.std.proofs.Common.{◌≡◌, ℕ, true, false, [], ◌∷◌, length, refl}
use Rattle.std.specs.Global.{Vec}
use Rattle.macho_records.specs.CodeDirectory.{CodeDirectory}
use Rattle.macho_model.specs.Commands.{Command}
use Rattle.macho_retool.specs.declared.change.Change.TheVariants.{Id, Library, Rpath}
use Rattle.macho_retool.specs.declared.parts.FilePart.{FilePart}
use Rattle.macho_retool.specs.Changes.{new_size, moved}
use Rattle.macho_retool.specs.Parts.{is_in_way, begins_from, least}
use Rattle.macho_retool.specs.Forms.{directory_says}

-- names of 23, 31 and 32 bytes, and an empty one
pub size_of_23 : (name : Vec ℕ) → length name.items ≡ 23 → new_size (Library 1 name) ≡ 48
size_of_23 name long = rw long refl

pub size_of_31 : (name : Vec ℕ) → length name.items ≡ 31 → new_size (Library 1 name) ≡ 56
size_of_31 name long = rw long refl

pub size_of_32 : (name : Vec ℕ) → length name.items ≡ 32 → new_size (Id name) ≡ 64
size_of_32 name long = rw long refl

pub size_of_none : (name : Vec ℕ) → length name.items ≡ 0 → new_size (Rpath 2 name) ≡ 16
size_of_none name long = rw long refl

abbrev library : Command
library = record { at = 640; number = 0xc; size = 56 }

-- the command behind it comes nearer by eight bytes, the one in front of it stays
pub behind_moves : (name : Vec ℕ) → length name.items ≡ 23
    → moved (Library 1 name) library (record { at = 696; number = 0x80000034; size = 16 }) ≡
    record { at = 688; number = 0x80000034; size = 16 }
behind_moves name long = rw long refl

pub front_stays : (name : Vec ℕ) → moved (Library 1 name) library (record { at = 608; number = 0xe; size = 32 }) ≡
    record { at = 608; number = 0xe; size = 32 }
front_stays name = refl

-- a section that begins where the commands end isn't in the way, one that begins a byte before is, and an empty one never
abbrev section_at : ℕ → ℕ → FilePart
section_at at size = record { at = at; size = size; fixed = false }

pub clear_section : is_in_way 768 0x8100 (section_at 768 8) ≡ false
clear_section = refl

pub early_section : is_in_way 768 0x8100 (section_at 767 8) ≡ true
early_section = refl

pub empty_section : is_in_way 768 0x8100 (section_at 0 0) ≡ false
empty_section = refl

-- a fixup table may end where the signature begins, and not a byte behind
pub fixups_in_front : is_in_way 768 0x8100 (record { at = 0x8000; size = 0x100; fixed = true }) ≡ false
fixups_in_front = refl

pub fixups_too_long : is_in_way 768 0x8100 (record { at = 0x8000; size = 0x101; fixed = true }) ≡ true
fixups_too_long = refl

-- the room is up to the first section, wherever it stands in the list
pub room_row : least 0x4000 (begins_from 768 (section_at 0x4000 8 ∷ section_at 776 12 ∷ section_at 768 8 ∷ section_at 0 0 ∷ [])) ≡ 768
room_row = refl

-- the code directory of the program, under any flags; a digest of another type isn't taken, nor digests that begin in the record
abbrev directory : ℕ → ℕ → ℕ → CodeDirectory
directory flags hash_offset hash_type =
    record {
      magic = 0xfade0c02;
      length = 392;
      version = 0x20400;
      flags = flags;
      hash_offset = hash_offset;
      ident_offset = 88;
      special_slots = 0;
      code_slots = 9;
      code_limit = 0x8100;
      hash_size = 32;
      hash_type = hash_type;
      platform = 0;
      page_exponent = 12;
      spare = 0;
      scatter_offset = 0;
      team_offset = 0;
      spare2 = 0;
      code_limit64 = 0;
      exec_base = 0;
      exec_limit = 0x4000;
      exec_flags = 1;
    }

pub a_linkers : directory_says 0x8100 (directory 0x20002 104 2) ≡ true
a_linkers = refl

pub ad_hoc : directory_says 0x8100 (directory 2 104 2) ≡ true
ad_hoc = refl

pub other_digest : directory_says 0x8100 (directory 0x20002 104 1) ≡ false
other_digest = refl

pub digests_in_record : directory_says 0x8100 (directory 0x20002 87 2) ≡ false
digests_in_record = refl

pub digests_behind : directory_says 0x8100 (directory 0x20002 105 2) ≡ false
digests_behind = refl
