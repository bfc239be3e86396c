-- The form of signature that is taken: a linker's (`cs_blobs.h` of xnu), as `Signature` of the model spells it, under any identifier, with
-- any flags and any executable segment.
use Rattle.std.specs.Prelude.{◌≡◌, ℕ, ◌+◌, ◌*◌, ◌≤◌, ◌==◌, nat_le, ◌&&◌, Bool, true, List, [], ◌∷◌, length}
use Rattle.macho_bytes.specs.Numbers.{be_at}
use Rattle.macho_bytes.specs.Layouts.{reading, size_of}
use Rattle.macho_records.specs.CommandLayouts.{code_directory}
use Rattle.macho_records.specs.CodeDirectory.{CodeDirectory}
use Rattle.macho_model.specs.Images.{Table, signatures_of}
use Rattle.macho_model.specs.WrittenSum.{DIGEST_SIZE}
use Rattle.macho_model.specs.Signature.{DIRECTORY_PLACE, page_count}
use Rattle.macho_retool.specs.Parts.{text_end}

-- the code directory of a signature, behind the super blob
abbrev pub directory_in : List ℕ → Table → CodeDirectory
directory_in b t = reading code_directory b (t.at + DIRECTORY_PLACE)

-- the super blob: `CSMAGIC_EMBEDDED_SIGNATURE`, its length, and one blob, of type 0, right behind it: the code directory, which is the rest
-- of that length. It stands inside the range.
abbrev pub super_blob_fits : List ℕ → Table → Bool
super_blob_fits b t =
    (be_at 4 b t.at == 0xfade0cc0) && (be_at 4 b (t.at + 4) == DIRECTORY_PLACE + (directory_in b t).length)
    && (be_at 4 b (t.at + 8) == 1) && (be_at 4 b (t.at + 12) == 0) && (be_at 4 b (t.at + 16) == DIRECTORY_PLACE)
    && nat_le (DIRECTORY_PLACE + (directory_in b t).length) t.size

-- what a code directory says that stands in a signature: `CSMAGIC_CODEDIRECTORY`, version 0x20400, the identifier right behind the record,
-- no special digests, one digest (`CS_HASHTYPE_SHA256`) for each page of 2 ^ 12 bytes in front of the signature, inside the directory,
-- and zeros in what isn't used
abbrev pub directory_says : ℕ → CodeDirectory → Bool
directory_says limit d =
    (d.magic == 0xfade0c02) && (d.version == 0x20400) && (d.ident_offset == size_of code_directory)
    && nat_le (size_of code_directory) d.hash_offset && (d.special_slots == 0) && (d.code_limit == limit) && (d.hash_size == DIGEST_SIZE)
    && (d.hash_type == 2) && (d.platform == 0) && (d.page_exponent == 12) && (d.spare == 0) && (d.scatter_offset == 0)
    && (d.team_offset == 0) && (d.spare2 == 0) && (d.code_limit64 == 0) && (d.code_slots == page_count limit)
    && nat_le (d.hash_offset + DIGEST_SIZE * d.code_slots) d.length

-- THE image is signed in this form, by one signature, which ends the file behind all of `__TEXT`.
pub record IsFormed (b : List ℕ) (t : Table) : Type 0 where
  pub one : signatures_of b ≡ t ∷ []
  pub ends : t.at + t.size ≡ length b
  pub behind : text_end b ≤ t.at
  pub blob : super_blob_fits b t ≡ true
  pub directory : directory_says t.at (directory_in b t) ≡ true

-- where the digests stand in the file
abbrev pub digests_place : List ℕ → Table → ℕ
digests_place b t = t.at + DIRECTORY_PLACE + (directory_in b t).hash_offset
