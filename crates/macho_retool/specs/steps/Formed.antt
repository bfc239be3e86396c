-- What the look-up of a signature answers.
use Rattle.std.specs.Prelude.{◌≡◌, ℕ, ◌+◌, ◌==◌, nat_le, ◌&&◌, Bool, List, [], ◌∷◌, Option, Some, None}
use Rattle.macho_bytes.specs.Numbers.{be_at}
use Rattle.macho_loader.specs.declared.commands.LinkeditRange.{LinkeditRange}
use Rattle.macho_model.specs.Images.{Table, signatures_of}
use Rattle.macho_retool.specs.declared.form.Form.{Form}
use Rattle.macho_retool.specs.Forms.{IsFormed, directory_in}

-- the range that a command gives, as a table
abbrev pub table_in : LinkeditRange → Table
table_in range = record { at = range.at; size = range.size }

-- the super blob of a range, in front of a code directory of so many bytes
abbrev pub super_blob_of : List ℕ → ℕ → ℕ → ℕ → Bool
super_blob_of b at size length =
    (be_at 4 b at == 0xfade0cc0) && (be_at 4 b (at + 4) == 20 + length) && (be_at 4 b (at + 8) == 1) && (be_at 4 b (at + 12) == 0)
    && (be_at 4 b (at + 16) == 20) && nat_le (20 + length) size

-- a form says where a signature begins, and where its digests stand in it
abbrev pub SaysForm : List ℕ → Table → Form → Type 0
SaysForm b t form = (form.limit ≡ t.at) × (form.hashes_offset ≡ 20 + (directory_in b t).hash_offset)

-- a range is a signature of the form, if it is the one of the image; or it is none
abbrev pub IsFormHere : List ℕ → Table → Option Form → Type 0
IsFormHere b t (Some form) = (signatures_of b ≡ t ∷ [] → IsFormed b t) × SaysForm b t form
IsFormHere b t None = IsFormed b t → ⊥

-- the image's signature has the form; or it has none of the form
abbrev pub IsFormIn : List ℕ → Option Form → Type 0
IsFormIn b (Some form) = (t : Table) × IsFormed b t × SaysForm b t form
IsFormIn b None = (t : Table) → IsFormed b t → ⊥
