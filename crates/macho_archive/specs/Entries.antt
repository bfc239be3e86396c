-- The entries of an archive (`ar(5)`, `mach-o/ranlib.h`, and for the names of GNU's `ar` LLVM's `llvm/Object/Archive.h`): a header of 60
-- bytes, and behind it the contents. The header has the fields name (16 bytes), date (12), owner (6), group (6), mode (8), size (10) and
-- an end of two bytes.
use Rattle.std.specs.Prelude.{ℕ, ◌+◌, ◌-◌, ◌%◌, ◌==◌, nat_eq, nat_le, ◌&&◌, ◌||◌, not, Bool, if◌then◌else◌, List, [], length, drop, take, slice_range, codes, Option, Some, None, is_some}
use Rattle.std.specs.Option.{option_and_then, unwrap_or}
use Rattle.std.specs.List.{before_first, list_any, starts_with, ends_with}
use Rattle.std.specs.Str.{bytes_eq}
use Rattle.macho_archive.specs.Fields.{SPACE, trimmed, decimal_of}
use Rattle.macho_archive.specs.declared.fault.ArchiveRule.{ArchiveRule}
use Rattle.macho_archive.specs.declared.fault.ArchiveRule.TheVariants.{A1, A2, A3, A4, A5, A6}

-- what an archive begins with
abbrev pub MAGIC : List ℕ
MAGIC = codes "!<arch>\n"

-- the bytes of a header
abbrev pub HEADER_SIZE : ℕ
HEADER_SIZE = 60

-- the field of the name
unfoldable pub stem_at : List ℕ → ℕ → List ℕ
stem_at b at = trimmed SPACE (slice_range b at (at + 16))

-- the number in the field of the size
unfoldable pub stated_size : List ℕ → ℕ → Option ℕ
stated_size b at = decimal_of (trimmed SPACE (slice_range b (at + 48) (at + 58)))

-- the size of the contents
abbrev pub size_at : List ℕ → ℕ → ℕ
size_at b at = unwrap_or (stated_size b at) 0

-- the place behind the contents
abbrev pub end_at : List ℕ → ℕ → ℕ
end_at b at = at + HEADER_SIZE + size_at b at

-- the contents
unfoldable pub contents_at : List ℕ → ℕ → List ℕ
contents_at b at = slice_range b (at + HEADER_SIZE) (end_at b at)

-- where the next entry begins: at the next even place
unfoldable pub next_of : List ℕ → ℕ → ℕ
next_of b at = end_at b at + end_at b at % 2

-- an entry with no name of its own: a table of symbols, of 32 or of 64 bits, or the table of names
abbrev pub is_table_of_names : List ℕ → Bool
is_table_of_names stem = bytes_eq stem (codes "//")

unfoldable pub is_special : List ℕ → Bool
is_special stem = bytes_eq stem (codes "/") || (is_table_of_names stem || bytes_eq stem (codes "/SYM64/"))

-- the names of BSD's tables of symbols
unfoldable pub is_symbol_table : List ℕ → Bool
is_symbol_table name =
    bytes_eq name (codes "__.SYMDEF")
    || (bytes_eq name (codes "__.SYMDEF SORTED") || (bytes_eq name (codes "__.SYMDEF_64") || bytes_eq name (codes "__.SYMDEF_64 SORTED")))

-- A name of BSD: `#1/` and a number say how many bytes of the contents are the name. NULs at its end are left out.
unfoldable pub is_bsd : List ℕ → Bool
is_bsd stem = starts_with nat_eq stem (codes "#1/")

unfoldable pub bsd_width : List ℕ → Option ℕ
bsd_width stem = decimal_of (drop 3 stem)

unfoldable pub bsd_name : List ℕ → List ℕ → Option (List ℕ)
bsd_name stem contents =
    option_and_then (λ n. if nat_le n (length contents) then Some (trimmed 0 (take n contents)) else None) (bsd_width stem)

-- a text without the `/` that it ends with
unfoldable pub without_slash : List ℕ → Option (List ℕ)
without_slash text = if ends_with nat_eq text (codes "/") then Some (take (length text - 1) text) else None

-- the line that a text begins with, which has to end
unfoldable pub first_line : List ℕ → Option (List ℕ)
first_line text = if list_any (λ b. b == 10) text then Some (before_first (λ b. b == 10) text) else None

-- A long name of GNU: `/` and a number say where the name begins in the table of names. It ends there by `/` and a line feed.
unfoldable pub is_gnu : List ℕ → Bool
is_gnu stem = starts_with nat_eq stem (codes "/") && not (is_special stem)

unfoldable pub gnu_name : List ℕ → List ℕ → Option (List ℕ)
gnu_name stem table = option_and_then (λ n. option_and_then without_slash (first_line (drop n table))) (decimal_of (drop 1 stem))

-- THE name of an entry, by the field of its name, its contents, and the table of names in front of it. A short name of GNU ends by `/`; any
-- other is the field.
unfoldable pub name_in : List ℕ → List ℕ → List ℕ → Option (List ℕ)
name_in stem contents table =
    if is_bsd stem then bsd_name stem contents
    else (if is_gnu stem then gnu_name stem table else Some (unwrap_or (without_slash stem) stem))

-- how many bytes of the contents are the name
unfoldable pub width_in : List ℕ → ℕ
width_in stem = if is_bsd stem then unwrap_or (bsd_width stem) 0 else 0

-- A member: its name, the place of its bytes, and these.
pub record Content : Type 0 where
  pub name : List ℕ
  pub place : ℕ
  pub bytes : List ℕ

-- the name of the entry at a place, behind a table of names
abbrev pub name_at : List ℕ → List ℕ → ℕ → Option (List ℕ)
name_at b table at = name_in (stem_at b at) (contents_at b at) table

-- THE entry at a place as a member
unfoldable pub member_at : List ℕ → List ℕ → ℕ → Content
member_at b table at =
    record {
      name = unwrap_or (name_at b table at) [];
      place = at + HEADER_SIZE + width_in (stem_at b at);
      bytes = drop (width_in (stem_at b at)) (contents_at b at);
    }

-- the entry at a place is passed over: it is no member
unfoldable pub is_passed : List ℕ → List ℕ → ℕ → Bool
is_passed b table at = is_special (stem_at b at) || is_symbol_table (unwrap_or (name_at b table at) [])

-- the archive keeps a rule, at the entry at a place
abbrev pub keeps : List ℕ → List ℕ → ℕ → ArchiveRule → Bool
keeps b table at A1 = starts_with nat_eq b MAGIC
keeps b table at A2 = nat_le (at + HEADER_SIZE) (length b)
keeps b table at A3 = bytes_eq (slice_range b (at + 58) (at + 60)) (codes "`\n")
keeps b table at A4 = is_some (stated_size b at) && nat_le (end_at b at) (length b)
keeps b table at A5 = not (is_bsd (stem_at b at)) || is_some (bsd_name (stem_at b at) (contents_at b at))
keeps b table at A6 = not (is_gnu (stem_at b at)) || is_some (gnu_name (stem_at b at) table)
