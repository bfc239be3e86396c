-- Keys and their values on a line: `key: value`.
use Rattle.std.specs.Prelude.{ℕ, ◌+◌, Bool, true, false, ◌&&◌, ◌||◌, not, List, [], take, drop, Option, Some, None, Ok, ◌==◌, slice_index, if◌then◌else◌, codes}
use Rattle.std.specs.List.{prefix_len}
use Rattle.std.specs.Char.{is_ascii_digit}
use Rattle.std.specs.Str.{bytes_eq}
use Rattle.macho_stub_lines.specs.declared.keys.ItemKind.{ItemKind}
use Rattle.macho_stub_lines.specs.declared.keys.ItemKind.TheVariants.{Libraries, Exports, Reexports}
use Rattle.macho_stub_lines.specs.declared.keys.ItemKey.{ItemKey}
use Rattle.macho_stub_lines.specs.declared.keys.ItemKey.TheVariants as item
use Rattle.macho_stub_lines.specs.declared.keys.TopKey.{TopKey}
use Rattle.macho_stub_lines.specs.declared.keys.TopKey.TheVariants as top
use Rattle.macho_stub_lines.specs.declared.keys.KeyLine.{KeyLine}
use Rattle.macho_stub_lines.specs.Bytes.{space, zero_digit, colon, is_key_byte, is_tail, unspaced}
use Rattle.macho_stub_lines.specs.Scalars.{ScalarSpan, scalar_front}
use Rattle.macho_stub_lines.specs.Faults.{Reading, outside}

-- a key, and the value that stands behind it on its line, if one does
pub record Entry : Type 0 where
  pub key : List ℕ
  pub value : List ℕ

abbrev pub entry_of : KeyLine → Entry
entry_of line = record { key = line.key.now; value = line.value.now }

-- What stands behind the colon of a key: the line's end, or spaces and a value.
abbrev pub entry_behind : ℕ → List ℕ → List ℕ → Reading Entry
entry_behind line key rest =
    if is_tail rest then Ok (record { key = key; value = [] })
    else (if slice_index rest 0 == space then Ok (record { key = key; value = unspaced rest }) else outside line)

-- A key of letters, digits and dashes, a colon, and the line's end or spaces and a value.
unfoldable pub entry_at : ℕ → List ℕ → Reading Entry
entry_at line bytes =
    if prefix_len is_key_byte bytes == 0 || not (slice_index bytes (prefix_len is_key_byte bytes) == colon) then
    outside line
    else entry_behind line (take (prefix_len is_key_byte bytes) bytes) (drop (prefix_len is_key_byte bytes + 1) bytes)

-- a scalar with nothing behind it
abbrev pub alone : ℕ → List ℕ → Option ScalarSpan → Reading (List ℕ)
alone line value None = outside line
alone line value (Some scalar) = if is_tail (drop scalar.width value) then Ok scalar.text else outside line

-- the value is one scalar
unfoldable pub scalar_value : ℕ → List ℕ → Reading (List ℕ)
scalar_value line value = alone line value (scalar_front value)

abbrev pub is_zero : ℕ → Bool
is_zero b = b == zero_digit

-- the digits of a number without the zeros in front, so that each number has one spelling
unfoldable pub number_of : List ℕ → List ℕ
number_of digits = drop (prefix_len is_zero digits) digits

-- the value is digits alone
unfoldable pub version_value : ℕ → List ℕ → Reading (List ℕ)
version_value line value =
    if prefix_len is_ascii_digit value == 0 || not (is_tail (drop (prefix_len is_ascii_digit value) value)) then
    outside line
    else Ok (number_of (take (prefix_len is_ascii_digit value) value))

-- the keys of a document that are read
unfoldable pub top_key : List ℕ → TopKey
top_key key =
    if bytes_eq key (codes "tbd-version") then top.Version
    else (if bytes_eq key (codes "targets") then top.Targets
    else (if bytes_eq key (codes "install-name") then top.InstallName
    else (if bytes_eq key (codes "current-version") then top.CurrentVersion
    else (if bytes_eq key (codes "reexported-libraries") then top.Items Libraries
    else (if bytes_eq key (codes "exports") then top.Items Exports
    else (if bytes_eq key (codes "reexports") then top.Items Reexports else top.Unread))))))

-- the names that an item of a list has: libraries, or symbols
abbrev pub names_key : ItemKind → List ℕ
names_key Libraries = codes "libraries"
names_key kind = codes "symbols"

-- items of symbols may have weak ones
abbrev pub has_weak : ItemKind → Bool
has_weak Libraries = false
has_weak kind = true

-- the keys of an item that are read
unfoldable pub item_key : ItemKind → List ℕ → ItemKey
item_key kind key =
    if bytes_eq key (codes "targets") then item.Targets
    else (if bytes_eq key (names_key kind) then item.Names
    else (if has_weak kind && bytes_eq key (codes "weak-symbols") then item.WeakNames else item.Unread))
