-- Archives, their members, and why bytes are none.
use Rattle.std.specs.Prelude.{◌≡◌, ℕ, zero, suc, ◌<◌, ◌≤◌, not, true, false, if◌then◌else◌, List, [], nat_eq, length, map, filter}
use Rattle.std.specs.List.{range_with_len, starts_with}
use Rattle.macho_archive.specs.Entries.{MAGIC, Content, stem_at, contents_at, next_of, is_table_of_names, is_passed, member_at, keeps}
use Rattle.macho_archive.specs.declared.fault.ArchiveRule.{ArchiveRule}
use Rattle.macho_archive.specs.declared.fault.ArchiveRule.TheVariants.{A1}
use Rattle.macho_archive.specs.declared.fault.ArchiveFault.{ArchiveFault}
use Rattle.macho_archive.specs.declared.fault.ArchiveFault.TheVariants.{Broken, OutOfMemory}

-- THE place of an entry, by its number: the first stands behind the magic, and each behind the one before
unfoldable pub place_of : List ℕ → ℕ → ℕ
place_of b zero = length MAGIC
place_of b (suc k) = next_of b (place_of b k)

-- the table of names in front of an entry: the contents of the nearest `//`; empty where there is none
unfoldable pub names_before : List ℕ → ℕ → List ℕ
names_before b zero = []
names_before b (suc k) =
    if is_table_of_names (stem_at b (place_of b k)) then contents_at b (place_of b k) else names_before b k

-- The entry of a number begins in the file, and keeps every rule.
pub record IsEntry (b : List ℕ) (k : ℕ) : Type 0 where
  pub within : place_of b k < length b
  pub kept : (rule : ArchiveRule) → keeps b (names_before b k) (place_of b k) rule ≡ true

-- THE bytes are an archive of so many entries: they begin with the magic, each entry is one, and the last ends the file. (Where its size is
-- odd, the byte that fills it up may be missing.)
pub record IsArchive (b : List ℕ) (count : ℕ) : Type 0 where
  pub magic : starts_with nat_eq b MAGIC ≡ true
  pub each : (k : ℕ) → k < count → IsEntry b k
  pub ends : length b ≤ place_of b count

-- the numbers of the entries that are members
unfoldable pub member_numbers : List ℕ → ℕ → List ℕ
member_numbers b count = filter (λ k. not (is_passed b (names_before b k) (place_of b k))) (range_with_len 0 count)

-- THE members of an archive of so many entries, in order
unfoldable pub members_of : List ℕ → ℕ → List Content
members_of b count = map (λ k. member_at b (names_before b k) (place_of b k)) (member_numbers b count)

-- The bytes are an archive of these members.
pub record HasMembers (b : List ℕ) (members : List Content) : Type 0 where
  pub count : ℕ
  pub whole : IsArchive b count
  pub all : members ≡ members_of b count

-- Bytes are an archive of one list of members.
abbrev pub MembersAreOne : Type 0
MembersAreOne = (b : List ℕ) (xs ys : List Content) → HasMembers b xs → HasMembers b ys → xs ≡ ys

-- An entry breaks a rule: it begins at the place in the file, and those before it are entries.
pub record IsBroken (b : List ℕ) (rule : ArchiveRule) (place : ℕ) : Type 0 where
  pub number : ℕ
  pub magic : starts_with nat_eq b MAGIC ≡ true
  pub before : (k : ℕ) → k < number → IsEntry b k
  pub is : place ≡ place_of b number
  pub within : place < length b
  pub broken : keeps b (names_before b number) place rule ≡ false

-- A refusal is right: the magic isn't there, or an entry breaks the rule, or memory ran out.
abbrev pub IsRefused : List ℕ → ArchiveFault → Type 0
IsRefused b (Broken A1 place) = (starts_with nat_eq b MAGIC ≡ false) × (place ≡ 0)
IsRefused b (Broken rule place) = IsBroken b rule place
IsRefused b OutOfMemory = Unit {0}
