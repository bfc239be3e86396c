-- What is known while an archive is read, entry by entry.
use Rattle.std.specs.Prelude.{◌≡◌, ℕ, ◌+◌, ◌<◌, ◌≤◌, true, false, List, nat_eq, length, map, drop, Some, nat_le, ◌&&◌, is_some, slice_range, codes}
use Rattle.std.specs.List.{starts_with}
use Rattle.std.specs.Str.{bytes_eq}
use Rattle.macho_archive.specs.Entries.{MAGIC, Content, stem_at, contents_at, next_of, name_at, width_in, keeps, HEADER_SIZE, stated_size, end_at}
use Rattle.macho_archive.specs.Archives.{IsEntry, place_of, names_before, members_of}
use Rattle.macho_archive.specs.declared.fault.ArchiveRule.{ArchiveRule}
use Rattle.macho_archive.specs.declared.fault.ArchiveRule.TheVariants.{A1, A2, A3, A4, A5, A6}
use Rattle.macho_archive.specs.declared.fault.ArchiveFault.{ArchiveFault}
use Rattle.macho_archive.specs.declared.fault.ArchiveFault.TheVariants.{Broken, OutOfMemory}
use Rattle.macho_archive.specs.Views.{content_of}
use Rattle.macho_archive.specs.declared.archive.Reading.{Reading}
use Rattle.macho_archive.specs.declared.entries.Entry.{Entry}

-- An entry as it was read, at a place behind a table of names.
pub record IsRead (b table : List ℕ) (at : ℕ) (e : Entry) : Type 0 where
  pub kept : (rule : ArchiveRule) → keeps b table at rule ≡ true
  pub stem : e.stem.now ≡ stem_at b at
  pub contents : e.contents.now ≡ contents_at b at
  pub name : name_at b table at ≡ Some e.name.now
  pub width : e.width ≡ width_in (stem_at b at)
  pub fits : e.width ≤ length e.contents.now
  pub next : e.next ≡ next_of b at
  pub further : at < e.next
  pub within : at + 60 + length e.contents.now ≤ length b

-- The first entries are read.
pub record HasRead (b : List ℕ) (r : Reading) : Type 0 where
  pub count : ℕ
  pub magic : starts_with nat_eq b MAGIC ≡ true
  pub each : (k : ℕ) → k < count → IsEntry b k
  pub at : r.at ≡ place_of b count
  pub table : r.table.now ≡ names_before b count
  pub members : map content_of r.members.items ≡ members_of b count

-- the reading stops at a place, behind a table of names: a rule of entries is broken, or memory ran out
abbrev pub IsStopped : List ℕ → List ℕ → ℕ → ArchiveFault → Type 0
IsStopped b table at (Broken A1 place) = ⊥
IsStopped b table at (Broken rule place) = (place ≡ at) × (keeps b table at rule ≡ false)
IsStopped b table at OutOfMemory = Unit {0}

-- The header of an entry is whole, and its contents end at a place.
pub record IsSized (b : List ℕ) (at : ℕ) (end : ℕ) : Type 0 where
  pub header : nat_le (at + HEADER_SIZE) (length b) ≡ true
  pub ends : bytes_eq (slice_range b (at + 58) (at + 60)) (codes "`\n") ≡ true
  pub stated : (is_some (stated_size b at) && nat_le (end_at b at) (length b)) ≡ true
  pub is : end ≡ end_at b at
  pub whole : at + 60 ≤ end
  pub within : end ≤ length b

-- the rule that the header breaks
abbrev pub IsUnsized : List ℕ → ℕ → ArchiveRule → Type 0
IsUnsized b at A1 = ⊥
IsUnsized b at A2 = nat_le (at + HEADER_SIZE) (length b) ≡ false
IsUnsized b at A3 = bytes_eq (slice_range b (at + 58) (at + 60)) (codes "`\n") ≡ false
IsUnsized b at A4 = (is_some (stated_size b at) && nat_le (end_at b at) (length b)) ≡ false
IsUnsized b at A5 = ⊥
IsUnsized b at A6 = ⊥

-- a rule of entries is broken at a place
abbrev pub IsBrokenRule : List ℕ → List ℕ → ℕ → ArchiveRule → Type 0
IsBrokenRule b table at A1 = ⊥
IsBrokenRule b table at rule = keeps b table at rule ≡ false

-- an entry that was read at a place, as a member
abbrev pub content_in : ℕ → Entry → Content
content_in at e = record { name = e.name.now; place = at + 60 + e.width; bytes = drop e.width e.contents.now }
