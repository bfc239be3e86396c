-- What a whole table of names is. Each name that the rows mention has an entry: the place of its best row so far. Entries whose names
-- share a bucket are chained, from the newest to the oldest.
--
--     heads    for each bucket, one more than the number of its newest entry, 0 for none
--     next     one more than the number of the entry before in the bucket, 0 for none
use Rattle.std.specs.Prelude.{◌≡◌, ℕ, ◌+◌, ◌-◌, ◌/◌, ◌^◌, ◌<◌, ◌≤◌, List, [], ◌∷◌, length, map, filter, get_or, bit_and, Some, None, All}
use Rattle.macho_symbol_names.specs.declared.table.Entry.{Entry}
use Rattle.macho_symbol_names.specs.declared.table.Table.{Table}
use Rattle.macho_symbol_names.specs.declared.fault.SymbolFault.{SymbolFault}
use Rattle.macho_symbol_names.specs.declared.fault.SymbolFault.TheVariants.{DuplicateSymbol, UndefinedSymbol, ExportListMissing, OutOfMemory}
use Rattle.macho_symbol_names.specs.Kept.{FileRows}
use Rattle.macho_symbol_names.specs.Hashing.{hash_of}
use Rattle.macho_symbol_names.specs.Events.{Event, row_at, row_count, event_at, best_of, is_strong_of}

abbrev pub no_entry : Entry
no_entry = record { next = 0; row = 0; file = 0; tag = 0 }

-- What names are found from: the seed of their hashes, and the heads of the buckets.
pub record Heads : Type 0 where
  pub seed : ℕ
  pub items : List ℕ

abbrev pub heads_of : Table → Heads
heads_of t = record { seed = t.seed; items = t.heads.items }

-- the bucket of a name: by the low bits of its hash, since the number of buckets is a power of two
abbrev pub bucket_of : Heads → List ℕ → ℕ
bucket_of heads name = bit_and (hash_of heads.seed name) (length heads.items - 1)

-- Entries with these names are found from the heads by their next: from a bucket's newest entry to its older ones, and
-- no further than to entries of that bucket.
pub record AreChained (heads : Heads) (nexts : List ℕ) (names : List (List ℕ)) : Type 0 where
  pub some : 1 ≤ length heads.items
  pub long : length nexts ≡ length names
  pub newest : (b : ℕ) → b < length heads.items → get_or heads.items b 0 ≤ length names
  pub begins : (b m : ℕ) → b < length heads.items → get_or heads.items b 0 ≡ m + 1 → bucket_of heads (get_or names m []) ≡ b
  pub reached : (k : ℕ) → k < length names → k < get_or heads.items (bucket_of heads (get_or names k [])) 0
  pub older : (j : ℕ) → j < length names → get_or nexts j 0 ≤ j
  pub stays : (j m : ℕ) → j < length names → get_or nexts j 0 ≡ m + 1
      → bucket_of heads (get_or names m []) ≡ bucket_of heads (get_or names j [])
  pub onward : (j k : ℕ) → k < j → j < length names → bucket_of heads (get_or names k []) ≡ bucket_of heads (get_or names j [])
      → k < get_or nexts j 0

abbrev pub entry_name : List FileRows → Entry → List ℕ
entry_name files e = (row_at files e.file e.row).name

abbrev pub names_of : List FileRows → List Entry → List (List ℕ)
names_of files entries = map (entry_name files) entries

abbrev pub nexts_of : List Entry → List ℕ
nexts_of entries = map (λ e. e.next) entries

-- an entry's row is there
abbrev pub IsThere : List FileRows → Entry → Type 0
IsThere files e = (e.file < length files) × (e.row < row_count files e.file)

-- an entry keeps the high half of its name's hash
abbrev pub IsTagged : ℕ → List FileRows → Entry → Type 0
IsTagged seed files e = e.tag ≡ hash_of seed (entry_name files e) / 2 ^ 32

-- The table is whole.
pub record IsTable (files : List FileRows) (heads : Heads) (entries : List Entry) : Type 0 where
  pub chained : AreChained heads (nexts_of entries) (names_of files entries)
  pub there : All (IsThere files) entries
  pub tagged : All (IsTagged heads.seed files) entries
  pub apart : (j k : ℕ) → k < j → j < length entries → get_or (names_of files entries) j [] ≡ get_or (names_of files entries) k [] → ⊥

-- a name has no entry
abbrev pub IsNowhere : List ℕ → List (List ℕ) → Type 0
IsNowhere name names = (k : ℕ) → k < length names → get_or names k [] ≡ name → ⊥

-- The entries are the best of the events.
pub record Knows (files : List FileRows) (es : List Event) (entries : List Entry) : Type 0 where
  pub each : All (λ e. best_of (entry_name files e) es ≡ Some (event_at files e.file e.row)) entries
  pub rest : (name : List ℕ) → IsNowhere name (names_of files entries) → best_of name es ≡ None
  pub single : (name : List ℕ) → length (filter (is_strong_of name) es) ≤ 1

-- two events are the first strong definitions of a name
pub record AreTwo (es : List Event) (name : List ℕ) (first second : ℕ) : Type 0 where
  pub a : Event
  pub b : Event
  pub more : List Event
  pub strong : filter (is_strong_of name) es ≡ a ∷ b ∷ more
  pub left : a.file ≡ first
  pub right : b.file ≡ second

-- a refusal of the pass
abbrev pub IsClash : List Event → SymbolFault → Type 0
IsClash es (DuplicateSymbol name first second) = AreTwo es name.items first second
IsClash es (UndefinedSymbol name file) = ⊥
IsClash es (ExportListMissing name) = ⊥
IsClash es OutOfMemory = Unit {0}

-- a number is that of a name's entry
abbrev pub IsEntryOf : List FileRows → List Entry → List ℕ → ℕ → Type 0
IsEntryOf files entries name j = (j < length entries) × (get_or (names_of files entries) j [] ≡ name)

-- the table is whole, and knows these events
pub record IsKnown (files : List FileRows) (heads : Heads) (entries : List Entry) (es : List Event) : Type 0 where
  pub table : IsTable files heads entries
  pub knows : Knows files es entries

-- a table without names: whatever the files, it knows of no event
pub record IsEmptyTable (heads : Heads) (entries : List Entry) : Type 0 where
  pub knows : (files : List FileRows) → IsKnown files heads entries []
