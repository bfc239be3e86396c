-- The memory of a loaded image, at a slide and for a choice of import addresses: each segment's file bytes, then zeros;
-- and in place of the bytes of each word on the chain, the word that the loader makes of it.
use Rattle.std.specs.Prelude.{◌≡◌, ℕ, ◌+◌, ◌*◌, ◌-◌, ◌%◌, ◌^◌, ◌<◌, ◌≤◌, ◌⊎◌, nat_lt, if◌then◌else◌, Bool, true, false, List, length, slice_index, Option, Some, Contains}
use Rattle.std.specs.FinMap.{FinMap, get}
use Rattle.std.specs.Ordering.{ordering_then, nat_cmp}
use Rattle.std.specs.declared.cmp.Ordering.{Ordering}
use Rattle.std.specs.Cmp.Lexicographic.{slice_cmp}
use Rattle.macho_records.specs.Numbers.{le_at, le_bytes, bits}
use Rattle.macho_records.specs.declared.header.SegmentCommand.{SegmentCommand}
use Rattle.macho_model.specs.Images.{mapped_segments, base_of, Table, tables_of, fixups_header, import_entry, import_name, import_library_name}
use Rattle.macho_model.specs.Chain.{chain_segments, IsFileWord, OnChainOf}
use Rattle.macho_model.specs.Needs.{POINTER_SIZE}
use Rattle.macho_model.specs.Loader.{is_bind, ordinal_of}

-- the order of pairs of names
abbrev pub pair_cmp : List ℕ × List ℕ → List ℕ × List ℕ → Ordering
pair_cmp x y = ordering_then (slice_cmp nat_cmp x.0 y.0) (slice_cmp nat_cmp x.1 y.1)

-- A choice of import addresses: a finite map from library name and symbol name.
abbrev pub Choice : Type 0
Choice = FinMap pair_cmp ℕ

-- the address that a choice has for an import of a library
abbrev pub chosen : Choice → List ℕ → List ℕ → Option ℕ
chosen choice library name = get choice (library, name)

-- the choice has an address below 2 ^ 64 for each import of an image
abbrev pub BindsAll : List ℕ → Choice → Type 0
BindsAll b choice =
    (t : Table) (k : ℕ) → Contains (tables_of b) t → k < (fixups_header b t).imports_count
    → (x : ℕ) × (x < 2 ^ 64) × (chosen choice (import_library_name b (import_entry b t k)) (import_name b t (import_entry b t k)) ≡ Some x)

-- the parts of a word that moves with the image: its target from the base, and the highest byte of the pointer
abbrev pub rebase_target : ℕ → ℕ
rebase_target word = bits 0 36 word

abbrev pub rebase_high : ℕ → ℕ
rebase_high word = bits 36 8 word

-- the addend of a word that binds an import
abbrev pub bind_addend : ℕ → ℕ
bind_addend word = bits 24 8 word

-- what a word that binds becomes: the import's address, plus the addends of its entry and of the word
pub record IsBound (b : List ℕ) (choice : Choice) (word value : ℕ) : Type 0 where
  pub table : Table
  pub one : Contains (tables_of b) table
  pub import : ordinal_of word < (fixups_header b table).imports_count
  pub address : ℕ
  pub chooses : chosen choice (import_library_name b (import_entry b table (ordinal_of word)))
      (import_name b table (import_entry b table (ordinal_of word))) ≡ Some address
  pub is : value ≡ (address + (import_entry b table (ordinal_of word)).addend + bind_addend word) % 2 ^ 64

-- what the loader makes of a word, at a slide
abbrev pub Becomes : List ℕ → ℕ → Choice → ℕ → ℕ → Bool → Type 0
Becomes b s choice word value false = value ≡ (rebase_target word + rebase_high word * 2 ^ 56 + base_of b + s) % 2 ^ 64
Becomes b s choice word value true = IsBound b choice word value

-- The value of the chain word at an address, in memory.
pub record IsFixed (b : List ℕ) (s : ℕ) (choice : Choice) (a value : ℕ) : Type 0 where
  pub on : OnChainOf b a
  pub word : ℕ
  pub stands : IsFileWord (chain_segments b) b a word
  pub becomes : Becomes b s choice word value (is_bind word)

-- a chain word has a byte at an address of the file's own
abbrev pub Covers : List ℕ → ℕ → ℕ → Type 0
Covers b word_at a = OnChainOf b word_at × (word_at ≤ a) × (a < word_at + POINTER_SIZE)

-- the byte of the chain word that covers an address; of two the one at the greater address
pub record IsChainByte (b : List ℕ) (s : ℕ) (choice : Choice) (a v : ℕ) : Type 0 where
  pub word_at : ℕ
  pub covers : Covers b word_at a
  pub last : (other : ℕ) → Covers b other a → other ≤ word_at
  pub value : ℕ
  pub fixed : IsFixed b s choice word_at value
  pub is : v ≡ slice_index (le_bytes POINTER_SIZE value) (a - word_at)

-- a segment's byte: one of the file, or zero behind its file bytes
pub record IsSegmentByte (b : List ℕ) (a v : ℕ) : Type 0 where
  pub segment : SegmentCommand
  pub one : Contains (mapped_segments b) segment
  pub from : segment.vmaddr ≤ a
  pub to : a < segment.vmaddr + segment.vmsize
  pub is : v ≡ (if nat_lt (a - segment.vmaddr) segment.filesize then slice_index b (segment.fileoff + (a - segment.vmaddr)) else 0)

-- THE memory: the byte v is there, at an address.
pub record Holds (b : List ℕ) (s : ℕ) (choice : Choice) (x v : ℕ) : Type 0 where
  -- the address that the file gives the byte
  pub a : ℕ
  pub slid : x ≡ a + s
  pub byte : IsChainByte b s choice a v ⊎ (((word_at : ℕ) → Covers b word_at a → ⊥) × IsSegmentByte b a v)

-- a text is there, byte by byte
abbrev pub HoldsText : List ℕ → ℕ → Choice → ℕ → List ℕ → Type 0
HoldsText b s choice x text = (k : ℕ) → k < length text → Holds b s choice (x + k) (slice_index text k)

-- the number of w bytes is there
pub record HoldsNumber (b : List ℕ) (s : ℕ) (choice : Choice) (w x n : ℕ) : Type 0 where
  pub text : List ℕ
  pub long : length text ≡ w
  pub held : HoldsText b s choice x text
  pub is : n ≡ le_at w text 0
