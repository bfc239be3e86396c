-- What a reader of a finished image finds at an address that the loader writes anew, before any slide.
use Rattle.std.specs.Prelude.{◌≡◌, ℕ, ◌+◌, ◌*◌, ◌%◌, ◌^◌, ◌<◌, true, false, List, Option, Some, None, Contains}
use Rattle.macho_model.specs.Images.{base_of, Table, tables_of, fixups_header, import_entry, import_name}
use Rattle.macho_model.specs.Chain.{chain_segments, IsFileWord, OnChainOf}
use Rattle.macho_model.specs.Loader.{is_bind, ordinal_of}
use Rattle.macho_model.specs.Memory.{rebase_target, rebase_high, bind_addend}

-- A word that the loader writes: a value that moves with the image; or an import by the number of its library and its name,
-- with the sum of both addends modulo 2 ^ 64.
pub data LoadedFixup : Type 0 where
  Rebase : (value : ℕ) → LoadedFixup
  Bind : (library : ℕ) (name : List ℕ) (addend : ℕ) → LoadedFixup

-- the word of a chain says a value at slide 0
pub record SaysRebase (b : List ℕ) (a value : ℕ) : Type 0 where
  pub on : OnChainOf b a
  pub word : ℕ
  pub stands : IsFileWord (chain_segments b) b a word
  pub rebases : is_bind word ≡ false
  pub is : value ≡ (rebase_target word + rebase_high word * 2 ^ 56 + base_of b) % 2 ^ 64

-- it says an import
pub record SaysBind (b : List ℕ) (a library : ℕ) (name : List ℕ) (addend : ℕ) : Type 0 where
  pub on : OnChainOf b a
  pub word : ℕ
  pub stands : IsFileWord (chain_segments b) b a word
  pub binds : is_bind word ≡ true
  pub table : Table
  pub one : Contains (tables_of b) table
  pub import : ordinal_of word < (fixups_header b table).imports_count
  pub library_is : library ≡ (import_entry b table (ordinal_of word)).library
  pub name_is : name ≡ import_name b table (import_entry b table (ordinal_of word))
  pub addend_is : addend ≡ ((import_entry b table (ordinal_of word)).addend + bind_addend word) % 2 ^ 64

-- what is found at an address: the word of the chain, and nothing exactly off the chain
abbrev pub IsLoadedFixup : List ℕ → ℕ → Option LoadedFixup → Type 0
IsLoadedFixup b a None = OnChainOf b a → ⊥
IsLoadedFixup b a (Some (Rebase value)) = SaysRebase b a value
IsLoadedFixup b a (Some (Bind library name addend)) = SaysBind b a library name addend
