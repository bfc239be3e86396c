-- What the steps say that read the memory of a loaded image byte by byte.
use Rattle.std.specs.Prelude.{◌≡◌, ℕ, ◌+◌, ◌%◌, ◌^◌, ◌<◌, ◌≤◌, List, slice_index, Some}
use Rattle.std.specs.List.{slice_get}
use Rattle.macho_bytes.specs.Numbers.{le_bytes}
use Rattle.macho_image_walks.specs.declared.walk.Listed.TheVariants as list
use Rattle.macho_model.specs.Commands.{command_at}
use Rattle.macho_model.specs.Images.{Table, fixups_header, import_entry}
use Rattle.macho_model.specs.Chain.{chain_segments, IsFileWord}
use Rattle.macho_model.specs.Needs.{POINTER_SIZE}
use Rattle.macho_model.specs.Loader.{segment_in, is_bind, ordinal_of}
use Rattle.macho_image_walks.specs.Readings.{IsNth, HasWord, table_there}
use Rattle.macho_model.specs.Memory.{Choice, IsBound, Becomes, Covers, bind_addend}
use Rattle.macho_image_walks.specs.Loaded.{Gives}

-- of the chain words that cover an address the one at the greatest address; or there is none
pub record CoversLast (b : List ℕ) (word_at a : ℕ) : Type 0 where
  pub covers : Covers b word_at a
  pub last : (other : ℕ) → Covers b other a → other ≤ word_at

abbrev pub IsUncovered : List ℕ → ℕ → Type 0
IsUncovered b a = (word_at : ℕ) → Covers b word_at a → ⊥

-- what the loader makes of the word at an address
pub record IsMade (b : List ℕ) (s : ℕ) (choice : Choice) (a value : ℕ) : Type 0 where
  pub word : ℕ
  pub stands : IsFileWord (chain_segments b) b a word
  pub becomes : Becomes b s choice word value (is_bind word)

-- a byte of it
pub record IsWordByte (b : List ℕ) (s : ℕ) (choice : Choice) (word_at at v : ℕ) : Type 0 where
  pub value : ℕ
  pub made : IsMade b s choice word_at value
  pub is : v ≡ slice_index (le_bytes POINTER_SIZE value) at

-- a table and the addresses bind a word
pub record BoundIn (b : List ℕ) (t : Table) (addresses : List ℕ) (word value : ℕ) : Type 0 where
  pub import : ordinal_of word < (fixups_header b t).imports_count
  pub address : ℕ
  pub has : slice_get addresses (ordinal_of word) ≡ Some address
  pub is : value ≡ (address + (import_entry b t (ordinal_of word)).addend + bind_addend word) % 2 ^ 64

-- the table with a number does
pub record BoundByNth (b : List ℕ) (number : ℕ) (addresses : List ℕ) (word value : ℕ) : Type 0 where
  pub place : ℕ
  pub nth : IsNth list.Tables b number place
  pub bound : BoundIn b (table_there b place) addresses word value

-- the loader makes a value of a word, whatever the choice that gives these addresses; or it makes none
abbrev pub MakesIt : List ℕ → ℕ → List ℕ → ℕ → ℕ → Type 0
MakesIt b s addresses word v = (choice : Choice) → Gives b addresses choice → Becomes b s choice word v (is_bind word)

abbrev pub MakesNothing : List ℕ → ℕ → List ℕ → ℕ → Type 0
MakesNothing b s addresses word = (v : ℕ) (choice : Choice) → Gives b addresses choice → Becomes b s choice word v (is_bind word) → ⊥

-- and none of the word that the segment with a number has at an address
abbrev pub NthMakesNothing : List ℕ → ℕ → ℕ → List ℕ → ℕ → Type 0
NthMakesNothing b number s addresses a =
    (place word : ℕ) → IsNth list.Segments b number place → HasWord b (segment_in b (command_at b place)) a word → MakesNothing b s
    addresses word

-- the loader makes a value of the word at an address, or none
abbrev pub IsMadeFor : List ℕ → ℕ → List ℕ → ℕ → ℕ → Type 0
IsMadeFor b s addresses a v = (choice : Choice) → Gives b addresses choice → IsMade b s choice a v

abbrev pub IsNeverMade : List ℕ → ℕ → List ℕ → ℕ → Type 0
IsNeverMade b s addresses a = (v : ℕ) (choice : Choice) → Gives b addresses choice → IsMade b s choice a v → ⊥

-- that word has a byte, or none
abbrev pub IsByteFor : List ℕ → ℕ → List ℕ → ℕ → ℕ → ℕ → Type 0
IsByteFor b s addresses word_at at v = (choice : Choice) → Gives b addresses choice → IsWordByte b s choice word_at at v

abbrev pub HasNoByte : List ℕ → ℕ → List ℕ → ℕ → ℕ → Type 0
HasNoByte b s addresses word_at at =
    (v : ℕ) (choice : Choice) → Gives b addresses choice → IsWordByte b s choice word_at at v → ⊥

-- a word binds an import and becomes a value, or none
abbrev pub BindsFor : List ℕ → List ℕ → ℕ → ℕ → Type 0
BindsFor b addresses word v = (choice : Choice) → Gives b addresses choice → IsBound b choice word v

abbrev pub BindsNothing : List ℕ → List ℕ → ℕ → Type 0
BindsNothing b addresses word = (v : ℕ) (choice : Choice) → Gives b addresses choice → IsBound b choice word v → ⊥
