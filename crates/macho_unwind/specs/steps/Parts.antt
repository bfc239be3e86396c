-- What a look-up knows on its way: the greatest number so far, and the records of a page that it has read.
use Rattle.std.specs.Prelude.{◌≡◌, ℕ, ◌≤◌, ◌<◌, List, Option, Some, None, MatchOption}
use Rattle.macho_unwind.specs.Sections.{entry_at, page_at, word_at, start_at, lsda_count, IsWholePage}
use Rattle.macho_unwind.specs.Lookup.{IsGreatestUpTo, IsPersonality}
use Rattle.macho_unwind.specs.declared.lookup.Page.{Page}

-- The number of an item and its value: the item is the greatest one not above a limit.
pub record IsBestOne (limit count : ℕ) (number : ℕ → ℕ) (k value : ℕ) : Type 0 where
  pub is : IsGreatestUpTo limit count number k
  pub same : value ≡ number k

-- the greatest of so many items not above a limit, none where all are above it
abbrev pub IsBest : ℕ → ℕ → (ℕ → ℕ) → Option (ℕ × ℕ) → Type 0
IsBest limit count number None = (j : ℕ) → j < count → number j ≤ limit → ⊥
IsBest limit count number (Some b) = IsBestOne limit count number b.0 b.1

-- the page of entry k is a compressed one, and is whole
abbrev pub HasPage : List ℕ → ℕ → Type 0
HasPage bytes k = IsWholePage bytes (entry_at bytes k) (page_at bytes k) (lsda_count bytes k)

-- function j of a page is that of an offset
abbrev pub IsFunctionOf : List ℕ → ℕ → ℕ → ℕ → Type 0
IsFunctionOf bytes k offset j = IsGreatestUpTo offset (page_at bytes k).functions_len (start_at bytes k) j

-- the personality that a number names: none for 0
abbrev pub NamesPersonality : List ℕ → ℕ → Option ℕ → Type 0
NamesPersonality bytes number slot = MatchOption slot (number ≡ 0) (IsPersonality bytes number)

-- A page of the bytes, read and whole.
pub record IsPage (bytes : List ℕ) (p : Page) : Type 0 where
  pub entry : p.entry ≡ entry_at bytes p.number
  pub head : p.head ≡ page_at bytes p.number
  pub lsdas : p.lsdas ≡ lsda_count bytes p.number
  pub whole : HasPage bytes p.number

-- A function of a page, by its word.
pub record IsWordOf (bytes : List ℕ) (page offset word : ℕ) : Type 0 where
  pub function : ℕ
  pub is : IsFunctionOf bytes page offset function
  pub word_is : word ≡ word_at bytes page function
