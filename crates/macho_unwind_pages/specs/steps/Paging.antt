-- Pages as they are made: a page takes one function more, or it is closed to it.
use Rattle.std.specs.Prelude.{◌≡◌, ℕ, ◌+◌, ◌-◌, ◌/◌, ◌%◌, ◌^◌, ◌<◌, ◌≤◌, ◌⊎◌, List, [], ◌∷◌, ◌++◌, length, flat_map, take, All}
use Rattle.std.specs.List.{AllPairs}
use Rattle.indexmap.specs.IndexMap.{IndexMap, keys}
use Rattle.macho_unwind_pages.specs.Bounds.{PAGE_SPAN, MOST_GLOBALS, MOST_LOCALS, MOST_WORDS}
use Rattle.macho_unwind_pages.specs.steps.Ranks.{IsNumberOf}
use Rattle.macho_unwind_pages.specs.Plans.{PageList, Row, IsPage}
use Rattle.macho_unwind_pages.specs.steps.Words.{IsNamed, AreLocals, AreClosed, page_rows}

-- the codes of a table that every page may name
abbrev pub globals_in : {S : Type 0} → IndexMap ℕ ℕ S → List ℕ
globals_in ranks = take MOST_GLOBALS (keys ranks)

-- a page without functions, from an offset on
abbrev pub empty_page : ℕ → PageList
empty_page first = record { first = first; words = []; locals = [] }

-- a page that has codes of its own stands beside as many global ones as there may be
abbrev pub IsFull : List ℕ → PageList → Type 0
IsFull globals page = 0 < length page.locals → length globals ≡ MOST_GLOBALS

-- A page has room for one function more.
pub record IsOpenTo (globals : List ℕ) (page : PageList) (row : Row) : Type 0 where
  pub behind : page.first ≤ row.start
  pub near : row.start < page.first + PAGE_SPAN
  pub word : length page.words + length page.locals + 1 ≤ MOST_WORDS
  pub code : ¬ IsNamed globals page row.code
      → (length page.locals < MOST_LOCALS) × (length page.words + length page.locals + 2 ≤ MOST_WORDS)

-- A page gives a code a number: the one that it has, or that of one code more.
pub record Names (globals : List ℕ) (old new : PageList) (code number : ℕ) : Type 0 where
  pub first : new.first ≡ old.first
  pub words : new.words ≡ old.words
  pub locals : (new.locals ≡ old.locals) ⊎ ((new.locals ≡ old.locals ++ code ∷ []) × ¬ IsNamed globals old code)
  pub full : IsFull globals new
  pub is : IsNumberOf (globals ++ new.locals) code number

-- A page takes one function more.
pub record Adds (globals : List ℕ) (old new : PageList) (row : Row) : Type 0 where
  pub word : ℕ
  pub first : new.first ≡ old.first
  pub words : new.words ≡ old.words ++ word ∷ []
  pub locals : (new.locals ≡ old.locals) ⊎ ((new.locals ≡ old.locals ++ row.code ∷ []) × ¬ IsNamed globals old row.code)
  pub full : IsFull globals new
  pub place : word % PAGE_SPAN ≡ row.start - old.first
  pub is : IsNumberOf (globals ++ new.locals) row.code (word / PAGE_SPAN)
  pub fits : word < 2 ^ 32
  pub code : row.code < 2 ^ 32
  pub start : row.start < 2 ^ 32

-- Pages of functions in order.
pub record ArePages (globals : List ℕ) (functions : List Row) (pages : List PageList) : Type 0 where
  pub rows : flat_map (page_rows globals) pages ≡ functions
  pub each : All (IsPage globals) pages
  pub locals : All (AreLocals globals) pages
  pub order : AllPairs (λ p q. All (λ word. p.first + word % PAGE_SPAN < q.first) p.words) pages
  pub closed : AreClosed globals pages
