-- What a plan says, and when it is a plan of entries. A plan is the unwind section before it is bytes
-- (mach-o/compact_unwind_encoding.h: unwind_info_section_header, unwind_info_compressed_second_level_page_header).
pub use Rattle.macho_unwind_pages.specs.declared.paging.Row.{Row}
use Rattle.std.specs.Prelude.{◌≡◌, ℕ, ◌+◌, ◌-◌, ◌*◌, ◌/◌, ◌%◌, ◌^◌, ◌<◌, ◌≤◌, ◌==◌, if◌then◌else◌, ◌⊎◌, Some, IfSome, IsSomeAnd, List, [], ◌∷◌, ◌++◌, length, map, take, flat_map, filter_map, option_map, slice_get, slice_index, slice_index_or, All, Contains, sum_by}
use Rattle.std.specs.List.{AllPairs, position_or_len}
use Rattle.std.specs.List.Sorted.{IsPermutation}
use Rattle.macho_unwind_pages.specs.declared.entries.ResolvedUnwindInfo.{ResolvedUnwindInfo}
use Rattle.macho_unwind_pages.specs.declared.plans.Page.{Page}
use Rattle.macho_unwind_pages.specs.declared.plans.Lsda.{Lsda}
use Rattle.macho_unwind_pages.specs.declared.plans.Plan.{Plan}
use Rattle.macho_unwind_pages.specs.Entries.{MOST_PERSONALITIES, input_of, inputs_of, ids_of, place_in, code_in, codes_of, IsLast}
use Rattle.macho_unwind_pages.specs.Bounds.{PAGE_SPAN, MOST_GLOBALS, MOST_LOCALS, MOST_WORDS, globals_of, is_one_of}

-- a page and a plan without where their lists lie in memory
pub record PageList : Type 0 where
  pub first : ℕ
  pub words : List ℕ
  pub locals : List ℕ

pub record PlanList : Type 0 where
  pub globals : List ℕ
  pub personalities : List ℕ
  pub lsdas : List Lsda
  pub pages : List PageList
  pub end : ℕ

abbrev pub page_list : Page → PageList
page_list p = record { first = p.first; words = p.words.items; locals = p.locals.items }

abbrev pub plan_list : Plan → PlanList
plan_list p = record {
  globals = p.globals.items;
  personalities = p.personalities.items;
  lsdas = p.lsdas.items;
  pages = map page_list p.pages.items;
  end = p.end;
}

-- the codes of functions that aren't among those named, each once, by their first use
unfoldable pub own_codes : List ℕ → List Row → List ℕ
own_codes named [] = []
own_codes named (row ∷ rows) =
    if is_one_of named row.code then own_codes named rows else row.code ∷ own_codes (row.code ∷ named) rows

-- the start of a page's first function
abbrev pub page_start : List Row → ℕ
page_start [] = 0
page_start (row ∷ rows) = row.start

-- The word of a function on a page: bits 0 to 23 are its offset from the page's first one, those above them the number of its code
-- among the codes of all pages and then the page's own.
abbrev pub word_for : List ℕ → List Row → Row → ℕ
word_for globals rows row =
    position_or_len (λ code. row.code == code) (globals ++ own_codes globals rows) * PAGE_SPAN + (row.start - page_start rows)

-- a page of functions
abbrev pub page_for : List ℕ → List Row → PageList
page_for globals rows = record {
  first = page_start rows;
  words = map (word_for globals rows) rows;
  locals = own_codes globals rows;
}

-- One page can hold these functions.
pub record FitOnPage (globals : List ℕ) (rows : List Row) : Type 0 where
  pub near : All (λ row. row.start < page_start rows + PAGE_SPAN) rows
  pub locals : length (own_codes globals rows) ≤ MOST_LOCALS
  pub room : length rows + length (own_codes globals rows) ≤ MOST_WORDS

-- Functions are divided into pages in their order: each holds one or more, and the first one of the next page would not fit on it, too.
pub record AreDivided (globals : List ℕ) (rows : List Row) (pages : List (List Row)) : Type 0 where
  pub all : flat_map (λ page. page) pages ≡ rows
  pub each : All (λ page. (1 ≤ length page) × FitOnPage globals page) pages
  pub closed : (k : ℕ) → k + 1 < length pages
      → FitOnPage globals (slice_index_or pages k [] ++ take 1 (slice_index_or pages (k + 1) [])) → ⊥

-- the bytes of a page: its head, its words and its codes
abbrev pub page_size : PageList → ℕ
page_size page = 12 + 4 * length page.words + 4 * length page.locals

-- the bytes of the section: its header, codes, personalities, entries for pages and one behind the last, language-specific data, pages
abbrev pub size_of : PlanList → ℕ
size_of plan =
    28 + 4 * length plan.globals + 4 * length plan.personalities + 12 * (length plan.pages + 1) + 8 * length plan.lsdas
    + sum_by page_size plan.pages

-- A page that can be written: its first function stands at its first offset, and each word names a code. Its own codes are numbered
-- behind those that every page may name.
pub record IsPage (globals : List ℕ) (page : PageList) : Type 0 where
  pub some : 0 < length page.words
  pub first : slice_index page.words 0 % PAGE_SPAN ≡ 0
  pub rising : AllPairs (λ v w. v % PAGE_SPAN < w % PAGE_SPAN) page.words
  pub named : All (λ word. word / PAGE_SPAN < length globals + length page.locals) page.words
  pub locals : length page.locals ≤ MOST_LOCALS
  pub room : length page.words + length page.locals ≤ MOST_WORDS
  pub start : page.first < 2 ^ 32
  pub codes : All (λ code. code < 2 ^ 32) page.locals

-- A plan that can be written, whatever its entries are: a page begins behind the last function of the page before it,
-- and all numbers fit 32 bits.
pub record IsPlan (plan : PlanList) : Type 0 where
  pub pages : All (IsPage plan.globals) plan.pages
  pub order : AllPairs (λ p q. All (λ word. p.first + word % PAGE_SPAN < q.first) p.words) plan.pages
  pub globals : length plan.globals ≤ MOST_GLOBALS
  pub personalities : length plan.personalities ≤ MOST_PERSONALITIES
  pub lsda_order : AllPairs (λ l m. l.function < m.function) plan.lsdas
  pub codes : All (λ code. code < 2 ^ 32) plan.globals
  pub slots : All (λ slot. slot < 2 ^ 32) plan.personalities
  pub lsdas : All (λ l. (l.function < 2 ^ 32) × (l.lsda < 2 ^ 32)) plan.lsdas
  pub end : plan.end < 2 ^ 32

-- A plan of entries.
pub record IsPlanOf (text : ℕ) (entries : List ResolvedUnwindInfo) (plan : PlanList) : Type 0 where
  -- the entries by rising start
  pub run : List ResolvedUnwindInfo
  pub same : IsPermutation entries run
  pub rising : AllPairs (λ e f. e.start < f.start) run
  -- their functions, page by page: of each how far it starts behind the text, and its code
  pub pages : List (List Row)
  pub divided : AreDivided plan.globals
      (map (λ e. record { start = e.start - text; code = code_in (ids_of (inputs_of entries)) (input_of e) }) run) pages
  pub written : plan.pages ≡ map (page_for plan.globals) pages
  -- what stands in the tables: each personality's slot at its number, and language-specific data by function
  pub globals : plan.globals ≡ globals_of (codes_of (inputs_of entries))
  pub personalities : length plan.personalities ≡ length (ids_of (inputs_of entries))
  pub slots : All (λ e. IfSome e.personality (λ p.
      slice_get plan.personalities (place_in (ids_of (inputs_of entries)) p.id) ≡ Some (p.slot - text))) entries
  pub lsdas : plan.lsdas ≡ filter_map (λ e. option_map (λ address. record { function = e.start - text; lsda = address - text }) e.lsda) run
  pub end : All (λ e. IsLast entries e → plan.end ≡ e.start + e.length - text) entries

-- an address whose offset from the text's start doesn't fit 32 bits
abbrev pub IsFar : ℕ → ℕ → Type 0
IsFar text address = text + 2 ^ 32 ≤ address

-- an entry has one: its start, its slot, or its data
abbrev pub HasFarAddress : ℕ → ResolvedUnwindInfo → Type 0
HasFarAddress text e =
    IsFar text e.start
    ⊎ (IsSomeAnd e.personality (λ p. IsFar text p.slot) ⊎ IsSomeAnd e.lsda (λ address. IsFar text address))

-- one of the entries has one, or the last one's end is one
abbrev pub HasFarOffset : ℕ → List ResolvedUnwindInfo → Type 0
HasFarOffset text entries =
    (e : ResolvedUnwindInfo) × Contains entries e
    × (HasFarAddress text e ⊎ (IsLast entries e × IsFar text (e.start + e.length)))
