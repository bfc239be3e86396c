-- What words and codes of a page say, and when pages of words are as full as they can be.
use Rattle.std.specs.Prelude.{◌≡◌, ℕ, ◌+◌, ◌/◌, ◌%◌, ◌<◌, ◌≤◌, ◌==◌, ◌⊎◌, List, ◌++◌, length, map, flat_map, slice_index, slice_index_or, All, Contains}
use Rattle.std.specs.List.{AllPairs, position_or_len}
use Rattle.macho_unwind_pages.specs.Bounds.{PAGE_SPAN, MOST_LOCALS, MOST_WORDS}
use Rattle.macho_unwind_pages.specs.Plans.{PageList, PlanList, Row}

-- the function that a word of a page tells: its offset from the page's first one, and the number of its code
abbrev pub row_of : List ℕ → PageList → ℕ → Row
row_of globals page word = record {
  start = page.first + word % PAGE_SPAN;
  code = slice_index (globals ++ page.locals) (word / PAGE_SPAN);
}

-- the functions of a page
abbrev pub page_rows : List ℕ → PageList → List Row
page_rows globals page = map (row_of globals page) page.words

-- the first function of a page
abbrev pub first_row : List ℕ → PageList → Row
first_row globals page = row_of globals page (slice_index page.words 0)

-- the functions of all pages
abbrev pub rows_of : PlanList → List Row
rows_of plan = flat_map (page_rows plan.globals) plan.pages

-- a page names the code
abbrev pub IsNamed : List ℕ → PageList → ℕ → Type 0
IsNamed globals page code = Contains (globals ++ page.locals) code

-- A page can't take one more function: it is too far away, its code would be the 33rd that only this page names, or
-- there is no room for its word and, where the page doesn't name it yet, its code.
abbrev pub IsClosedTo : List ℕ → PageList → Row → Type 0
IsClosedTo globals page row =
    (page.first + PAGE_SPAN ≤ row.start)
    ⊎ ((¬ IsNamed globals page row.code × (length page.locals ≡ MOST_LOCALS))
    ⊎ ((¬ IsNamed globals page row.code × (MOST_WORDS < length page.words + length page.locals + 2))
    ⊎ (MOST_WORDS < length page.words + length page.locals + 1)))

-- each page but the last is closed to the first function of the next one
abbrev pub AreClosed : List ℕ → List PageList → Type 0
AreClosed globals pages =
    (k : ℕ) (d : PageList) → k + 1 < length pages
    → IsClosedTo globals (slice_index_or pages k d) (first_row globals (slice_index_or pages (k + 1) d))

-- the codes of a page's functions
abbrev pub codes_on : List ℕ → PageList → List ℕ
codes_on globals page = map (λ row. row.code) (page_rows globals page)

-- where a code first stands in a list
abbrev pub first_place : List ℕ → ℕ → ℕ
first_place codes code = position_or_len (λ other. code == other) codes

-- A page's own codes: each of a function of the page, none that every page may name, each once and in the order of
-- their first use.
pub record AreLocals (globals : List ℕ) (page : PageList) : Type 0 where
  pub used : All (λ code. Contains (codes_on globals page) code) page.locals
  pub own : All (λ code. ¬ Contains globals code) page.locals
  pub order :
      AllPairs (λ a b. first_place (codes_on globals page) a < first_place (codes_on globals page) b) page.locals
