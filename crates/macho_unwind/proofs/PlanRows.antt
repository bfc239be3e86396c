-- The rows of a plan by page and word.
--
-- A row is that of a word of a page. The starts of a page's words rise, and a page begins behind the last start of the page
-- before it. So an earlier page has an earlier first start, and no start of it is as late as the first of a later page.
use Rattle.std.proofs.Common.{◌≡◌, ℕ, ◌+◌, ◌<◌, [], length, get_or, slice_index, sym, subst, ◌∙◌, arith}
use Rattle.std.specs.List.{Contains}
use Rattle.std.proofs.lemmas.List.{get_or-map, length-map}
use Rattle.macho_unwind_pages.specs.declared.paging.Row.{Row}
use Rattle.macho_unwind_pages.specs.Plans.{PageList, PlanList, IsPlan}
use Rattle.macho_unwind_pages.specs.steps.Words.{row_of, page_rows, rows_of}
use Rattle.macho_unwind.specs.Texts.{page_of}
use Rattle.macho_unwind.proofs.Members.{found_in, found_from}
use Rattle.macho_unwind.proofs.Readback.{formed_at}
use Rattle.macho_unwind.specs.steps.Sections.{offset_in}

-- an item past the end
abbrev pub no_page : PageList
no_page = record { first = 0; words = []; locals = [] }

-- word j of page k
abbrev pub word_of : PlanList → ℕ → ℕ → ℕ
word_of plan k j = slice_index (page_of plan k).words j

-- the row of a word
abbrev pub row_for : PlanList → ℕ → ℕ → Row
row_for plan k j = row_of plan.globals (page_of plan k) (word_of plan k j)

-- the start of a row, by its page and word
abbrev pub start_of : PlanList → ℕ → ℕ → ℕ
start_of plan k j = (page_of plan k).first + offset_in (word_of plan k j)

-- A row of a plan, by its page and word.
pub record IsRowAt (plan : PlanList) (row : Row) : Type 0 where
  pub page : ℕ
  pub word : ℕ
  pub one : page < length plan.pages
  pub there : word < length (page_of plan page).words
  pub is : row_for plan page word ≡ row

-- each row of a plan stands at a page and word
pub row_there : (plan : PlanList) (row : Row) → Contains (rows_of plan) row → IsRowAt plan row
row_there plan row c =
    let i = found_in (page_rows plan.globals) plan.pages no_page row c in
    let there : i.place < length (page_of plan i.item).words
    = omega (arith, i.within, length-map (page_of plan i.item).words (row_of plan.globals (page_of plan i.item))) in
    record {
      page = i.item;
      word = i.place;
      one = i.there;
      there = there;
      is = sym (get_or-map (row_of plan.globals (page_of plan i.item)) (page_of plan i.item).words i.place 0 row there) ∙ i.is;
    }

-- the row of a word is one of the plan
pub row_in : (plan : PlanList) (k j : ℕ) → k < length plan.pages → j < length (page_of plan k).words
    → Contains (rows_of plan) (row_for plan k j)
row_in plan k j one there =
    found_from (page_rows plan.globals) plan.pages no_page (row_for plan k j) (record {
      item = k;
      place = j;
      there = one;
      within = omega (arith, there, length-map (page_of plan k).words (row_of plan.globals (page_of plan k)));
      is = get_or-map (row_of plan.globals (page_of plan k)) (page_of plan k).words j 0 (row_for plan k j) there;
    })

-- what holds of all rows holds of the row of a word
pub at_row : (plan : PlanList) (P : Row → Type 0) → ((i : ℕ) (d : Row) → i < length (rows_of plan) → P (get_or (rows_of plan) i d))
    → (k j : ℕ) → k < length plan.pages
    → j < length (page_of plan k).words → P (row_for plan k j)
at_row plan P all k j one there =
    let c = row_in plan k j one there in
    subst P c.2 (all c.0 (row_for plan k j) c.1)

-- words of a page rise
pub words_rise : (plan : PlanList) (k i j : ℕ) → IsPlan plan → k < length plan.pages → i < j → j < length (page_of plan k).words
    → start_of plan k i < start_of plan k j
words_rise plan k i j formed lt less within = omega (arith, (formed_at plan k formed lt).rising i j 0 less within)

-- a later page begins behind all words of an earlier one
pub pages_rise : (plan : PlanList) (k m j : ℕ) → IsPlan plan → k < m → m < length plan.pages → j < length (page_of plan k).words
    → start_of plan k j < (page_of plan m).first
pages_rise plan k m j formed less lt within = formed.order k m no_page less lt j 0 within

-- the first word's start is the page's
pub first_start : (plan : PlanList) (k : ℕ) → IsPlan plan → k < length plan.pages → start_of plan k 0 ≡ (page_of plan k).first
first_start plan k formed lt = omega (arith, (formed_at plan k formed lt).first)

-- a later page begins later
pub firsts_rise : (plan : PlanList) (k m : ℕ) → IsPlan plan → k < m → m < length plan.pages
    → (page_of plan k).first < (page_of plan m).first
firsts_rise plan k m formed less lt =
    omega (
      arith,
      first_start plan k formed (omega arith),
      pages_rise plan k m 0 formed less lt (formed_at plan k formed (omega arith)).some,
    )
