-- The bytes of a plan: header, shared encodings, personalities, page entries, LSDA entries and pages, in this order and
-- without gaps (mach-o/compact_unwind_encoding.h).
use Rattle.std.specs.Prelude.{ℕ, ◌+◌, ◌-◌, ◌*◌, ◌^◌, ◌<◌, nat_lt, List, ◌++◌, length, take, count_by, sum_by, slice_index_or, [], Option, None, Some, ◌∷◌}
use Rattle.std.specs.List.{flat_map, range_with_len}
use Rattle.macho_bytes.specs.Numbers.{little, row_bytes}
use Rattle.macho_bytes.specs.Layouts.{size_of}
use Rattle.macho_unwind.specs.Layouts.{compact_unwind_info_header, page_entry, compressed_page, lsda_entry}
use Rattle.macho_unwind.specs.Sections.{WORD, COMPRESSED}
use Rattle.macho_unwind_pages.specs.Plans.{PageList, PlanList, page_size, plan_list}
use Rattle.macho_unwind_pages.specs.declared.plans.Plan.{Plan}

-- the places of the tables
abbrev pub personalities_place : PlanList → ℕ
personalities_place plan = size_of compact_unwind_info_header + WORD * length plan.globals

abbrev pub entries_place : PlanList → ℕ
entries_place plan = personalities_place plan + WORD * length plan.personalities

abbrev pub lsdas_place : PlanList → ℕ
lsdas_place plan = entries_place plan + size_of page_entry * (length plan.pages + 1)

abbrev pub pages_place : PlanList → ℕ
pages_place plan = lsdas_place plan + size_of lsda_entry * length plan.lsdas

-- the place of page k, behind those before it
abbrev pub page_place : PlanList → ℕ → ℕ
page_place plan k = pages_place plan + sum_by page_size (take k plan.pages)

-- A plan of a page or more whose tables and pages have places of 32 bits.
pub record HasPlaces (plan : PlanList) : Type 0 where
  pub some : 0 < length plan.pages
  pub fits : page_place plan (length plan.pages - 1) < 2 ^ 32

abbrev pub page_of : PlanList → ℕ → PageList
page_of plan k = slice_index_or plan.pages k (record { first = 0; words = []; locals = [] })

-- a page: its head, with its kind, the place and number of its words, and the place and number of its own encodings; then the words, and
-- these encodings
unfoldable pub page_text : PageList → List ℕ
page_text page =
    (row_bytes little 4 (COMPRESSED ∷ []) ++ row_bytes little 2 (size_of compressed_page ∷ length page.words
    ∷ (size_of compressed_page + WORD * length page.words) ∷ length page.locals ∷ []))
    ++ row_bytes little WORD page.words ++ row_bytes little WORD page.locals

-- The section. Its header has version 1, and the place and the number of each table. The entry of a page has the place of the first LSDA
-- entry of a function that starts no earlier than the page's first one; the last entry has the end of the last function, no page, and the
-- end of the LSDA entries.
unfoldable pub section_text : PlanList → List ℕ
section_text plan =
    row_bytes little 4 (1 ∷ size_of compact_unwind_info_header ∷ length plan.globals ∷ personalities_place plan ∷ length plan.personalities
    ∷ entries_place plan ∷ (length plan.pages + 1) ∷ [])
    ++ row_bytes little WORD plan.globals
    ++ row_bytes little WORD plan.personalities
    ++ flat_map (λ k. row_bytes little 4 ((page_of plan k).first ∷ page_place plan k
    ∷ (lsdas_place plan + size_of lsda_entry * count_by (λ l. nat_lt l.function (page_of plan k).first) plan.lsdas) ∷ []))
    (range_with_len 0 (length plan.pages))
    ++ row_bytes little 4 (plan.end ∷ 0 ∷ pages_place plan ∷ [])
    ++ flat_map (λ l. row_bytes little 4 (l.function ∷ l.lsda ∷ [])) plan.lsdas
    ++ flat_map page_text plan.pages

-- the bytes of a plan, and none without a plan
abbrev pub planned_text : Option Plan → List ℕ
planned_text None = []
planned_text (Some plan) = section_text (plan_list plan)
