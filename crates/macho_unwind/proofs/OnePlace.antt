-- The section of entries is that of their one plan.
--
-- Entries have one plan, so the plan of a section is the only one. So where the last page of one has a place of 32 bits, there is no
-- plan of the entries whose last page hasn't. No entries have no page, and the tables before it are small. The last page stands in the
-- section, which has no more bytes than are told before: so where it is far, these are many.
use Rattle.std.proofs.Common.{◌≡◌, ℕ, ◌-◌, ◌<◌, List, [], ◌∷◌, length, map, take, refl, ap, ◌∙◌, arith, length-append, inl, inr}
use Rattle.std.specs.List.{All, filter_map, sum_by}
use Rattle.std.proofs.lemmas.List.{nil_from_length, length-take}
use Rattle.std.proofs.lemmas.Bool.{cases_lt}
use Rattle.std.proofs.lemmas.List.Sums.{sum_by-take-le}
use Rattle.std.proofs.lemmas.List.Sorted.{length_permutation}
use Rattle.macho_unwind_pages.specs.declared.entries.ResolvedUnwindInfo.{ResolvedUnwindInfo}
use Rattle.macho_unwind_pages.specs.declared.paging.Row.{Row}
use Rattle.macho_unwind_pages.specs.Entries.{inputs_of, ids_of, codes_of}
use Rattle.macho_unwind_pages.specs.steps.Ranks.{ranked}
use Rattle.macho_unwind_pages.specs.Bounds.{MOST_GLOBALS}
use Rattle.macho_unwind_pages.specs.Plans.{PageList, PlanList, IsPlanOf, page_for, page_size}
use Rattle.macho_unwind_pages.proofs.OneDivision.{IsUsed, all}
use Rattle.macho_unwind_pages.proofs.OnePlan.{plans_are_one}
use Rattle.macho_unwind_pages.proofs.PlansShort.{plans_short}
use Rattle.macho_unwind.specs.Texts.{HasPlaces}
use Rattle.macho_unwind.specs.Entries.{IsSectionOf, HasFarPage}
use Rattle.macho_unwind.specs.Laws.{FarPageNeedsRoom}
use Rattle.macho_unwind.proofs.EntryLookup.{no-ids}
use Rattle.macho_unwind_pages.specs.steps.Plans.{row_from, lsda_from}
use Rattle.macho_unwind.specs.steps.Texts.{last_place}

-- where a plan has its places, no plan has its last page too far away
pub no_far_page : (text : ℕ) (entries : List ResolvedUnwindInfo) (plan : PlanList) → 0 < length entries → IsPlanOf text entries plan
    → HasPlaces plan → HasFarPage text entries → ⊥
no_far_page text entries plan some a places far =
    omega (arith, places.fits, far.far, ap last_place (plans_are_one text entries far.plan plan some far.of_entries a))

no_pages : (globals : List ℕ) (pages : List (List Row)) → All (IsUsed globals) pages → length (all pages) ≡ 0 → pages ≡ []
no_pages globals [] used none = refl
no_pages globals (page ∷ pages) used none = absurd (omega (arith, none, length-append page (all pages), (used 0 page (omega arith)).0))

-- no entries have no page too far away
pub no_page_at_all : (text : ℕ) (entries : List ResolvedUnwindInfo) → length entries ≡ 0 → HasFarPage text entries → ⊥
no_page_at_all text entries none far =
    let a = far.of_entries in
    let run : a.run ≡ [] = nil_from_length a.run (omega (arith, length_permutation entries a.run a.same)) in
    let lsdas : length far.plan.lsdas ≡ 0 = ap length (a.lsdas ∙ ap (filter_map (lsda_from text)) run) in
    let rows = ap length (a.divided.all ∙ ap (map (row_from text (ids_of (inputs_of entries)))) run) in
    let pages : far.plan.pages ≡ []
    = a.written ∙ ap (map (page_for far.plan.globals)) (no_pages far.plan.globals a.pages a.divided.each rows) in
    let before : sum_by page_size (take (length far.plan.pages - 1) far.plan.pages) ≡ 0
    = ap (λ (l : List PageList). sum_by page_size (take (length l - 1) l)) pages in
    omega (
      arith,
      far.far,
      before,
      ap length pages,
      lsdas,
      ap length a.globals,
      length-take MOST_GLOBALS (ranked (codes_of (inputs_of entries))),
      a.personalities,
      no-ids entries none,
    )

-- a page too far away needs room for it
pub far_page : FarPageNeedsRoom
far_page text span entries are far spans =
    elim (cases_lt 0 (length entries)) [
      | inr none ↦ absurd (no_page_at_all text entries (omega arith) far)
      | inl some ↦
          omega (
            arith,
            far.far,
            (plans_short text entries far.plan some are far.of_entries).1 span spans,
            sum_by-take-le page_size far.plan.pages (length far.plan.pages - 1),
          )
    ]
