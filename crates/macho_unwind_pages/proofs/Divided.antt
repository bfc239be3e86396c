-- Pages of words are a division of their functions, and the other way round.
--
-- A page is that of its functions, which fit on it, and one that is closed to the first function of the next page has no room for it. So
-- pages that the code makes are a division. The word of a function on a page tells its offset, since the page has no function before its
-- first one, and the first place of its code; so the words of a division's pages tell its functions.
use Rattle.std.proofs.Common.{◌≡◌, ℕ, zero, suc, ◌+◌, ◌-◌, ◌/◌, ◌%◌, ◌<◌, ◌≤◌, ◌==◌, true, List, [], ◌∷◌, ◌++◌, length, map, take, get_or, slice_index, Contains, refl, sym, ap, subst, ◌∙◌, arith, inl, inr, length-append}
use Rattle.std.specs.List.{All, AllPairs, flat_map, position_or_len}
use Rattle.std.proofs.lemmas.Bool.{cases_Bool, eqb-true}
use Rattle.std.proofs.lemmas.Cmp.{nat_eq_equiv}
use Rattle.std.proofs.lemmas.List.{length-map, get_or-map, get_or_append_left, get_or-append-add}
use Rattle.std.proofs.lemmas.List.Elements.{All-map, All-contains, All-tail}
use Rattle.std.proofs.lemmas.List.Sums.{passes_at_first}
use Rattle.std.proofs.lemmas.List.Sorted.{All-permutation}
use Rattle.std.proofs.lemmas.Map.Views.{list_any-from_Contains}
use Rattle.macho_unwind_pages.specs.declared.entries.ResolvedUnwindInfo.{ResolvedUnwindInfo}
use Rattle.macho_unwind_pages.specs.Entries.{AreEntries, inputs_of, ids_of}
use Rattle.macho_unwind_pages.specs.Bounds.{PAGE_SPAN}
use Rattle.macho_unwind_pages.specs.Plans.{PageList, PlanList, Row, IsPage, FitOnPage, AreDivided, IsPlanOf, own_codes, page_start, word_for, page_for}
use Rattle.macho_unwind_pages.specs.steps.Words.{AreLocals, row_of, page_rows, rows_of, first_row}
use Rattle.macho_unwind_pages.specs.steps.Paging.{ArePages}
use Rattle.macho_unwind_pages.specs.steps.Planning.{IsBehind}
use Rattle.macho_unwind_pages.proofs.Gathered.{behind, rows_rise}
use Rattle.macho_unwind_pages.proofs.Orders.{has}
use Rattle.macho_unwind_pages.proofs.OwnCodes.{codes, has_own}
use Rattle.macho_unwind_pages.proofs.Naming.{is_in, found_in_first, found_in_second}
use Rattle.macho_unwind_pages.proofs.FirstUses.{first_inside}
use Rattle.macho_unwind_pages.proofs.Growing.{row_same}
use Rattle.macho_unwind_pages.proofs.OneList.{AreDistinct}
use Rattle.macho_unwind_pages.proofs.OnePage.{begins, map_back, page_is, page_fits, page_full}
use Rattle.macho_unwind_pages.proofs.OneDivision.{IsUsed, all}
use Rattle.macho_unwind_pages.specs.steps.Plans.{row_from}

joined : (globals : List ℕ) (pages : List PageList) → all (map (page_rows globals) pages) ≡ flat_map (page_rows globals) pages
joined globals [] = refl
joined globals (p ∷ ps) = ap (λ l. page_rows globals p ++ l) (joined globals ps)

abbrev blank : PageList
blank = record { first = 0; words = []; locals = [] }

-- the functions of pages are divided
pub divided : (globals : List ℕ) (rows : List Row) (pages : List PageList) → ArePages globals rows pages
    → AreDivided globals rows (map (page_rows globals) pages)
divided globals rows pages are = record {
  all = joined globals pages ∙ are.rows;
  each = All-map (IsUsed globals) (page_rows globals) pages
      (λ k d h. (
        omega (arith, (are.each k d h).some, length-map (get_or pages k d).words (row_of globals (get_or pages k d))),
        page_fits globals (get_or pages k d) (are.each k d h) (are.locals k d h),
      ));
  closed = λ k within fit.
      let inside : k + 1 < length pages = omega (arith, within, length-map pages (page_rows globals)) in
      let p : PageList = get_or pages k blank in
      let q : PageList = get_or pages (k + 1) blank in
      let here : get_or (map (page_rows globals) pages) k [] ≡ page_rows globals p
      = get_or-map (page_rows globals) pages k blank [] (omega arith) in
      let there : take 1 (get_or (map (page_rows globals) pages) (k + 1) []) ≡ first_row globals q ∷ []
      = ap (take 1) (get_or-map (page_rows globals) pages (k + 1) blank [] inside ∙ begins globals q (are.each (k + 1) blank inside)) in
      page_full globals p (first_row globals q) (are.each k blank (omega arith)) (are.locals k blank (omega arith))
      (are.closed k blank inside)
      (subst (λ l. FitOnPage globals (page_rows globals p ++ l)) there
      (subst (λ l. FitOnPage globals (l ++ take 1 (get_or (map (page_rows globals) pages) (k + 1) []))) here fit));
}

-- and the pages are theirs
pub written : (globals : List ℕ) (rows : List Row) (pages : List PageList) → AreDistinct globals → ArePages globals rows pages
    → pages ≡ map (page_for globals) (map (page_rows globals) pages)
written globals rows pages once are =
    sym (map_back (page_rows globals) (page_for globals) pages (λ page c.
    sym (page_is globals page once (All-contains (IsPage globals) pages page are.each c)
    (All-contains (AreLocals globals) pages page are.locals c))))

-- functions stand by rising start
abbrev pub AreRising : List Row → Type 0
AreRising rows = AllPairs (λ r s. r.start < s.start) rows

pub rising_front : (xs ys : List Row) → AreRising (xs ++ ys) → AreRising xs
rising_front xs ys rising i j d low h =
    let at_i = ap (λ (r : Row). r.start) (get_or_append_left xs ys d i (omega arith)) in
    let at_j = ap (λ (r : Row). r.start) (get_or_append_left xs ys d j h) in
    omega (arith, rising i j d low (omega (arith, length-append xs ys)), at_i, at_j)

pub rising_back : (xs ys : List Row) → AreRising (xs ++ ys) → AreRising ys
rising_back xs ys rising i j d low h =
    let at_i = ap (λ (r : Row). r.start) (get_or-append-add xs ys i d) in
    let at_j = ap (λ (r : Row). r.start) (get_or-append-add xs ys j d) in
    omega (arith, rising (length xs + i) (length xs + j) d (omega arith) (omega (arith, length-append xs ys)), at_i, at_j)

first_is_least : (rows : List Row) → AreRising rows → All (λ r. page_start rows ≤ r.start) rows
first_is_least [] rising k d h = absurd (omega arith)
first_is_least (r ∷ rows) rising zero d h = omega arith
first_is_least (r ∷ rows) rising (suc k) d h = omega (arith, rising 0 (suc k) d (omega arith) h)

-- a page names the codes of its functions
names : (globals : List ℕ) (rows : List Row) (row : Row) → Contains rows row → Contains (globals ++ own_codes globals rows) row.code
names globals rows row (k, h, e) = is_in (globals ++ own_codes globals rows) row.code (elim (cases_Bool (has row.code globals)) [
  | inl there ↦ found_in_first globals (own_codes globals rows) row.code there
  | inr out ↦ found_in_second globals (own_codes globals rows) row.code out ∙ has_own globals rows row.code ∙ rw (used, out) refl
])
  where
    used : has row.code (codes rows) ≡ true
    used = list_any-from_Contains nat_eq_equiv row.code (codes rows) (
      k,
      omega (arith, h, length-map rows (λ (r : Row). r.code)),
      get_or-map (λ (r : Row). r.code) rows k row row.code h ∙ ap (λ (r : Row). r.code) e,
    )

-- the words of a page tell its functions
pub page_read : (globals : List ℕ) (rows : List Row) → FitOnPage globals rows → AreRising rows
    → page_rows globals (page_for globals rows) ≡ rows
page_read globals rows fit rising =
    map_back (word_for globals rows) (row_of globals (page_for globals rows)) rows (λ row c.
    let list : List ℕ = globals ++ own_codes globals rows in
    let place : ℕ = position_or_len (λ code. row.code == code) list in
    let inside : place < length list = first_inside list row.code (names globals rows row c) in
    let above = All-contains (λ r. page_start rows ≤ r.start) rows row (first_is_least rows rising) c in
    let near = All-contains (λ r. r.start < page_start rows + PAGE_SPAN) rows row fit.near c in
    let number : word_for globals rows row / PAGE_SPAN ≡ place = omega (arith, above, near) in
    let offset : word_for globals rows row % PAGE_SPAN ≡ row.start - page_start rows = omega (arith, above, near) in
    row_same _ _ row (omega (arith, offset, above)) (ap (slice_index list) number
    ∙ sym (eqb-true row.code (slice_index list place) (passes_at_first (λ code. row.code == code) list 0 inside))))

pages_read : (globals : List ℕ) (pages : List (List Row)) → All (IsUsed globals) pages → AreRising (all pages)
    → flat_map (page_rows globals) (map (page_for globals) pages) ≡ all pages
pages_read globals [] each rising = refl
pages_read globals (p ∷ ps) each rising =
    ap (λ l. l ++ flat_map (page_rows globals) (map (page_for globals) ps))
    (page_read globals p (each 0 p (omega arith)).1 (rising_front p (all ps) rising))
    ∙ ap (λ l. p ++ l) (pages_read globals ps (All-tail (IsUsed globals) p ps each) (rising_back p (all ps) rising))

-- the functions of a plan rise
pub plan_rises : (text : ℕ) (entries : List ResolvedUnwindInfo) (plan : PlanList) → AreEntries text entries
    → (a : IsPlanOf text entries plan) → AreRising (all a.pages)
plan_rises text entries plan are a =
    subst AreRising (sym a.divided.all) (rows_rise text (ids_of (inputs_of entries)) a.run
    (All-permutation (IsBehind text) entries a.run a.same (behind text entries are)) a.rising)

-- the words of a plan tell the functions of its entries
pub rows_are : (text : ℕ) (entries : List ResolvedUnwindInfo) (plan : PlanList) → AreEntries text entries
    → (a : IsPlanOf text entries plan) → rows_of plan ≡ map (row_from text (ids_of (inputs_of entries))) a.run
rows_are text entries plan are a =
    ap (flat_map (page_rows plan.globals)) a.written
    ∙ pages_read plan.globals a.pages a.divided.each (plan_rises text entries plan are a) ∙ a.divided.all
