-- How many pages there are at most.
--
-- Each page but the last is closed for a reason, and each reason has its price: the next page begins 2^24 or more behind it; or
-- 32 of its functions have a code that not every page may name; or its functions, with those counted once more, are 1,020 at
-- least. Starts rise from page to page and no function is counted on two pages, so for a reasons of the first kind, b of the
-- second and c of the third, a * 2^24 is within the span, 32 b within N and 1,020 c within n + N.
use Rattle.std.proofs.Common.{◌≡◌, ℕ, suc, ◌+◌, ◌*◌, ◌/◌, ◌<◌, ◌≤◌, ◌==◌, ◌⊎◌, not, cond, List, [], ◌∷◌, ◌++◌, length, map, take, get_or, refl, sym, ap, subst, ◌∙◌, arith, inl, inr, length-append}
use Rattle.std.specs.List.{All, sum_by, list_any}
use Rattle.std.proofs.lemmas.Bool.{cases_lt}
use Rattle.std.proofs.lemmas.List.{length-map, map-append, get_or_append_left, get_or-append-add}
use Rattle.std.proofs.lemmas.List.Elements.{All-push}
use Rattle.std.proofs.lemmas.List.Sums.{sum_by-cons, sum_by-append}
use Rattle.macho_unwind_pages.specs.Bounds.{PAGE_SPAN, MOST_LOCALS, MOST_WORDS}
use Rattle.macho_unwind_pages.specs.steps.Tallies.{locals_in}
use Rattle.macho_unwind_pages.specs.Plans.{Row, FitOnPage, own_codes, page_start, page_for, page_size, word_for}
use Rattle.macho_unwind_pages.proofs.OwnCodes.{codes, own_more, own_few}
use Rattle.macho_unwind_pages.proofs.OnePage.{start_kept}
use Rattle.macho_unwind_pages.proofs.OneDivision.{IsUsed, IsDivision, all, rest_of}
use Rattle.macho_unwind_pages.proofs.Divided.{AreRising, rising_back}

-- the functions of a page whose code not every page may name
abbrev pub own_count : List ℕ → List Row → ℕ
own_count globals page = locals_in globals (codes page)

-- a page has no more codes of its own
own_least : (globals : List ℕ) (page : List Row) → length (own_codes globals page) ≤ own_count globals page
own_least globals page = own_few globals globals page (λ code out. out)

-- why a page can't take one function more: it is too far away, its code would be the 33rd that only this page names, or there is no room
-- for a word and a code
abbrev IsReason : List ℕ → List Row → ℕ → Type 0
IsReason globals page start =
    (page_start page + PAGE_SPAN ≤ start)
    ⊎ ((MOST_LOCALS ≤ length (own_codes globals page)) ⊎ (MOST_WORDS < length page + length (own_codes globals page) + 2))

reason : (globals : List ℕ) (page : List Row) (row : Row) → IsUsed globals page → (FitOnPage globals (page ++ row ∷ []) → ⊥)
    → IsReason globals page row.start
reason globals page row used full =
    let start = start_kept page (row ∷ []) used.0 in
    let more = own_more globals page row in
    let longer = length-append page (row ∷ []) in
    elim (cases_lt row.start (page_start page + PAGE_SPAN)) [
      | inr far ↦ inl far
      | inl near ↦ elim (cases_lt (length (own_codes globals page)) MOST_LOCALS) [
        | inr many ↦ inr (inl many)
        | inl few ↦ elim (cases_lt MOST_WORDS (length page + length (own_codes globals page) + 2)) [
          | inl long ↦ inr (inr long)
          | inr room ↦ absurd (full (record {
            near = All-push (λ (r : Row). r.start < page_start (page ++ row ∷ []) + PAGE_SPAN) page row
                (λ k d h. omega (arith, used.1.near k d h, start)) (omega (arith, near, start));
            locals = omega (arith, more, few);
            room = omega (arith, more, room, longer);
          }))
        ]
      ]
    ]

-- the reasons that closed pages, with their prices
record Reasons (more words own from top : ℕ) : Type 0 where
  span : ℕ
  local : ℕ
  full : ℕ
  all : more ≡ span + local + full
  spans : from + 16777216 * span ≤ top
  locals : 32 * local ≤ own
  fulls : 1020 * full ≤ words + own

-- one page more in front
one_more : (globals : List ℕ) (p : List Row) (more words own next top : ℕ) → IsReason globals p next
    → page_start p ≤ next → Reasons more words own next top
    → Reasons (suc more) (length p + words) (own_count globals p + own) (page_start p) top
one_more globals p more words own next top (inl far) rises r = record {
  span = r.span + 1;
  local = r.local;
  full = r.full;
  all = omega (arith, r.all);
  spans = omega (arith, r.spans);
  locals = omega (arith, r.locals);
  fulls = omega (arith, r.fulls);
}
one_more globals p more words own next top (inr (inl many)) rises r = record {
  span = r.span;
  local = r.local + 1;
  full = r.full;
  all = omega (arith, r.all);
  spans = omega (arith, r.spans);
  locals = omega (arith, r.locals, many, own_least globals p);
  fulls = omega (arith, r.fulls);
}
one_more globals p more words own next top (inr (inr long)) rises r = record {
  span = r.span;
  local = r.local;
  full = r.full + 1;
  all = omega (arith, r.all);
  spans = omega (arith, r.spans);
  locals = omega (arith, r.locals);
  fulls = omega (arith, r.fulls, long, own_least globals p);
}

abbrev no_row : Row
no_row = record { start = 0; code = 0 }

-- the first function of a page
pub first_is : (page : List Row) → 1 ≤ length page → page_start page ≡ (get_or page 0 no_row).start
first_is [] some = absurd (omega arith)
first_is (row ∷ page) some = refl

take_one : (page : List Row) → 1 ≤ length page → take 1 page ≡ get_or page 0 no_row ∷ []
take_one [] some = absurd (omega arith)
take_one (row ∷ page) some = refl

-- a page starts before the next one
starts_rise : (p q rest : List Row) → 1 ≤ length p → 1 ≤ length q → AreRising (p ++ (q ++ rest)) → page_start p < page_start q
starts_rise p q rest some next rising =
    let at_p = ap (λ (r : Row). r.start) (get_or_append_left p (q ++ rest) no_row 0 some) in
    let at_q = ap (λ (r : Row). r.start) (get_or-append-add p (q ++ rest) 0 no_row ∙ get_or_append_left q rest no_row 0 next) in
    omega (
      arith,
      rising 0 (length p + 0) no_row (omega arith) (omega (arith, length-append p (q ++ rest), length-append q rest)),
      at_p,
      at_q,
      first_is p some,
      first_is q next,
    )

reasons : (globals : List ℕ) (p : List Row) (ps : List (List Row)) (top : ℕ) → IsDivision globals (p ∷ ps) → AreRising (all (p ∷ ps))
    → All (λ q. page_start q ≤ top) (p ∷ ps)
    → Reasons (length ps) (sum_by length (p ∷ ps)) (sum_by (own_count globals) (p ∷ ps)) (page_start p) top
reasons globals p [] top d rising below = record {
  span = 0;
  local = 0;
  full = 0;
  all = refl;
  spans = omega (arith, below 0 p (omega arith));
  locals = omega arith;
  fulls = omega arith;
}
reasons globals p (q ∷ ps) top d rising below =
    let rest = reasons globals q ps top (rest_of globals p (q ∷ ps) d) (rising_back p (all (q ∷ ps)) rising)
    (λ k e h. below (suc k) e (omega arith)) in
    let used : IsUsed globals p = d.each 0 p (omega arith) in
    let next : 1 ≤ length q = (d.each 1 p (omega arith)).0 in
    let closed : IsReason globals p (get_or q 0 no_row).start
    = reason globals p (get_or q 0 no_row) used
    (subst (λ l. FitOnPage globals (p ++ l) → ⊥) (take_one q next) (d.closed 0 (omega arith))) in
    let made = one_more globals p (length ps) _ _ (page_start q) top
    (subst (IsReason globals p) (sym (first_is q next)) closed)
    (omega (arith, starts_rise p q (all ps) used.0 next rising)) rest in
    subst (λ w. Reasons (suc (length ps)) w (sum_by (own_count globals) (p ∷ q ∷ ps)) (page_start p) top)
    (sym (sum_by-cons length p (q ∷ ps)))
    (subst (λ o. Reasons (suc (length ps)) (length p + sum_by length (q ∷ ps)) o (page_start p) top)
    (sym (sum_by-cons (own_count globals) p (q ∷ ps))) made)

-- sums over pages are sums over their functions
words_are : (pages : List (List Row)) → length (all pages) ≡ sum_by length pages
words_are [] = refl
words_are (p ∷ ps) = omega (arith, length-append p (all ps), words_are ps, sum_by-cons length p ps)

own_are : (globals : List ℕ) (pages : List (List Row)) → locals_in globals (codes (all pages)) ≡ sum_by (own_count globals) pages
own_are globals [] = refl
own_are globals (p ∷ ps) =
    ap (locals_in globals) (map-append (λ (row : Row). row.code) p (all ps))
    ∙ sum_by-append (λ code. cond (not (list_any (λ global. code == global) globals)) 1 0) (codes p) (codes (all ps))
    ∙ ap (λ n. own_count globals p + n) (own_are globals ps) ∙ sym (sum_by-cons (own_count globals) p ps)

-- the law of pages
pub pages_are_few : (globals : List ℕ) (pages : List (List Row)) (least span : ℕ) → IsDivision globals pages → AreRising (all pages)
    → All (λ p. least ≤ page_start p) pages → All (λ p. page_start p ≤ least + span) pages
    → length pages ≤ 1 + span / 16777216 + locals_in globals (codes (all pages)) / 32
    + (length (all pages) + locals_in globals (codes (all pages))) / 1020
pages_are_few globals [] least span d rising above below = omega arith
pages_are_few globals (p ∷ ps) least span d rising above below =
    arithmetic _ _ _ _ _ _ (words_are (p ∷ ps)) (own_are globals (p ∷ ps)) (reasons globals p ps (least + span) d rising below)
    (above 0 p (omega arith))
  where
    arithmetic : (rows own words more from own' : ℕ) → rows ≡ words → own ≡ own'
        → Reasons more words own' from (least + span) → least ≤ from
        → suc more ≤ 1 + span / 16777216 + own / 32 + (rows + own) / 1020
    arithmetic rows own words more from own' n o r first = omega (arith, r.all, r.spans, r.locals, r.fulls)

-- the law of bytes
pub pages_are_short : (globals : List ℕ) (pages : List (List Row))
    → sum_by page_size (map (page_for globals) pages)
    ≤ 12 * length pages + 4 * length (all pages) + 4 * locals_in globals (codes (all pages))
pages_are_short globals pages =
    omega (arith, words_are pages, own_are globals pages, go pages)
  where
    go : (pages : List (List Row)) → sum_by page_size (map (page_for globals) pages)
        ≤ 12 * length pages + 4 * sum_by length pages + 4 * sum_by (own_count globals) pages
    go [] = omega arith
    go (p ∷ ps) =
        omega (
          arith,
          go ps,
          own_least globals p,
          length-map p (word_for globals p),
          sum_by-cons page_size (page_for globals p) (map (page_for globals) ps),
          sum_by-cons length p ps,
          sum_by-cons (own_count globals) p ps,
        )
