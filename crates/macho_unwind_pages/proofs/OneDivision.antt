-- Functions are divided into pages in one way.
--
-- What fits on a page fits without its last functions, since own codes of fewer functions are no more. Take two divisions of the same
-- functions, and compare their first pages. Were one of them shorter, the other would have all its functions and the first one of its next
-- page, too; but these don't fit on a page. So both pages have the same functions, and so on behind them.
use Rattle.std.proofs.Common.{◌≡◌, ℕ, suc, ◌+◌, ◌<◌, ◌≤◌, List, [], ◌∷◌, ◌++◌, length, take, get_or, refl, sym, ap, subst, ◌∙◌, arith, inl, inr, length-append, append_assoc}
use Rattle.std.specs.List.{All, flat_map}
use Rattle.std.proofs.lemmas.Bool.{cases_lt}
use Rattle.std.proofs.lemmas.List.{append-nil, get_or_append_left, nil_from_length}
use Rattle.std.proofs.lemmas.List.Elements.{All-tail}
use Rattle.macho_unwind_pages.specs.Plans.{Row, FitOnPage}
use Rattle.macho_unwind_pages.proofs.OneList.{goes_on}
use Rattle.macho_unwind_pages.proofs.OwnCodes.{own_prefix}
use Rattle.macho_unwind_pages.proofs.OnePage.{start_kept}

-- a page holds a function at least, and has room for all of its own
abbrev pub IsUsed : List ℕ → List Row → Type 0
IsUsed globals page = (1 ≤ length page) × FitOnPage globals page

-- a division of functions into pages
pub record IsDivision (globals : List ℕ) (pages : List (List Row)) : Type 0 where
  pub each : All (IsUsed globals) pages
  pub closed : (k : ℕ) → k + 1 < length pages → FitOnPage globals (get_or pages k [] ++ take 1 (get_or pages (k + 1) [])) → ⊥

-- the pages behind the first one
pub rest_of : (globals : List ℕ) (page : List Row) (pages : List (List Row)) → IsDivision globals (page ∷ pages) → IsDivision globals pages
rest_of globals page pages d = record {
  each = All-tail (IsUsed globals) page pages d.each;
  closed = λ k within.
      let at : suc k + 1 ≡ suc (k + 1) = omega arith in
      subst (λ j. FitOnPage globals (get_or pages k [] ++ take 1 (get_or (page ∷ pages) j [])) → ⊥) at (d.closed (suc k) (omega arith));
}

-- the first functions of a page fit on a page
pub fit_prefix : (globals : List ℕ) (xs ys : List Row) → 0 < length xs → FitOnPage globals (xs ++ ys) → FitOnPage globals xs
fit_prefix globals xs ys some fit =
    let size = length-append xs ys in
    let own = own_prefix globals xs ys in record {
      near = λ k d h.
          let kept = ap (λ (r : Row). r.start) (get_or_append_left xs ys d k h) in
          omega (arith, fit.near k d (omega arith), kept, start_kept xs ys some);
      locals = omega (arith, own, fit.locals);
      room = omega (arith, own, fit.room, size);
    }

-- the functions of all pages
abbrev pub all : List (List Row) → List Row
all pages = flat_map (λ page. page) pages

first_taken : (page rest : List Row) (row : Row) (more : List Row) → 1 ≤ length page → page ++ rest ≡ row ∷ more → take 1 page ≡ row ∷ []
first_taken [] rest row more some is = absurd (omega arith)
first_taken (r ∷ page) rest row more some is = let front : r ≡ row = cc in ap (λ x. x ∷ []) front

-- no page is the shorter one
no_shorter : (globals : List ℕ) (p q : List Row) (ps qs : List (List Row)) → IsDivision globals (p ∷ ps) → IsDivision globals (q ∷ qs)
    → all (p ∷ ps) ≡ all (q ∷ qs) → length q ≤ length p
no_shorter globals p q ps qs dp dq same = elim (cases_lt (length p) (length q)) [
  | inr enough ↦ enough
  | inl less ↦
      let on = goes_on p (all ps) q (all qs) same (omega arith) in
      absurd (cut on.0 ps on.1 on.2 less dp)
]
  where
    cut : (mid : List Row) (ps : List (List Row)) → q ≡ p ++ mid → all ps ≡ mid ++ all qs → length p < length q
        → IsDivision globals (p ∷ ps) → ⊥
    cut [] ps is rest less d = omega (arith, ap length is, length-append p [])
    cut (row ∷ mid) [] is rest less d = omega (arith, ap length rest)
    cut (row ∷ mid) (next ∷ ps) is rest less d =
        let some : 0 < length p = (d.each 0 p (omega arith)).0 in
        let front : take 1 next ≡ row ∷ [] = first_taken next (all ps) row (mid ++ all qs) (d.each 1 p (omega arith)).0 rest in
        let fit : FitOnPage globals (p ++ row ∷ mid) = subst (FitOnPage globals) is (dq.each 0 q (omega arith)).1 in
        let cut_fit : FitOnPage globals (p ++ row ∷ [])
        = fit_prefix globals (p ++ row ∷ []) mid (omega (arith, length-append p (row ∷ [])))
        (subst (FitOnPage globals) (sym (append_assoc p (row ∷ []) mid)) fit) in
        d.closed 0 (omega arith) (subst (λ l. FitOnPage globals (p ++ l)) (sym front) cut_fit)

some_rows : (globals : List ℕ) (p : List Row) (ps : List (List Row)) → IsDivision globals (p ∷ ps) → all (p ∷ ps) ≡ [] → ⊥
some_rows globals p ps d none = omega (arith, ap length none, length-append p (all ps), (d.each 0 p (omega arith)).0)

-- two divisions of the same functions are one
pub same_pages : (globals : List ℕ) (ps qs : List (List Row)) → IsDivision globals ps → IsDivision globals qs → all ps ≡ all qs → ps ≡ qs
same_pages globals [] [] dp dq same = refl
same_pages globals [] (q ∷ qs) dp dq same = absurd (some_rows globals q qs dq (sym same))
same_pages globals (p ∷ ps) [] dp dq same = absurd (some_rows globals p ps dp same)
same_pages globals (p ∷ ps) (q ∷ qs) dp dq same =
    let long = no_shorter globals p q ps qs dp dq same in
    let short = no_shorter globals q p qs ps dq dp (sym same) in
    let on = goes_on p (all ps) q (all qs) same short in
    let none : length on.0 ≡ 0 = omega (arith, ap length on.1, length-append p on.0) in
    let empty : on.0 ≡ [] = nil_from_length on.0 none in
    let here : q ≡ p = on.1 ∙ ap (λ l. p ++ l) empty ∙ append-nil p in
    let behind : all ps ≡ all qs = on.2 ∙ ap (λ l. l ++ all qs) empty in
    ap (λ l. l ∷ ps) (sym here) ∙ ap (λ l. q ∷ l) (same_pages globals ps qs (rest_of globals p ps dp) (rest_of globals q qs dq) behind)
