-- Where the pages of a plan are.
--
-- A page stands behind those before it, so its place is the first page's and the sum of their sizes. Sums of more terms
-- are no less, so the last page has the greatest place.
use Rattle.std.proofs.Common.{◌≡◌, ℕ, zero, suc, ◌+◌, ◌*◌, ◌^◌, ◌<◌, ◌≤◌, List, [], ◌∷◌, length, get_or, ◌++◌, take, map, count_by, nat_lt, sum_by, sym, ap, subst, ◌∙◌, refl, arith}
use Rattle.std.proofs.lemmas.List.{get_or-map, get_or_default, length-map}
use Rattle.std.proofs.lemmas.List.Sums.{sum_by-cons, sum_by_more}
use Rattle.std.specs.List.{flat_map}
use Rattle.macho_unwind_pages.specs.declared.plans.Lsda.{Lsda}
use Rattle.macho_unwind_pages.specs.declared.plans.Page.{Page}
use Rattle.macho_unwind_pages.specs.declared.plans.Plan.{Plan}
use Rattle.macho_unwind_pages.specs.Plans.{PageList, PlanList, IsPlan, IsPage, plan_list, page_list, page_size}
use Rattle.macho_unwind.specs.declared.records.PageEntry.{PageEntry}
use Rattle.macho_unwind.specs.Texts.{page_place, lsdas_place, page_of, page_text}
use Rattle.macho_unwind.specs.steps.Records.{entry_for}

-- an entry by its numbers
abbrev pub entry_of : ℕ → ℕ → ℕ → PageEntry
entry_of first place lsda = record { first_address = first; page_offset = place; lsda_index_offset = lsda }

-- a sum of more terms is no less
sum-grows : {X : Type 0} (f : X → ℕ) (xs : List X) (i j : ℕ) → i ≤ j → sum_by f (take i xs) ≤ sum_by f (take j xs)
sum-grows f [] zero zero le = omega arith
sum-grows f [] zero (suc j) le = omega arith
sum-grows f [] (suc i) zero le = omega arith
sum-grows f [] (suc i) (suc j) le = omega arith
sum-grows f (x ∷ xs) zero j le = omega arith
sum-grows f (x ∷ xs) (suc i) zero le = absurd (omega arith)
sum-grows f (x ∷ xs) (suc i) (suc j) le =
    omega (arith, sum-grows f xs i j (omega arith), sum_by-cons f x (take i xs), sum_by-cons f x (take j xs))

-- a later page has no lesser place
pub place-grows : (plan : PlanList) (i j : ℕ) → i ≤ j → page_place plan i ≤ page_place plan j
place-grows plan i j le = omega (arith, sum-grows page_size plan.pages i j le)

-- a page as the plan's mirror has it
pub listed : (pages : List Page) (i : ℕ) (p : Page) (d : PageList) → i < length pages → p ≡ get_or pages i p
    → page_list p ≡ get_or (map page_list pages) i d
listed pages i p d h is = ap page_list is ∙ sym (get_or-map page_list pages i p d h)

-- a page of a plan is formed, by its mirror
pub page_formed : (plan : Plan) (i : ℕ) (p : Page) → IsPlan (plan_list plan) → i < length plan.pages.items → p ≡ get_or plan.pages.items i p
    → IsPage plan.globals.items (page_list p)
page_formed plan i p formed h is =
    let blank = page_list p in
    let here = formed.pages i blank (omega (arith, length-map plan.pages.items page_list)) in
    subst (λ (q : PageList). IsPage plan.globals.items q) (sym (listed plan.pages.items i p blank h is)) here

-- the next page's place is behind the page
pub place_more : (plan : Plan) (i : ℕ) (p : Page) → i < length plan.pages.items → p ≡ get_or plan.pages.items i p
    → page_place (plan_list plan) (i + 1) ≡ page_place (plan_list plan) i + page_size (page_list p)
place_more plan i p h is =
    let more = sum_by_more page_size (map page_list plan.pages.items) i (page_list p)
    (omega (arith, length-map plan.pages.items page_list)) in
    omega (arith, more, ap page_size (listed plan.pages.items i p (page_list p) h is))

-- the entry of a page, from what is known where it is written
pub entry_is : (plan : Plan) (i : ℕ) (p : Page) (place lsdas before : ℕ) (items : List Lsda) → i < length plan.pages.items
    → p ≡ get_or plan.pages.items i p → place ≡ page_place (plan_list plan) i → lsdas ≡ lsdas_place (plan_list plan)
    → items ≡ plan.lsdas.items → before ≡ count_by (λ l. nat_lt l.function p.first) items
    → entry_of p.first place (lsdas + 8 * before) ≡ entry_for (plan_list plan) i
entry_is plan i p place lsdas before items h is place_is lsdas_is items_is before_is =
    let first = ap (λ (q : PageList). q.first) (listed plan.pages.items i p (record { first = 0; words = []; locals = [] }) h is) in
    let count = before_is ∙ ap (λ (ls : List Lsda). count_by (λ (l : Lsda). nat_lt l.function p.first) ls) items_is
    ∙ ap (λ (f : ℕ). count_by (λ (l : Lsda). nat_lt l.function f) plan.lsdas.items) first in
    ap (λ (f : ℕ). entry_of f place (lsdas + 8 * before)) first
    ∙ ap (λ (q : ℕ). entry_of (page_of (plan_list plan) i).first q (lsdas + 8 * before)) place_is
    ∙ ap (λ (l : ℕ). entry_of (page_of (plan_list plan) i).first (page_place (plan_list plan) i) l) (omega (arith, lsdas_is, count))

-- the texts of pages are those of their mirrors
pub texts-listed : (pages : List Page) → flat_map (λ p. page_text (page_list p)) pages ≡ flat_map page_text (map page_list pages)
texts-listed [] = refl
texts-listed (p ∷ pages) = ap (λ (t : List ℕ). page_text (page_list p) ++ t) (texts-listed pages)

-- no page of a plan has 1024 words or encodings
pub pages_short : (plan : Plan) → IsPlan (plan_list plan) → (k : ℕ) (d : Page) → k < length plan.pages.items
    → length (get_or plan.pages.items k d).words.items + length (get_or plan.pages.items k d).locals.items < 2 ^ 10
pages_short plan formed k d h =
    let page = get_or plan.pages.items k d in
    omega (arith, (page_formed plan k page formed h (get_or_default plan.pages.items k d page h)).room)
