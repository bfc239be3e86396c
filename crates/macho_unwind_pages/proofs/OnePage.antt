-- A page is that of its functions.
--
-- It begins at the offset of its first function. The codes that a page names alone are those of its functions that not every page may
-- name, by their first use. A code has one number, since no code stands twice among those that a page may name; a word is a place and the
-- number of a code. A page that is closed to a function has no room for it: it is too far away, or there would be too many codes or words.
use Rattle.std.proofs.Common.{◌≡◌, ℕ, suc, ◌+◌, ◌-◌, ◌/◌, ◌<◌, ◌≤◌, ◌==◌, true, false, List, [], ◌∷◌, ◌++◌, length, map, drop, get_or, slice_index, Contains, refl, sym, ap, ◌∙◌, arith, inl, inr, length-append}
use Rattle.std.specs.List.{All, position_or_len}
use Rattle.std.proofs.lemmas.Bool.{cases_Bool, cases_lt, eq-eqb, ne_eqb}
use Rattle.std.proofs.lemmas.Cmp.{nat_eq_equiv}
use Rattle.std.proofs.lemmas.List.{length-map, get_or_append_left, get_or-append_right, get_or_default}
use Rattle.std.proofs.lemmas.List.Elements.{All-map, All-contains, Contains-append_left, Contains-append_right, Contains-append_cases}
use Rattle.std.proofs.lemmas.List.Sums.{position_or_len_is}
use Rattle.std.proofs.lemmas.Map.Views.{list_any-from_Contains}
use Rattle.macho_unwind_pages.specs.Bounds.{PAGE_SPAN}
use Rattle.macho_unwind_pages.specs.Plans.{PageList, Row, IsPage, FitOnPage, own_codes, page_start, word_for, page_for}
use Rattle.macho_unwind_pages.specs.steps.Words.{IsNamed, IsClosedTo, AreLocals, row_of, page_rows, codes_on, first_place, first_row}
use Rattle.macho_unwind_pages.proofs.Orders.{has}
use Rattle.macho_unwind_pages.proofs.OwnCodes.{has_own, own_apart, own_used, own_order, own_prefix, own_new}
use Rattle.macho_unwind_pages.proofs.Naming.{is_in, is_not_in}
use Rattle.macho_unwind_pages.proofs.FirstUses.{names_codes}
use Rattle.macho_unwind_pages.proofs.OneList.{AreDistinct, rising_once}

first_of : (f : ℕ → Row) (words : List ℕ) → 0 < length words → map f words ≡ f (slice_index words 0) ∷ map f (drop 1 words)
first_of f [] some = absurd (omega arith)
first_of f (w ∷ words) some = refl

-- the functions of a page begin with its first one, which starts where the page does
pub begins : (globals : List ℕ) (page : PageList) → IsPage globals page
    → page_rows globals page ≡ first_row globals page ∷ map (row_of globals page) (drop 1 page.words)
begins globals page is = first_of (row_of globals page) page.words is.some

-- the first function of a page starts where the page does
pub starts : (globals : List ℕ) (page : PageList) → IsPage globals page → (first_row globals page).start ≡ page.first
starts globals page is = omega (arith, is.first)

-- a page names each code once
pub distinct : (globals : List ℕ) (page : PageList) → AreLocals globals page → AreDistinct page.locals
distinct globals page own i j d low within same =
    omega (arith, own.order i j d low within, ap (first_place (codes_on globals page)) same)

-- each of its functions is near
pub near_all : (globals : List ℕ) (page : PageList) → All (λ row. row.start < page.first + PAGE_SPAN) (page_rows globals page)
near_all globals page =
    All-map (λ row. row.start < page.first + PAGE_SPAN) (row_of globals page) page.words (λ k d within. omega arith)

-- a code that a page names and that isn't for every page is its own
pub own_one : (globals : List ℕ) (page : PageList) (code : ℕ) → IsNamed globals page code → ¬ Contains globals code
    → Contains page.locals code
own_one globals page code named not_global = elim (Contains-append_cases globals page.locals code named) [
  | inl global ↦ absurd (not_global global)
  | inr own ↦ own
]

-- lists of distinct numbers, none of which both have
pub distinct_joined : (xs ys : List ℕ) → AreDistinct xs → AreDistinct ys → All (λ y. ¬ Contains xs y) ys
    → AreDistinct (xs ++ ys)
distinct_joined xs ys once_x once_y apart i j d low within same = elim (cases_lt j (length xs)) [
  | inl inside ↦ once_x i j d low inside (left i (omega arith) ∙ same ∙ sym (left j inside))
  | inr past ↦ elim (cases_lt i (length xs)) [
    | inl here ↦ apart (j - length xs) d (room j past within) (
      i,
      here,
      get_or_default xs i _ d here ∙ left i here ∙ same ∙ sym (right j past),
    )
    | inr behind ↦ once_y (i - length xs) (j - length xs) d (omega arith) (room j past within) (right i behind ∙ same ∙ sym (right j past))
  ]
]
  where
    left : (k : ℕ) → k < length xs → get_or xs k d ≡ get_or (xs ++ ys) k d
    left k h = sym (get_or_append_left xs ys d k h)

    right : (k : ℕ) → length xs ≤ k → get_or ys (k - length xs) d ≡ get_or (xs ++ ys) k d
    right k h = sym (get_or-append_right xs ys (length xs) k d refl h)

    room : (k : ℕ) → length xs ≤ k → k < length (xs ++ ys) → k - length xs < length ys
    room k h inside = omega (arith, length-append xs ys)

-- the place of a number among distinct ones
pub place_once : (xs : List ℕ) (i j : ℕ) → AreDistinct xs → i < length xs → j < length xs → slice_index xs i ≡ slice_index xs j
    → i ≡ j
place_once xs i j once inside within same = elim (cases_lt i j) [
  | inl low ↦ absurd (once i j 0 low within same)
  | inr high ↦ elim (cases_lt j i) [ inl low ↦ absurd (once j i 0 low inside (sym same)) | inr equal ↦ omega arith ]
]

-- pages with the same parts are one
pub one_page : (p q : PageList) → p.first ≡ q.first → p.words ≡ q.words → p.locals ≡ q.locals → p ≡ q
one_page p q first words locals =
    ap (λ (v : ℕ). record p { first = v }) first
    ∙ ap (λ (l : List ℕ). record p { first = q.first; words = l }) words
    ∙ ap (λ (l : List ℕ). record q { locals = l }) locals

-- the own codes of a page are those of its functions
own_are : (globals : List ℕ) (page : PageList) → IsPage globals page → AreLocals globals page
    → page.locals ≡ own_codes globals (page_rows globals page)
own_are globals page is own =
    rising_once (first_place on) page.locals (own_codes globals rows) own.order (own_order globals rows) to from
  where
    rows : List Row
    rows = page_rows globals page

    on : List ℕ
    on = codes_on globals page

    to : (x : ℕ) → Contains page.locals x → Contains (own_codes globals rows) x
    to x c =
        let used : has x on ≡ true
        = list_any-from_Contains nat_eq_equiv x on (All-contains (Contains on) page.locals x own.used c) in
        let out : has x globals ≡ false = elim (cases_Bool (has x globals)) [
          | inl there ↦ absurd (All-contains (λ y. ¬ Contains globals y) page.locals x own.own c (is_in globals x there))
          | inr h ↦ h
        ] in
        is_in (own_codes globals rows) x (has_own globals rows x ∙ rw (used, out) refl)

    from : (x : ℕ) → Contains (own_codes globals rows) x → Contains page.locals x
    from x c =
        let used : has x on ≡ true
        = All-contains (λ y. has y on ≡ true) (own_codes globals rows) x (own_used globals rows) c in
        let out : has x globals ≡ false
        = All-contains (λ y. has y globals ≡ false) (own_codes globals rows) x (own_apart globals rows) c in
        own_one globals page x (All-contains (IsNamed globals page) on x (names_codes globals page is.named) (is_in on x used))
        (is_not_in globals x out)

-- the first place of the number at a place of distinct ones
place_of : (xs : List ℕ) (n : ℕ) → AreDistinct xs → n < length xs → position_or_len (λ x. slice_index xs n == x) xs ≡ n
place_of xs n once inside =
    position_or_len_is (λ x. slice_index xs n == x) xs n 0 (omega arith)
    (λ k low. ne_eqb (slice_index xs n) (slice_index xs k) (λ e. once k n 0 low inside (sym e)))
    (λ h. eq-eqb (slice_index xs n) (slice_index xs n) refl)

-- what is made of each element and back again
pub map_back : {X Y : Type 0} (f : X → Y) (h : Y → X) (xs : List X) → ((x : X) → Contains xs x → h (f x) ≡ x) → map h (map f xs) ≡ xs
map_back f h [] back = refl
map_back f h (x ∷ xs) back =
    ap (λ y. y ∷ map h (map f xs)) (back x (0, omega arith, refl))
    ∙ ap (λ l. x ∷ l) (map_back f h xs (λ y c. back y (suc c.0, omega (arith, c.1), c.2)))

-- the start of a page's functions is the page's
pub page_starts : (globals : List ℕ) (page : PageList) → IsPage globals page → page_start (page_rows globals page) ≡ page.first
page_starts globals page is = ap page_start (begins globals page is) ∙ starts globals page is

-- a page is that of its functions
pub page_is : (globals : List ℕ) (page : PageList) → AreDistinct globals → IsPage globals page → AreLocals globals page
    → page ≡ page_for globals (page_rows globals page)
page_is globals page once is own =
    one_page page (page_for globals rows) (sym first) (sym (map_back (row_of globals page) (word_for globals rows) page.words word)) locals
  where
    rows : List Row
    rows = page_rows globals page

    first : page_start rows ≡ page.first
    first = page_starts globals page is

    locals : page.locals ≡ own_codes globals rows
    locals = own_are globals page is own

    all_once : AreDistinct (globals ++ page.locals)
    all_once = distinct_joined globals page.locals once (distinct globals page own) own.own

    word : (w : ℕ) → Contains page.words w → word_for globals rows (row_of globals page w) ≡ w
    word w c =
        let inside = All-contains (λ v. v / PAGE_SPAN < length globals + length page.locals) page.words w is.named c in
        let place = place_of (globals ++ page.locals) (w / PAGE_SPAN) all_once (omega (arith, inside, length-append globals page.locals)) in
        let at : position_or_len (λ x. (row_of globals page w).code == x) (globals ++ own_codes globals rows) ≡ w / PAGE_SPAN
        = ap (λ l. position_or_len (λ x. (row_of globals page w).code == x) (globals ++ l)) (sym locals) ∙ place in
        omega (arith, at, first)

-- and has room for them
pub page_fits : (globals : List ℕ) (page : PageList) → IsPage globals page → AreLocals globals page
    → FitOnPage globals (page_rows globals page)
page_fits globals page is own =
    let locals = ap length (own_are globals page is own) in record {
      near = λ k d h. omega (arith, near_all globals page k d h, page_starts globals page is);
      locals = omega (arith, locals, is.locals);
      room = omega (arith, locals, is.room, length-map page.words (row_of globals page));
    }

pub start_kept : (xs ys : List Row) → 0 < length xs → page_start (xs ++ ys) ≡ page_start xs
start_kept [] ys some = absurd (omega arith)
start_kept (x ∷ xs) ys some = refl

-- a page that is closed to a function has no room for it
pub page_full : (globals : List ℕ) (page : PageList) (row : Row) → IsPage globals page → AreLocals globals page
    → IsClosedTo globals page row → FitOnPage globals (page_rows globals page ++ row ∷ []) → ⊥
page_full globals page row is own shut fit =
    go shut
  where
    rows : List Row
    rows = page_rows globals page

    size : length rows ≡ length page.words
    size = length-map page.words (row_of globals page)

    locals : length page.locals ≡ length (own_codes globals rows)
    locals = ap length (own_are globals page is own)

    start : page_start (rows ++ row ∷ []) ≡ page.first
    start = start_kept rows (row ∷ []) (omega (arith, size, is.some)) ∙ page_starts globals page is

    new : ¬ IsNamed globals page row.code → length (own_codes globals (rows ++ row ∷ [])) ≡ length (own_codes globals rows) + 1
    new absent = own_new globals rows row
        (elim (cases_Bool (has row.code globals)) [
          | inl there ↦ absurd (absent (Contains-append_left globals page.locals row.code (is_in globals row.code there)))
          | inr h ↦ h
        ])
        (elim (cases_Bool (has row.code (codes_on globals page))) [
          | inl there ↦ absurd (absent (All-contains (IsNamed globals page) (codes_on globals page) row.code
              (names_codes globals page is.named) (is_in (codes_on globals page) row.code there)))
          | inr h ↦ h
        ])

    longer : length (rows ++ row ∷ []) ≡ length rows + 1
    longer = length-append rows (row ∷ [])

    go : IsClosedTo globals page row → ⊥
    go (inl far) = omega (
      arith,
      All-contains (λ r. r.start < page_start (rows ++ row ∷ []) + PAGE_SPAN) (rows ++ row ∷ []) row fit.near
          (Contains-append_right rows (row ∷ []) row (0, omega arith, refl)),
      start,
      far,
    )
    go (inr (inl (absent, many))) = omega (arith, new absent, locals, many, fit.locals)
    go (inr (inr (inl (absent, many)))) = omega (arith, new absent, locals, many, fit.room, longer, size)
    go (inr (inr (inr many))) = omega (arith, own_prefix globals rows (row ∷ []), locals, many, fit.room, longer, size)
