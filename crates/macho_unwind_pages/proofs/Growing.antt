-- A page that takes one function more is a page still, and its functions are those before and the new one.
--
-- The new word's place is the new start less the page's first, above all places so far. If the page's list of codes grows, it
-- grows at its end, so the codes of the words so far keep their numbers; the new code was on neither list, so codes differ.
use Rattle.std.proofs.Common.{◌≡◌, ℕ, suc, ◌+◌, ◌/◌, ◌%◌, ◌^◌, ◌<◌, ◌≤◌, List, [], ◌∷◌, ◌++◌, length, map, get_or, slice_index, Contains, refl, sym, ap, subst, ◌∙◌, arith, inl, inr, ◌⊎◌, length-append, append_assoc}
use Rattle.std.specs.List.{All, AllPairs}
use Rattle.std.proofs.lemmas.Bool.{cases_lt}
use Rattle.std.proofs.lemmas.List.{get_or_append_left, get_or-append_right, map_push}
use Rattle.std.proofs.lemmas.List.Elements.{All-push, All-contains, Contains-append_left, Contains-append_right}
use Rattle.std.proofs.lemmas.List.Quantifiers.{all_pairs_push}
use Rattle.macho_unwind_pages.specs.Bounds.{PAGE_SPAN, MOST_LOCALS, MOST_WORDS}
use Rattle.macho_unwind_pages.specs.Plans.{PageList, Row, IsPage}
use Rattle.macho_unwind_pages.specs.steps.Words.{IsNamed, AreLocals, row_of, page_rows, codes_on, first_place, first_row}
use Rattle.macho_unwind_pages.specs.steps.Paging.{IsFull, IsOpenTo, Adds, empty_page}
use Rattle.macho_unwind_pages.proofs.FirstUses.{first_inside, first_stays, first_at_end, names_codes}

-- a page as it is made; it may have no function yet
pub record IsOpenPage (globals : List ℕ) (page : PageList) : Type 0 where
  pub first : 0 < length page.words → slice_index page.words 0 % PAGE_SPAN ≡ 0
  pub rising : AllPairs (λ v w. v % PAGE_SPAN < w % PAGE_SPAN) page.words
  pub named : All (λ word. word / PAGE_SPAN < length globals + length page.locals) page.words
  pub locals : length page.locals ≤ MOST_LOCALS
  pub room : length page.words + length page.locals ≤ MOST_WORDS
  pub full : IsFull globals page
  pub start : page.first < 2 ^ 32
  pub words : All (λ word. word < 2 ^ 32) page.words
  pub codes : All (λ code. code < 2 ^ 32) page.locals
  pub own : AreLocals globals page

-- all functions so far start before another one
abbrev pub AllBefore : PageList → ℕ → Type 0
AllBefore page start = All (λ word. page.first + word % PAGE_SPAN < start) page.words

-- an open page with a function is a page
pub is_page : (globals : List ℕ) (page : PageList) → 0 < length page.words → IsOpenPage globals page → IsPage globals page
is_page globals page some p = record {
  some = some;
  first = p.first some;
  rising = p.rising;
  named = p.named;
  locals = p.locals;
  room = p.room;
  start = p.start;
  codes = p.codes;
}

-- a page without functions is open
pub empty_is_open : (globals : List ℕ) (first : ℕ) → first < 2 ^ 32 → IsOpenPage globals (empty_page first)
empty_is_open globals first h = record {
  first = λ some. absurd (omega arith);
  rising = λ i j d low within. absurd (omega arith);
  named = λ k d within. absurd (omega arith);
  locals = omega arith;
  room = omega arith;
  full = λ some. absurd (omega arith);
  start = h;
  words = λ k d within. absurd (omega arith);
  codes = λ k d within. absurd (omega arith);
  own = record {
    used = λ k d within. absurd (omega arith);
    own = λ k d within. absurd (omega arith);
    order = λ i j d low within. absurd (omega arith);
  };
}

-- a function is its start and its code
pub row_same : (start code : ℕ) (row : Row) → start ≡ row.start → code ≡ row.code
    → (let r : Row = record { start = start; code = code } in r) ≡ row
row_same start code row s c = rw (s, c) refl

map_same : (f h : ℕ → Row) (xs : List ℕ) → ((k : ℕ) → k < length xs → f (slice_index xs k) ≡ h (slice_index xs k)) → map f xs ≡ map h xs
map_same f h [] same = refl
map_same f h (x ∷ xs) same =
    let first : f x ≡ h x = same 0 (omega arith) in
    ap (λ r. r ∷ map f xs) first ∙ ap (λ l. h x ∷ l) (map_same f h xs (λ k b. same (suc k) (omega arith)))

-- the page's list of codes stays or grows at its end
locals_grow : (globals : List ℕ) (old new : PageList) (code : ℕ)
    → (new.locals ≡ old.locals) ⊎ ((new.locals ≡ old.locals ++ code ∷ []) × ¬ IsNamed globals old code)
    → (length old.locals ≤ length new.locals)
    × ((k : ℕ) → k < length globals + length old.locals → slice_index (globals ++ new.locals) k ≡ slice_index (globals ++ old.locals) k)
locals_grow globals old new code (inl same) = (omega (arith, ap length same), λ k h. ap (λ l. slice_index (globals ++ l) k) same)
locals_grow globals old new code (inr more) = (
  omega (arith, ap length more.0, length-append old.locals (code ∷ [])),
  λ k h. ap (λ l. slice_index l k) (ap (λ l. globals ++ l) more.0 ∙ sym (append_assoc globals old.locals (code ∷ [])))
      ∙ get_or_append_left (globals ++ old.locals) (code ∷ []) 0 k (omega (arith, length-append globals old.locals)),
)

-- functions so far stay
old_rows : (globals : List ℕ) (old new : PageList) (row : Row) → IsOpenPage globals old → Adds globals old new row → (k : ℕ)
    → k < length old.words → row_of globals new (slice_index old.words k) ≡ row_of globals old (slice_index old.words k)
old_rows globals old new row page a k within =
    row_same _ _ (row_of globals old (slice_index old.words k)) (ap (λ f. f + slice_index old.words k % PAGE_SPAN) a.first)
    ((locals_grow globals old new row.code a.locals).1 _ (page.named k 0 within))

-- the new function
pub new_row : (globals : List ℕ) (old new : PageList) (row : Row) → old.first ≤ row.start → (a : Adds globals old new row)
    → row_of globals new a.word ≡ row
new_row globals old new row behind a = row_same _ _ row (omega (arith, a.first, a.place)) a.is.1

-- the functions of a page that took one more are those before and the new one
pub rows_more : (globals : List ℕ) (old new : PageList) (row : Row) → old.first ≤ row.start → IsOpenPage globals old
    → Adds globals old new row → page_rows globals new ≡ page_rows globals old ++ row ∷ []
rows_more globals old new row behind page a =
    ap (map (row_of globals new)) a.words ∙ map_push (row_of globals new) old.words a.word
    ∙ ap (λ l. l ++ row_of globals new a.word ∷ [])
    (map_same (row_of globals new) (row_of globals old) old.words (old_rows globals old new row page a))
    ∙ ap (λ r. page_rows globals old ++ r ∷ []) (new_row globals old new row behind a)

-- the first function stays
pub first_kept : (globals : List ℕ) (old new : PageList) (row : Row) → 0 < length old.words → IsOpenPage globals old
    → Adds globals old new row → first_row globals new ≡ first_row globals old
first_kept globals old new row some page a =
    ap (λ l. row_of globals new (slice_index l 0)) a.words
    ∙ ap (row_of globals new) (get_or_append_left old.words (a.word ∷ []) 0 0 some) ∙ old_rows globals old new row page a 0 some

-- the first function of a page that took its first one is that one
pub first_new : (globals : List ℕ) (first : ℕ) (new : PageList) (row : Row) → first ≤ row.start → Adds globals (empty_page first) new row
    → first_row globals new ≡ row
first_new globals first new row behind a =
    ap (λ l. row_of globals new (slice_index l 0)) a.words ∙ new_row globals (empty_page first) new row behind a

-- a page that took a function has one word more
pub words_more : (globals : List ℕ) (old new : PageList) (row : Row) → Adds globals old new row → length new.words ≡ length old.words + 1
words_more globals old new row a = omega (arith, ap length a.words, length-append old.words (a.word ∷ []))

codes_more : (globals : List ℕ) (old new : PageList) (row : Row) → old.first ≤ row.start → IsOpenPage globals old
    → Adds globals old new row → codes_on globals new ≡ codes_on globals old ++ row.code ∷ []
codes_more globals old new row behind page a =
    ap (map (λ (r : Row). r.code)) (rows_more globals old new row behind page a)
    ∙ map_push (λ (r : Row). r.code) (page_rows globals old) row

own_more : (globals : List ℕ) (old new : PageList) (row : Row) → old.first ≤ row.start → IsOpenPage globals old → Adds globals old new row
    → AreLocals globals new
own_more globals old new row behind page a =
    go a.locals
  where
    codes_are : codes_on globals new ≡ codes_on globals old ++ row.code ∷ []
    codes_are = codes_more globals old new row behind page a

    kept : All (λ code. Contains (codes_on globals new) code) old.locals
    kept k d h = subst (λ l. Contains l (get_or old.locals k d)) (sym codes_are)
        (Contains-append_left _ (row.code ∷ []) _ (page.own.used k d h))

    last : Contains (codes_on globals new) row.code
    last = subst (λ l. Contains l row.code) (sym codes_are)
        (Contains-append_right (codes_on globals old) (row.code ∷ []) row.code (0, omega arith, refl))

    stays : (k d : ℕ) → k < length old.locals
        → first_place (codes_on globals new) (get_or old.locals k d) ≡ first_place (codes_on globals old) (get_or old.locals k d)
    stays k d h = ap (λ l. first_place l (get_or old.locals k d)) codes_are
        ∙ first_stays (codes_on globals old) (row.code ∷ []) (get_or old.locals k d) (page.own.used k d h)

    order : AllPairs (λ x y. first_place (codes_on globals new) x < first_place (codes_on globals new) y) old.locals
    order i j d low h = omega (arith, page.own.order i j d low h, stays i d (omega arith), stays j d h)

    at_end : ¬ IsNamed globals old row.code → first_place (codes_on globals new) row.code ≡ length (codes_on globals old)
    at_end absent = ap (λ l. first_place l row.code) codes_are
        ∙ first_at_end (codes_on globals old) row.code (λ there.
        absent (All-contains (IsNamed globals old) (codes_on globals old) row.code (names_codes globals old page.named) there))

    go : (new.locals ≡ old.locals) ⊎ ((new.locals ≡ old.locals ++ row.code ∷ []) × ¬ IsNamed globals old row.code) → AreLocals globals new
    go (inl same) = record {
      used = subst (All (λ code. Contains (codes_on globals new) code)) (sym same) kept;
      own = subst (All (λ code. ¬ Contains globals code)) (sym same) page.own.own;
      order = subst (AllPairs (λ x y. first_place (codes_on globals new) x < first_place (codes_on globals new) y)) (sym same) order;
    }
    go (inr more) = record {
      used = subst (All (λ code. Contains (codes_on globals new) code)) (sym more.0)
          (All-push (λ code. Contains (codes_on globals new) code) old.locals row.code kept last);
      own = subst (All (λ code. ¬ Contains globals code)) (sym more.0)
          (All-push (λ code. ¬ Contains globals code) old.locals row.code page.own.own
          (λ there. more.1 (Contains-append_left globals old.locals row.code there)));
      order = subst (AllPairs (λ x y. first_place (codes_on globals new) x < first_place (codes_on globals new) y)) (sym more.0)
          (all_pairs_push (λ x y. first_place (codes_on globals new) x < first_place (codes_on globals new) y) old.locals row.code order
          (λ k d h. omega (
            arith,
            stays k d h,
            at_end more.1,
            first_inside (codes_on globals old) (get_or old.locals k d) (page.own.used k d h),
          )));
    }

-- an open page that takes a function stays open: each code is used, is its own, and is in the order of first use
pub page_more : (globals : List ℕ) (old new : PageList) (row : Row) → IsOpenPage globals old
    → (length old.words ≡ 0 → row.start ≡ old.first)
    → AllBefore old row.start → IsOpenTo globals old row → Adds globals old new row → IsOpenPage globals new
page_more globals old new row page begins before room a = record {
  first = λ some. ap (λ l. slice_index l 0 % PAGE_SPAN) a.words ∙ first;
  rising = subst (AllPairs (λ v w. v % PAGE_SPAN < w % PAGE_SPAN)) (sym a.words)
      (all_pairs_push (λ v w. v % PAGE_SPAN < w % PAGE_SPAN) old.words a.word page.rising
      (λ k d h. omega (arith, before k d h, a.place)));
  named = subst (All (λ word. word / PAGE_SPAN < length globals + length new.locals)) (sym a.words)
      (All-push (λ word. word / PAGE_SPAN < length globals + length new.locals) old.words a.word
      (λ k d h. omega (arith, page.named k d h, (locals_grow globals old new row.code a.locals).0))
      (omega (arith, a.is.0, length-append globals new.locals)));
  locals = (sizes a.locals).0;
  room = omega (arith, (sizes a.locals).1, words_more globals old new row a);
  full = a.full;
  start = omega (arith, a.first, page.start);
  words = subst (All (λ word. word < 2 ^ 32)) (sym a.words) (All-push (λ word. word < 2 ^ 32) old.words a.word page.words a.fits);
  codes = codes a.locals;
  own = own_more globals old new row room.behind page a;
}
  where
    first : slice_index (old.words ++ a.word ∷ []) 0 % PAGE_SPAN ≡ 0
    first = elim (cases_lt 0 (length old.words)) [
      | inl some ↦ ap (λ w. w % PAGE_SPAN) (get_or_append_left old.words (a.word ∷ []) 0 0 some) ∙ page.first some
      | inr none ↦ ap (λ w. w % PAGE_SPAN) (get_or-append_right old.words (a.word ∷ []) 0 0 0 (omega arith) (omega arith))
          ∙ a.place ∙ (let at : row.start ≡ old.first = begins (omega arith) in omega arith)
    ]

    sizes : (new.locals ≡ old.locals) ⊎ ((new.locals ≡ old.locals ++ row.code ∷ []) × ¬ IsNamed globals old row.code)
        → (length new.locals ≤ MOST_LOCALS) × (length old.words + 1 + length new.locals ≤ MOST_WORDS)
    sizes (inl same) = (omega (arith, ap length same, page.locals), omega (arith, ap length same, room.word))
    sizes (inr more) =
        let size : length new.locals ≡ length old.locals + 1 = omega (arith, ap length more.0, length-append old.locals (row.code ∷ [])) in
        let free = room.code more.1 in
        (omega (arith, size, free.0), omega (arith, size, free.1))

    codes : (new.locals ≡ old.locals) ⊎ ((new.locals ≡ old.locals ++ row.code ∷ []) × ¬ IsNamed globals old row.code)
        → All (λ code. code < 2 ^ 32) new.locals
    codes (inl same) = subst (All (λ code. code < 2 ^ 32)) (sym same) page.codes
    codes (inr more) = subst (All (λ code. code < 2 ^ 32)) (sym more.0)
        (All-push (λ code. code < 2 ^ 32) old.locals row.code page.codes a.code)
