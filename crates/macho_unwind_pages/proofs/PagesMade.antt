-- Pages made in one pass over functions in order.
--
-- So far there are closed pages and one that is open. A function that the open page takes starts behind all before, and the page
-- stays a page. One that it can't take begins a page: the open one is closed to it, and all its functions start before.
use Rattle.std.proofs.Common.{◌≡◌, ℕ, ◌+◌, ◌-◌, ◌%◌, ◌<◌, ◌≤◌, List, [], ◌∷◌, ◌++◌, length, take, get_or, refl, sym, ap, subst, ◌∙◌, arith, inl, inr, length-append, append_assoc}
use Rattle.std.specs.List.{All, AllPairs, flat_map}
use Rattle.std.proofs.lemmas.Bool.{cases_lt}
use Rattle.std.proofs.lemmas.Grind.{flat_map-append}
use Rattle.std.proofs.lemmas.List.{get_or_append_left, get_or-append_right, append-nil, take_more, take_all}
use Rattle.std.proofs.lemmas.List.Elements.{All-push}
use Rattle.std.proofs.lemmas.List.Quantifiers.{all_pairs_push}
use Rattle.macho_unwind_pages.specs.Bounds.{PAGE_SPAN}
use Rattle.macho_unwind_pages.specs.Plans.{PageList, Row, IsPage}
use Rattle.macho_unwind_pages.specs.steps.Words.{IsClosedTo, AreClosed, AreLocals, page_rows, first_row}
use Rattle.macho_unwind_pages.specs.steps.Paging.{IsOpenTo, Adds, ArePages, empty_page}
use Rattle.macho_unwind_pages.proofs.Growing.{IsOpenPage, AllBefore, is_page, empty_is_open, rows_more, first_kept, first_new, words_more, page_more}

-- closed pages and an open one, of functions of which the last starts at an offset
pub record ArePagesTo (globals : List ℕ) (functions : List Row) (last : ℕ) (done : List PageList) (page : PageList) : Type 0 where
  pub rows : flat_map (page_rows globals) done ++ page_rows globals page ≡ functions
  pub some : 0 < length page.words
  pub each : All (IsPage globals) done
  pub locals : All (AreLocals globals) done
  pub is : IsOpenPage globals page
  pub order : AllPairs (λ p q. AllBefore p q.first) done
  pub before : All (λ p. AllBefore p page.first) done
  pub closed : AreClosed globals done
  pub next : (d : PageList) → 0 < length done → IsClosedTo globals (get_or done (length done - 1) d) (first_row globals page)
  pub upto : All (λ word. page.first + word % PAGE_SPAN ≤ last) page.words
  pub begun : page.first ≤ last

-- the open page takes a function
pub taken : (globals : List ℕ) (functions : List Row) (last : ℕ) (done : List PageList) (old new : PageList) (row : Row)
    → ArePagesTo globals functions last done old → last < row.start → IsOpenTo globals old row → Adds globals old new row
    → ArePagesTo globals (functions ++ row ∷ []) row.start done new
taken globals functions last done old new row pages later room a = record {
  rows = ap (λ l. flat_map (page_rows globals) done ++ l) (rows_more globals old new row room.behind pages.is a)
      ∙ sym (append_assoc (flat_map (page_rows globals) done) (page_rows globals old) (row ∷ [])) ∙ ap (λ l. l ++ row ∷ []) pages.rows;
  some = omega (arith, words_more globals old new row a);
  each = pages.each;
  locals = pages.locals;
  is = page_more globals old new row pages.is (λ none. absurd (omega (arith, pages.some)))
      (λ k d h. omega (arith, pages.upto k d h)) room a;
  order = pages.order;
  before = subst (λ f. All (λ p. AllBefore p f) done) (sym a.first) pages.before;
  closed = pages.closed;
  next = λ d some. subst (IsClosedTo globals (get_or done (length done - 1) d))
      (sym (first_kept globals old new row pages.some pages.is a)) (pages.next d some);
  upto = subst (All (λ word. new.first + word % PAGE_SPAN ≤ row.start)) (sym a.words)
      (All-push (λ word. new.first + word % PAGE_SPAN ≤ row.start) old.words a.word
      (λ k d h. omega (arith, pages.upto k d h, a.first)) (omega (arith, a.first, a.place, room.behind)));
  begun = omega (arith, a.first, room.behind);
}

-- a page that begins with a function
opened : (globals : List ℕ) (page : PageList) (row : Row) → Adds globals (empty_page row.start) page row → IsOpenPage globals page
opened globals page row a =
    page_more globals (empty_page row.start) page row (empty_is_open globals row.start a.start) (λ none. refl)
    (λ k d h. absurd (omega arith)) room a
  where
    room : IsOpenTo globals (empty_page row.start) row
    room = record {
      behind = omega arith;
      near = omega arith;
      word = omega arith;
      code = λ no. (omega arith, omega arith);
    }

opened_rows : (globals : List ℕ) (page : PageList) (row : Row) → Adds globals (empty_page row.start) page row
    → page_rows globals page ≡ row ∷ []
opened_rows globals page row a =
    rows_more globals (empty_page row.start) page row (omega arith) (empty_is_open globals row.start a.start) a

opened_upto : (globals : List ℕ) (page : PageList) (row : Row) → Adds globals (empty_page row.start) page row
    → All (λ word. page.first + word % PAGE_SPAN ≤ row.start) page.words
opened_upto globals page row a =
    subst (All (λ word. page.first + word % PAGE_SPAN ≤ row.start)) (sym a.words)
    (All-push (λ word. page.first + word % PAGE_SPAN ≤ row.start) [] a.word (λ k d h. absurd (omega arith))
    (omega (arith, a.first, a.place)))

pub first_taken : (globals : List ℕ) (page : PageList) (row : Row) → Adds globals (empty_page row.start) page row
    → ArePagesTo globals (row ∷ []) row.start [] page
first_taken globals page row a = record {
  rows = opened_rows globals page row a;
  some = omega (arith, words_more globals (empty_page row.start) page row a);
  each = λ k d h. absurd (omega arith);
  locals = λ k d h. absurd (omega arith);
  is = opened globals page row a;
  order = λ i j d low h. absurd (omega arith);
  before = λ k d h. absurd (omega arith);
  closed = λ k d h. absurd (omega arith);
  next = λ d h. absurd (omega arith);
  upto = opened_upto globals page row a;
  begun = omega (arith, a.first);
}

-- closed pages and the open one
closed_more : (globals : List ℕ) (done : List PageList) (page : PageList) → AreClosed globals done
    → ((d : PageList) → 0 < length done → IsClosedTo globals (get_or done (length done - 1) d) (first_row globals page))
    → AreClosed globals (done ++ page ∷ [])
closed_more globals done page closed next k d h =
    let size : length (done ++ page ∷ []) ≡ length done + 1 = length-append done (page ∷ []) in
    let here : get_or (done ++ page ∷ []) k d ≡ get_or done k d = get_or_append_left done (page ∷ []) d k (omega arith) in
    let C : PageList → Row → Type 0 = IsClosedTo globals in
    elim (cases_lt (k + 1) (length done)) [
      | inl inside ↦
          let there : get_or (done ++ page ∷ []) (k + 1) d ≡ get_or done (k + 1) d = get_or_append_left done (page ∷ []) d (k + 1) inside in
          subst (λ p. C p (first_row globals (get_or (done ++ page ∷ []) (k + 1) d))) (sym here)
          (subst (λ q. C (get_or done k d) (first_row globals q)) (sym there) (closed k d inside))
      | inr last ↦
          let at : length done ≡ k + 1 = omega arith in
          let there : get_or (done ++ page ∷ []) (k + 1) d ≡ page
          = get_or-append_right done (page ∷ []) (length done) (k + 1) d refl (omega arith)
          ∙ ap (λ i. get_or (page ∷ []) i d) (zero_of k at) in
          subst (λ p. C p (first_row globals (get_or (done ++ page ∷ []) (k + 1) d))) (sym here)
          (subst (λ q. C (get_or done k d) (first_row globals q)) (sym there)
          (subst (λ i. C (get_or done i d) (first_row globals page)) (before_of k at) (next d (omega arith))))
    ]
  where
    zero_of : (k : ℕ) → length done ≡ k + 1 → k + 1 - length done ≡ 0
    zero_of k at = omega arith

    before_of : (k : ℕ) → length done ≡ k + 1 → length done - 1 ≡ k
    before_of k at = omega arith

-- the open page is closed, and a page begins
pub closed_and_opened : (globals : List ℕ) (functions : List Row) (last : ℕ) (done : List PageList) (old new : PageList) (row : Row)
    → ArePagesTo globals functions last done old → last < row.start → IsClosedTo globals old row
    → Adds globals (empty_page row.start) new row → ArePagesTo globals (functions ++ row ∷ []) row.start (done ++ old ∷ []) new
closed_and_opened globals functions last done old new row pages later shut a = record {
  rows = ap (λ l. l ++ page_rows globals new) (flat_map-append (page_rows globals) done (old ∷ []))
      ∙ ap (λ l. (flat_map (page_rows globals) done ++ l) ++ page_rows globals new) (append-nil (page_rows globals old))
      ∙ ap (λ l. l ++ page_rows globals new) pages.rows ∙ ap (λ l. functions ++ l) (opened_rows globals new row a);
  some = omega (arith, words_more globals (empty_page row.start) new row a);
  each = All-push (IsPage globals) done old pages.each (is_page globals old pages.some pages.is);
  locals = All-push (AreLocals globals) done old pages.locals pages.is.own;
  is = opened globals new row a;
  order = all_pairs_push (λ p q. AllBefore p q.first) done old pages.order pages.before;
  before = All-push (λ p. AllBefore p new.first) done old
      (λ k d h j e w. omega (arith, pages.before k d h j e w, a.first, pages.begun))
      (λ k d h. omega (arith, pages.upto k d h, a.first));
  closed = closed_more globals done old pages.closed pages.next;
  next = λ d some. subst (λ p. IsClosedTo globals p (first_row globals new)) (sym (last_of d))
      (subst (IsClosedTo globals old) (sym (first_new globals row.start new row (omega arith) a)) shut);
  upto = opened_upto globals new row a;
  begun = omega (arith, a.first);
}
  where
    last_of : (d : PageList) → get_or (done ++ old ∷ []) (length (done ++ old ∷ []) - 1) d ≡ old
    last_of d =
        let size : length (done ++ old ∷ []) - 1 ≡ length done = omega (arith, length-append done (old ∷ [])) in
        let at_end : length done - length done ≡ 0 = omega arith in
        ap (λ i. get_or (done ++ old ∷ []) i d) size
        ∙ get_or-append_right done (old ∷ []) (length done) (length done) d refl (omega arith)
        ∙ ap (λ i. get_or (old ∷ []) i d) at_end

pub all_pages : (globals : List ℕ) (functions : List Row) (last : ℕ) (done : List PageList) (page : PageList)
    → ArePagesTo globals functions last done page → ArePages globals functions (done ++ page ∷ [])
all_pages globals functions last done page pages = record {
  rows = flat_map-append (page_rows globals) done (page ∷ [])
      ∙ ap (λ l. flat_map (page_rows globals) done ++ l) (append-nil (page_rows globals page)) ∙ pages.rows;
  each = All-push (IsPage globals) done page pages.each (is_page globals page pages.some pages.is);
  locals = All-push (AreLocals globals) done page pages.locals pages.is.own;
  order = all_pairs_push (λ p q. AllBefore p q.first) done page pages.order pages.before;
  closed = closed_more globals done page pages.closed pages.next;
}

-- the same over a list of functions and a place in it
pub made_first : (globals : List ℕ) (rows : List Row) (page : PageList) (d : Row) → 0 < length rows
    → Adds globals (empty_page (get_or rows 0 d).start) page (get_or rows 0 d)
    → ArePagesTo globals (take 1 rows) (get_or rows 0 d).start [] page
made_first globals rows page d some a =
    subst (λ l. ArePagesTo globals l (get_or rows 0 d).start [] page) (sym (take_more rows 0 d some))
    (first_taken globals page (get_or rows 0 d) a)

-- a step at which the open page takes the function
pub made_taken : (globals : List ℕ) (rows : List Row) (i : ℕ) (d : Row) (done : List PageList) (old new : PageList) → 0 < i
    → i < length rows
    → AllPairs (λ r s. r.start < s.start) rows → ArePagesTo globals (take i rows) (get_or rows (i - 1) d).start done old
    → IsOpenTo globals old (get_or rows i d) → Adds globals old new (get_or rows i d)
    → ArePagesTo globals (take (i + 1) rows) (get_or rows (i + 1 - 1) d).start done new
made_taken globals rows i d done old new some within rising pages room a =
    let same : i ≡ i + 1 - 1 = omega arith in
    subst (λ j. ArePagesTo globals (take (i + 1) rows) (get_or rows j d).start done new) same
    (subst (λ l. ArePagesTo globals l (get_or rows i d).start done new) (sym (take_more rows i d within))
    (taken globals (take i rows) (get_or rows (i - 1) d).start done old new (get_or rows i d) pages
    (rising (i - 1) i d (omega arith) within) room a))

-- a step at which the open page is closed and the function begins the next one
pub made_next : (globals : List ℕ) (rows : List Row) (i : ℕ) (d : Row) (done next : List PageList) (old new : PageList) → 0 < i
    → i < length rows
    → AllPairs (λ r s. r.start < s.start) rows → ArePagesTo globals (take i rows) (get_or rows (i - 1) d).start done old
    → IsClosedTo globals old (get_or rows i d) → Adds globals (empty_page (get_or rows i d).start) new (get_or rows i d)
    → next ≡ done ++ old ∷ []
    → ArePagesTo globals (take (i + 1) rows) (get_or rows (i + 1 - 1) d).start next new
made_next globals rows i d done next old new some within rising pages shut a is =
    let same : i ≡ i + 1 - 1 = omega arith in
    subst (λ j. ArePagesTo globals (take (i + 1) rows) (get_or rows j d).start next new) same
    (subst (λ l. ArePagesTo globals l (get_or rows i d).start next new) (sym (take_more rows i d within))
    (subst (λ ps. ArePagesTo globals (take i rows ++ get_or rows i d ∷ []) (get_or rows i d).start ps new) (sym is)
    (closed_and_opened globals (take i rows) (get_or rows (i - 1) d).start done old new (get_or rows i d) pages
    (rising (i - 1) i d (omega arith) within) shut a)))

-- at the end the closed pages and the open one are pages of all functions
pub made_all : (globals : List ℕ) (rows : List Row) (i last : ℕ) (done pages : List PageList) (page : PageList) → length rows ≤ i
    → ArePagesTo globals (take i rows) last done page → pages ≡ done ++ page ∷ [] → ArePages globals rows pages
made_all globals rows i last done pages page over made is =
    subst (ArePages globals rows) (sym is)
    (subst (λ l. ArePages globals l (done ++ page ∷ [])) (take_all i rows over) (all_pages globals (take i rows) last done page made))
