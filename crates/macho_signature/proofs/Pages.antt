-- The digests of a run of pages, and what one page more, or other bytes in one page, makes of them.
--
-- The digests of pages are their SHA-256 joined end to end, 32 bytes each. One page more is one text more behind them.
-- A run of pages falls into those before a place, some, and those behind. Where bytes change only in the middle pages,
-- the digests before and behind stay; so putting the middle digests anew over the old list gives the whole new list.
use Rattle.std.proofs.Common.{◌≡◌, ℕ, zero, suc, ◌+◌, ◌*◌, ◌<◌, ◌≤◌, List, ◌++◌, length, refl, sym, ap, ◌∙◌, arith, append_assoc}
use Rattle.std.specs.List.{flat_map, range_with_len}
use Rattle.std.proofs.Math.Nat.{mul-suc}
use Rattle.std.proofs.lemmas.List.{length-append, append-nil}
use Rattle.sha2.proofs.Facts256.{length-sha256}
use Rattle.macho_bytes.specs.Texts.{put}
use Rattle.macho_bytes.proofs.Puts.{put-put, put_nothing}
use Rattle.macho_model.specs.Signature.{page_digest, page_count, page_digests}
use Rattle.macho_signature.specs.Pages.{digests_from}

-- a digest has 32 bytes
pub length-page_digest : (b : List ℕ) (k limit : ℕ) → length (page_digest b k limit) ≡ 32
unfolding page_digest
length-page_digest b k limit = length-sha256 _

-- texts over a run of numbers that falls into two runs
runs_join : (f : ℕ → List ℕ) (a m n : ℕ) → flat_map f (range_with_len a (m + n)) ≡ flat_map f (range_with_len a m)
    ++ flat_map f (range_with_len (a + m) n)
runs_join f a zero n =
    let e : 0 + n ≡ n = omega arith in
    let z : a ≡ a + 0 = omega arith in
    ap (λ (k : ℕ). flat_map f (range_with_len a k)) e ∙ ap (λ (k : ℕ). flat_map f (range_with_len k n)) z
runs_join f a (suc m) n =
    let e : suc m + n ≡ suc (m + n) = omega arith in
    let z : a + 1 + m ≡ a + suc m = omega arith in
    ap (λ (k : ℕ). flat_map f (range_with_len a k)) e
    ∙ ap (λ (t : List ℕ). f a ++ t) (runs_join f (a + 1) m n)
    ∙ sym (append_assoc (f a) (flat_map f (range_with_len (a + 1) m)) (flat_map f (range_with_len (a + 1 + m) n)))
    ∙ ap (λ (k : ℕ). (f a ++ flat_map f (range_with_len (a + 1) m)) ++ flat_map f (range_with_len k n)) z

-- texts of one length over a run
length-run : (f : ℕ → List ℕ) (w a n : ℕ) → ((k : ℕ) → length (f k) ≡ w) → length (flat_map f (range_with_len a n)) ≡ w * n
length-run f w a zero each = omega arith
length-run f w a (suc n) each =
    omega (arith, each a, length-run f w (a + 1) n each, length-append (f a) (flat_map f (range_with_len (a + 1) n)), mul-suc w n)

-- the same texts over a run on which two functions agree
runs_agree : (f g : ℕ → List ℕ) (a n : ℕ) → ((k : ℕ) → a ≤ k → k < a + n → f k ≡ g k)
    → flat_map f (range_with_len a n) ≡ flat_map g (range_with_len a n)
runs_agree f g a zero same = refl
runs_agree f g a (suc n) same =
    ap (λ (t : List ℕ). t ++ flat_map f (range_with_len (a + 1) n)) (same a (omega arith) (omega arith))
    ∙ ap (λ (t : List ℕ). g a ++ t) (runs_agree f g (a + 1) n (λ k from to. same k (omega arith) (omega arith)))

-- the digests of pages are 32 bytes each
pub length-digests : (b : List ℕ) (first count : ℕ) → length (digests_from b first count) ≡ 32 * count
unfolding digests_from
length-digests b first count = length-run (λ k. page_digest b k (length b)) 32 first count (λ k. length-page_digest b k (length b))

-- no page is signed yet
pub pages_begin : (b : List ℕ) (at first none : ℕ) (out : List ℕ) → none ≡ 0 → at ≤ length out
    → out ≡ put at (digests_from b first none) out
unfolding digests_from
pages_begin b at first none out is fits =
    sym (put_nothing at out fits) ∙ ap (λ (k : ℕ). put at (flat_map (λ j. page_digest b j (length b)) (range_with_len first k)) out)
    (sym is)

-- one page more
pub pages_go_on : (b : List ℕ) (at place first page count more : ℕ) (before out now : List ℕ) → page ≡ first + count → more ≡ count + 1
    → place ≡ at + 32 * count → place + 32 ≤ length before → out ≡ put at (digests_from b first count) before
    → now ≡ put place (page_digest b page (length b)) out → now ≡ put at (digests_from b first more) before
unfolding digests_from
pages_go_on b at place first page count more before out now here next ends room so_far is =
    is ∙ ap (put place (f page)) so_far
    ∙ put-put at place run (f page) before (omega (arith, ends, length-digests b first count, long))
    (omega (arith, room, length-page_digest b page (length b)))
    ∙ ap (λ (t : List ℕ). put at t before) (sym all)
  where
    f : ℕ → List ℕ
    f k = page_digest b k (length b)

    run : List ℕ
    run = flat_map f (range_with_len first count)

    long : length run ≡ 32 * count
    long = length-run f 32 first count (λ k. length-page_digest b k (length b))

    all : flat_map f (range_with_len first more) ≡ run ++ f page
    all = ap (λ (k : ℕ). flat_map f (range_with_len first k)) next ∙ runs_join f first count 1
        ∙ ap (λ (t : List ℕ). run ++ t) (append-nil (f (first + count))) ∙ ap (λ (k : ℕ). run ++ f k) (sym here)

-- the digests of a run that falls into two
pub digests_join : (b : List ℕ) (first m n : ℕ) → digests_from b first (m + n) ≡ digests_from b first m ++ digests_from b (first + m) n
unfolding digests_from
digests_join b first m n = runs_join (λ k. page_digest b k (length b)) first m n

-- the digests of pages that are alike
pub digests_agree : (b c : List ℕ) (first count : ℕ) → ((k : ℕ) → first ≤ k → k < first + count
    → page_digest b k (length b) ≡ page_digest c k (length c))
    → digests_from b first count ≡ digests_from c first count
unfolding digests_from
digests_agree b c first count same = runs_agree (λ k. page_digest b k (length b)) (λ k. page_digest c k (length c)) first count same

-- all pages are a run of pages
pub digests_all : (b : List ℕ) → digests_from b 0 (page_count (length b)) ≡ page_digests b (length b)
unfolding digests_from page_digests
digests_all b = refl

-- the digests of all pages below a limit
pub length-page_digests : (b : List ℕ) (limit : ℕ) → length (page_digests b limit) ≡ 32 * page_count limit
unfolding page_digests
length-page_digests b limit = length-run (λ k. page_digest b k limit) 32 0 (page_count limit) (λ k. length-page_digest b k limit)

-- files that are alike below a limit have the same digests
pub page_digests-alike : (b c : List ℕ) (limit : ℕ) → ((k : ℕ) → page_digest b k limit ≡ page_digest c k limit)
    → page_digests b limit ≡ page_digests c limit
unfolding page_digests
page_digests-alike b c limit same =
    runs_agree (λ k. page_digest b k limit) (λ k. page_digest c k limit) 0 (page_count limit) (λ k from to. same k)
