-- The codes that a page names alone.
--
-- They are the codes of its functions that aren't among those named, in the order of their first use. Each function more adds at most one,
-- and adds one where its code is new; so those of the first functions are no more than those of all.
use Rattle.std.proofs.Common.{◌≡◌, ℕ, zero, suc, ◌+◌, ◌<◌, ◌≤◌, ◌==◌, ◌&&◌, ◌||◌, not, Bool, true, false, cond, List, [], ◌∷◌, ◌++◌, length, map, get_or, refl, sym, ap, subst, ◌∙◌, arith, inl, inr}
use Rattle.std.specs.List.{All, AllPairs}
use Rattle.std.proofs.lemmas.Bool.{cases_Bool, eqb-true, eq-eqb, ne_eqb}
use Rattle.std.proofs.lemmas.List.Folds.{list_any_at}
use Rattle.std.proofs.lemmas.List.Sums.{sum_by-cons}
use Rattle.macho_unwind_pages.specs.steps.Tallies.{locals_in}
use Rattle.macho_unwind_pages.specs.Plans.{Row, own_codes}
use Rattle.macho_unwind_pages.specs.steps.Words.{first_place}
use Rattle.macho_unwind_pages.proofs.Orders.{has}
use Rattle.macho_bytes.proofs.Bools.{and_left, and_right, neither, false_of_not}

-- the codes of functions
abbrev pub codes : List Row → List ℕ
codes rows = map (λ row. row.code) rows

or_left : (a b : Bool) → (a || b) ≡ false → a ≡ false
or_left true b h = h
or_left false b h = refl

or_right : (a b : Bool) → (a || b) ≡ false → b ≡ false
or_right true b h = absurd (cc)
or_right false b h = h

both : (a b c : Bool) → (b ≡ true → c ≡ true) → (a && not c) ≡ ((b || a) && not c)
both a true c h = rw (h refl) (none a)
  where
    none : (a : Bool) → (a && false) ≡ false
    none true = refl
    none false = refl
both a false c h = refl

new_one : (a b c : Bool) → (b ≡ true → c ≡ false) → (b || (a && not (b || c))) ≡ ((b || a) && not c)
new_one a true c h = rw (h refl) refl
new_one a false c h = refl

-- whether one is among them
pub has_own : (named : List ℕ) (rows : List Row) (code : ℕ)
    → has code (own_codes named rows) ≡ (has code (codes rows) && not (has code named))
unfolding own_codes
has_own named [] code = refl
has_own named (r ∷ rows) code = elim (cases_Bool (has r.code named)) [
  | inl there ↦ rw there (has_own named rows code ∙ both (has code (codes rows)) (code == r.code) (has code named)
      (λ same. ap (λ c. has c named) (eqb-true code r.code same) ∙ there))
  | inr new ↦ rw new (ap (λ b. (code == r.code) || b) (has_own (r.code ∷ named) rows code)
      ∙ new_one (has code (codes rows)) (code == r.code) (has code named) (λ same. ap (λ c. has c named) (eqb-true code r.code same) ∙ new))
]

-- none of them is among those named
pub own_apart : (named : List ℕ) (rows : List Row) → All (λ code. has code named ≡ false) (own_codes named rows)
own_apart named rows k d h =
    let x = get_or (own_codes named rows) k d in
    false_of_not (has x named) (and_right (has x (codes rows)) (not (has x named)) (sym (has_own named rows x)
    ∙ list_any_at (λ other. x == other) (own_codes named rows) k d h (eq-eqb x x refl)))

-- each is the code of a function
pub own_used : (named : List ℕ) (rows : List Row) → All (λ code. has code (codes rows) ≡ true) (own_codes named rows)
own_used named rows k d h =
    let x = get_or (own_codes named rows) k d in
    and_left (has x (codes rows)) (not (has x named)) (sym (has_own named rows x)
    ∙ list_any_at (λ other. x == other) (own_codes named rows) k d h (eq-eqb x x refl))

first_later : (cs : List ℕ) (c x : ℕ) → (x == c) ≡ false → first_place (c ∷ cs) x ≡ 1 + first_place cs x
first_later cs c x differs = rw differs refl

first_here : (cs : List ℕ) (c : ℕ) → first_place (c ∷ cs) c ≡ 0
first_here cs c = rw (eq-eqb c c refl) refl

pairs_cons : (R : ℕ → ℕ → Type 0) (y : ℕ) (ys : List ℕ) → All (R y) ys → AllPairs R ys → AllPairs R (y ∷ ys)
pairs_cons R y ys first rest zero zero d low h = absurd (omega arith)
pairs_cons R y ys first rest zero (suc j) d low h = first j d (omega arith)
pairs_cons R y ys first rest (suc i) zero d low h = absurd (omega arith)
pairs_cons R y ys first rest (suc i) (suc j) d low h = rest i j d (omega arith) (omega arith)

own_skipped : (named : List ℕ) (r : Row) (rows : List Row) → has r.code named ≡ true → own_codes named (r ∷ rows) ≡ own_codes named rows
unfolding own_codes
own_skipped named r rows there = rw there refl

own_taken : (named : List ℕ) (r : Row) (rows : List Row) → has r.code named ≡ false
    → own_codes named (r ∷ rows) ≡ r.code ∷ own_codes (r.code ∷ named) rows
unfolding own_codes
own_taken named r rows new = rw new refl

-- they stand in the order of their first use
pub own_order : (named : List ℕ) (rows : List Row)
    → AllPairs (λ a b. first_place (codes rows) a < first_place (codes rows) b) (own_codes named rows)
unfolding own_codes
own_order named [] = λ i j d low h. absurd (omega arith)
own_order named (r ∷ rows) = elim (cases_Bool (has r.code named)) [
  | inl there ↦ subst (AllPairs InOrder) (sym (own_skipped named r rows there)) (λ i j d low h. omega (
    arith,
    own_order named rows i j d low h,
    first_later (codes rows) r.code _ (other there (get_or (own_codes named rows) i d) (own_apart named rows i d (omega arith))),
    first_later (codes rows) r.code _ (other there (get_or (own_codes named rows) j d) (own_apart named rows j d h)),
  ))
  | inr new ↦ subst (AllPairs InOrder) (sym (own_taken named r rows new)) (pairs_cons InOrder r.code (own_codes (r.code ∷ named) rows)
      (λ k d h. omega (arith, first_here (codes rows) r.code, later k d h))
      (λ i j d low h. omega (arith, own_order (r.code ∷ named) rows i j d low h, later i d (omega arith), later j d h)))
]
  where
    InOrder : ℕ → ℕ → Type 0
    InOrder a b = first_place (r.code ∷ codes rows) a < first_place (r.code ∷ codes rows) b

    other : has r.code named ≡ true → (x : ℕ) → has x named ≡ false → (x == r.code) ≡ false
    other there x out = ne_eqb x r.code (λ e. let same = ap (λ c. has c named) e in absurd (cc))

    later : (k d : ℕ) → k < length (own_codes (r.code ∷ named) rows)
        → first_place (r.code ∷ codes rows) (get_or (own_codes (r.code ∷ named) rows) k d)
        ≡ 1 + first_place (codes rows) (get_or (own_codes (r.code ∷ named) rows) k d)
    later k d h =
        let x = get_or (own_codes (r.code ∷ named) rows) k d in
        first_later (codes rows) r.code x (or_left (x == r.code) (has x named) (own_apart (r.code ∷ named) rows k d h))

-- those of the first functions are no more
pub own_prefix : (named : List ℕ) (xs ys : List Row) → length (own_codes named xs) ≤ length (own_codes named (xs ++ ys))
unfolding own_codes
own_prefix named [] ys = omega arith
own_prefix named (x ∷ xs) ys = elim (cases_Bool (has x.code named)) [
  | inl there ↦ rw there (own_prefix named xs ys)
  | inr new ↦ rw new (let rest = own_prefix (x.code ∷ named) xs ys in omega (arith, rest))
]

-- a function more adds at most one
pub own_more : (named : List ℕ) (xs : List Row) (row : Row) → length (own_codes named (xs ++ row ∷ [])) ≤ length (own_codes named xs) + 1
unfolding own_codes
own_more named [] row = elim (cases_Bool (has row.code named)) [
  | inl there ↦ rw there (omega arith)
  | inr new ↦ rw new (omega arith)
]
own_more named (x ∷ xs) row = elim (cases_Bool (has x.code named)) [
  | inl there ↦ rw there (own_more named xs row)
  | inr new ↦ rw new (let rest = own_more (x.code ∷ named) xs row in omega (arith, rest))
]

-- and adds one where its code is new
pub own_new : (named : List ℕ) (xs : List Row) (row : Row) → has row.code named ≡ false → has row.code (codes xs) ≡ false
    → length (own_codes named (xs ++ row ∷ [])) ≡ length (own_codes named xs) + 1
unfolding own_codes
own_new named [] row out absent = rw out refl
own_new named (x ∷ xs) row out absent =
    let differs = or_left (row.code == x.code) (has row.code (codes xs)) absent in
    let rest = or_right (row.code == x.code) (has row.code (codes xs)) absent in
    elim (cases_Bool (has x.code named)) [
      | inl there ↦ rw there (own_new named xs row out rest)
      | inr new ↦ rw new (omega (
        arith,
        own_new (x.code ∷ named) xs row (neither (row.code == x.code) (has row.code named) differs out) rest,
      ))
    ]

-- they are no more than the functions with codes that aren't among those named
pub own_few : (globals named : List ℕ) (rows : List Row) → ((code : ℕ) → has code named ≡ false → has code globals ≡ false)
    → length (own_codes named rows) ≤ locals_in globals (codes rows)
unfolding own_codes
own_few globals named [] sub = omega arith
own_few globals named (r ∷ rows) sub = elim (cases_Bool (has r.code named)) [
  | inl there ↦ rw there (omega (
    arith,
    own_few globals named rows sub,
    sum_by-cons (λ (c : ℕ). cond (not (has c globals)) 1 0) r.code (codes rows),
  ))
  | inr new ↦ rw new (omega (
    arith,
    own_few globals (r.code ∷ named) rows (λ code out. sub code (or_right (code == r.code) (has code named) out)),
    sum_by-cons (λ (c : ℕ). cond (not (has c globals)) 1 0) r.code (codes rows),
    one (sub r.code new),
  ))
]
  where
    one : has r.code globals ≡ false → ◌≡◌ {A = ℕ} (cond (not (has r.code globals)) 1 0) 1
    one out = ap (λ (b : Bool). cond (not b) 1 0) out
