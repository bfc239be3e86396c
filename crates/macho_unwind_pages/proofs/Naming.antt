-- Numbers of codes on a page.
--
-- A code that no list has gets the next place of the page's own list. It is one of the ranks, so there are more ranks than
-- those that every page may name, and these are as many as there may be: so numbers stay below 224 + 32.
use Rattle.std.proofs.Common.{◌≡◌, ℕ, ◌+◌, ◌-◌, ◌*◌, ◌/◌, ◌^◌, ◌<◌, ◌≤◌, ◌==◌, ◌||◌, true, false, Bool, List, [], ◌∷◌, ◌++◌, length, take, get_or, Contains, refl, sym, ap, subst, ◌∙◌, arith, inl, inr, ◌⊎◌, length-append}
use Rattle.std.specs.List.{list_any}
use Rattle.std.proofs.lemmas.Bool.{eqb-true, cases_lt}
use Rattle.std.proofs.lemmas.Cmp.{nat_eq_equiv}
use Rattle.std.proofs.lemmas.List.{length-take, get_or-append_right, take_all}
use Rattle.std.proofs.lemmas.List.Folds.{list_any-append}
use Rattle.std.proofs.lemmas.Map.Views.{list_any-from_Contains, Contains-from_any}
use Rattle.indexmap.specs.IndexMap.{IndexMap, keys}
use Rattle.macho_unwind_pages.specs.Plans.{PageList, Row}
use Rattle.macho_unwind_pages.specs.steps.Words.{IsNamed}
use Rattle.macho_unwind_pages.specs.steps.Paging.{globals_in, IsOpenTo, Names, Adds}

-- a list in which the test finds a code has the code
pub is_in : (xs : List ℕ) (code : ℕ) → list_any (λ other. code == other) xs ≡ true → Contains xs code
is_in xs code h = Contains-from_any eqb-true code xs h

pub is_not_in : (xs : List ℕ) (code : ℕ) → list_any (λ other. code == other) xs ≡ false → Contains xs code → ⊥
is_not_in xs code h there = let e = list_any-from_Contains nat_eq_equiv code xs there in absurd (cc)

-- whether one of two lists has a code
pub found_in_second : (xs ys : List ℕ) (code : ℕ) → list_any (λ other. code == other) xs ≡ false
    → list_any (λ other. code == other) (xs ++ ys) ≡ list_any (λ other. code == other) ys
found_in_second xs ys code h = list_any-append (λ other. code == other) xs ys ∙ ap (λ b. b || list_any (λ other. code == other) ys) h

pub found_in_first : (xs ys : List ℕ) (code : ℕ) → list_any (λ other. code == other) xs ≡ true
    → list_any (λ other. code == other) (xs ++ ys) ≡ true
found_in_first xs ys code h = list_any-append (λ other. code == other) xs ys ∙ ap (λ b. b || list_any (λ other. code == other) ys) h

pub found_nowhere : (xs ys : List ℕ) (code : ℕ) → list_any (λ other. code == other) (xs ++ ys) ≡ false
    → list_any (λ other. code == other) xs ≡ false
found_nowhere xs ys code h =
    go (list_any (λ other. code == other) xs) (sym (list_any-append (λ other. code == other) xs ys) ∙ h)
  where
    go : (b : Bool) → (b || list_any (λ other. code == other) ys) ≡ false → b ≡ false
    go true e = e
    go false e = refl

-- one of the ranks that isn't among the first
pub all_taken : (ranks : List ℕ) (code n : ℕ) → list_any (λ other. code == other) ranks ≡ true
    → list_any (λ other. code == other) (take n ranks) ≡ false → length (take n ranks) ≡ n
all_taken ranks code n there out =
    elim (cases_lt n (length ranks)) [
      | inl more ↦ omega (arith, length-take n ranks)
      | inr few ↦ let e = ap (list_any (λ other. code == other)) (take_all n ranks few) in absurd (cc)
    ]

-- a ranked code that has no number gets the next one of the page's own, behind the 224 of all pages
pub new_name : {S : Type 0} (ranks : IndexMap ℕ ℕ S) (old new : PageList) (code number : ℕ) → new.first ≡ old.first → new.words ≡ old.words
    → new.locals ≡ old.locals ++ code ∷ [] → list_any (λ other. code == other) (keys ranks) ≡ true
    → list_any (λ other. code == other) (globals_in ranks ++ old.locals) ≡ false → number ≡ 224 + length old.locals
    → Names (globals_in ranks) old new code number
new_name ranks old new code number first words locals ranked out is =
    let many : length (globals_in ranks) ≡ 224
    = all_taken (keys ranks) code 224 ranked (found_nowhere (globals_in ranks) old.locals code out) in
    let last : number - 224 - length old.locals ≡ 0 = omega arith in
    record {
      first = first;
      words = words;
      locals = inr (locals, is_not_in (globals_in ranks ++ old.locals) code out);
      full = λ h. many;
      is = (
        omega (arith, many, length-append (globals_in ranks) new.locals, ap length locals, length-append old.locals (code ∷ [])),
        get_or-append_right (globals_in ranks) new.locals 224 number 0 many (omega arith)
            ∙ ap (λ l. get_or l (number - 224) 0) locals
            ∙ get_or-append_right old.locals (code ∷ []) (length old.locals) (number - 224) 0 refl (omega arith)
            ∙ ap (λ i. get_or (code ∷ []) i 0) last,
      );
    }

-- a number fits the bits that it has
pub small_number : {S : Type 0} (ranks : IndexMap ℕ ℕ S) (old new : PageList) (row : Row) (number : ℕ) → length old.locals ≤ 32
    → IsOpenTo (globals_in ranks) old row → Names (globals_in ranks) old new row.code number → number < 256
small_number ranks old new row number locals room names =
    omega (arith, names.is.0, length-append (globals_in ranks) new.locals, length-take 224 (keys ranks), few names.locals)
  where
    few : (new.locals ≡ old.locals) ⊎ ((new.locals ≡ old.locals ++ row.code ∷ []) × ¬ IsNamed (globals_in ranks) old row.code)
        → length new.locals ≤ 32
    few (inl same) = omega (arith, ap length same)
    few (inr more) = omega (arith, ap length more.0, length-append old.locals (row.code ∷ []), (room.code more.1).0)

-- a word of a number and a place
pub adds : (globals : List ℕ) (old named new : PageList) (row : Row) (number word : ℕ) → IsOpenTo globals old row
    → Names globals old named row.code number → number < 256 → word ≡ number * 2 ^ 24 + (row.start - old.first)
    → new.first ≡ named.first → new.words ≡ named.words ++ word ∷ [] → new.locals ≡ named.locals → row.code < 2 ^ 32 → row.start < 2 ^ 32
    → Adds globals old new row
adds globals old named new row number word room names small is first words locals code start =
    let place : row.start - old.first < 2 ^ 24 = omega (arith, room.near) in
    let high : word / 2 ^ 24 ≡ number = omega arith in
    record {
      word = word;
      first = first ∙ names.first;
      words = words ∙ ap (λ l. l ++ word ∷ []) names.words;
      locals = kept names.locals;
      full = λ h. names.full (subst (λ l. 0 < length l) locals h);
      place = omega arith;
      is = (
        omega (arith, high, names.is.0, ap (λ l. length (globals ++ l)) locals),
        ap (λ l. get_or (globals ++ l) (word / 2 ^ 24) 0) locals ∙ ap (λ i. get_or (globals ++ named.locals) i 0) high ∙ names.is.1,
      );
      fits = omega arith;
      code = code;
      start = start;
    }
  where
    kept : (named.locals ≡ old.locals) ⊎ ((named.locals ≡ old.locals ++ row.code ∷ []) × ¬ IsNamed globals old row.code)
        → (new.locals ≡ old.locals) ⊎ ((new.locals ≡ old.locals ++ row.code ∷ []) × ¬ IsNamed globals old row.code)
    kept (inl same) = inl (locals ∙ same)
    kept (inr more) = inr (locals ∙ more.0, more.1)
