-- A list with repeats taken out, one element more.
--
-- By recursion on the list. The first element y takes its repeats out of what the others leave. Where the new element is y,
-- it is taken out, whether or not the others left it. Where it is another one, taking out y leaves it, and leaves the same
-- answer to whether it stood there. A map that keeps the test commutes with taking repeats out.
use Rattle.std.proofs.Common.{◌≡◌, ◌+◌, Bool, true, false, cond, not, ◌||◌, List, [], ◌∷◌, ◌++◌, filter, length, Decides, refl, sym, ap, ◌∙◌, arith, eqb, ◌<◌, ◌≤◌}
use Rattle.std.specs.List.{list_any, position_or_len}
use Rattle.std.proofs.lemmas.Bool.{false≢true, not_from_true, not_from_false, false_from_ne_true, not-false, ne_eqb, eqb-true}
use Rattle.std.proofs.lemmas.List.{length_push}
use Rattle.std.proofs.lemmas.List.Folds.{position_or_len_push}
use Rattle.indexmap.specs.IndexSet.{insert_key}
use Rattle.macho_model.specs.Needs.{distinct}
use Rattle.macho_stack.proofs.Lists.{filter_push_yes, filter_push_no}
use Rattle.macho_bytes.proofs.Maps.{any-filter}

-- what is left when one element is taken out
abbrev others : {X : Type 0} → (X → X → Bool) → X → List X → List X
others same y xs = filter (λ z. not (same y z)) xs

-- taking out y before or after a new element is put in
put_in : {X : Type 0} (same : X → X → Bool) → ((a b : X) → Decides (same a b) (a ≡ b)) → (D : List X) (y x : X)
    → y ∷ others same y (insert_key same D x) ≡ insert_key same (y ∷ others same y D) x
put_in {X} same d D y x = by (same x y) refl
  where
    known : (a : Bool) → x ≡ y → others same y (cond a D (D ++ x ∷ [])) ≡ others same y D
    known true e = refl
    known false e = filter_push_no (λ z. not (same y z)) D x (not_from_true (same y x) ((d y x).1 (sym e)))

    new : (a : Bool) → (x ≡ y → ⊥) → y ∷ others same y (cond a D (D ++ x ∷ [])) ≡ cond a (y ∷ others same y D)
        (y ∷ others same y D ++ x ∷ [])
    new true e = refl
    new false e =
        ap (λ (zs : List X). y ∷ zs) (filter_push_yes (λ z. not (same y z)) D x
        (not_from_false (same y x) (false_from_ne_true (same y x) (λ t. e (sym ((d y x).0 t))))))

    by : (b : Bool) → same x y ≡ b → y ∷ others same y (insert_key same D x) ≡ insert_key same (y ∷ others same y D) x
    by true is =
        ap (λ (zs : List X). y ∷ zs) (known (list_any (same x) D) ((d x y).0 is))
        ∙ sym (ap (λ (b : Bool). cond (b || list_any (same x) (others same y D)) (y ∷ others same y D) (y ∷ others same y D ++ x ∷ [])) is)
    by false is =
        let apart : x ≡ y → ⊥ = λ e. false≢true (sym is ∙ (d x y).1 e) in
        let stays : list_any (same x) (others same y D) ≡ list_any (same x) D
        = any-filter (λ z. not (same y z)) (same x) D (λ z out. ap (same x) (sym ((d y z).0 (not-false (same y z) out))) ∙ is) in
        new (list_any (same x) D) apart
        ∙ sym (ap (λ (b : Bool). cond (b || list_any (same x) (others same y D)) (y ∷ others same y D) (y ∷ others same y D ++ x ∷ [])) is
        ∙ ap (λ (b : Bool). cond b (y ∷ others same y D) (y ∷ others same y D ++ x ∷ [])) stays)

-- the new element goes last, unless it is there
pub distinct_push : {X : Type 0} (same : X → X → Bool) → ((a b : X) → Decides (same a b) (a ≡ b)) → (xs : List X) (x : X)
    → distinct same (xs ++ x ∷ []) ≡ insert_key same (distinct same xs) x
distinct_push same d [] x = refl
distinct_push {X} same d (y ∷ ys) x = ap (λ (zs : List X). y ∷ others same y zs) (distinct_push same d ys x) ∙ put_in same d
    (distinct same ys) y x

-- the place of an element in a list that it was put into
pub place_put : {X : Type 0} (p : X → Bool) (b : Bool) (xs : List X) (x : X) → position_or_len p xs < length xs
    → position_or_len p (cond b xs (xs ++ x ∷ [])) ≡ position_or_len p xs
place_put p true xs x inside = refl
place_put p false xs x inside =
    position_or_len_push p xs x
    ∙ ap (λ (b : Bool). cond b (length xs + cond (p x) 0 1) (position_or_len p xs))
    (ne_eqb (position_or_len p xs) (length xs) (λ e. omega arith))

pub place_new : {X : Type 0} (p : X → Bool) (b : Bool) (xs : List X) (x : X) → p x ≡ true
    → position_or_len p (cond b xs (xs ++ x ∷ [])) ≡ position_or_len p xs
place_new p true xs x passes = refl
place_new p false xs x passes = position_or_len_push p xs x ∙ by (eqb (position_or_len p xs) (length xs)) refl
  where
    by : (b : Bool) → eqb (position_or_len p xs) (length xs) ≡ b → cond b (length xs + cond (p x) 0 1) (position_or_len p xs)
        ≡ position_or_len p xs
    by true is = ap (λ (b : Bool). length xs + cond b 0 1) passes ∙ omega (arith, eqb-true (position_or_len p xs) (length xs) is)
    by false is = refl

-- a list that an element was put into is no shorter
pub longer_put : {X : Type 0} (b : Bool) (xs : List X) (x : X) → length xs ≤ length (cond b xs (xs ++ x ∷ []))
longer_put true xs x = omega arith
longer_put false xs x = omega (arith, length_push xs x)
