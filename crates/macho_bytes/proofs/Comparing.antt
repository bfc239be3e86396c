-- Numbers compared, and tests of lists of numbers.
use Rattle.std.proofs.Common.{Result, Ok, Err, OnOk, ◌≡◌, ℕ, ◌==◌, true, false, Bool, refl, sym, ◌∙◌, List, ◌+◌, ◌<◌, arith, inl, inr, ◌⊎◌, ◌≤◌, nat_le, ltb, ◌≢◌, suc, take, ◌∷◌, ap, [], length, vec_len, zero, get_or, IfErr, Option, Some}
use Rattle.std.proofs.lemmas.Bool.{eqb-true, eqb-false, ne_eqb, eq-eqb, cases_lt}
use Rattle.std.proofs.lemmas.Slice.Eq.{bytes_eq-Decides}
use Rattle.std.specs.Str.{bytes_eq}
use Rattle.std.proofs.lemmas.Bool.Decides.{nat_tests, same_from_decides}
use Rattle.std.specs.declared.vec.Vec.{Vec}

pub on_ok_always : {X E A : Type 0} (r : Result X E) → A → OnOk r A
on_ok_always (Ok x) a = a
on_ok_always (Err e) a = tt

pub eq_turn : (a b : ℕ) → (a == b) ≡ (b == a)
eq_turn a b = of (a == b) refl
  where
    of : (t : Bool) → (a == b) ≡ t → (a == b) ≡ (b == a)
    of true is = is ∙ sym (eq-eqb b a (sym (eqb-true a b is)))
    of false is = is ∙ sym (ne_eqb b a (λ same. eqb-false a b is (sym same)))

pub same_bytes : (xs ys : List ℕ) → bytes_eq xs ys ≡ true → xs ≡ ys
same_bytes xs ys is = (bytes_eq-Decides xs ys).0 is

pub bytes_same : (x : List ℕ) → bytes_eq x x ≡ true
bytes_same x = (bytes_eq-Decides x x).1 refl

pub below_more : (r n : ℕ) → r < n + 1 → (r < n) ⊎ (r ≡ n)
below_more r n lt = elim (cases_lt r n) [ inl less ↦ inl less | inr last ↦ inr (omega arith) ]

pub at_most : (m n : ℕ) → m ≤ n → nat_le m n ≡ true
at_most m n le = grind (arith, nat_tests)

pub not_less : (m n : ℕ) → n ≤ m → ltb m n ≡ false
not_less m n h = grind (arith, nat_tests)

-- two numbers are the same or not
pub same_or_not : (m n : ℕ) → (m ≡ n) ⊎ (m ≢ n)
same_or_not m n =
    elim (cases_lt m n) [
      | inl less ↦ inr (λ e. omega arith)
      | inr more ↦ elim (cases_lt n m) [ inl great ↦ inr (λ e. omega arith) | inr least ↦ inl (omega arith) ]
    ]

pub first_stays : (x k : ℕ) (xs : List ℕ) → take (1 + k) (x ∷ xs) ≡ x ∷ take k xs
first_stays x k xs =
    let more : 1 + k ≡ suc k = omega arith in
    ap (λ (n : ℕ). take n (x ∷ xs)) more

-- the steps of the walk: at the end of the name, at a node without a step, and onto the next node
pub no_elements : (xs : List ℕ) → length xs ≡ 0 → xs ≡ []
no_elements [] none = refl
no_elements (x ∷ xs) none = absurd (omega arith)

pub on_ok_one : {X E A B : Type 0} (r : Result X E) → (A → B) → OnOk r A → OnOk r B
on_ok_one (Ok x) one a = one a
on_ok_one (Err e) one a = tt

-- how many entries there were
pub vec_len_is : {X A : Type 0} (v : Vec X A) → vec_len v ≡ length v.items
vec_len_is v = omega arith

-- an item of a list, whatever is given past its end
pub read_alike : {X : Type 0} (xs : List X) (i : ℕ) (d e : X) → i < length xs → get_or xs i d ≡ get_or xs i e
read_alike [] i d e h = absurd (omega arith)
read_alike (x ∷ xs) zero d e h = refl
read_alike (x ∷ xs) (suc i) d e h = read_alike xs i d e (omega arith)

pub bytes_turn : (a b : List ℕ) → bytes_eq a b ≡ bytes_eq b a
bytes_turn a b =
    same_from_decides (bytes_eq a b) (bytes_eq b a) (λ t. sym ((bytes_eq-Decides a b).0 t), λ e. (bytes_eq-Decides a b).1 (sym e))
    (bytes_eq-Decides b a)

pub if_err : {X E : Type 0} (P Q : E → Type 0) (r : Result X E) → ((e : E) → P e → Q e) → IfErr r P → IfErr r Q
if_err P Q (Ok x) f p = tt
if_err P Q (Err e) f p = f e p

-- two values of one thing are one value
pub same_some : {X : Type 0} (o : Option X) (x y : X) → o ≡ Some x → o ≡ Some y → x ≡ y
same_some o x y p q = cc

pub unequal : (m n : ℕ) → (m == n) ≡ false → m ≢ n
unequal m n h = grind (arith, nat_tests)
