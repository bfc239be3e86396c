-- The last line that is so, of lines that come one after the other. It stays the last while no further one is so (`stays_last`);
-- a line that is so is the last when it comes (`is_last`); and there is one (`one_last`).
-- One list that is cut in two ways is cut at one place, or one cut lies before the other (`cuts`): so the earlier of two
-- such lines would have the later one behind it, and none behind it is so.
use Rattle.std.proofs.Common.{◌≡◌, ℕ, ◌+◌, List, [], ◌∷◌, ◌++◌, length, refl, sym, ap, ◌∙◌, subst, append_assoc}
use Rattle.macho_stub_lines.specs.Bytes.{head}
use Rattle.macho_stub.specs.Order.{IsLastLine}

-- ---- lists that are cut in two ways

-- two cuts of a list: at one place, or one before the other
pub data Cuts {A : Type 0} (f : List A) (x : A) (p : List A) (g : List A) (y : A) (q : List A) : Type 0 where
  Same : f ≡ g → x ≡ y → Cuts f x p g y q
  Before : (r : List A) → g ≡ f ++ x ∷ r → p ≡ r ++ y ∷ q → Cuts f x p g y q
  Behind : (r : List A) → f ≡ g ++ y ∷ r → q ≡ r ++ x ∷ p → Cuts f x p g y q

first_is : {A : Type 0} (x y : A) (xs ys : List A) → x ∷ xs ≡ y ∷ ys → x ≡ y
first_is x y xs ys e = cc

rest_is : {A : Type 0} (x y : A) (xs ys : List A) → x ∷ xs ≡ y ∷ ys → xs ≡ ys
rest_is x y xs ys e = cc

cuts_more : {A : Type 0} (a b : A) (f : List A) (x : A) (p g : List A) (y : A) (q : List A) → a ≡ b → Cuts f x p g y q
    → Cuts (a ∷ f) x p (b ∷ g) y q
cuts_more {A} a b f x p g y q e (Same s t) = Same (ap (λ c. c ∷ f) e ∙ ap (λ (l : List A). b ∷ l) s) t
cuts_more {A} a b f x p g y q e (Before r s t) = Before r (ap (λ c. c ∷ g) (sym e) ∙ ap (λ (l : List A). a ∷ l) s) t
cuts_more {A} a b f x p g y q e (Behind r s t) = Behind r (ap (λ c. c ∷ f) e ∙ ap (λ (l : List A). b ∷ l) s) t

-- one list that is cut in two ways is cut so
pub cuts : {A : Type 0} (f : List A) (x : A) (p g : List A) (y : A) (q : List A) → f ++ x ∷ p ≡ g ++ y ∷ q → Cuts f x p g y q
cuts [] x p [] y q e = Same refl (first_is x y p q e)
cuts {A} [] x p (b ∷ g) y q e = Before g (ap (λ c. c ∷ g) (sym (first_is x b p (g ++ y ∷ q) e))) (rest_is x b p (g ++ y ∷ q) e)
cuts {A} (a ∷ f) x p [] y q e = Behind f (ap (λ c. c ∷ f) (first_is a y (f ++ x ∷ p) q e)) (sym (rest_is a y (f ++ x ∷ p) q e))
cuts (a ∷ f) x p (b ∷ g) y q e = cuts_more a b f x p g y q (first_is a b (f ++ x ∷ p) (g ++ y ∷ q) e)
    (cuts f x p g y q (rest_is a b (f ++ x ∷ p) (g ++ y ∷ q) e))

-- ---- the last line

-- a head
abbrev pub IsHead : List (List ℕ) → List ℕ → Type 0
IsHead before line = line ≡ head

no_line : (a b : List (List ℕ)) (other : List ℕ) → [] ≡ a ++ other ∷ b → ⊥
no_line [] b other e = cc
no_line (x ∷ a) b other e = cc

-- a line more that isn't so
pub stays_last : (IsSo : List (List ℕ) → List ℕ → Type 0) (number : ℕ) (first : List (List ℕ)) (text : List ℕ)
    → IsLastLine IsSo number first → (IsSo first text → ⊥) → IsLastLine IsSo number (first ++ text ∷ [])
stays_last IsSo number first text l other_than = record {
  first = l.first;
  line = l.line;
  more = l.more ++ text ∷ [];
  parts = ap (λ (all : List (List ℕ)). all ++ text ∷ []) l.parts ∙ append_assoc l.first (l.line ∷ l.more) (text ∷ []);
  here = l.here;
  so = l.so;
  none = λ a b other e. by_cut a b other (cuts l.more text [] a other b e);
}
  where
    by_cut : (a b : List (List ℕ)) (other : List ℕ) → Cuts l.more text [] a other b → IsSo (l.first ++ l.line ∷ a) other → ⊥
    by_cut a b other (Same s t) is =
        let L : List ℕ → Type 0 = λ line. IsSo first line in
        let F : List (List ℕ) → Type 0 = λ before. IsSo before other in
        let at : l.first ++ l.line ∷ a ≡ first = ap (λ (all : List (List ℕ)). l.first ++ l.line ∷ all) (sym s) ∙ sym l.parts in
        other_than (subst L (sym t) (subst F at is))
    by_cut a b other (Before r s t) is = no_line r b other t
    by_cut a b other (Behind r s t) is = l.none a r other s is

-- a line that is so
pub is_last : (IsSo : List (List ℕ) → List ℕ → Type 0) (first : List (List ℕ)) (text : List ℕ) → IsSo first text
    → IsLastLine IsSo (length first + 1) (first ++ text ∷ [])
is_last IsSo first text is = record {
  first = first;
  line = text;
  more = [];
  parts = refl;
  here = refl;
  so = is;
  none = λ a b other e so. no_line a b other e;
}

-- the last one has one number
pub one_last : (IsSo : List (List ℕ) → List ℕ → Type 0) (l m : ℕ) (texts : List (List ℕ)) → IsLastLine IsSo l texts
    → IsLastLine IsSo m texts → l ≡ m
one_last IsSo l m texts a b = by_cut (cuts a.first a.line a.more b.first b.line b.more (sym a.parts ∙ b.parts))
  where
    by_cut : Cuts a.first a.line a.more b.first b.line b.more → l ≡ m
    by_cut (Same s t) = a.here ∙ ap (λ (x : List (List ℕ)). length x + 1) s ∙ sym b.here
    by_cut (Before r s t) =
        let F : List (List ℕ) → Type 0 = λ before. IsSo before b.line in absurd (a.none r b.more b.line t (subst F s b.so))
    by_cut (Behind r s t) =
        let F : List (List ℕ) → Type 0 = λ before. IsSo before a.line in absurd (b.none r a.more a.line t (subst F s a.so))
