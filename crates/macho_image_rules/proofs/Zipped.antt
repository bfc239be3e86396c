-- Lists whose elements are related place by place.
--
-- Such lists have one length, and the elements at each place are related; and where both hold, the lists are related. Each goes by
-- recursion on both lists. So it is of the first elements, of which one more is looked at at a time.
use Rattle.std.proofs.Common.{◌≡◌, ℕ, zero, suc, ◌+◌, ◌<◌, List, [], ◌∷◌, length, get_or, refl, ap, subst, ◌∙◌, inl, inr, arith}
use Rattle.std.proofs.lemmas.Bool.{cases_lt}
use Rattle.std.proofs.lemmas.List.{get_or_default}
use Rattle.std.specs.Prelude.{Contains}
use Rattle.std.specs.List.{AllZip}
use Rattle.macho_bytes.proofs.Members.{contains_cases, contains_first, contains_later, nil_contains}

pub zipped : {X Y : Type 0} (R : X → Y → Type 0) (xs : List X) (ys : List Y) → length xs ≡ length ys
    → ((k : ℕ) (d : X) (e : Y) → k < length xs → R (get_or xs k d) (get_or ys k e)) → AllZip R xs ys
zipped R [] [] long each = tt
zipped R [] (y ∷ ys) long each = absurd (omega (arith, long))
zipped R (x ∷ xs) [] long each = absurd (omega (arith, long))
zipped R (x ∷ xs) (y ∷ ys) long each =
    (each 0 x y (omega arith), zipped R xs ys (omega (arith, long)) (λ k d e low. each (suc k) d e (omega (arith, low))))

pub zipped_long : {X Y : Type 0} (R : X → Y → Type 0) (xs : List X) (ys : List Y) → AllZip R xs ys → length xs ≡ length ys
zipped_long R [] [] h = refl
zipped_long R [] (y ∷ ys) h = absurd h
zipped_long R (x ∷ xs) [] h = absurd h
zipped_long R (x ∷ xs) (y ∷ ys) h = let less = zipped_long R xs ys h.1 in omega (arith, less)

pub zipped_at : {X Y : Type 0} (R : X → Y → Type 0) (xs : List X) (ys : List Y) (k : ℕ) (d : X) (e : Y) → AllZip R xs ys
    → k < length xs → R (get_or xs k d) (get_or ys k e)
zipped_at R [] ys k d e h low = absurd (omega (arith, low))
zipped_at R (x ∷ xs) [] k d e h low = absurd h
zipped_at R (x ∷ xs) (y ∷ ys) zero d e h low = h.0
zipped_at R (x ∷ xs) (y ∷ ys) (suc k) d e h low = zipped_at R xs ys k d e h.1 (omega (arith, low))

pub zipped_more : {X Y : Type 0} (R : X → Y → Type 0) (xs : List X) (ys : List Y) (n : ℕ) (d : X) (e : Y) → n < length xs → n < length ys
    → ((k : ℕ) (f : X) (g : Y) → k < n → R (get_or xs k f) (get_or ys k g)) → R (get_or xs n d) (get_or ys n e)
    → (k : ℕ) (f : X) (g : Y) → k < n + 1 → R (get_or xs k f) (get_or ys k g)
zipped_more R xs ys n d e within inside old one k f g low = elim (cases_lt k n) [
  | inl before ↦ old k f g before
  | inr late ↦
      let here : n ≡ k = omega arith in
      subst (λ y. R (get_or xs k f) y) (get_or_default ys n e g inside ∙ ap (λ i. get_or ys i g) here)
      (subst (λ x. R x (get_or ys n e)) (get_or_default xs n d f within ∙ ap (λ i. get_or xs i f) here) one)
]

-- an element of the second list has one of the first in front of it
pub zipped_back : {X Y : Type 0} (R : X → Y → Type 0) (xs : List X) (ys : List Y) (y : Y) → AllZip R xs ys → Contains ys y
    → (x : X) × Contains xs x × R x y
zipped_back R [] [] y h there = absurd (nil_contains y there)
zipped_back R [] (z ∷ zs) y h there = absurd h
zipped_back R (x ∷ xs) [] y h there = absurd h
zipped_back {X} {Y} R (x ∷ xs) (z ∷ zs) y h there = elim (contains_cases z zs y there) [
  | inl here ↦ (x, contains_first x xs, subst (λ (w : Y). R x w) here h.0)
  | inr later ↦
      let found = zipped_back R xs zs y h.1 later in
      (found.0, contains_later x xs found.0 found.1, found.2)
]
