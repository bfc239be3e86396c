-- Export lists are read one behind the other: behind the first text and so many others stands the next one.
use Rattle.std.proofs.Common.{◌≡◌, ℕ, suc, ◌+◌, ◌<◌, List, [], ◌∷◌, ◌++◌, map, length, take, get_or, sym, ap, ◌∙◌, arith, Vec, Global}
use Rattle.std.proofs.lemmas.List.{take_more, get_or-map, length-map}

-- one more in front
in_front : (x : List ℕ) (xs : List (List ℕ)) (n : ℕ) → take (1 + n) (x ∷ xs) ≡ x ∷ take n xs
in_front x xs n =
    let one : 1 + n ≡ suc n = omega arith in
    ap (λ (m : ℕ). take m (x ∷ xs)) one

-- one more at the end
at_end : (x next : List ℕ) (xs : List (List ℕ)) (i : ℕ) → i < length xs → next ≡ get_or xs i []
    → take (1 + i) (x ∷ xs) ++ next ∷ [] ≡ take (1 + (i + 1)) (x ∷ xs)
at_end x next xs i among is =
    ap (λ (ts : List (List ℕ)). ts ++ next ∷ []) (in_front x xs i)
    ∙ ap (λ (t : List ℕ). x ∷ (take i xs ++ t ∷ [])) is
    ∙ sym (in_front x xs (i + 1) ∙ ap (λ (ts : List (List ℕ)). x ∷ ts) (take_more xs i [] among))

pub more_read : (texts others : List (Vec ℕ Global)) (first next : Vec ℕ Global) (i : ℕ) → texts ≡ first ∷ others
    → i < length others
    → next ≡ get_or others i next
    → take (1 + i) (map (λ text. text.items) texts) ++ next.items ∷ [] ≡ take (1 + (i + 1)) (map (λ text. text.items) texts)
more_read texts others first next i are among is =
    let items : Vec ℕ Global → List ℕ = λ text. text.items in
    let at = ap items is ∙ sym (get_or-map items others i next [] among) in
    ap (λ (ts : List (Vec ℕ Global)). take (1 + i) (map items ts) ++ next.items ∷ []) are
    ∙ at_end first.items next.items (map items others) i (omega (arith, length-map others items, among)) at
    ∙ sym (ap (λ (ts : List (Vec ℕ Global)). take (1 + (i + 1)) (map items ts)) are)
