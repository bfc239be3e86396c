-- A list that grows by what is made of each element of another one.
--
-- What was made of the first elements stands behind what was there; one element more adds what is made of it.
use Rattle.std.proofs.Common.{◌≡◌, ℕ, ◌+◌, ◌<◌, ◌≤◌, List, [], ◌∷◌, ◌++◌, map, length, get_or, take, sym, ap, ◌∙◌, arith, append_assoc}
use Rattle.std.proofs.lemmas.List.{map-append, take_more, get_or-map, length-map}

pub record IsMade {X Y Z : Type 0} (made : Y → Z) (part : X → Y) (xs : List X) (before now : List Z) (i : ℕ) : Type 0 where
  pub is : now ≡ before ++ map made (take i (map part xs))

pub more_made : {X Y Z : Type 0} (made : Y → Z) (part : X → Y) (xs : List X) (before now next : List Z) (i : ℕ) (x d : X) (z : Z)
    → IsMade made part xs before now i
    → i < length xs → x ≡ get_or xs i d → z ≡ made (part x) → next ≡ now ++ z ∷ [] → IsMade made part xs before next (i + 1)
more_made {X = X} {Y = Y} {Z = Z} made part xs before now next i x d z so_far lt is z_is pushed = record {
  is =
      let low : i < length (map part xs) = omega (arith, lt, length-map xs part) in
      let same : z ≡ made (get_or (map part xs) i (part d)) =
      z_is ∙ ap (λ (u : X). made (part u)) is ∙ ap made (sym (get_or-map part xs i d (part d) lt)) in
      let last : z ∷ [] ≡ map made (get_or (map part xs) i (part d) ∷ []) = ap (λ (u : Z). u ∷ []) same in
      pushed ∙ ap (λ (zs : List Z). zs ++ z ∷ []) so_far.is ∙ append_assoc before (map made (take i (map part xs))) (z ∷ [])
      ∙ ap (λ (zs : List Z). before ++ (map made (take i (map part xs)) ++ zs)) last
      ∙ ap (λ (zs : List Z). before ++ zs) (sym (map-append made (take i (map part xs)) (get_or (map part xs) i (part d) ∷ []))
      ∙ ap (map made) (sym (take_more (map part xs) i (part d) low)));
}
