-- A map over a numbered list, one element more: its number is the length of the list so far.
use Rattle.std.proofs.Common.{◌≡◌, ℕ, ◌+◌, ◌<◌, List, [], ◌∷◌, ◌++◌, length, map, take, get_or, sym, ap, ◌∙◌, arith}
use Rattle.std.specs.List.{enumerate_from}
use Rattle.std.proofs.lemmas.List.{take_more, map_push, length-take-le}
use Rattle.macho_model.proofs.LinkLaws.{enumerate_more}

pub numbered_more : {X Y : Type 0} (f : ℕ × X → Y) (xs : List X) (k : ℕ) (d : X) (done : List Y) (y : Y) → k < length xs → y ≡ f
    (k, get_or xs k d)
    → done ≡ map f (enumerate_from 0 (take k xs)) → done ++ y ∷ [] ≡ map f (enumerate_from 0 (take (k + 1) xs))
numbered_more {X} {Y} f xs k d done y low is all =
    let long : 0 + length (take k xs) ≡ k = omega (arith, length-take-le k xs (omega arith)) in
    ap (λ (z : Y). done ++ z ∷ []) is ∙ ap (λ (ys : List Y). ys ++ f (k, get_or xs k d) ∷ []) all
    ∙ sym (ap (λ (zs : List X). map f (enumerate_from 0 zs)) (take_more xs k d low) ∙ ap (map f)
    (enumerate_more 0 (take k xs) (get_or xs k d))
    ∙ map_push f (enumerate_from 0 (take k xs)) (0 + length (take k xs), get_or xs k d)
    ∙ ap (λ (n : ℕ). map f (enumerate_from 0 (take k xs)) ++ f (n, get_or xs k d) ∷ []) long)
