-- Parts joined: mapped, filtered, and of another list.
use Rattle.std.proofs.Common.{◌≡◌, ℕ, Bool, true, false, cond, List, [], ◌∷◌, ◌++◌, length, map, filter, get_or, refl, ap, ◌∙◌, arith}
use Rattle.std.specs.List.{range_with_len, flat_map, enumerate_from, Contains}
use Rattle.macho_bytes.proofs.Members.{contains_first, contains_behind}

pub joined_agree : {X Y : Type 0} (f g : X → List Y) (xs : List X) → ((x : X) → Contains xs x → f x ≡ g x) → flat_map f xs ≡ flat_map g xs
joined_agree f g [] same = refl
joined_agree {Y = Y} f g (x ∷ xs) same =
    ap (λ (ys : List Y). ys ++ flat_map f xs) (same x (contains_first x xs))
    ∙ ap (λ (ys : List Y). g x ++ ys) (joined_agree f g xs (λ y c. same y (contains_behind x y xs c)))

pub mapped_agree : {X Y : Type 0} (f g : X → Y) (xs : List X) → ((x : X) → Contains xs x → f x ≡ g x) → map f xs ≡ map g xs
mapped_agree f g [] same = refl
mapped_agree {Y = Y} f g (x ∷ xs) same =
    ap (λ (y : Y). y ∷ map f xs) (same x (contains_first x xs)) ∙ ap (λ (ys : List Y). g x ∷ ys) (mapped_agree f g xs (λ y c. same y
    (contains_behind x y xs c)))
