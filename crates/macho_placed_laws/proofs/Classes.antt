-- A list that is made class by class is split again by its classes.
--
-- The parts of different classes share no element: a test for one class takes nothing from the parts of the others, and all of
-- its own part. So what it takes from the whole list is its own part, and these parts, one behind the other, are the list.
use Rattle.std.proofs.Common.{◌≡◌, ℕ, suc, Bool, true, false, List, [], ◌∷◌, ◌++◌, map, refl, sym, ap, ◌∙◌, arith, All, get_or}
use Rattle.std.specs.Prelude.{filter}
use Rattle.std.specs.List.{flat_map}
use Rattle.std.specs.Str.{bytes_eq}
use Rattle.std.proofs.lemmas.List.{append-nil}
use Rattle.std.proofs.lemmas.List.Concat.{flat_map-cons}
use Rattle.std.proofs.lemmas.List.Elements.{filter-append}
use Rattle.std.proofs.lemmas.Slice.Eq.{bytes_eq-Decides}
use Rattle.macho_bytes.proofs.Maps.{filter-all, filter-none}

-- texts that differ from each later one
abbrev pub AllDiffer : List (List ℕ) → Type 0
AllDiffer [] = Unit {0}
AllDiffer (n ∷ names) = All (λ m. (bytes_eq m n ≡ false) × (bytes_eq n m ≡ false)) names × AllDiffer names

-- each element that is made for a class is of it
abbrev pub IsOfClass : {X : Type 0} → (X → List ℕ) → (List ℕ → List X) → List ℕ → Type 0
IsOfClass of f n = All (λ x. of x ≡ n) (f n)

own_part : {X : Type 0} (of : X → List ℕ) (f : List ℕ → List X) (n : List ℕ) → IsOfClass of f n
    → filter (λ x. bytes_eq (of x) n) (f n) ≡ f n
own_part of f n each = filter-all (λ x. bytes_eq (of x) n) (f n) (λ k d lt. (bytes_eq-Decides _ n).1 (each k d lt))

other_part : {X : Type 0} (of : X → List ℕ) (f : List ℕ → List X) (n m : List ℕ) → bytes_eq m n ≡ false → IsOfClass of f m
    → filter (λ x. bytes_eq (of x) n) (f m) ≡ []
other_part of f n m differ each =
    filter-none (λ x. bytes_eq (of x) n) (f m) (λ k d lt. ap (λ (c : List ℕ). bytes_eq c n) (each k d lt) ∙ differ)

-- of parts of other classes nothing is taken
none_taken : {X : Type 0} (of : X → List ℕ) (f : List ℕ → List X) (n : List ℕ) (names : List (List ℕ))
    → All (λ m. (bytes_eq m n ≡ false) × (bytes_eq n m ≡ false)) names
    → All (IsOfClass of f) names → filter (λ x. bytes_eq (of x) n) (flat_map f names) ≡ []
none_taken of f n [] differ each = refl
none_taken of f n (m ∷ names) differ each =
    rw (
      flat_map-cons f m names,
      filter-append (λ x. bytes_eq (of x) n) (f m) (flat_map f names),
      other_part of f n m
          (differ 0 m (omega arith)).0 (each 0 m (omega arith)),
    )
    (none_taken of f n names (λ k d lt. differ (suc k) d (omega arith)) (λ k d lt. each (suc k) d (omega arith)))

flat_map-same : {X Y : Type 0} (g h : X → List Y) (xs : List X) → All (λ x. g x ≡ h x) xs → flat_map g xs ≡ flat_map h xs
flat_map-same g h [] same = refl
flat_map-same {Y = Y} g h (x ∷ xs) same =
    let rest : flat_map g xs ≡ flat_map h xs = flat_map-same g h xs (λ k d lt. same (suc k) d (omega arith)) in
    rw (flat_map-cons g x xs, flat_map-cons h x xs, same 0 x (omega arith), rest) refl

-- THE list is split again
pub split_again : {X : Type 0} (of : X → List ℕ) (f : List ℕ → List X) (names : List (List ℕ)) → AllDiffer names
    → All (IsOfClass of f) names
    → flat_map (λ n. filter (λ x. bytes_eq (of x) n) (flat_map f names)) names ≡ flat_map f names
split_again of f [] differ each = refl
split_again {X = X} of f (n ∷ names) differ each =
    let later : All (IsOfClass of f) names = λ k d lt. each (suc k) d (omega arith) in
    let whole : flat_map f (n ∷ names) ≡ f n ++ flat_map f names = flat_map-cons f n names in
    let first : filter (λ x. bytes_eq (of x) n) (flat_map f (n ∷ names)) ≡ f n ++ [] =
    ap (filter (λ x. bytes_eq (of x) n)) whole ∙ filter-append (λ x. bytes_eq (of x) n) (f n) (flat_map f names)
    ∙ ap2 _ _ _ _ (own_part of f n (each 0 n (omega arith))) (none_taken of f n names differ.0 later) in
    let behind : All
    (λ m. filter (λ x. bytes_eq (of x) m) (flat_map f (n ∷ names)) ≡ filter (λ x. bytes_eq (of x) m) (flat_map f names)) names = λ k d lt.
    let m : List ℕ = get_or names k d in
    ap (filter (λ x. bytes_eq (of x) m)) whole ∙ filter-append (λ x. bytes_eq (of x) m) (f n) (flat_map f names)
    ∙ ap (λ (ys : List X). ys ++ filter (λ x. bytes_eq (of x) m) (flat_map f names))
    (other_part of f m n (differ.0 k d lt).1 (each 0 n (omega arith))) in
    flat_map-cons (λ m. filter (λ x. bytes_eq (of x) m) (flat_map f (n ∷ names))) n names
    ∙ ap2 _ _ _ _ (first ∙ append-nil _)
    (flat_map-same _ (λ m. filter (λ x. bytes_eq (of x) m) (flat_map f names)) names behind ∙ split_again of f names differ.1 later)
    ∙ sym whole
  where
    ap2 : (a b c d : List X) → a ≡ b → c ≡ d → a ++ c ≡ b ++ d
    ap2 a b c d e g = rw (e, g) refl
