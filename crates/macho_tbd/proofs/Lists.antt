-- Lists with repeats taken out, and tests that some element passes.
--
-- An element that is put at the end of a list is a repeat exactly where one before is the same; else it is the last of what is left. What
-- is taken out passes a test exactly where what it repeats does: so some element passes exactly where one that is left does.
use Rattle.std.proofs.Common.{◌≡◌, Bool, true, false, cond, not, ◌||◌, List, [], ◌∷◌, ◌++◌, map, filter, find, Some, refl, sym, ap, ◌∙◌}
use Rattle.std.specs.List.{list_any, AllByRecursion, IsDistinct}
use Rattle.std.specs.Option.{option_map}
use Rattle.std.proofs.lemmas.List.{append-nil}
use Rattle.std.proofs.lemmas.List.Elements.{filter-append}
use Rattle.macho_model.specs.Needs.{distinct}
use Rattle.macho_bytes.proofs.Maps.{all_filter}

-- ---- repeats

module _ {X : Type 0} (same : X → X → Bool) where
  -- one element more
  pub distinct_push : (xs : List X) (x : X)
      → distinct same (xs ++ x ∷ []) ≡ cond (list_any (λ y. same y x) xs) (distinct same xs) (distinct same xs ++ x ∷ [])
  distinct_push [] x = refl
  distinct_push (y ∷ ys) x =
      ap (λ (zs : List X). y ∷ filter (λ z. not (same y z)) zs) (distinct_push ys x)
      ∙ by (same y x) refl (list_any (λ z. same z x) ys)
    where
      left : List X
      left = distinct same ys

      end : Bool → List X
      end t = cond t (y ∷ filter (λ z. not (same y z)) left) (y ∷ filter (λ z. not (same y z)) left ++ x ∷ [])

      by : (s : Bool) → same y x ≡ s → (a : Bool)
          → y ∷ filter (λ z. not (same y z)) (cond a left (left ++ x ∷ []))
          ≡ cond (same y x || a) (y ∷ filter (λ z. not (same y z)) left) (y ∷ filter (λ z. not (same y z)) left ++ x ∷ [])
      by true is true = rw is refl
      by true is false =
          ap (λ (zs : List X). y ∷ zs) (filter-append (λ z. not (same y z)) left (x ∷ [])
          ∙ ap (λ (t : Bool). filter (λ z. not (same y z)) left ++ cond (not t) (x ∷ []) []) is
          ∙ append-nil (filter (λ z. not (same y z)) left))
          ∙ sym (ap (λ (t : Bool). end (t || false)) is)
      by false is true =
          sym (ap (λ (t : Bool). end (t || true)) is)
      by false is false =
          ap (λ (zs : List X). y ∷ zs) (filter-append (λ z. not (same y z)) left (x ∷ [])
          ∙ ap (λ (t : Bool). filter (λ z. not (same y z)) left ++ cond (not t) (x ∷ []) []) is)
          ∙ sym (ap (λ (t : Bool). end (t || false)) is)

  -- what is left are no two the same
  kept_apart : (x : X) (xs : List X) → AllByRecursion (λ y. same x y ≡ false) (filter (λ y. not (same x y)) xs)
  kept_apart x [] = tt
  kept_apart x (y ∷ ys) = by (same x y) refl (kept_apart x ys)
    where
      by : (s : Bool) → same x y ≡ s → AllByRecursion (λ y. same x y ≡ false) (filter (λ y. not (same x y)) ys)
          → AllByRecursion (λ y. same x y ≡ false) (cond (not s) (y ∷ filter (λ y. not (same x y)) ys) (filter (λ y. not (same x y)) ys))
      by true is h = h
      by false is h = (is, h)

distinct_kept : {X : Type 0} (same : X → X → Bool) (p : X → Bool) (xs : List X) → IsDistinct same xs → IsDistinct same (filter p xs)
unfolding IsDistinct
distinct_kept same p [] h = tt
distinct_kept {X} same p (x ∷ xs) h = by (p x) (distinct_kept same p xs h.1)
  where
    by : (b : Bool) → IsDistinct same (filter p xs) → IsDistinct same (cond b (x ∷ filter p xs) (filter p xs))
    by true r = (all_filter (λ y. same x y ≡ false) p xs h.0, r)
    by false r = r

pub distinct-IsDistinct : {X : Type 0} (same : X → X → Bool) (xs : List X) → IsDistinct same (distinct same xs)
unfolding IsDistinct
distinct-IsDistinct same [] = tt
distinct-IsDistinct same (x ∷ xs) =
    (kept_apart same x (distinct same xs), distinct_kept same (λ y. not (same x y)) (distinct same xs) (distinct-IsDistinct same xs))

-- ---- some element passes

-- a list in two parts
pub any_parts : {X : Type 0} (p q : X → Bool) (xs : List X)
    → (list_any p (filter (λ x. not (q x)) xs) || list_any p (filter q xs)) ≡ list_any p xs
any_parts p q [] = refl
any_parts {X} p q (x ∷ xs) = by (q x) (p x) refl (list_any p (filter (λ x. not (q x)) xs)) refl (any_parts p q xs)
  where
    by : (t u : Bool) → p x ≡ u → (a : Bool) → list_any p (filter (λ x. not (q x)) xs) ≡ a
        → (list_any p (filter (λ x. not (q x)) xs) || list_any p (filter q xs)) ≡ list_any p xs
        → (list_any p (cond (not t) (x ∷ filter (λ x. not (q x)) xs) (filter (λ x. not (q x)) xs))
        || list_any p (cond t (x ∷ filter q xs) (filter q xs))) ≡ (p x || list_any p xs)
    by true true is true e h = rw (is, e) refl
    by true true is false e h = rw (is, e) refl
    by true false is a e h = rw is h
    by false true is a e h = rw is refl
    by false false is a e h = rw is h

-- ---- the rest

pub find_map : {X Y : Type 0} (p : Y → Bool) (g : X → Y) (xs : List X) → find p (map g xs) ≡ option_map g (find (λ x. p (g x)) xs)
find_map p g [] = refl
find_map {X} {Y} p g (x ∷ xs) = by (p (g x)) (find_map p g xs)
  where
    by : (t : Bool) → find p (map g xs) ≡ option_map g (find (λ x. p (g x)) xs)
        → cond t (Some (g x)) (find p (map g xs)) ≡ option_map g (cond t (Some x) (find (λ x. p (g x)) xs))
    by true h = refl
    by false h = h
