-- Printing piece by piece.
--
-- Pieces that were taken make one text that was taken. Where the sink fails within a piece, it took the pieces before and a front
-- of this one: that is a front of the whole text, as long as both together.
use Rattle.std.proofs.Common.{◌≡◌, ℕ, suc, ◌+◌, ◌<◌, ◌≤◌, min, inl, inr, arith, refl, ap, sym, subst, ◌∙◌, List, [], ◌++◌, take, drop, length, get_or, append_assoc, Option, Some, None, Result, Ok, Err}
use Rattle.std.specs.List.{flat_map}
use Rattle.std.specs.Option.{option_map}
use Rattle.std.proofs.Math.Seq.{drop-cons, take-append-add}
use Rattle.std.proofs.lemmas.List.{append-nil, take-append-drop, take-append-le, take_min}
use Rattle.std.proofs.lemmas.Grind.{flat_map-append}
use Rattle.macho_devices.specs.Devices.{Printed, TakesBytes, TakesPrefix}
use Rattle.macho_devices.specs.Faults.{CountsOn, CountRose}
use Rattle.macho_devices.proofs.Counts.{counts-since, rose-since}
use Rattle.macho_printing.specs.Printing.{IsPrinted, IsLineTold}

none-more : (a : Option (List ℕ)) → a ≡ option_map (λ taken. taken ++ []) a
none-more None = refl
none-more (Some t) = ap Some (sym (append-nil t))

-- nothing more was taken
pub takes-none : (a : Printed) → TakesBytes a a []
takes-none a = none-more a.taken

both-more : (a : Option (List ℕ)) (xs ys : List ℕ)
    → option_map (λ taken. taken ++ ys) (option_map (λ taken. taken ++ xs) a) ≡ option_map (λ taken. taken ++ (xs ++ ys)) a
both-more None xs ys = refl
both-more (Some t) xs ys = ap Some (append_assoc t xs ys)

-- two texts were taken, one behind the other
pub takes-more : (a b c : Printed) (xs ys : List ℕ) → TakesBytes a b xs → TakesBytes b c ys → TakesBytes a c (xs ++ ys)
takes-more a b c xs ys p q = q ∙ (ap (option_map (λ taken. taken ++ ys)) p ∙ both-more a.taken xs ys)

-- a front of a text between two others
front-is : (xs ys zs : List ℕ) (n : ℕ) → take (length xs + min n (length ys)) (xs ++ (ys ++ zs)) ≡ xs ++ take n ys
front-is xs ys zs n =
    let inside : min n (length ys) ≤ length ys = omega arith in
    take-append-add xs (ys ++ zs) (min n (length ys))
    ∙ (ap (λ (t : List ℕ). xs ++ t) (take-append-le (min n (length ys)) ys zs inside) ∙ ap (λ (t : List ℕ). xs ++ t) (take_min n ys))

-- two texts were taken, of the second a front
pub takes-front : (a b c : Printed) (xs ys zs : List ℕ) → TakesBytes a b xs → TakesPrefix b c ys
    → TakesPrefix a c (xs ++ (ys ++ zs))
takes-front a b c xs ys zs p q = record {
  left = length xs + min q.left (length ys);
  taken = subst (λ (t : List ℕ). TakesBytes a c t) (sym (front-is xs ys zs q.left)) (takes-more a b c xs (take q.left ys) p q.taken);
}

-- all pieces, around one of them
pub around : {X : Type 0} (f : X → List ℕ) (xs : List X) (i : ℕ) (d : X) → i < length xs
    → flat_map f xs ≡ flat_map f (take i xs) ++ (f (get_or xs i d) ++ flat_map f (drop (suc i) xs))
around {X} f xs i d within =
    ap (flat_map f) (sym (take-append-drop i xs))
    ∙ (flat_map-append f (take i xs) (drop i xs) ∙ ap (λ (ys : List X). flat_map f (take i xs) ++ flat_map f ys) (drop-cons xs i d within))

-- a line that was printed was told
pub told-by : {A E : Type 0} (a b : Printed) (line : List ℕ) (r : Result A E) → IsPrinted a b line r → IsLineTold a b line
told-by a b line (Ok x) p = inl p.done
told-by a b line (Err e) p = inr (p.left, p.why)

-- the first of two texts is refused
pub first-refused : {A E : Type 0} (a b : Printed) (xs ys : List ℕ) (r : Result A E) (e : E) → r ≡ Err e
    → TakesPrefix a b xs → CountRose a.failed b.failed → CountsOn a.failed b.failed → IsPrinted a b (xs ++ ys) r
first-refused {A} {E} a b xs ys r e is left rose counted =
    subst (λ (s : Result A E). IsPrinted a b (xs ++ ys) s) (sym is) (record {
      done = tt;
      left = takes-front a a b [] xs ys (takes-none a) left;
      why = rose;
      counted = counted;
    })

-- the first of two texts is taken
pub both-printed : {A E : Type 0} (a b c : Printed) (xs ys : List ℕ) (r : Result A E) → TakesBytes a b xs → CountsOn a.failed b.failed
    → IsPrinted b c ys r → IsPrinted a c (xs ++ ys) r
both-printed a b c xs ys (Ok x) taken before p = record {
  done = takes-more a b c xs ys taken p.done;
  left = tt;
  why = tt;
  counted = counts-since a.failed b.failed c.failed before p.counted;
}
both-printed a b c xs ys (Err e) taken before p = record {
  done = tt;
  left = subst (λ (t : List ℕ). TakesPrefix a c (xs ++ t)) (append-nil ys) (takes-front a b c xs ys [] taken p.left);
  why = rose-since a.failed b.failed c.failed before p.counted p.why;
  counted = counts-since a.failed b.failed c.failed before p.counted;
}
