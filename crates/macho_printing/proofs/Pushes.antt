-- Pushing piece by piece into a buffer of lines.
--
-- What was held and what was pushed is what the sink took and what is held. So texts that were pushed one behind the other were
-- pushed as one; and where the sink fails within a piece, it took what it had taken before and a front of the rest. What is
-- flushed in the end is the rest.
use Rattle.std.proofs.Common.{◌≡◌, ℕ, suc, ◌+◌, ◌<◌, ap, sym, subst, ◌∙◌, List, [], ◌∷◌, ◌++◌, take, drop, length, get_or, append_assoc, Result, Ok, Err}
use Rattle.std.specs.List.{flat_map}
use Rattle.std.proofs.lemmas.List.{append-nil, take_more}
use Rattle.std.proofs.lemmas.Grind.{flat_map-append}
use Rattle.macho_devices.specs.Devices.{Printed, TakesBytes, TakesPrefix}
use Rattle.macho_devices.specs.Faults.{CountsOn, CountRose}
use Rattle.macho_devices.proofs.Counts.{counts-since, rose-since}
use Rattle.macho_printing.specs.Printing.{IsPrinted, IsPushed, Passes}
use Rattle.macho_printing.proofs.Prints.{takes-none, takes-more, takes-front, around, both-printed}

-- two texts, one behind the other
pub passes-more : (a b c : Printed) (old mid new xs ys : List ℕ) → Passes a b old mid xs → Passes b c mid new ys
    → Passes a c old new (xs ++ ys)
passes-more a b c old mid new xs ys p q = record {
  sent = p.sent ++ q.sent;
  split =
      sym (append_assoc old xs ys)
      ∙ (ap (λ (t : List ℕ). t ++ ys) p.split
      ∙ (append_assoc p.sent mid ys ∙ (ap (λ (t : List ℕ). p.sent ++ t) q.split ∙ sym (append_assoc p.sent q.sent new))));
  taken = takes-more a b c p.sent q.sent p.taken q.taken;
}

-- the second of two texts is refused, with another behind it
pub passes-front : (a b c : Printed) (old mid xs ys zs : List ℕ) → Passes a b old mid xs → TakesPrefix b c (mid ++ ys)
    → TakesPrefix a c (old ++ (xs ++ (ys ++ zs)))
passes-front a b c old mid xs ys zs p q =
    let is : p.sent ++ ((mid ++ ys) ++ zs) ≡ old ++ (xs ++ (ys ++ zs)) =
    ap (λ (t : List ℕ). p.sent ++ t) (append_assoc mid ys zs)
    ∙ (sym (append_assoc p.sent mid (ys ++ zs))
    ∙ (ap (λ (t : List ℕ). t ++ (ys ++ zs)) (sym p.split) ∙ append_assoc old xs (ys ++ zs))) in
    subst (λ (t : List ℕ). TakesPrefix a c t) is (takes-front a b c p.sent (mid ++ ys) zs p.taken q)

-- what was held is printed, and a text is pushed behind nothing
pub flushed-pushed : {A E : Type 0} (a b c : Printed) (held rest text : List ℕ) (r : Result A E) → TakesBytes a b held
    → CountsOn a.failed b.failed → IsPushed b c [] rest text r → IsPushed a c held rest text r
flushed-pushed a b c held rest text (Ok x) taken before p = record {
  done = record {
    sent = held ++ p.done.sent;
    split = ap (λ (t : List ℕ). held ++ t) p.done.split ∙ sym (append_assoc held p.done.sent rest);
    taken = takes-more a b c held p.done.sent taken p.done.taken;
  };
  left = tt;
  why = tt;
  counted = counts-since a.failed b.failed c.failed before p.counted;
}
flushed-pushed a b c held rest text (Err e) taken before p = record {
  done = tt;
  left = subst (λ (t : List ℕ). TakesPrefix a c (held ++ t)) (append-nil text) (takes-front a b c held text [] taken p.left);
  why = rose-since a.failed b.failed c.failed before p.counted p.why;
  counted = counts-since a.failed b.failed c.failed before p.counted;
}

-- what was held is refused
pub flush-refused : {A E : Type 0} (a b : Printed) (held rest text : List ℕ) (r : Result A E) (e : E) → r ≡ Err e
    → TakesPrefix a b held → CountRose a.failed b.failed → CountsOn a.failed b.failed → IsPushed a b held rest text r
flush-refused {A} {E} a b held rest text r e is left rose counted =
    subst (λ (s : Result A E). IsPushed a b held rest text s) (sym is) (record {
      done = tt;
      left = takes-front a a b [] held text (takes-none a) left;
      why = rose;
      counted = counted;
    })

-- one piece more is pushed
pub piece-pushed : {X : Type 0} (f : X → List ℕ) (xs : List X) (i : ℕ) (d : X) (a b c : Printed) (old mid new : List ℕ)
    → i < length xs → Passes a b old mid (flat_map f (take i xs)) → Passes b c mid new (f (get_or xs i d))
    → Passes a c old new (flat_map f (take (i + 1) xs))
piece-pushed {X} f xs i d a b c old mid new within p q =
    let more : flat_map f (take (i + 1) xs) ≡ flat_map f (take i xs) ++ f (get_or xs i d) =
    ap (flat_map f) (take_more xs i d within)
    ∙ (flat_map-append f (take i xs) (get_or xs i d ∷ [])
    ∙ ap (λ (t : List ℕ). flat_map f (take i xs) ++ t) (append-nil (f (get_or xs i d)))) in
    subst (λ (t : List ℕ). Passes a c old new t) (sym more)
    (passes-more a b c old mid new (flat_map f (take i xs)) (f (get_or xs i d)) p q)

-- a piece is refused
pub piece-refused : {X A E : Type 0} (f : X → List ℕ) (xs : List X) (i : ℕ) (d : X) (a b c : Printed) (held mid rest : List ℕ)
    (r : Result A E) (e : E) → r ≡ Err e → i < length xs
    → Passes a b held mid (flat_map f (take i xs)) → TakesPrefix b c (mid ++ f (get_or xs i d))
    → CountsOn a.failed b.failed → CountsOn b.failed c.failed → CountRose b.failed c.failed
    → IsPushed a c held rest (flat_map f xs) r
piece-refused {X} {A} {E} f xs i d a b c held mid rest r e is within p q before after rose =
    subst (λ (s : Result A E). IsPushed a c held rest (flat_map f xs) s) (sym is) (record {
      done = tt;
      left = subst (λ (t : List ℕ). TakesPrefix a c (held ++ t)) (sym (around f xs i d within))
          (passes-front a b c held mid (flat_map f (take i xs)) (f (get_or xs i d)) (flat_map f (drop (suc i) xs)) p q);
      why = rose-since a.failed b.failed c.failed before after rose;
      counted = counts-since a.failed b.failed c.failed before after;
    })

-- a text was pushed behind nothing, and the rest of it is printed
pub pushed-printed : {A E : Type 0} (a b c : Printed) (held text : List ℕ) (r : Result A E) → Passes a b [] held text
    → CountsOn a.failed b.failed → IsPrinted b c held r → IsPrinted a c text r
pushed-printed {A} {E} a b c held text r p before q =
    subst (λ (t : List ℕ). IsPrinted a c t r) (sym p.split) (both-printed a b c p.sent held r p.taken before q)
