-- The best event of a name. With any event to begin from: the best is beaten by none, and is the first of those that are
-- as good as it. By recursion on the events, where what the events so far gave is what the rest begins from.
use Rattle.std.proofs.Common.{◌≡◌, ℕ, ◌⊎◌, inl, inr, Bool, true, false, ◌&&◌, Option, Some, None, IfSome, List, [], ◌∷◌, ◌++◌, filter, All, refl, ap, subst, sym, ◌∙◌}
use Rattle.std.specs.List.{fold}
use Rattle.std.proofs.lemmas.List.Sums.{fold_push}
use Rattle.std.proofs.lemmas.List.Elements.{All-nil, All-cons}
use Rattle.std.proofs.lemmas.Bool.{false≢true}
use Rattle.macho_symbol_names.specs.Events.{Event, beats, is_of, with_event, better, best_of}
use Rattle.macho_symbol_names.specs.steps.Levels.{ties, is_level}
use Rattle.macho_symbol_names.proofs.Order.{beats_itself, beats_beats, not_beats_not_beats, beats_apart, ties_itself, ties_beats}

-- one event more
pub best_push : (name : List ℕ) (es : List Event) (e : Event) → best_of name (es ++ e ∷ []) ≡ with_event name (best_of name es) e
unfolding best_of
best_push name es e = fold_push (with_event name) None es e

-- an event of another name
pub with_other : (name : List ℕ) (best : Option Event) (e : Event) → is_of name e ≡ false → with_event name best e ≡ best
with_other name best e other = rw other refl

pub with_own : (name : List ℕ) (best : Option Event) (e : Event) → is_of name e ≡ true → with_event name best e ≡ better best e
with_own name best e own = rw own refl

pub better_yes : (b e : Event) → beats e.row b.row ≡ true → better (Some b) e ≡ Some e
better_yes b e passes = rw passes refl

pub better_none : (b e : Event) → beats e.row b.row ≡ false → better (Some b) e ≡ Some b
better_none b e fails = rw fails refl

abbrev NotBeaten : Event → Option Event → Type 0
NotBeaten b acc = IfSome acc (λ a. beats a.row b.row ≡ false)

record Unbeaten (name : List ℕ) (acc : Option Event) (es : List Event) (b : Event) : Type 0 where
  first : NotBeaten b acc
  rest : All (λ x. is_of name x ≡ true → beats x.row b.row ≡ false) es

unbeaten : (name : List ℕ) (acc : Option Event) (es : List Event) (b : Event) → fold (with_event name) acc es ≡ Some b
    → Unbeaten name acc es b
unbeaten name acc [] b e = record {
  first = rw e (beats_itself b.row);
  rest = All-nil
      (λ x. is_of name x ≡ true → beats x.row b.row ≡ false);
}
unbeaten name acc (x ∷ xs) b e = of (is_of name x) refl acc (unbeaten name (with_event name acc x) xs b e)
  where
    more : (acc : Option Event) → NotBeaten b acc → (is_of name x ≡ true → beats x.row b.row ≡ false)
        → All (λ y. is_of name y ≡ true → beats y.row b.row ≡ false) xs → Unbeaten name acc (x ∷ xs) b
    more acc first own rest = record { first = first; rest = All-cons (λ y. is_of name y ≡ true → beats y.row b.row ≡ false) x xs own rest }

    against : (a : Event) (t : Bool) → beats x.row a.row ≡ t → NotBeaten b (better (Some a) x)
        → (beats a.row b.row ≡ false) × (beats x.row b.row ≡ false)
    against a true passes h =
        let own : beats x.row b.row ≡ false = rw (better_yes a x passes) at h in (chain a (beats a.row b.row) refl passes own, own)
      where
        chain : (a : Event) (t : Bool) → beats a.row b.row ≡ t → beats x.row a.row ≡ true → beats x.row b.row ≡ false
            → beats a.row b.row ≡ false
        chain a true p passes own = absurd (false≢true (sym own ∙ beats_beats x.row a.row b.row passes p))
        chain a false p passes own = p
    against a false fails h =
        let old : beats a.row b.row ≡ false = rw (better_none a x fails) at h in (old, not_beats_not_beats x.row a.row b.row fails old)

    of : (t : Bool) → is_of name x ≡ t → (acc : Option Event) → Unbeaten name (with_event name acc x) xs b → Unbeaten name acc (x ∷ xs) b
    of false other acc u = more acc (rw (with_other name acc x other) at u.first) (λ own. absurd (false≢true (sym other ∙ own))) u.rest
    of true own None u = let h : beats x.row b.row ≡ false = rw (with_own name None x own) at u.first in more None tt (λ _. h) u.rest
    of true own (Some a) u =
        let h = against a (beats x.row a.row) refl (rw (with_own name (Some a) x own) at u.first) in more (Some a) h.0 (λ _. h.1) u.rest

-- the best is the one that it began from, or the first of those that are as good as it, and better than that one
record Beginning (name : List ℕ) (acc : Option Event) (es : List Event) (b : Event) : Type 0 where
  more : List Event
  are : filter (is_level name b) es ≡ b ∷ more
  over : IfSome acc (λ a. beats b.row a.row ≡ true)

pub and_false : (t : Bool) → (t && false) ≡ false
and_false true = refl
and_false false = refl

level_other : (name : List ℕ) (b x : Event) → is_of name x ≡ false → is_level name b x ≡ false
level_other name b x other = rw other (and_false (ties b.row x.row))

skipped : (name : List ℕ) (b x : Event) (xs more : List Event) → is_level name b x ≡ false → filter (is_level name b) xs ≡ b ∷ more
    → filter (is_level name b) (x ∷ xs) ≡ b ∷ more
skipped name b x xs more apart are = rw apart are

begins : (name : List ℕ) (acc : Option Event) (es : List Event) (b : Event) → fold (with_event name) acc es ≡ Some b
    → (acc ≡ Some b) ⊎ Beginning name acc es b
begins name acc [] b e = inl e
begins name acc (x ∷ xs) b e = of (is_of name x) refl acc (begins name (with_event name acc x) xs b e)
  where
    taken : (acc : Option Event) → is_of name x ≡ true → x ≡ b → IfSome acc (λ a. beats x.row a.row ≡ true) → Beginning name acc (x ∷ xs) b
    taken acc own is over =
        let level : is_level name b x ≡ true = rw (← is, own, ties_itself x.row) refl in
        record {
          more = filter (is_level name b) xs;
          are = rw level (ap (λ y. y ∷ filter (is_level name b) xs) is);
          over = subst
              (λ y. IfSome acc (λ a. beats y.row a.row ≡ true)) is over;
        }

    against : (a : Event) (t : Bool) → beats x.row a.row ≡ t → is_of name x ≡ true
        → (better (Some a) x ≡ Some b) ⊎ Beginning name (better (Some a) x) xs b
        → (Some a ≡ Some b) ⊎ Beginning name (Some a) (x ∷ xs) b
    against a true passes own (inl is) = let same : x ≡ b = cc (is, better_yes a x passes) in inr (taken (Some a) own same passes)
    against a true passes own (inr r) =
        let over : beats b.row x.row ≡ true = rw (better_yes a x passes) at r.over in
        inr (record {
          more = r.more;
          are = skipped name b x xs r.more
              (ties_apart over) r.are;
          over = beats_beats b.row x.row a.row over passes;
        })
      where
        ties_apart : beats b.row x.row ≡ true → is_level name b x ≡ false
        ties_apart over = rw (beats_apart b.row x.row over) refl
    against a false fails own (inl is) = inl (sym (better_none a x fails) ∙ is)
    against a false fails own (inr r) =
        let over : beats b.row a.row ≡ true = rw (better_none a x fails) at r.over in
        let apart : is_level name b x ≡ false = rw (ties_beats b.row x.row a.row over fails) refl in
        inr (record { more = r.more; are = skipped name b x xs r.more apart r.are; over = over })

    of : (t : Bool) → is_of name x ≡ t → (acc : Option Event)
        → (with_event name acc x ≡ Some b) ⊎ Beginning name (with_event name acc x) xs b → (acc ≡ Some b) ⊎ Beginning name acc (x ∷ xs) b
    of false other acc (inl is) = inl (sym (with_other name acc x other) ∙ is)
    of false other acc (inr r) =
        inr (record {
          more = r.more;
          are = skipped name b x xs r.more (level_other name b x other) r.are;
          over = rw
              (with_other name acc x other) at r.over;
        })
    of true own None (inl is) = let same : x ≡ b = cc (is, with_own name None x own) in inr (taken None own same tt)
    of true own None (inr r) =
        let over : beats b.row x.row ≡ true = rw (with_own name None x own) at r.over in
        let apart : is_level name b x ≡ false = rw (beats_apart b.row x.row over) refl in
        inr (record { more = r.more; are = skipped name b x xs r.more apart r.are; over = tt })
    of true own (Some a) s = against a (beats x.row a.row) refl own
        (subst (λ o. (o ≡ Some b) ⊎ Beginning name o xs b) (with_own name (Some a) x own) s)

-- The best event of a name: none beats it, and it is the first of those that are as good as it.
pub record IsBest (name : List ℕ) (es : List Event) (b : Event) : Type 0 where
  pub unbeaten : All (λ x. is_of name x ≡ true → beats x.row b.row ≡ false) es
  pub more : List Event
  pub first : filter (is_level name b) es ≡ b ∷ more

pub best_is : (name : List ℕ) (es : List Event) (b : Event) → best_of name es ≡ Some b → IsBest name es b
unfolding best_of
best_is name es b e = record {
  unbeaten = (unbeaten name None es b e).rest;
  more = (from_none (begins name None es b e)).more;
  first =
      (from_none (begins name None es b e)).are;
}
  where
    from_none : (None ≡ Some b) ⊎ Beginning name None es b → Beginning name None es b
    from_none (inl e) = cc
    from_none (inr r) = r

never_none : (name : List ℕ) (a : Event) (es : List Event) → fold (with_event name) (Some a) es ≡ None → ⊥
never_none name a [] e = cc
never_none name a (x ∷ xs) e = of (is_of name x) refl (beats x.row a.row) refl (λ b h. never_none name b xs h)
  where
    of : (t : Bool) → is_of name x ≡ t → (u : Bool) → beats x.row a.row ≡ u
        → ((b : Event) → fold (with_event name) (Some b) xs ≡ None → ⊥) → ⊥
    of false other u over never = never a (subst (λ o. fold (with_event name) o xs ≡ None) (with_other name (Some a) x other) e)
    of true own true over never = never x
        (subst (λ o. fold (with_event name) o xs ≡ None) (with_own name (Some a) x own ∙ better_yes a x over) e)
    of true own false over never = never a
        (subst (λ o. fold (with_event name) o xs ≡ None) (with_own name (Some a) x own ∙ better_none a x over) e)

none_from : (name : List ℕ) (es : List Event) → fold (with_event name) None es ≡ None → All (λ x. is_of name x ≡ false) es
none_from name [] e = All-nil (λ x. is_of name x ≡ false)
none_from name (x ∷ xs) e = of (is_of name x) refl (none_from name xs)
  where
    of : (t : Bool) → is_of name x ≡ t → (fold (with_event name) None xs ≡ None → All (λ y. is_of name y ≡ false) xs)
        → All (λ y. is_of name y ≡ false) (x ∷ xs)
    of false other rest = All-cons (λ y. is_of name y ≡ false) x xs other
        (rest (subst (λ o. fold (with_event name) o xs ≡ None) (with_other name None x other) e))
    of true own rest = absurd (never_none name x xs (subst (λ o. fold (with_event name) o xs ≡ None) (with_own name None x own) e))

-- where a name has no best event, no event is of it
pub none_of : (name : List ℕ) (es : List Event) → best_of name es ≡ None → All (λ x. is_of name x ≡ false) es
unfolding best_of
none_of name es e = none_from name es e
