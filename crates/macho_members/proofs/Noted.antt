-- A table that learns a name. Names are the same where their bytes are. If the table knows the name, it knows each name with these bytes,
-- so what comes behind says nothing new. If not, it finds what is put in at each such name, and what it found before at all others.
-- What several know one after the other is what the first of them knows; one more at the end counts where none before it knows the name.
use Rattle.std.proofs.Common.{◌≡◌, ℕ, Bool, true, false, cond, List, [], ◌∷◌, ◌++◌, refl, sym, ap, ◌∙◌}
use Rattle.std.proofs.Common.{Option, Some, None, Bor, is_some, ◌+◌, ◌<◌, ◌≤◌, arith, take, map, length, get_or, subst}
use Rattle.std.specs.Option.{option_or}
use Rattle.std.specs.Str.{bytes_eq}
use Rattle.std.proofs.lemmas.List.{take_more, take_all, map-append}
use Rattle.std.proofs.lemmas.List.FromFn.{get_or-enumerate_from, length-enumerate_from}
use Rattle.std.specs.List.{enumerate_from}
use Rattle.std.proofs.lemmas.Slice.Eq.{bytes_eq-Decides}
use Rattle.macho_members.specs.declared.inputs.MemberPlace.{MemberPlace}
use Rattle.macho_members.specs.steps.Tables.{same_text, Known, named, first_of, behind, Finds}

-- nothing behind
or_none : {X : Type 0} (x : Option X) → option_or x None ≡ x
or_none None = refl
or_none (Some _) = refl

or_some : {X : Type 0} (x y : Option X) → is_some x ≡ true → option_or x y ≡ x
or_some None y h = absurd cc
or_some (Some _) y h = refl

or_empty : {X : Type 0} (x y : Option X) → is_some x ≡ false → option_or x y ≡ y
or_empty None y h = refl
or_empty (Some _) y h = absurd cc

pub or_assoc : {X : Type 0} (x y z : Option X) → option_or (option_or x y) z ≡ option_or x (option_or y z)
or_assoc None y z = refl
or_assoc (Some _) y z = refl

-- what is known at a name with the same bytes
known_there : (find : Bor (List ℕ) → Option (Option MemberPlace)) (known : Known) (name q : Bor (List ℕ)) → Finds find known
    → bytes_eq name.now q.now ≡ true → find q ≡ find name
known_there find known name q finds e =
    finds.each q ∙ ap known (sym ((bytes_eq-Decides name.now q.now).0 e)) ∙ sym (finds.each name)

-- a name that is known
pub noted_kept : (find : Bor (List ℕ) → Option (Option MemberPlace)) (known : Known) (name : Bor (List ℕ)) (place : Option MemberPlace)
    → Finds find known → is_some (find name) ≡ true → Finds find (behind known (named place name.now))
unfolding named
noted_kept find known name place finds there = record { each = λ q. by q (bytes_eq name.now q.now) refl }
  where
    by : (q : Bor (List ℕ)) (b : Bool) → bytes_eq name.now q.now ≡ b
        → find q ≡ option_or (known q.now) (cond b (Some place) None)
    by q false e = finds.each q ∙ sym (or_none (known q.now))
    by q true e =
        let same : find q ≡ find name = known_there find known name q finds e in
        let some : is_some (known q.now) ≡ true = ap is_some (sym (finds.each q) ∙ same) ∙ there in
        finds.each q ∙ sym (or_some (known q.now) (Some place) some)

-- and one that is new
pub noted_more : (find next : Bor (List ℕ) → Option (Option MemberPlace)) (known : Known) (name : Bor (List ℕ)) (place : Option MemberPlace)
    → Finds find known → is_some (find name) ≡ false → ((q : Bor (List ℕ)) → next q ≡ cond (same_text name q) (Some place) (find q))
    → Finds next (behind known (named place name.now))
unfolding named
noted_more find next known name place finds fresh is = record { each = λ q. is q ∙ by q (bytes_eq name.now q.now) refl }
  where
    by : (q : Bor (List ℕ)) (b : Bool) → bytes_eq name.now q.now ≡ b
        → cond b (Some place) (find q) ≡ option_or (known q.now) (cond b (Some place) None)
    by q false e = finds.each q ∙ sym (or_none (known q.now))
    by q true e =
        let same : find q ≡ find name = known_there find known name q finds e in
        let none : is_some (known q.now) ≡ false = ap is_some (sym (finds.each q) ∙ same) ∙ fresh in
        sym (or_empty (known q.now) (Some place) none)

-- one more that knows names
pub first_of-push : (fs : List Known) (g : Known) (q : List ℕ) → first_of (fs ++ g ∷ []) q ≡ option_or (first_of fs q) (g q)
unfolding first_of
first_of-push [] g q = or_none (g q)
first_of-push (f ∷ fs) g q = ap (option_or (f q)) (first_of-push fs g q) ∙ sym (or_assoc (f q) (first_of fs q) (g q))

-- so a table that finds what the first ones know finds with one more what all know
pub finds_push : (find : Bor (List ℕ) → Option (Option MemberPlace)) (known : Known) (fs : List Known) (g : Known)
    → Finds find (behind (behind known (first_of fs)) g) → Finds find (behind known (first_of (fs ++ g ∷ [])))
finds_push find known fs g finds = record {
  each = λ q. finds.each q ∙ or_assoc (known q.now) (first_of fs q.now) (g q.now)
      ∙ ap (option_or (known q.now)) (sym (first_of-push fs g q.now));
}

-- no name more
pub finds_none : (find : Bor (List ℕ) → Option (Option MemberPlace)) (known : Known) → Finds find known
    → Finds find (behind known (first_of []))
unfolding first_of
finds_none find known finds = record { each = λ q. finds.each q ∙ sym (or_none (known q.now)) }

-- the step of a loop over what knows names
pub finds_more : {X : Type 0} (find : Bor (List ℕ) → Option (Option MemberPlace)) (known : Known) (f : X → Known) (xs : List X)
    (i : ℕ) (d : X) → i < length xs → Finds find (behind (behind known (first_of (map f (take i xs)))) (f (get_or xs i d)))
    → Finds find (behind known (first_of (map f (take (i + 1) xs))))
finds_more find known f xs i d inside finds =
    subst (λ fs. Finds find (behind known (first_of fs)))
    (sym (ap (map f) (take_more xs i d inside) ∙ map-append f (take i xs) (get_or xs i d ∷ [])))
    (finds_push find known (map f (take i xs)) (f (get_or xs i d)) finds)

-- the step of a loop over what knows names, by its number
pub finds_numbered_more : {X : Type 0} (find : Bor (List ℕ) → Option (Option MemberPlace)) (known : Known) (f : ℕ × X → Known) (xs : List X)
    (i : ℕ) (d : X) → i < length xs
    → Finds find (behind (behind known (first_of (map f (take i (enumerate_from 0 xs))))) (f (i, get_or xs i d)))
    → Finds find (behind known (first_of (map f (take (i + 1) (enumerate_from 0 xs)))))
finds_numbered_more find known f xs i d inside finds =
    finds_more find known f (enumerate_from 0 xs) i (0, d)
    (subst (λ n. i < n) (sym (length-enumerate_from 0 xs)) inside)
    (subst (λ m. Finds find (behind (behind known (first_of (map f (take i (enumerate_from 0 xs))))) (f m)))
    (sym (get_or-enumerate_from 0 xs i (0, d) inside ∙ ap (λ k. (k, get_or xs i d)) (omega arith))) finds)

-- and its end
pub finds_numbered : {X : Type 0} (find : Bor (List ℕ) → Option (Option MemberPlace)) (known : Known) (f : ℕ × X → Known) (xs : List X)
    (n : ℕ) → length xs ≤ n → Finds find (behind known (first_of (map f (take n (enumerate_from 0 xs)))))
    → Finds find (behind known (first_of (map f (enumerate_from 0 xs))))
finds_numbered find known f xs n past finds =
    subst (λ ms. Finds find (behind known (first_of (map f ms))))
    (take_all n (enumerate_from 0 xs) (omega (arith, length-enumerate_from 0 xs, past))) finds
