-- The search for members, from its start to its end. At first the names that objects and members of whole archives use have to be looked
-- up. A name that brings a member which isn't taken yet takes it: the member is linked, as whatever the name was asked for is, and what it
-- uses has to be looked up from then on. A name that brings no member, or one that is taken, is done with. So each name that is used by an
-- object, a member of a whole archive or one that is taken has to be looked up still, or what it brings is taken. In the end no name is
-- left to look up, so that the members of whole archives and those that are taken keep the three rules; and each of them is linked.
use Rattle.std.proofs.Common.{◌≡◌, ℕ, ◌<◌, ◌≤◌, ◌⊎◌, inl, inr, zero, suc, List, [], ◌∷◌, ◌++◌, Bool, true, false, length, refl, sym, subst, arith, Contains}
use Rattle.std.proofs.lemmas.List.Elements.{Contains-append_left, Contains-append_right, Contains-append_cases, Contains-push_cases}
use Rattle.macho_members.specs.Inputs.{Input, members_at, member_at, whole_at}
use Rattle.macho_members.specs.Inputs as asked
use Rattle.macho_members.specs.Needs.{Brings, MemberUses, ObjectUses, IsNeeded}
use Rattle.macho_members.specs.Needs as needs
use Rattle.macho_members.specs.steps.Taken.{IsSeen, AreUnderway, AreTaken}
use Rattle.macho_members.proofs.Least.{one_member}

-- a name is done with
pub name_done : (inputs : List Input) (taken next : ℕ → ℕ → Bool) (front : List (List ℕ)) (q : List ℕ)
    → ((i m : ℕ) → taken i m ≡ true → next i m ≡ true) → ((i m : ℕ) → next i m ≡ true → taken i m ≡ true)
    → ((i m : ℕ) → Brings inputs q i m → next i m ≡ true)
    → AreUnderway inputs taken (front ++ q ∷ []) → AreUnderway inputs next front
name_done inputs taken next front q to back done was = record {
  inside = λ i m t. was.inside i m (back i m t);
  needed = λ i m t. was.needed i m (back i m t);
  asked = λ name there. was.asked name (Contains-append_left front (q ∷ []) name there);
  of_objects = λ name uses. seen name (was.of_objects name uses);
  of_wholes = λ j n name low uses. seen name (was.of_wholes j n name low uses);
  of_taken = λ j n name t uses. seen name (was.of_taken j n name (back j n t) uses);
}
  where
    by : (name : List ℕ) → Contains front name ⊎ (q ≡ name) → IsSeen inputs next front name
    by name (inl h) = inl h
    by name (inr e) = inr (λ i m b. done i m (subst (λ n. Brings inputs n i m) (sym e) b))

    seen : (name : List ℕ) → IsSeen inputs taken (front ++ q ∷ []) name → IsSeen inputs next front name
    seen name (inr h) = inr (λ i m b. to i m (h i m b))
    seen name (inl there) = by name (Contains-push_cases front q name there)

-- a name takes the member that it brings
pub member_taken : (inputs : List Input) (taken next : ℕ → ℕ → Bool) (front : List (List ℕ)) (q : List ℕ) (a b : ℕ)
    → ((i m : ℕ) → taken i m ≡ true → next i m ≡ true) → next a b ≡ true
    → ((i m : ℕ) → next i m ≡ true → (taken i m ≡ true) ⊎ ((i ≡ a) × (m ≡ b)))
    → Brings inputs q a b → AreUnderway inputs taken (front ++ q ∷ [])
    → AreUnderway inputs next (front ++ (member_at inputs a b).used)
member_taken inputs taken next front q a b to here new brings was = record {
  inside = λ i m t. inside_of i m (new i m t);
  needed = λ i m t. needed_of i m (new i m t);
  asked = λ name there. asked_of name (Contains-append_cases front used name there);
  of_objects = λ name uses. seen name (was.of_objects name uses);
  of_wholes = λ j n name low uses. seen name (was.of_wholes j n name low uses);
  of_taken = λ j n name t uses. taken_of j n name uses (new j n t);
}
  where
    used : List (List ℕ)
    used = (member_at inputs a b).used

    is_needed : IsNeeded inputs a b
    is_needed = was.asked q (Contains-append_right front (q ∷ []) q (0, omega arith, refl)) a b brings

    inside_of : (i m : ℕ) → (taken i m ≡ true) ⊎ ((i ≡ a) × (m ≡ b)) → m < length (members_at inputs i)
    inside_of i m (inl t) = was.inside i m t
    inside_of i m (inr e) = subst (λ j. m < length (members_at inputs j)) (sym e.0)
        (subst (λ n. n < length (members_at inputs a)) (sym e.1) brings.inside)

    needed_of : (i m : ℕ) → (taken i m ≡ true) ⊎ ((i ≡ a) × (m ≡ b)) → IsNeeded inputs i m
    needed_of i m (inl t) = was.needed i m t
    needed_of i m (inr e) = subst (λ j. IsNeeded inputs j m) (sym e.0) (subst (IsNeeded inputs a) (sym e.1) is_needed)

    asked_of : (name : List ℕ) → Contains front name ⊎ Contains used name → (i m : ℕ) → Brings inputs name i m → IsNeeded inputs i m
    asked_of name (inl there) i m brought = was.asked name (Contains-append_left front (q ∷ []) name there) i m brought
    asked_of name (inr there) i m brought = needs.IsNeeded.by_member i m a b name is_needed there brought

    brought_now : (name : List ℕ) → q ≡ name → (i m : ℕ) → Brings inputs name i m → next i m ≡ true
    brought_now name e i m brought =
        let one = one_member inputs name i m a b brought (subst (λ n. Brings inputs n a b) e brings) in
        subst (λ j. next j m ≡ true) (sym one.0) (subst (λ n. next a n ≡ true) (sym one.1) here)

    by : (name : List ℕ) → Contains front name ⊎ (q ≡ name) → IsSeen inputs next (front ++ used) name
    by name (inl there) = inl (Contains-append_left front used name there)
    by name (inr e) = inr (brought_now name e)

    seen : (name : List ℕ) → IsSeen inputs taken (front ++ q ∷ []) name → IsSeen inputs next (front ++ used) name
    seen name (inr h) = inr (λ i m brought. to i m (h i m brought))
    seen name (inl there) = by name (Contains-push_cases front q name there)

    taken_of : (j n : ℕ) (name : List ℕ) → MemberUses inputs j n name → (taken j n ≡ true) ⊎ ((j ≡ a) × (n ≡ b))
        → IsSeen inputs next (front ++ used) name
    taken_of j n name uses (inl t) = seen name (was.of_taken j n name t uses)
    taken_of j n name uses (inr e) = inl (Contains-append_right front used name
        (subst (λ k. MemberUses inputs a k name) e.1 (subst (λ k. MemberUses inputs k n name) e.0 uses)))

-- at first nothing is taken
pub none_taken : (inputs : List Input) (names : List (List ℕ))
    → ((name : List ℕ) → Contains names name → ObjectUses inputs name
    ⊎ ((j : ℕ) × (n : ℕ) × (n < length (whole_at inputs j)) × MemberUses inputs j n name))
    → ((name : List ℕ) → ObjectUses inputs name → Contains names name)
    → ((j n : ℕ) (name : List ℕ) → n < length (whole_at inputs j) → MemberUses inputs j n name → Contains names name)
    → AreUnderway inputs (λ i m. false) names
none_taken inputs names from objects wholes = record {
  inside = λ i m t. absurd cc;
  needed = λ i m t. absurd cc;
  asked = λ name there i m brings. by name i m brings (from name there);
  of_objects = λ name uses. inl (objects name uses);
  of_wholes = λ j n name low uses. inl (wholes j n name low uses);
  of_taken = λ j n name t uses. absurd cc;
}
  where
    by : (name : List ℕ) (i m : ℕ) → Brings inputs name i m → ObjectUses inputs name
        ⊎ ((j : ℕ) × (n : ℕ) × (n < length (whole_at inputs j)) × MemberUses inputs j n name) → IsNeeded inputs i m
    by name i m brings (inl uses) = needs.IsNeeded.by_object i m name uses brings
    by name i m brings (inr w) =
        needs.IsNeeded.by_member i m w.0 w.1 name (needs.IsNeeded.whole w.0 w.1 w.2) w.3 brings

-- the members of a whole archive are among its members
whole_inside : (inputs : List Input) (i : ℕ) → length (whole_at inputs i) ≤ length (members_at inputs i)
whole_inside [] i = omega arith
whole_inside (asked.Input.object _ ∷ inputs) zero = omega arith
whole_inside (asked.Input.library _ ∷ inputs) zero = omega arith
whole_inside (asked.Input.archive true _ ∷ inputs) zero = omega arith
whole_inside (asked.Input.archive false _ ∷ inputs) zero = omega arith
whole_inside (_ ∷ inputs) (suc i) = whole_inside inputs i

-- in the end no name is left
pub all_taken : (inputs : List Input) (taken : ℕ → ℕ → Bool) → AreUnderway inputs taken [] → AreTaken inputs taken
all_taken inputs taken was = record { needed = needed_of; all = all_of; inside = inside_of }
  where
    needed_of : (i m : ℕ) → (m < length (whole_at inputs i)) ⊎ (taken i m ≡ true) → IsNeeded inputs i m
    needed_of i m (inl low) = needs.IsNeeded.whole i m low
    needed_of i m (inr t) = was.needed i m t

    brought : (name : List ℕ) (i m : ℕ) → Brings inputs name i m → IsSeen inputs taken [] name → taken i m ≡ true
    brought name i m brings (inl there) = absurd (omega (arith, there.1))
    brought name i m brings (inr h) = h i m brings

    by : (j n : ℕ) (name : List ℕ) → MemberUses inputs j n name → (n < length (whole_at inputs j)) ⊎ (taken j n ≡ true)
        → IsSeen inputs taken [] name
    by j n name uses (inl low) = was.of_wholes j n name low uses
    by j n name uses (inr t) = was.of_taken j n name t uses

    all_of : (i m : ℕ) → IsNeeded inputs i m → (m < length (whole_at inputs i)) ⊎ (taken i m ≡ true)
    all_of _ _ (needs.IsNeeded.whole i m low) = inl low
    all_of _ _ (needs.IsNeeded.by_object i m name uses brings) = inr (brought name i m brings (was.of_objects name uses))
    all_of _ _ (needs.IsNeeded.by_member i m j n name needed uses brings) =
        inr (brought name i m brings (by j n name uses (all_of j n needed)))

    inside_of : (i m : ℕ) → IsNeeded inputs i m → m < length (members_at inputs i)
    inside_of _ _ (needs.IsNeeded.whole i m low) = omega (arith, low, whole_inside inputs i)
    inside_of _ _ (needs.IsNeeded.by_object i m name uses brings) = brings.inside
    inside_of _ _ (needs.IsNeeded.by_member i m j n name needed uses brings) = brings.inside
