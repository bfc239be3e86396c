-- Which members of an input are linked. What is known of all inputs: a member is linked exactly if it is one of a whole archive or is
-- taken, and it is a member of its input then.
-- An archive by its number has the members that it has in the arguments. If it is whole, all of them are linked in any case, and if it
-- isn't, none is. So its linked members are those that are taken, or all of them if it is whole.
-- An object or a library has no members, and there is no input behind the last one. So none is linked there.
use Rattle.std.proofs.Common.{◌≡◌, ℕ, ◌<◌, ◌≤◌, ◌⊎◌, inl, inr, List, [], Bool, true, false, map, length, get_or, refl, sym, ap, ◌∙◌, subst, arith, Bor}
use Rattle.std.proofs.lemmas.List.{length-map}
use Rattle.std.proofs.lemmas.Bool.{cases_lt}
use Rattle.macho_members.specs.declared.inputs.ObjectNames.{ObjectNames}
use Rattle.macho_members.specs.declared.inputs.Asked.{Asked}
use Rattle.macho_members.specs.declared.inputs.Asked.TheVariants.{Archive}
use Rattle.macho_members.specs.Inputs.{Names, Input, members_of, members_at, whole_of, whole_at}
use Rattle.macho_members.specs.Inputs as asked
use Rattle.macho_members.specs.Needs.{IsNeeded}
use Rattle.macho_members.specs.Views.{names_of, input_of, inputs_of}
use Rattle.macho_members.specs.steps.Taken.{AreTaken}
use Rattle.macho_members.proofs.Members.{at_number, past_inputs}

-- where there is no member none is linked
pub none_linked : (inputs : List Input) (taken : ℕ → ℕ → Bool) (a : ℕ) → AreTaken inputs taken → members_at inputs a ≡ []
    → (n : ℕ) → IsNeeded inputs a n → n < 0
none_linked inputs taken a done e n needed = subst (λ (l : List Names). n < length l) e (done.inside a n needed)

-- each is within the inputs
pub linked_within : (all : List Asked) (taken : ℕ → ℕ → Bool) (a : ℕ) → AreTaken (inputs_of all) taken → length all ≤ a
    → (i m : ℕ) → IsNeeded (inputs_of all) i m → i < a
linked_within all taken a done past i m needed = by (cases_lt i a)
  where
    by : (i < a) ⊎ (a ≤ i) → i < a
    by (inl low) = low
    by (inr high) = absurd (omega (
      arith,
      none_linked (inputs_of all) taken i done
          (past_inputs members_of all i (omega (arith, past, high))) m needed,
    ))

-- the members that a whole archive has
whole_is : (w : Bool) (ms : List Names) (n : ℕ) → n < length (whole_of (asked.Input.archive w ms)) → w ≡ true
whole_is true ms n h = refl
whole_is false ms n h = absurd (omega (arith, h))

all_whole : (w : Bool) (ms : List Names) (n : ℕ) → n < length ms → w ≡ true → n < length (whole_of (asked.Input.archive w ms))
all_whole true ms n h e = h
all_whole false ms n h e = absurd cc

module _ (all : List Asked) (taken : ℕ → ℕ → Bool) (a : ℕ) (x : Asked) (w : Bool) (ms : Bor (List ObjectNames))
    (done : AreTaken (inputs_of all) taken) (low : a < length all) (is : x ≡ get_or all a x) (e : x ≡ Archive w ms) where
  members_here : members_at (inputs_of all) a ≡ map names_of ms.now
  members_here = at_number members_of all a x low is ∙ ap (λ y. members_of (input_of y)) e

  whole_here : whole_at (inputs_of all) a ≡ whole_of (asked.Input.archive w (map names_of ms.now))
  whole_here = at_number whole_of all a x low is ∙ ap (λ y. whole_of (input_of y)) e

  -- a linked member
  pub linked_here : (n : ℕ) → IsNeeded (inputs_of all) a n → (n < length ms.now) × ((w ≡ true) ⊎ (taken a n ≡ true))
  linked_here n needed = (
    subst (λ k. n < k) (length-map ms.now names_of) (subst (λ (l : List Names). n < length l) members_here (done.inside a n needed)),
    by (done.all a n needed),
  )
    where
      by : (n < length (whole_at (inputs_of all) a)) ⊎ (taken a n ≡ true) → (w ≡ true) ⊎ (taken a n ≡ true)
      by (inl h) = inl (whole_is w (map names_of ms.now) n (subst (λ (l : List Names). n < length l) whole_here h))
      by (inr h) = inr h

  -- and one that has to be
  pub links_here : (n : ℕ) → n < length ms.now → (w ≡ true) ⊎ (taken a n ≡ true) → IsNeeded (inputs_of all) a n
  links_here n h (inl t) = done.needed a n (inl (subst (λ (l : List Names). n < length l) (sym whole_here)
      (all_whole w (map names_of ms.now) n (subst (λ k. n < k) (sym (length-map ms.now names_of)) h) t)))
  links_here n h (inr t) = done.needed a n (inr t)
