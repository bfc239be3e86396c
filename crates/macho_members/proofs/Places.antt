-- A set of members with one more. Two places are the same exactly where both numbers are, so the test of places is an equivalence, and one
-- that passes it with a place has the numbers of that place.
-- The set with one more holds each place that is the new one, and of the others those that it held before. So what was held is held still,
-- and the new one is held now. What is held now was held before, or has the numbers of the new one. If the new one was held already, the
-- set holds just what it did.
use Rattle.std.proofs.Common.{◌≡◌, ℕ, ◌⊎◌, inl, inr, Bool, true, false, not, cond, ◌==◌, ◌&&◌, refl, sym, ap, ◌∙◌}
use Rattle.std.specs.Cmp.{IsEquivalence}
use Rattle.std.proofs.lemmas.Cmp.{nat_eq_equiv}
use Rattle.std.proofs.lemmas.Bool.Decides.{Decides-eqb}
use Rattle.macho_bytes.proofs.Bools.{and_left, and_right, and_both}
use Rattle.macho_members.specs.declared.inputs.MemberPlace.{MemberPlace}
use Rattle.macho_members.specs.steps.Held.{place_eq}

-- the place of two numbers
abbrev pub at : ℕ → ℕ → MemberPlace
at i m = record { archive = i; member = m }

pub same_numbers : (p : MemberPlace) (i m : ℕ) → place_eq p (at i m) ≡ true → (i ≡ p.archive) × (m ≡ p.member)
same_numbers p i m e = (
  sym ((Decides-eqb p.archive i).0 (and_left (p.archive == i) (p.member == m) e)),
  sym ((Decides-eqb p.member m).0 (and_right (p.archive == i) (p.member == m) e)),
)

pub same_self : (p : MemberPlace) → place_eq p p ≡ true
same_self p = and_both (p.archive == p.archive) (p.member == p.member) ((Decides-eqb p.archive p.archive).1 refl)
    ((Decides-eqb p.member p.member).1 refl)

-- to be the same is an equivalence
pub place_laws : IsEquivalence place_eq
place_laws = record {
  refl = same_self;
  symm = λ p q. ap (λ b. b && (p.member == q.member)) (nat_eq_equiv.symm p.archive q.archive)
      ∙ ap (λ b. (q.archive == p.archive) && b) (nat_eq_equiv.symm p.member q.member);
  congr = λ p q r e. ap (λ b. b && (p.member == r.member))
      (nat_eq_equiv.congr p.archive q.archive r.archive (and_left (p.archive == q.archive) (p.member == q.member) e))
      ∙ ap (λ b. (q.archive == r.archive) && b)
      (nat_eq_equiv.congr p.member q.member r.member (and_right (p.archive == q.archive) (p.member == q.member) e));
}

module _ (old next : ℕ → ℕ → Bool) (p : MemberPlace)
    (is : (q : MemberPlace) → next q.archive q.member ≡ cond (place_eq p q) true (old q.archive q.member)) where
  -- what was held is held
  pub held_still : (i m : ℕ) → old i m ≡ true → next i m ≡ true
  held_still i m e = is (at i m) ∙ by (place_eq p (at i m))
    where
      by : (b : Bool) → cond b true (old i m) ≡ true
      by true = refl
      by false = e

  -- and the new one
  pub held_now : next p.archive p.member ≡ true
  held_now = is p ∙ ap (λ b. cond b true (old p.archive p.member)) (same_self p)

  -- one that is held was held before, or is the new one
  pub held_before : (i m : ℕ) → next i m ≡ true → (old i m ≡ true) ⊎ ((i ≡ p.archive) × (m ≡ p.member))
  held_before i m e = by (place_eq p (at i m)) refl (sym (is (at i m)) ∙ e)
    where
      by : (b : Bool) → place_eq p (at i m) ≡ b → cond b true (old i m) ≡ true → (old i m ≡ true) ⊎ ((i ≡ p.archive) × (m ≡ p.member))
      by true same _ = inr (same_numbers p i m same)
      by false _ was = inl was

  -- and if the new one was held, all were
  pub held_again : old p.archive p.member ≡ true → (i m : ℕ) → next i m ≡ true → old i m ≡ true
  held_again here i m e = by i m (held_before i m e)
    where
      by : (i m : ℕ) → (old i m ≡ true) ⊎ ((i ≡ p.archive) × (m ≡ p.member)) → old i m ≡ true
      by i m (inl was) = was
      by i m (inr s) = ap (λ j. old j m) s.0 ∙ ap (old p.archive) s.1 ∙ here
