-- Exports are put into a list that rises by the bytes of their names.
--
-- Of two names one stands before the other, or they are equal. So an export is put in front of the first one whose name stands behind
-- its own, and where the name is there already, the list stays as it is. The names of the list are those from before and the new
-- one, and all its exports keep what all others and the new one keep.
use Rattle.std.proofs.Common.{◌≡◌, ◌⊎◌, ℕ, List, [], ◌∷◌, map, refl, sym, ap, ◌∙◌, subst, arith, inl, inr}
use Rattle.std.specs.Prelude.{All, AllPairs, Contains}
use Rattle.std.specs.Ordering.{nat_cmp, ordering_reverse, is_eq}
use Rattle.std.specs.Cmp.Lexicographic.{slice_cmp}
use Rattle.std.specs.declared.cmp.Ordering.{Ordering}
use Rattle.std.specs.declared.cmp.Ordering.TheVariants.{Less, Equal, Greater}
use Rattle.std.proofs.lemmas.Cmp.{nat_list_cmp_total}
use Rattle.std.proofs.lemmas.Map.Text.{is_eq-slice_cmp}
use Rattle.std.proofs.lemmas.Slice.Eq.{bytes_eq-Decides}
use Rattle.std.proofs.lemmas.List.Elements.{All-nil, All-cons}
use Rattle.std.proofs.lemmas.List.Kept.{AllPairs-cons}
use Rattle.macho_bytes.proofs.Members.{contains_first, contains_later, contains_cases, contains_all, nil_contains}
use Rattle.macho_model.specs.Told.{ToldExport}

abbrev pub Before : List ℕ → List ℕ → Type 0
Before a b = slice_cmp nat_cmp a b ≡ Less

pub never_before_itself : (x : List ℕ) → Before x x → ⊥
never_before_itself x before =
    let e : Less ≡ Greater = sym before ∙ nat_list_cmp_total.antisymm x x ∙ ap ordering_reverse before in
    cc

compared : (a b : List ℕ) → Before a b ⊎ ((a ≡ b) ⊎ Before b a)
compared a b = by (slice_cmp nat_cmp a b) refl
  where
    by : (o : Ordering) → slice_cmp nat_cmp a b ≡ o → Before a b ⊎ ((a ≡ b) ⊎ Before b a)
    by Less e = inl e
    by Equal e = inr (inl ((bytes_eq-Decides a b).0 (sym (is_eq-slice_cmp a b) ∙ ap is_eq e)))
    by Greater e = inr (inr (nat_list_cmp_total.antisymm b a ∙ ap ordering_reverse e))

-- a name is among those of a list
abbrev pub Names : List ToldExport → List ℕ → Type 0
Names [] z = ⊥
Names (x ∷ xs) z = (x.name ≡ z) ⊎ Names xs z

-- the name of each stands before all later ones
abbrev pub Rises : List ToldExport → Type 0
Rises [] = Unit {0}
Rises (x ∷ xs) = ((z : List ℕ) → Names xs z → Before x.name z) × Rises xs

abbrev pub Each : (ToldExport → Type 0) → List ToldExport → Type 0
Each P [] = Unit {0}
Each P (x ∷ xs) = P x × Each P xs

-- a list with one export more
pub record With (P : ToldExport → Type 0) (e : ToldExport) (xs : List ToldExport) : Type 0 where
  pub out : List ToldExport
  pub rises : Rises out
  pub each : Each P out
  pub has : Names out e.name
  pub old : (z : List ℕ) → Names xs z → Names out z
  pub only : (z : List ℕ) → Names out z → (e.name ≡ z) ⊎ Names xs z

pub with : (P : ToldExport → Type 0) (e : ToldExport) (xs : List ToldExport) → Rises xs → Each P xs → P e → With P e xs
with P e [] rises each keeps = record {
  out = e ∷ [];
  rises = (λ z none. absurd none, tt);
  each = (keeps, tt);
  has = inl refl;
  old = λ z none. inr none;
  only = λ z there. there;
}
with P e (x ∷ xs) rises each keeps = by (compared e.name x.name) (with P e xs rises.1 each.1 keeps)
  where
    by : Before e.name x.name ⊎ ((e.name ≡ x.name) ⊎ Before x.name e.name) → With P e xs → With P e (x ∷ xs)
    by (inl before) i = record {
      out = e ∷ x ∷ xs;
      rises = (low, rises);
      each = (keeps, each);
      has = inl refl;
      old = λ z there. inr there;
      only = λ z there. there;
    }
      where
        low : (z : List ℕ) → Names (x ∷ xs) z → Before e.name z
        low z (inl is) = subst (λ (w : List ℕ). Before e.name w) is before
        low z (inr later) = nat_list_cmp_total.trans e.name x.name z before (rises.0 z later)
    by (inr (inl same)) i = record {
      out = x ∷ xs;
      rises = rises;
      each = each;
      has = inl (sym same);
      old = λ z there. there;
      only = λ z there. inr there;
    }
    by (inr (inr behind)) i = record {
      out = x ∷ i.out;
      rises = (low, i.rises);
      each = (each.0, i.each);
      has = inr i.has;
      old = old;
      only = only;
    }
      where
        low : (z : List ℕ) → Names i.out z → Before x.name z
        low z there = elim (i.only z there) [
          | inl is ↦ subst (λ (w : List ℕ). Before x.name w) is behind
          | inr later ↦ rises.0 z later
        ]

        old : (z : List ℕ) → Names (x ∷ xs) z → Names (x ∷ i.out) z
        old z (inl is) = inl is
        old z (inr later) = inr (i.old z later)

        only : (z : List ℕ) → Names (x ∷ i.out) z → (e.name ≡ z) ⊎ Names (x ∷ xs) z
        only z (inl is) = inr (inl is)
        only z (inr later) = elim (i.only z later) [ inl new ↦ inl new | inr there ↦ inr (inr there) ]

-- the same in the words of lists
has_name : (xs : List ToldExport) (y : ToldExport) → Contains xs y → Names xs y.name
has_name [] y there = absurd (nil_contains y there)
has_name (x ∷ xs) y there = elim (contains_cases x xs y there) [
  | inl is ↦ inl (ap (λ (e : ToldExport). e.name) is)
  | inr later ↦ inr (has_name xs y later)
]

pub contains_name : (xs : List ToldExport) (z : List ℕ) → Names xs z → Contains (map (λ e. e.name) xs) z
contains_name [] z none = absurd none
contains_name (x ∷ xs) z (inl is) =
    let C : List ℕ → Type 0 = λ w. Contains (x.name ∷ map (λ e. e.name) xs) w in
    subst C is (contains_first x.name (map (λ (e : ToldExport). e.name) xs))
contains_name (x ∷ xs) z (inr later) = contains_later x.name (map (λ (e : ToldExport). e.name) xs) z (contains_name xs z later)

pub pairs_rise : (xs : List ToldExport) → Rises xs → AllPairs (λ a b. Before a.name b.name) xs
pairs_rise [] rises = λ i j d low within. absurd (omega (arith, low, within))
pairs_rise (x ∷ xs) rises =
    let R : ToldExport → ToldExport → Type 0 = λ a b. Before a.name b.name in
    AllPairs-cons R x xs (contains_all (R x) xs (λ y there. rises.0 y.name (has_name xs y there))) (pairs_rise xs rises.1)

pub all_keep : (P : ToldExport → Type 0) (xs : List ToldExport) → Each P xs → All P xs
all_keep P [] each = All-nil P
all_keep P (x ∷ xs) each = All-cons P x xs each.0 (all_keep P xs each.1)
