-- The places of plain entries. A name that is among entries stands first at one place, which entries behind leave as it
-- is. So a place that was noted stays right where entries are added or the last ones are taken back. A name that is noted
-- for the first time gets the place behind all; for each other name the table finds what it found before.
use Rattle.std.proofs.Common.{◌≡◌, ℕ, ◌<◌, ◌≤◌, true, false, Bool, Option, Some, None, List, [], ◌∷◌, ◌++◌, length, get_or, refl, ap, subst, sym, ◌∙◌, arith, inl, inr, length-append, nat_eq}
use Rattle.std.specs.Cmp.Lexicographic.{pointwise}
use Rattle.std.proofs.lemmas.Bool.{both_ways, false_from_ne_true, cases_lt, or_cases, or_left}
use Rattle.std.proofs.lemmas.Cmp.{nat_list_eq_equiv}
use Rattle.std.proofs.lemmas.List.{get_or_append_left, get_or_push}
use Rattle.std.proofs.lemmas.List.Sums.{position_or_len_is, passes_at_first, fails_before_first}
use Rattle.std.proofs.lemmas.List.Folds.{list_any_at, list_any_none, list_any-append}
use Rattle.std.proofs.lemmas.Slice.Eq.{bytes_eq-Decides}
use Rattle.std.specs.List.{list_any, position_or_len}
use Rattle.std.specs.Str.{bytes_eq}
use Rattle.std.specs.Map.{KeepsOthers}
use Rattle.std.specs.HashMap.{HashMap, get_by, UpdatesBy}
use Rattle.std.specs.declared.vec.Vec.{Vec}
use Rattle.macho_export_lists.specs.steps.Lists.{ArePlaces}
use Rattle.macho_bytes.proofs.Comparing.{same_bytes}

-- what is among elements stands first at one of their places
pub any_place : {X : Type 0} (p : X → Bool) (xs : List X) (d : X) → list_any p xs ≡ true → position_or_len p xs < length xs
any_place p xs d some = elim (cases_lt (position_or_len p xs) (length xs)) [
  | inl within ↦ within
  | inr past ↦
      let none : list_any p xs ≡ false = list_any_none p xs (λ k e h. fails_before_first p xs k e (omega (arith, h, past))) in absurd
      (both_ways _ none some)
]

-- and stays there where others are added behind
pub place_stays : {X : Type 0} (p : X → Bool) (xs ys : List X) (d : X) → list_any p xs ≡ true
    → position_or_len p (xs ++ ys) ≡ position_or_len p xs
place_stays p xs ys d some =
    let within = any_place p xs d some in
    position_or_len_is p (xs ++ ys) (position_or_len p xs) d (omega (arith, within, length-append xs ys))
    (λ k h. ap p (get_or_append_left xs ys d k (omega (arith, h, within))) ∙ fails_before_first p xs k d h)
    (λ h. ap p (get_or_append_left xs ys d (position_or_len p xs) within) ∙ passes_at_first p xs d within)

-- what is new stands behind all
pub place_last : {X : Type 0} (p : X → Bool) (xs : List X) (y : X) → list_any p xs ≡ false → p y ≡ true
    → position_or_len p (xs ++ y ∷ []) ≡ length xs
place_last p xs y none passes =
    position_or_len_is p (xs ++ y ∷ []) (length xs) y (omega (arith, length-append xs (y ∷ [])))
    (λ k h. ap p (get_or_append_left xs (y ∷ []) y k h)
    ∙ false_from_ne_true (p (get_or xs k y)) (λ is. both_ways _ none (list_any_at p xs k y h is)))
    (λ h. ap p (get_or_push xs y y (length xs) refl) ∙ passes)

-- a name is among entries where its place is that of its name
pub among : (plain : List (List ℕ)) (name : List ℕ) (place : ℕ)
    → (list_any (bytes_eq name) plain ≡ true → Some place ≡ Some (position_or_len (bytes_eq name) plain))
    → place < length plain → bytes_eq (get_or plain place []) name ≡ list_any (bytes_eq name) plain
among plain name place found within = of (list_any (bytes_eq name) plain) refl
  where
    of : (t : Bool) → list_any (bytes_eq name) plain ≡ t → bytes_eq (get_or plain place []) name ≡ list_any (bytes_eq name) plain
    of true is =
        let there : place ≡ position_or_len (bytes_eq name) plain = let e = found is in cc in
        let here : bytes_eq name (get_or plain place []) ≡ true =
        ap (λ k. bytes_eq name (get_or plain k [])) there
        ∙ passes_at_first (bytes_eq name) plain [] (any_place (bytes_eq name) plain [] is) in
        nat_list_eq_equiv.symm (get_or plain place []) name ∙ here ∙ sym is
    of false is =
        false_from_ne_true (bytes_eq (get_or plain place []) name)
        (λ here. both_ways _ is (list_any_at (bytes_eq name) plain place [] within
        (nat_list_eq_equiv.symm name (get_or plain place []) ∙ here))) ∙ sym is

pub among_past : (plain : List (List ℕ)) (name : List ℕ) (place : ℕ)
    → (list_any (bytes_eq name) plain ≡ true → Some place ≡ Some (position_or_len (bytes_eq name) plain))
    → length plain ≤ place → list_any (bytes_eq name) plain ≡ false
among_past plain name place found past =
    false_from_ne_true (list_any (bytes_eq name) plain)
    (λ is. let there : place ≡ position_or_len (bytes_eq name) plain = let e = found is in cc in
    omega (arith, there, past, any_place (bytes_eq name) plain [] is))

-- entries that are added behind, or taken back
pub places_front : {A S : Type 0} (plain more : List (List ℕ)) (places : HashMap (Vec ℕ A) ℕ S) → ArePlaces (plain ++ more) places
    → ArePlaces plain places
places_front plain more places are = record {
  found = λ q is. are.found q (list_any-append (bytes_eq q) plain more ∙ or_left _ _ is)
      ∙ ap (λ n. Some n) (place_stays (bytes_eq q) plain more [] is);
}

pub still_among : (plain : List (List ℕ)) (name q : List ℕ) → list_any (bytes_eq name) plain ≡ true
    → list_any (bytes_eq q) (plain ++ name ∷ []) ≡ true → list_any (bytes_eq q) plain ≡ true
still_among plain name q there is = elim (or_cases _ _ (sym (list_any-append (bytes_eq q) plain (name ∷ [])) ∙ is)) [
  | inl old ↦ old
  | inr new ↦ elim (or_cases _ _ new) [
    | inl here ↦ subst (λ n. list_any (bytes_eq n) plain ≡ true) (sym (same_bytes q name here)) there
    | inr none ↦ absurd cc
  ]
]

pub places_again : {A S : Type 0} (plain : List (List ℕ)) (name : List ℕ) (places : HashMap (Vec ℕ A) ℕ S) → ArePlaces plain places
    → list_any (bytes_eq name) plain ≡ true
    → ArePlaces (plain ++ name ∷ []) places
places_again plain name places are there = record {
  found = λ q is. let before = still_among plain name q there is in
      are.found q before ∙ ap (λ n. Some n) (sym (place_stays (bytes_eq q) plain (name ∷ []) [] before));
}

-- a name that is noted for the first time
abbrev pub same_items : {A : Type 0} → Vec ℕ A → Vec ℕ A → Bool
same_items x y = pointwise nat_eq x.items y.items

apart : (bs cs ks : List ℕ) → bytes_eq bs cs ≡ false → bytes_eq bs ks ≡ true → bytes_eq cs ks ≡ false
apart bs cs ks n y = nat_list_eq_equiv.symm cs ks ∙ sym (nat_list_eq_equiv.congr bs ks cs y) ∙ n

pub other_found : {A S : Type 0} (m n : HashMap (Vec ℕ A) ℕ S) (key : Vec ℕ A) (w : Option ℕ) (q : List ℕ)
    → UpdatesBy same_items (same_items key) m n w
    → bytes_eq key.items q ≡ false → get_by (λ k. bytes_eq q k.items) n ≡ get_by (λ k. bytes_eq q k.items) m
unfolding KeepsOthers
other_found m n key w q h other = h.3 (λ k. bytes_eq q k.items) (λ x y. nat_list_eq_equiv.congr q x.items y.items)
    (λ k. apart key.items q k.items other)

not_it : (plain : List (List ℕ)) (name q : List ℕ) → list_any (bytes_eq name) plain ≡ false → list_any (bytes_eq q) plain ≡ true
    → bytes_eq name q ≡ false
not_it plain name q new old =
    false_from_ne_true (bytes_eq name q)
    (λ is. both_ways _ new (subst (λ n. list_any (bytes_eq n) plain ≡ true) (sym (same_bytes name q is)) old))

pub places_kept : {A S : Type 0} (plain : List (List ℕ)) (m n : HashMap (Vec ℕ A) ℕ S) (key : Vec ℕ A) (w : Option ℕ) → ArePlaces plain m
    → list_any (bytes_eq key.items) plain ≡ false → UpdatesBy same_items (same_items key) m n w → ArePlaces plain n
places_kept plain m n key w are new updates = record {
  found = λ q is. other_found m n key w q updates (not_it plain key.items q new is) ∙ are.found q is;
}

pub places_more : {A S : Type 0} (plain : List (List ℕ)) (m n : HashMap (Vec ℕ A) ℕ S) (key : Vec ℕ A) (place : ℕ) → ArePlaces plain m
    → place ≡ length plain
    → list_any (bytes_eq key.items) plain ≡ false → UpdatesBy same_items (same_items key) m n (Some place)
    → ArePlaces (plain ++ key.items ∷ []) n
places_more plain m n key place are behind new updates = record { found = λ q is. of (bytes_eq key.items q) q refl is }
  where
    itself : bytes_eq key.items key.items ≡ true
    itself = (bytes_eq-Decides key.items key.items).1 refl

    last : position_or_len (bytes_eq key.items) (plain ++ key.items ∷ []) ≡ place
    last = place_last (bytes_eq key.items) plain key.items new itself ∙ sym behind

    of : (t : Bool) (q : List ℕ) → bytes_eq key.items q ≡ t → list_any (bytes_eq q) (plain ++ key.items ∷ []) ≡ true
        → get_by (λ k. bytes_eq q k.items) n ≡ Some (position_or_len (bytes_eq q) (plain ++ key.items ∷ []))
    of true q here is =
        subst (λ x. get_by (λ k. bytes_eq x k.items) n ≡ Some (position_or_len (bytes_eq x) (plain ++ key.items ∷ [])))
        (same_bytes key.items q here)
        (updates.1 ∙ ap (λ i. Some i) (sym last))
    of false q other is = elim (or_cases _ _ (sym (list_any-append (bytes_eq q) plain (key.items ∷ [])) ∙ is)) [
      | inl old ↦
          other_found m n key (Some place) q updates other ∙ are.found q old
          ∙ ap (λ i. Some i) (sym (place_stays (bytes_eq q) plain (key.items ∷ []) [] old))
      | inr last_one ↦ elim (or_cases _ _ last_one) [
        | inl here ↦ absurd (both_ways _ other (nat_list_eq_equiv.symm key.items q ∙ here))
        | inr none ↦ absurd cc
      ]
    ]
