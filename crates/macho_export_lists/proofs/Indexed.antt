-- Patterns by their parts. A name that matches a pattern has each of the pattern's parts where such parts stand. So where a
-- pattern among others matches, the place at which it stands first is noted, in one of the tables, under the name's own bytes
-- of one of the noted lengths at one of these places, and is tried. What is tried stands among the patterns.
use Rattle.std.proofs.Common.{◌≡◌, ℕ, zero, suc, ◌+◌, ◌-◌, ◌<◌, ◌≤◌, ◌&&◌, ◌||◌, not, true, false, Bool, List, [], ◌∷◌, ◌++◌, length, get_or, take, drop, if◌then◌else◌, Option, Some, None, refl, ap, sym, subst, ◌∙◌, arith, inl, inr}
use Rattle.std.proofs.lemmas.Bool.{both_ways, false_from_ne_true, or_cases, or_left, or_right, and_parts, and_from, lt-ltb, ltb-true, le-leb, cases_lt}
use Rattle.std.proofs.lemmas.List.{get_or_past}
use Rattle.std.proofs.lemmas.List.Sums.{passes_at_first}
use Rattle.std.proofs.lemmas.List.Folds.{list_any_at, list_any_none, list_any-append, Any-from_list_any}
use Rattle.std.proofs.lemmas.List.FromFn.{length-range_with_len, get_or-range_with_len}
use Rattle.std.proofs.lemmas.Slice.Eq.{bytes_eq-Decides}
use Rattle.std.specs.List.{list_any, position_or_len, range_with_len, slice_range}
use Rattle.std.specs.Str.{bytes_eq}
use Rattle.std.specs.HashMap.{get_by}
use Rattle.memchr.proofs.lemmas.MatchLemmas.{OccursAt-part}
use Rattle.macho_model.specs.ExportLists.{matches}
use Rattle.macho_export_lists.specs.declared.parts.PartTable.{PartTable}
use Rattle.macho_export_lists.specs.declared.table.PatternTable.{PatternTable}
use Rattle.macho_export_lists.specs.steps.Ends.{IsPart, first_place, last_place, has_many_places}
use Rattle.macho_export_lists.specs.Entries.{texts_of}
use Rattle.macho_export_lists.specs.steps.Tables.{numbers_at, numbers_of}
use Rattle.macho_export_lists.specs.steps.Indexed.{IsNoted, IsNotedIn, KeepsTable, KeepsTables, IsIndexed, is_match_at, is_match_of, is_match_under, is_match_found, is_match_any, is_match_in, is_again, is_match_by, is_match_from, places_from}
use Rattle.macho_export_lists.proofs.Stands.{stands}
use Rattle.macho_export_lists.proofs.Places.{any_place, place_stays, place_last, places_front, places_again, still_among}
use Rattle.macho_export_lists.proofs.Tables.{any_of}
use Rattle.macho_bytes.proofs.Comparing.{same_bytes}

-- places from a first one on
pub tried_place : (p : ℕ → Bool) (first n at : ℕ) → first ≤ at → at < first + n → p at ≡ true → list_any p (range_with_len first n) ≡ true
tried_place p first n at low high is =
    let there : first + (at - first) ≡ at = omega (arith, low) in
    let within : at - first < n = omega (arith, low, high) in
    list_any_at p (range_with_len first n) (at - first) 0 (omega (arith, within, length-range_with_len first n))
    (ap p (get_or-range_with_len first n (at - first) 0 within ∙ there) ∙ is)

pub no_place : (p : ℕ → Bool) (first n : ℕ) → ((k : ℕ) → first ≤ k → k < first + n → p k ≡ false)
    → list_any p (range_with_len first n) ≡ false
no_place p first n none = list_any_none p (range_with_len first n) (λ k d h.
    let within : k < n = omega (arith, h, length-range_with_len first n) in
    ap p (get_or-range_with_len first n k d within) ∙ none (first + k) (omega arith) (omega (arith, within)))

-- what is found under some of a name's bytes
pub tried_under : (t : PartTable) (patterns : List (List ℕ)) (name : List ℕ) (count at : ℕ) → count ≤ length name
    → first_place t.stands (length name) count ≤ at → at ≤ last_place t.stands (length name) count
    → is_match_from t patterns name count (first_place t.stands (length name) count) at ≡ true
    → is_match_under t patterns name count ≡ true
tried_under t patterns name count at short low high is =
    let first = first_place t.stands (length name) count in
    and_from _ _ (le-leb count (length name) short)
    (tried_place (is_match_from t patterns name count first) first (last_place t.stands (length name) count + 1 - first) at low
    (omega (arith, low, high)) is)

pub none_under : (t : PartTable) (patterns : List (List ℕ)) (name : List ℕ) (count : ℕ) → count ≤ length name
    → ((k : ℕ) → first_place t.stands (length name) count ≤ k → k < last_place t.stands (length name) count + 1
    → is_match_from t patterns name count (first_place t.stands (length name) count) k ≡ false)
    → is_match_under t patterns name count ≡ false
none_under t patterns name count short none =
    let first = first_place t.stands (length name) count in
    let places = places_from first (last_place t.stands (length name) count) in
    ap (λ b. b && list_any (is_match_from t patterns name count first) places) (le-leb count (length name) short)
    ∙ no_place (is_match_from t patterns name count first) first (last_place t.stands (length name) count + 1 - first)
    (λ k low high. none k low (omega (arith, low, high)))

-- of places with the same_bytes bytes the first one is tried
first_under : (t : PartTable) (patterns : List (List ℕ)) (name : List ℕ) (count n at : ℕ) → at < n → count ≤ length name
    → first_place t.stands (length name) count ≤ at → at ≤ last_place t.stands (length name) count
    → is_match_by t patterns name count at ≡ true → is_match_under t patterns name count ≡ true
first_under t patterns name count zero at below short low high is = absurd (omega (arith, below))
first_under t patterns name count (suc n) at below short low high is =
    of (is_again name count first at) refl (λ k h. first_under t patterns name count n k h short)
  where
    first : ℕ
    first = first_place t.stands (length name) count

    last : ℕ
    last = last_place t.stands (length name) count

    Earlier : Type 0
    Earlier = (k : ℕ) → k < n → first ≤ k → k ≤ last → is_match_by t patterns name count k ≡ true
        → is_match_under t patterns name count ≡ true

    of : (again : Bool) → is_again name count first at ≡ again → Earlier → is_match_under t patterns name count ≡ true
    of true again earlier =
        let a = Any-from_list_any (λ k. bytes_eq (slice_range name k (k + count)) (slice_range name at (at + count)))
        (range_with_len first (at - first)) again in
        let before : a.0 < at - first = omega (arith, a.2, length-range_with_len first (at - first)) in
        let value : a.1 ≡ first + a.0 = sym a.3 ∙ get_or-range_with_len first (at - first) a.0 a.1 before in
        earlier a.1 (omega (arith, value, before, below)) (omega (arith, value)) (omega (arith, value, before, high))
        (ap (λ (f : List ℕ). is_match_of patterns name (numbers_of t.parts t.groups.items f)) (same_bytes _ _ a.4) ∙ is)
    of false new earlier = tried_under t patterns name count at short low high (and_from _ _ (ap not new) is)

-- what is tried is among the patterns
tried_of : (patterns : List (List ℕ)) (name numbers : List ℕ) → is_match_of patterns name numbers ≡ true
    → list_any (λ e. matches e name) patterns ≡ true
tried_of patterns name numbers is =
    let a = Any-from_list_any (is_match_at patterns name) numbers is in
    let both = and_parts _ _ a.4 in
    list_any_at (λ e. matches e name) patterns a.1 [] (ltb-true a.1 (length patterns) both.0) both.1

tried_found : (patterns : List (List ℕ)) (t : PartTable) (name : List ℕ) → is_match_found t patterns name ≡ true
    → list_any (λ e. matches e name) patterns ≡ true
tried_found patterns t name is =
    let under = Any-from_list_any (is_match_under t patterns name) t.lengths.items is in
    let first = first_place t.stands (length name) under.1 in
    let places = places_from first (last_place t.stands (length name) under.1) in
    let from = Any-from_list_any (is_match_from t patterns name under.1 first) places (and_parts _ _ under.4).1 in
    tried_of patterns name (numbers_of t.parts t.groups.items (slice_range name from.1 (from.1 + under.1))) (and_parts _ _ from.4).1

tried_any : (patterns : List (List ℕ)) (t : PartTable) (name : List ℕ) → is_match_any t patterns name ≡ true
    → list_any (λ e. matches e name) patterns ≡ true
tried_any patterns t name is =
    let a = Any-from_list_any (is_match_of patterns name) (texts_of t.groups.items) is in
    tried_of patterns name a.1 a.4

tried : (patterns : List (List ℕ)) (t : PartTable) (name : List ℕ) → is_match_in t patterns name ≡ true
    → list_any (λ e. matches e name) patterns ≡ true
tried patterns t name is = of (has_many_places t.stands (length name)) refl
  where
    of : (many : Bool) → has_many_places t.stands (length name) ≡ many → list_any (λ e. matches e name) patterns ≡ true
    of true e =
        tried_any patterns t name (ap (λ b. if b then is_match_any t patterns name else is_match_found t patterns name) (sym e) ∙ is)
    of false e =
        tried_found patterns t name (ap (λ b. if b then is_match_any t patterns name else is_match_found t patterns name) (sym e) ∙ is)

-- what passes a test among the numbers under a part is one of the groups
group_at : (test : List ℕ → Bool) → test [] ≡ false → (groups : List (List ℕ)) (k : ℕ) → test (get_or groups k []) ≡ true
    → list_any test groups ≡ true
group_at test none groups k is = elim (cases_lt k (length groups)) [
  | inl within ↦ list_any_at test groups k [] within is
  | inr past ↦ absurd (both_ways _ none (ap test (sym (get_or_past groups k [] past)) ∙ is))
]

any_group : (test : List ℕ → Bool) → test [] ≡ false → (groups : List (List ℕ)) (group : Option ℕ) → test (numbers_at groups group) ≡ true
    → list_any test groups ≡ true
any_group test none groups None is = absurd (both_ways _ none is)
any_group test none groups (Some k) is = group_at test none groups k is

-- a pattern that was noted is tried on each name that it matches
untried_found : (patterns : List (List ℕ)) (t : PartTable) (name q : List ℕ) (n : ℕ) → IsNoted t q n → matches q name ≡ true
    → is_match_at patterns name n ≡ true → is_match_found t patterns name ≡ true
untried_found patterns t name q n noted is here =
    let part = noted.part in
    let count = length part in
    let s = stands t.stands part q name noted.is is in
    let size : s.at + count - s.at ≡ count = omega arith in
    let there : slice_range name s.at (s.at + count) ≡ part =
    ap (λ m. take m (drop s.at name)) size ∙ OccursAt-part name part s.at s.occurs in
    let under : is_match_of patterns name (numbers_of t.parts t.groups.items part) ≡ true =
    any_of (is_match_at patterns name) (numbers_of t.parts t.groups.items part) n noted.numbered here in
    let by : is_match_by t patterns name count s.at ≡ true =
    ap (λ (f : List ℕ). is_match_of patterns name (numbers_of t.parts t.groups.items f)) there ∙ under in
    any_of (is_match_under t patterns name) t.lengths.items count noted.long
    (first_under t patterns name count (s.at + 1) s.at (omega arith) (omega (arith, s.occurs.fits)) s.low s.high by)

untried_any : (patterns : List (List ℕ)) (t : PartTable) (name q : List ℕ) (n : ℕ) → IsNoted t q n
    → is_match_at patterns name n ≡ true → is_match_any t patterns name ≡ true
untried_any patterns t name q n noted here =
    any_group (is_match_of patterns name) refl (texts_of t.groups.items) (get_by (λ k. bytes_eq noted.part k.items) t.parts)
    (any_of (is_match_at patterns name) (numbers_of t.parts t.groups.items noted.part) n noted.numbered here)

untried : (patterns : List (List ℕ)) (t : PartTable) (name q : List ℕ) (n : ℕ) → IsNoted t q n → matches q name ≡ true
    → is_match_at patterns name n ≡ true → is_match_in t patterns name ≡ true
untried patterns t name q n noted is here = of (has_many_places t.stands (length name)) refl
  where
    of : (many : Bool) → has_many_places t.stands (length name) ≡ many → is_match_in t patterns name ≡ true
    of true e =
        ap (λ b. if b then is_match_any t patterns name else is_match_found t patterns name) e ∙ untried_any patterns t name q n noted here
    of false e =
        ap (λ b. if b then is_match_any t patterns name else is_match_found t patterns name) e
        ∙ untried_found patterns t name q n noted is here

-- what is found by the tables
pub found : (patterns : List (List ℕ)) (t : PatternTable) (name : List ℕ) → IsIndexed patterns t
    → (is_match_in t.fronts patterns name || (is_match_in t.middles patterns name || is_match_in t.backs patterns name))
    ≡ list_any (λ e. matches e name) patterns
found patterns t name indexed = of (list_any (λ e. matches e name) patterns) refl
  where
    inner : Bool
    inner = is_match_in t.middles patterns name || is_match_in t.backs patterns name

    either : Bool
    either = is_match_in t.fronts patterns name || inner

    one : (q : List ℕ) → matches q name ≡ true → list_any (bytes_eq q) patterns ≡ true → either ≡ true
    one q is among =
        let place = position_or_len (bytes_eq q) patterns in
        let inside : place < length patterns = any_place (bytes_eq q) patterns [] among in
        let there : q ≡ get_or patterns place [] =
        same_bytes q (get_or patterns place []) (passes_at_first (bytes_eq q) patterns [] inside) in
        let here : is_match_at patterns name place ≡ true =
        and_from _ _ (lt-ltb place (length patterns) inside) (ap (λ e. matches e name) (sym there) ∙ is) in
        elim (indexed.noted q among) [
          | inl front ↦ or_left _ _ (untried patterns t.fronts name q place front is here)
          | inr other ↦ or_right _ inner (elim other [
            | inl middle ↦ or_left _ _ (untried patterns t.middles name q place middle is here)
            | inr back ↦ or_right _ _ (untried patterns t.backs name q place back is here)
          ])
        ]

    of : (some : Bool) → list_any (λ e. matches e name) patterns ≡ some → either ≡ list_any (λ e. matches e name) patterns
    of true is =
        let a = Any-from_list_any (λ e. matches e name) patterns is in
        one a.1 a.4 (list_any_at (bytes_eq a.1) patterns a.0 a.1 a.2 ((bytes_eq-Decides a.1 (get_or patterns a.0 a.1)).1 (sym a.3)))
        ∙ sym is
    of false none =
        false_from_ne_true either (λ is. both_ways _ none (elim (or_cases _ _ is) [
          | inl front ↦ tried patterns t.fronts name front
          | inr other ↦ elim (or_cases _ _ other) [
            | inl middle ↦ tried patterns t.middles name middle
            | inr back ↦ tried patterns t.backs name back
          ]
        ]))
        ∙ sym none

-- patterns that are added behind, or taken back
noted_behind : (patterns more : List (List ℕ)) (t : PatternTable) (q : List ℕ) → list_any (bytes_eq q) patterns ≡ true
    → IsNotedIn t q (position_or_len (bytes_eq q) patterns)
    → IsNotedIn t q (position_or_len (bytes_eq q) (patterns ++ more))
noted_behind patterns more t q among noted =
    subst (λ n. IsNotedIn t q n) (sym (place_stays (bytes_eq q) patterns more [] among)) noted

pub indexed_front : (patterns more : List (List ℕ)) (t : PatternTable) → IsIndexed (patterns ++ more) t → IsIndexed patterns t
indexed_front patterns more t indexed = record {
  are = places_front patterns more t.places indexed.are;
  noted = λ q is. subst (λ n. IsNotedIn t q n) (place_stays (bytes_eq q) patterns more [] is)
      (indexed.noted q (list_any-append (bytes_eq q) patterns more ∙ or_left _ _ is));
}

pub indexed_again : (patterns : List (List ℕ)) (name : List ℕ) (t : PatternTable) → IsIndexed patterns t
    → list_any (bytes_eq name) patterns ≡ true → IsIndexed (patterns ++ name ∷ []) t
indexed_again patterns name t indexed there = record {
  are = places_again patterns name t.places indexed.are there;
  noted = λ q is. let among = still_among patterns name q there is in
      noted_behind patterns (name ∷ []) t q among (indexed.noted q among);
}

keeps_one : (old new : PartTable) (q : List ℕ) (n : ℕ) → KeepsTable old new → IsNoted old q n → IsNoted new q n
keeps_one old new q n keeps noted = record {
  part = noted.part;
  is = subst (λ w. IsPart w noted.part q) (sym keeps.same) noted.is;
  numbered = (keeps.numbers.each noted.part).all n noted.numbered;
  long = keeps.longs.all (length noted.part) noted.long;
}

keeps_noted : (old new : PatternTable) (q : List ℕ) (n : ℕ) → KeepsTables old new → IsNotedIn old q n → IsNotedIn new q n
keeps_noted old new q n keeps noted = elim noted [
  | inl front ↦ inl (keeps_one old.fronts new.fronts q n keeps.fronts front)
  | inr other ↦ inr (elim other [
    | inl middle ↦ inl (keeps_one old.middles new.middles q n keeps.middles middle)
    | inr back ↦ inr (keeps_one old.backs new.backs q n keeps.backs back)
  ])
]

pub indexed_more : (patterns : List (List ℕ)) (name : List ℕ) (old new : PatternTable) → IsIndexed patterns old → KeepsTables old new
    → list_any (bytes_eq name) patterns ≡ false
    → IsNotedIn new name (length patterns) → (q : List ℕ) → list_any (bytes_eq q) (patterns ++ name ∷ []) ≡ true
    → IsNotedIn new q (position_or_len (bytes_eq q) (patterns ++ name ∷ []))
indexed_more patterns name old new indexed keeps unknown noted q is =
    elim (or_cases _ _ (sym (list_any-append (bytes_eq q) patterns (name ∷ [])) ∙ is)) [
      | inl among ↦
          noted_behind patterns (name ∷ []) new q among
          (keeps_noted old new q (position_or_len (bytes_eq q) patterns) keeps (indexed.noted q among))
      | inr last ↦ elim (or_cases _ _ last) [
        | inl here ↦
            subst (λ x. IsNotedIn new x (position_or_len (bytes_eq x) (patterns ++ name ∷ []))) (sym (same_bytes q name here))
            (subst (λ n. IsNotedIn new name n)
            (sym (place_last (bytes_eq name) patterns name unknown ((bytes_eq-Decides name name).1 refl))) noted)
        | inr none ↦ absurd cc
      ]
    ]
