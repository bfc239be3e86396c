-- A walk over two rising lists of numbers, of which the second may have a number several times.
--
-- So far each number of the one has been met in the other. A number that comes next in one of them, and is lower than what comes next in
-- the other, isn't in the other: what was met there is lower, and what comes later is higher. Below it both lists have the same numbers.
-- Where both lists end, they have the same numbers.
use Rattle.std.proofs.Common.{◌≡◌, ℕ, ◌+◌, ◌-◌, ◌<◌, ◌≤◌, ◌⊎◌, List, length, get_or, sym, ap, subst, ◌∙◌, inl, inr, arith}
use Rattle.std.specs.List.{Contains}
use Rattle.std.proofs.lemmas.Bool.{cases_lt}
use Rattle.std.proofs.lemmas.List.{get_or_default}
use Rattle.macho_image_rules.specs.steps.Merged.{IsMerged}

-- each number is below each later one
abbrev pub Rises : List ℕ → Type 0
Rises xs = (k m : ℕ) → k < m → m < length xs → get_or xs k 0 < get_or xs m 0

-- no number is above a later one
abbrev pub Climbs : List ℕ → Type 0
Climbs ys = (k m : ℕ) → k ≤ m → m < length ys → get_or ys k 0 ≤ get_or ys m 0

-- two lists both have a number, or neither has it
abbrev pub Agree : List ℕ → List ℕ → ℕ → Type 0
Agree xs ys c = (Contains xs c → Contains ys c) × (Contains ys c → Contains xs c)

-- a number of a list has a place in it
pub place_of : (xs : List ℕ) (c : ℕ) → Contains xs c → (k : ℕ) × (k < length xs) × (get_or xs k 0 ≡ c)
place_of xs c h = (h.0, h.1, get_or_default xs h.0 0 c h.1 ∙ h.2)

pub at_place : (xs : List ℕ) (k c : ℕ) → k < length xs → get_or xs k 0 ≡ c → Contains xs c
at_place xs k c low is = (k, low, get_or_default xs k c 0 low ∙ is)

-- before the first step
pub merged_none : (xs ys : List ℕ) → IsMerged xs ys 0 0
merged_none xs ys = record {
  within = omega arith;
  each = λ k low. absurd (omega arith);
  all = λ m low. absurd (omega arith);
}

-- the next of the second list is the last one that was met
pub merged_again : (xs ys : List ℕ) (i n : ℕ) → IsMerged xs ys i n → 0 < i → get_or xs (i - 1) 0 ≡ get_or ys n 0 → IsMerged xs ys i (n + 1)
merged_again xs ys i n merged some same = record {
  within = merged.within;
  each = λ k low. let e = merged.each k low in (e.0, omega (arith, e.1), e.2);
  all = λ m low. elim (cases_lt m n) [
    | inl before ↦ merged.all m before
    | inr late ↦ let here : n ≡ m = omega arith in (i - 1, omega arith, same ∙ ap (λ j. get_or ys j 0) here)
  ];
}

-- the next ones of both lists are the same
pub merged_next : (xs ys : List ℕ) (i n : ℕ) → IsMerged xs ys i n → i < length xs → get_or xs i 0 ≡ get_or ys n 0
    → IsMerged xs ys (i + 1) (n + 1)
merged_next xs ys i n merged some same = record {
  within = omega arith;
  each = λ k low. elim (cases_lt k i) [
    | inl before ↦ let e = merged.each k before in (e.0, omega (arith, e.1), e.2)
    | inr late ↦ let here : i ≡ k = omega arith in (n, omega arith, sym same ∙ ap (λ j. get_or xs j 0) here)
  ];
  all = λ m low. elim (cases_lt m n) [
    | inl before ↦ let e = merged.all m before in (e.0, omega (arith, e.1), e.2)
    | inr late ↦ let here : n ≡ m = omega arith in (i, omega arith, same ∙ ap (λ j. get_or ys j 0) here)
  ];
}

-- what was met is below the next of the second list, where that isn't the last one that was met
pub met_below : (xs ys : List ℕ) (i n : ℕ) → IsMerged xs ys i n → Rises xs → Climbs ys → n < length ys
    → (i ≡ 0) ⊎ (get_or xs (i - 1) 0 ≡ get_or ys n 0 → ⊥) → (k : ℕ) → k < i → get_or xs k 0 < get_or ys n 0
met_below xs ys i n merged rises climbs more new k low = elim new [
  | inl none ↦ absurd (omega arith)
  | inr other ↦
      let e = merged.each (i - 1) (omega arith) in
      let reached : get_or xs (i - 1) 0 ≤ get_or ys n 0 = subst (λ x. x ≤ get_or ys n 0) e.2 (climbs e.0 n (omega (arith, e.1)) more) in
      let last : get_or xs (i - 1) 0 < get_or ys n 0
      = elim (cases_lt (get_or xs (i - 1) 0) (get_or ys n 0)) [ inl less ↦ less | inr not ↦ absurd (other (omega arith)) ] in
      elim (cases_lt k (i - 1)) [
        | inl before ↦ omega (arith, rises k (i - 1) before (omega (arith, merged.within)))
        | inr late ↦ let here : i - 1 ≡ k = omega arith in subst (λ j. get_or xs j 0 < get_or ys n 0) here last
      ]
]

-- below what comes next in either list, both have the same numbers
pub agree_below : (xs ys : List ℕ) (i n a : ℕ) → IsMerged xs ys i n → Rises xs → Climbs ys → n ≤ length ys
    → (i < length xs → a ≤ get_or xs i 0) → (n < length ys → a ≤ get_or ys n 0) → (c : ℕ) → c < a → Agree xs ys c
agree_below xs ys i n a merged rises climbs within first second c low = (
  λ has.
      let at = place_of xs c has in
      elim (cases_lt at.0 i) [
        | inl before ↦ let e = merged.each at.0 before in at_place ys e.0 c (omega (arith, e.1)) (e.2 ∙ at.2)
        | inr late ↦
            let here : i < length xs = omega (arith, at.1) in
            absurd (elim (cases_lt i at.0) [
              | inl behind ↦ omega (arith, first here, rises i at.0 behind at.1, at.2)
              | inr same ↦ let is : at.0 ≡ i = omega arith in omega (arith, first here, ap (λ j. get_or xs j 0) is, at.2)
            ])
      ],
  λ has.
      let at = place_of ys c has in
      elim (cases_lt at.0 n) [
        | inl before ↦ let e = merged.all at.0 before in at_place xs e.0 c (omega (arith, e.1, merged.within)) (e.2 ∙ at.2)
        | inr late ↦
            let here : n < length ys = omega (arith, at.1) in
            absurd (omega (arith, second here, climbs n at.0 (omega arith) at.1, at.2))
      ],
)

-- a number between what was met and what comes next in the first list isn't in it
pub not_first : (xs ys : List ℕ) (i n a : ℕ) → Rises xs → ((k : ℕ) → k < i → get_or xs k 0 < a) → (i < length xs → a < get_or xs i 0)
    → Contains xs a → ⊥
not_first xs ys i n a rises met next has =
    let at = place_of xs a has in
    elim (cases_lt at.0 i) [
      | inl before ↦ omega (arith, met at.0 before, at.2)
      | inr late ↦
          let here : i < length xs = omega (arith, at.1) in
          elim (cases_lt i at.0) [
            | inl behind ↦ omega (arith, next here, rises i at.0 behind at.1, at.2)
            | inr same ↦ let is : at.0 ≡ i = omega arith in omega (arith, next here, ap (λ j. get_or xs j 0) is, at.2)
          ]
    ]

-- the next of the first list isn't in the second, where it is below the next one there
pub not_second : (xs ys : List ℕ) (i n : ℕ) → IsMerged xs ys i n → Rises xs → Climbs ys → i < length xs
    → (n < length ys → get_or xs i 0 < get_or ys n 0) → Contains ys (get_or xs i 0) → ⊥
not_second xs ys i n merged rises climbs some next has =
    let at = place_of ys (get_or xs i 0) has in
    elim (cases_lt at.0 n) [
      | inl before ↦ let e = merged.all at.0 before in omega (arith, e.2, rises e.0 i e.1 some, at.2)
      | inr late ↦
          let here : n < length ys = omega (arith, at.1) in
          omega (arith, next here, climbs n at.0 (omega arith) at.1, at.2)
    ]
