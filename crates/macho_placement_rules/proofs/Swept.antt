-- A sweep over parts in the order of their starts.
--
-- Of parts before the next one, the last one with bytes ends behind all others. So the next one reaches into none of them if it doesn't
-- reach into that one. If it does, these two share a byte.
use Rattle.std.proofs.Common.{◌≡◌, ℕ, ◌+◌, ◌<◌, ◌≤◌, List, length, get_or, ap, subst, ◌∙◌, inl, inr, arith}
use Rattle.std.specs.List.{AllPairs}
use Rattle.std.specs.List.Sorted.{IsNonDecreasingBy}
use Rattle.std.proofs.lemmas.Bool.{cases_lt}
use Rattle.std.proofs.lemmas.List.{get_or_default}
use Rattle.macho_placement_rules.specs.declared.parts.Part.{Part}
use Rattle.macho_placement_rules.specs.steps.Parts.{ArePartsApart, IsSwept}

-- parts stand in the order of their starts
abbrev pub Rise : List Part → Type 0
Rise parts = IsNonDecreasingBy (λ (p : Part). p.start) parts

-- before the first part
pub swept_none : (parts : List Part) (last : Part) → last.start ≡ 0 → last.size ≡ 0 → IsSwept parts 0 last
swept_none parts last start size = record {
  apart = λ j k d below low. absurd (omega arith);
  below = λ k d low. absurd (omega arith);
  among = inl (start, size);
}

-- the last one with bytes begins no later than the next one
pub begins_before : (parts : List Part) (n : ℕ) (last d : Part) → Rise parts → IsSwept parts n last → n < length parts
    → last.start ≤ (get_or parts n d).start
begins_before parts n last d rise swept within = elim swept.among [
  | inl none ↦ omega (arith, none.0)
  | inr some ↦ subst (λ (p : Part). p.start ≤ (get_or parts n d).start) (some.2 d) (rise some.0 n d (omega (arith, some.1)) within)
]

-- what holds of the first n, and of each of them with the next one, holds of one more
one_more : (parts : List Part) (n : ℕ) (e : Part) → n < length parts
    → ((j k : ℕ) (d : Part) → j < k → k < n → ArePartsApart (get_or parts j d) (get_or parts k d))
    → ((j : ℕ) (d : Part) → j < n → ArePartsApart (get_or parts j d) (get_or parts n e))
    → (j k : ℕ) (d : Part) → j < k → k < n + 1 → ArePartsApart (get_or parts j d) (get_or parts k d)
one_more parts n e within old new j k d below low = elim (cases_lt k n) [
  | inl before ↦ old j k d below before
  | inr late ↦
      let here : n ≡ k = omega arith in
      subst (λ (q : Part). ArePartsApart (get_or parts j d) q)
      (get_or_default parts n e d within ∙ ap (λ i. get_or parts i d) here) (new j d (omega arith))
]

-- one part without bytes more
pub swept_empty : (parts : List Part) (n : ℕ) (last e : Part) → IsSwept parts n last → n < length parts → (get_or parts n e).size ≡ 0
    → IsSwept parts (n + 1) last
swept_empty parts n last e swept within empty = record {
  apart = one_more parts n e within swept.apart (λ j d low. inr (inl empty));
  below = λ k d low. elim (cases_lt k n) [
    | inl before ↦ swept.below k d before
    | inr late ↦
        let here : n ≡ k = omega arith in
        inl (subst (λ (q : Part). q.size ≡ 0) (get_or_default parts n e d within ∙ ap (λ i. get_or parts i d) here) empty)
  ];
  among = elim swept.among [
    | inl none ↦ inl none
    | inr some ↦ inr (some.0, omega (arith, some.1), some.2)
  ];
}

-- one part with bytes more, which begins where the last one has ended
pub swept_next : (parts : List Part) (n : ℕ) (last e : Part) → IsSwept parts n last → n < length parts
    → last.start + last.size ≤ (get_or parts n e).start → IsSwept parts (n + 1) (get_or parts n e)
swept_next parts n last e swept within behind = record {
  apart = one_more parts n e within swept.apart (λ j d low. elim (swept.below j d low) [
    | inl empty ↦ inl empty
    | inr ends ↦ inr (inr (inl (omega arith)))
  ]);
  below = λ k d low. elim (cases_lt k n) [
    | inl before ↦ elim (swept.below k d before) [
      | inl empty ↦ inl empty
      | inr ends ↦ inr (omega arith)
    ]
    | inr late ↦
        let here : n ≡ k = omega arith in
        inr (subst (λ (q : Part). q.start + q.size ≤ (get_or parts n e).start + (get_or parts n e).size)
        (get_or_default parts n e d within ∙ ap (λ i. get_or parts i d) here) (omega arith))
  ];
  among = inr (n, omega arith, λ d. get_or_default parts n d e within);
}

-- a part with bytes that begins before the last one has ended shares bytes with it
pub reaches : (parts : List Part) (n : ℕ) (last e : Part) → Rise parts → IsSwept parts n last → n < length parts
    → 0 < (get_or parts n e).size → (get_or parts n e).start < last.start + last.size → AllPairs ArePartsApart parts → ⊥
reaches parts n last e rise swept within some before apart = elim swept.among [
  | inl none ↦ omega (arith, none.0, none.1)
  | inr at ↦
      let pair : ArePartsApart last (get_or parts n e)
      = subst (λ (p : Part). ArePartsApart p (get_or parts n e)) (at.2 e) (apart at.0 n e at.1 within) in
      let starts = begins_before parts n last e rise swept within in
      elim pair [
        | inl none ↦ omega arith
        | inr (inl none) ↦ omega arith
        | inr (inr (inl ends)) ↦ omega arith
        | inr (inr (inr ends)) ↦ omega arith
      ]
]

-- all parts
pub swept_all : (parts : List Part) (n : ℕ) (last : Part) → IsSwept parts n last → length parts ≤ n → AllPairs ArePartsApart parts
swept_all parts n last swept over j k d below within = swept.apart j k d below (omega arith)
