-- Look-ups by number: of an object among objects whose numbers rise.
use Rattle.std.proofs.Common.{◌≡◌, ℕ, ◌+◌, ◌<◌, ◌≤◌, List, length, get_or, sym, ap, ◌∙◌, arith, inl, inr}
use Rattle.std.proofs.lemmas.Bool.{cases_lt}
use Rattle.std.proofs.lemmas.List.{get_or-map}
use Rattle.macho_linkedit.specs.declared.listing.LinkedObject.{LinkedObject}
use Rattle.macho_symbol_tables.specs.steps.Rows.{number_of, NumbersRise, HasNumber, IsObjectAt}

-- The numbers below one place are below a number, and those from another on are not.
pub record IsBetween (objects : List LinkedObject) (number low high : ℕ) : Type 0 where
  pub order : low ≤ high
  pub within : high ≤ length objects
  pub below : (k : ℕ) → k < low → number_of objects k < number
  pub above : (k : ℕ) → high ≤ k → k < length objects → number ≤ number_of objects k

pub number_at : (objects : List LinkedObject) (k : ℕ) (o : LinkedObject) → k < length objects
    → number_of objects k ≡ (get_or objects k o).number
number_at objects k o lt = get_or-map (λ (x : LinkedObject). x.number) objects k o 0 lt

pub goes_up : (objects : List LinkedObject) (number low high middle : ℕ) → NumbersRise objects → IsBetween objects number low high
    → middle < high → number_of objects middle < number
    → IsBetween objects number (middle + 1) high
goes_up objects number low high middle rise is lt small = record {
  order = omega (arith, lt);
  within = is.within;
  below = λ k before. elim (cases_lt k middle) [
    | inl less ↦ let up = rise k middle less (omega (arith, lt, is.within)) in omega (arith, up, small)
    | inr more ↦
        let same : k ≡ middle = omega (arith, before, more) in
        omega (arith, ap (number_of objects) same, small)
  ];
  above = is.above;
}

pub goes_down : (objects : List LinkedObject) (number low high middle : ℕ) → NumbersRise objects → IsBetween objects number low high
    → low ≤ middle → middle < high → number ≤ number_of objects middle
    → IsBetween objects number low middle
goes_down objects number low high middle rise is from lt great = record {
  order = from;
  within = omega (arith, lt, is.within);
  below = is.below;
  above = λ k behind there. elim (cases_lt middle k) [
    | inl less ↦ let up = rise middle k less there in omega (arith, up, great)
    | inr more ↦
        let same : k ≡ middle = omega (arith, behind, more) in
        omega (arith, ap (number_of objects) same, great)
  ];
}
