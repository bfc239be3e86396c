-- Parts that stand for things one by one fill the ranges of these things.
use Rattle.std.proofs.Common.{◌≡◌, ℕ, suc, ◌<◌, ◌≤◌, ◌⊎◌, inl, inr, List, [], ◌∷◌, ◌++◌, map, length, subst, arith, All, Contains}
use Rattle.std.proofs.lemmas.Bool.{cases_lt}
use Rattle.std.proofs.lemmas.List.Elements.{All-nil, All-cons}
use Rattle.macho_bytes.specs.Texts.{Part, IsOutside}
use Rattle.macho_model.specs.Zeros.{Span}
use Rattle.macho_bytes.proofs.Members.{contains_first, contains_later, contains_cases, nil_contains}
use Rattle.macho_placed_laws.specs.Parts.{LiesInRange, LieInRanges}
use Rattle.macho_contents.specs.Filled.{ArePartsOf}
use Rattle.macho_model.specs.Spans.{IsOutsideSpan}

-- parts fill ranges, one by one; an empty part stands anywhere
abbrev pub Fills : Part → Span → Type 0
Fills q s = ((length q.text ≡ 0) × (s.size ≡ 0)) ⊎ ((q.at ≡ s.start) × (length q.text ≡ s.size))

abbrev pub FillRanges : List Part → List Span → Type 0
FillRanges [] [] = Unit {0}
FillRanges [] (s ∷ spans) = ⊥
FillRanges (q ∷ parts) [] = ⊥
FillRanges (q ∷ parts) (s ∷ spans) = Fills q s × FillRanges parts spans

pub filling_lie : (parts : List Part) (spans : List Span) → FillRanges parts spans → LieInRanges parts spans
filling_lie [] [] fill = tt
filling_lie [] (s ∷ spans) fill = absurd fill
filling_lie (q ∷ parts) [] fill = absurd fill
filling_lie (q ∷ parts) (s ∷ spans) fill = (by fill.0, filling_lie parts spans fill.1)
  where
    by : Fills q s → LiesInRange q s
    by (inl none) = inl none.0
    by (inr is) = inr (omega (arith, is.0), omega (arith, is.0, is.1))

pub fill_append : (parts more : List Part) (spans behind : List Span) → FillRanges parts spans → FillRanges more behind
    → FillRanges (parts ++ more) (spans ++ behind)
fill_append [] more [] behind fill fills = fills
fill_append [] more (s ∷ spans) behind fill fills = absurd fill
fill_append (q ∷ parts) more [] behind fill fills = absurd fill
fill_append (q ∷ parts) more (s ∷ spans) behind fill fills = (fill.0, fill_append parts more spans behind fill.1 fills)

-- a part of each of some things fills the range of each
pub parts_fill : {X : Type 0} (IsPart : X → Part → Type 0) (span : X → Span) (xs : List X) (parts : List Part) → ArePartsOf IsPart xs parts
    → ((x : X) (q : Part) → IsPart x q → Fills q (span x)) → FillRanges parts (map span xs)
parts_fill IsPart span [] [] are fit = tt
parts_fill IsPart span [] (q ∷ parts) are fit = absurd are
parts_fill IsPart span (x ∷ xs) [] are fit = absurd are
parts_fill IsPart span (x ∷ xs) (q ∷ parts) are fit = (fit x q are.0, parts_fill IsPart span xs parts are.1 fit)

-- and what holds of each part
pub parts_all : {X : Type 0} (IsPart : X → Part → Type 0) (P : Part → Type 0) (xs : List X) (parts : List Part) → ArePartsOf IsPart xs parts
    → ((x : X) (q : Part) → IsPart x q → P q) → All P parts
parts_all IsPart P [] [] are each = All-nil P
parts_all IsPart P [] (q ∷ parts) are each = absurd are
parts_all IsPart P (x ∷ xs) [] are each = absurd are
parts_all IsPart P (x ∷ xs) (q ∷ parts) are each = All-cons P q parts (each x q are.0) (parts_all IsPart P xs parts are.1 each)

-- what is outside the ranges is outside the parts, and the other way round
pub outside_ranges : (i : ℕ) (parts : List Part) (spans : List Span) → FillRanges parts spans → All (IsOutside i) parts
    → All (IsOutsideSpan i) spans
outside_ranges i [] [] fill out = All-nil (IsOutsideSpan i)
outside_ranges i [] (s ∷ spans) fill out = absurd fill
outside_ranges i (q ∷ parts) [] fill out = absurd fill
outside_ranges i (q ∷ parts) (s ∷ spans) fill out =
    All-cons (IsOutsideSpan i) s spans (by fill.0 (out 0 q (omega arith)))
    (outside_ranges i parts spans fill.1 (λ k d lt. out (suc k) d (omega arith)))
  where
    empty : s.size ≡ 0 → (i < s.start) ⊎ (s.start ≤ i) → IsOutsideSpan i s
    empty none (inl below) = inl (omega (arith, below))
    empty none (inr above) = inr (omega (arith, above, none))

    by : Fills q s → IsOutside i q → IsOutsideSpan i s
    by (inl none) there = empty none.1 (cases_lt i s.start)
    by (inr is) (inl below) = inl (omega (arith, below, is.0))
    by (inr is) (inr above) = inr (omega (arith, above, is.0, is.1))

pub outside_parts : (i : ℕ) (parts : List Part) (spans : List Span) → FillRanges parts spans → All (IsOutsideSpan i) spans
    → All (IsOutside i) parts
outside_parts i [] [] fill out = All-nil (IsOutside i)
outside_parts i [] (s ∷ spans) fill out = absurd fill
outside_parts i (q ∷ parts) [] fill out = absurd fill
outside_parts i (q ∷ parts) (s ∷ spans) fill out =
    All-cons (IsOutside i) q parts (by fill.0 (out 0 s (omega arith)))
    (outside_parts i parts spans fill.1 (λ k d lt. out (suc k) d (omega arith)))
  where
    empty : length q.text ≡ 0 → (i < q.at) ⊎ (q.at ≤ i) → IsOutside i q
    empty none (inl below) = inl (omega (arith, below))
    empty none (inr above) = inr (omega (arith, above, none))

    by : Fills q s → IsOutsideSpan i s → IsOutside i q
    by (inl none) there = empty none.0 (cases_lt i q.at)
    by (inr is) (inl below) = inl (omega (arith, below, is.0))
    by (inr is) (inr above) = inr (omega (arith, above, is.0, is.1))

-- the part of a thing, and of a range
pub part_of : {X : Type 0} (IsPart : X → Part → Type 0) (xs : List X) (parts : List Part) (x : X) → ArePartsOf IsPart xs parts
    → Contains xs x → (q : Part) × Contains parts q × IsPart x q
part_of IsPart [] parts x are there = absurd (nil_contains x there)
part_of IsPart (y ∷ xs) [] x are there = absurd are
part_of {X = X} IsPart (y ∷ xs) (q ∷ parts) x are there = by (contains_cases y xs x there) (part_of IsPart xs parts x are.1)
  where
    by : (y ≡ x) ⊎ Contains xs x → (Contains xs x → (r : Part) × Contains parts r × IsPart x r)
        → (r : Part) × Contains (q ∷ parts) r × IsPart x r
    by (inl same) later =
        subst (λ (z : X). (r : Part) × Contains (q ∷ parts) r × IsPart z r) same (q, contains_first q parts, are.0)
    by (inr behind) later = let found = later behind in (found.0, contains_later q parts found.0 found.1, found.2)

pub part_in : (parts : List Part) (spans : List Span) (s : Span) → FillRanges parts spans → Contains spans s
    → (q : Part) × Contains parts q × Fills q s
part_in parts [] s fill there = absurd (nil_contains s there)
part_in [] (t ∷ spans) s fill there = absurd fill
part_in (q ∷ parts) (t ∷ spans) s fill there = by (contains_cases t spans s there) (part_in parts spans s fill.1)
  where
    by : (t ≡ s) ⊎ Contains spans s → (Contains spans s → (r : Part) × Contains parts r × Fills r s)
        → (r : Part) × Contains (q ∷ parts) r × Fills r s
    by (inl same) later = subst (λ (u : Span). (r : Part) × Contains (q ∷ parts) r × Fills r u) same (q, contains_first q parts, fill.0)
    by (inr behind) later = let found = later behind in (found.0, contains_later q parts found.0 found.1, found.2)
