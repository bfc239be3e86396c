-- Small steps on parts in ranges: lists of parts joined, ranges in which nothing is written, the order of ranges.
use Rattle.std.proofs.Common.{◌≡◌, ℕ, suc, ◌+◌, ◌≤◌, inl, inr, List, [], ◌∷◌, ◌++◌, map, refl, sym, subst, arith, append_assoc, All}
use Rattle.std.proofs.lemmas.List.{append-nil, length-replicate}
use Rattle.std.proofs.lemmas.List.Elements.{All-nil, All-cons, Contains-append_right}
use Rattle.macho_bytes.specs.Texts.{put, Part}
use Rattle.macho_bytes.specs.Images.{zeros}
use Rattle.macho_model.specs.Zeros.{Span}
use Rattle.macho_model.specs.Spans.{AreApart}
use Rattle.macho_bytes.proofs.Members.{all_contains, contains_first}
use Rattle.macho_bytes.proofs.Orders.{EachLater}
use Rattle.macho_placed_laws.specs.Parts.{written, LiesInRange, LieInRanges, IsMadeOf}
use Rattle.macho_placed_laws.proofs.Parts.{one_zero, lie_more}

-- the part of zeros of a range
abbrev pub zero_part : Span → Part
zero_part s = record { at = s.start; text = zeros s.size }

pub later_split : (ts : List Span) (u : Span) (us : List Span) → EachLater AreApart (ts ++ u ∷ us) → All (λ t. AreApart t u) ts
later_split [] u us later = All-nil (λ t. AreApart t u)
later_split (t ∷ ts) u us later =
    All-cons (λ v. AreApart v u) t ts
    (all_contains (AreApart t) (ts ++ u ∷ us) u later.0 (Contains-append_right ts (u ∷ us) u (contains_first u us)))
    (later_split ts u us later.1)

-- ranges of their own in which nothing was written hold zeros
pub all_zero : (n : ℕ) (parts : List Part) (spans behind : List Span) (b : List ℕ) → IsMadeOf n parts b → LieInRanges parts spans
    → EachLater AreApart (spans ++ behind) → All (λ s. s.start + s.size ≤ n) behind → IsMadeOf n (parts ++ map zero_part behind) b
all_zero n parts spans [] b made lie apart fit = subst (λ (qs : List Part). IsMadeOf n qs b) (sym (append-nil parts)) made
all_zero n parts spans (s ∷ behind) b made lie apart fit =
    let step = one_zero n parts spans s b made lie (later_split spans s behind apart) (fit 0 s (omega arith)) in
    let regrouped : EachLater AreApart ((spans ++ s ∷ []) ++ behind) =
    subst (EachLater AreApart) (sym (append_assoc spans (s ∷ []) behind)) apart in
    let rest = all_zero n (parts ++ zero_part s ∷ []) (spans ++ s ∷ []) behind b step
    (lie_more parts spans (zero_part s) s lie (zero_lies s)) regrouped (λ k d lt. fit (suc k) d (omega arith)) in
    subst (λ (qs : List Part). IsMadeOf n qs b) (append_assoc parts (zero_part s ∷ []) (map zero_part behind)) rest
  where
    zero_lies : (s : Span) → LiesInRange (zero_part s) s
    zero_lies s = inr (omega arith, omega (arith, length-replicate {A = ℕ} s.size 0))

-- the last two of some ranges may be told in either order
pub swapped : (ts : List Span) (a b : Span) → EachLater AreApart (ts ++ a ∷ b ∷ []) → EachLater AreApart (ts ++ b ∷ a ∷ [])
swapped [] a b later =
    (All-cons (AreApart b) a [] (turned a b (later.0 0 b (omega arith))) (All-nil (AreApart b)), (All-nil (AreApart a), tt))
  where
    turned : (a b : Span) → AreApart a b → AreApart b a
    turned a b (inl none) = inr (inl none)
    turned a b (inr (inl none)) = inl none
    turned a b (inr (inr (inl before))) = inr (inr (inr before))
    turned a b (inr (inr (inr behind))) = inr (inr (inl behind))
swapped (t ∷ ts) a b later = (moved ts later.0, swapped ts a b later.1)
  where
    moved : (us : List Span) → All (AreApart t) (us ++ a ∷ b ∷ []) → All (AreApart t) (us ++ b ∷ a ∷ [])
    moved [] each =
        All-cons (AreApart t) b (a ∷ []) (each 1 b (omega arith))
        (All-cons (AreApart t) a [] (each 0 a (omega arith)) (All-nil (AreApart t)))
    moved (u ∷ us) each =
        All-cons (AreApart t) u (us ++ b ∷ a ∷ []) (each 0 u (omega arith)) (moved us (λ k d lt. each (suc k) d (omega arith)))

-- ranges that are apart from each later one are so without those at the end
pub later_front : (ts us : List Span) → EachLater AreApart (ts ++ us) → EachLater AreApart ts
later_front [] us later = tt
later_front (t ∷ ts) us later = (front ts later.0, later_front ts us later.1)
  where
    front : (vs : List Span) → All (AreApart t) (vs ++ us) → All (AreApart t) vs
    front [] each = All-nil (AreApart t)
    front (v ∷ vs) each =
        All-cons (AreApart t) v vs (each 0 v (omega arith)) (front vs (λ k d lt. each (suc k) d (omega arith)))
