-- A sorted run, cut in front of an address.
--
-- A search goes on while a fixup is below the address. Where it stops, what it passed is below, and since the run is
-- sorted no later fixup is below either: so the run is cut there. The pages up to the last fixup of a segment are the
-- greatest count among its fixups: all counts are at most that of the last, since page numbers grow with addresses.
-- The first fixup of a page, if there is one, is where the run is cut in front of the page.
use Rattle.std.proofs.Common.{◌≡◌, ℕ, zero, suc, ◌+◌, ◌-◌, ◌/◌, ◌%◌, ◌<◌, ◌≤◌, ◌==◌, ◌⊎◌, ◌&&◌, nat_le, nat_lt, Bool, true, false, List, [], ◌∷◌, length, get_or, arith, refl, ap, ◌∙◌, inl, inr}
use Rattle.std.proofs.Math.Nat.{le-max_left, le-max_right, max-le}
use Rattle.std.proofs.lemmas.Bool.{cases_lt}
use Rattle.std.proofs.lemmas.Bool.Decides.{nat_tests}
use Rattle.macho_model.specs.Images.{NO_START}
use Rattle.macho_model.specs.Segments.{SEGMENT_PAGE}
use Rattle.macho_fixups.specs.declared.run.Fixup.{Fixup}
use Rattle.macho_fixups.specs.declared.run.FixupSegment.{FixupSegment}
use Rattle.macho_fixups.specs.Runs.{pages_of, start_of, is_in}
use Rattle.macho_fixups.specs.steps.Runs.{pages_with, AreSorted}
use Rattle.macho_fixups.specs.steps.Cuts.{AreBelow, AreBelowFrom, IsSkip, IsCut}

-- a sorted run is cut where a search stops
pub cut_of : (fixups : List Fixup) (from bound to : ℕ) → AreSorted fixups → AreBelow fixups from bound → IsSkip fixups from bound to
    → IsCut fixups to bound
cut_of fixups from bound to sorted before skip =
    record {
      within = skip.within;
      below = λ k d lt. elim (cases_lt k from) [
        | inl early ↦ before.each k d early
        | inr late ↦ skip.below.each k d late lt
      ];
      above = λ k d le lt. elim (cases_lt to k) [
        | inl behind ↦ omega (arith, sorted to k d behind lt, skip.stops d (omega arith))
        | inr at ↦
            let same : to ≡ k = omega arith in
            omega (arith, skip.stops d (omega arith), ap (λ (j : ℕ). (get_or fixups j d).address) same)
      ];
    }

-- a cut leaves those in front of it below
pub below_cut : (fixups : List Fixup) (n bound far : ℕ) → IsCut fixups n bound → bound ≤ far → AreBelow fixups n far
below_cut fixups n bound far cut le = record { each = λ k d lt. omega (arith, cut.below k d lt, le) }

-- the start of a page whose first fixup is number k
pub start_of-here : (fixups : List Fixup) (number k : ℕ) (d : Fixup) → k < length fixups
    → ((j : ℕ) (e : Fixup) → j < k → (get_or fixups j e).address / SEGMENT_PAGE < number)
    → (get_or fixups k d).address / SEGMENT_PAGE ≡ number
    → start_of fixups number ≡ (get_or fixups k d).address % SEGMENT_PAGE
unfolding start_of
start_of-here [] number k d within before here = absurd (omega arith)
start_of-here (f ∷ fixups) number zero d within before here =
    let yes : (f.address / SEGMENT_PAGE == number) ≡ true = grind (arith, nat_tests) in rw yes refl
start_of-here (f ∷ fixups) number (suc k) d within before here =
    let below : f.address / SEGMENT_PAGE < number = before 0 d (omega arith) in
    let no : (f.address / SEGMENT_PAGE == number) ≡ false = grind (arith, nat_tests) in
    rw no (start_of-here fixups number k d (omega arith) (λ j e lt. before (suc j) e (omega arith)) here)

-- the start of a page without a fixup
pub start_of-none : (fixups : List Fixup) (number : ℕ)
    → ((j : ℕ) (e : Fixup) → j < length fixups → (get_or fixups j e).address / SEGMENT_PAGE ≡ number → ⊥)
    → start_of fixups number ≡ NO_START
unfolding start_of
start_of-none [] number none = refl
start_of-none (f ∷ fixups) number none =
    let other : f.address / SEGMENT_PAGE ≡ number → ⊥ = none 0 f (omega arith) in
    let no : (f.address / SEGMENT_PAGE == number) ≡ false = grind (arith, nat_tests) in
    rw no (start_of-none fixups number (λ j e lt. none (suc j) e (omega arith)))

-- no count of pages is above the whole
pub pages_of-above : (s : FixupSegment) (fixups : List Fixup) (k : ℕ) (d : Fixup) → k < length fixups
    → pages_with s (get_or fixups k d) ≤ pages_of s fixups
unfolding pages_of
pages_of-above s [] k d lt = absurd (omega arith)
pages_of-above s (f ∷ fixups) zero d lt = le-max_left (pages_with s f) (pages_of s fixups)
pages_of-above s (f ∷ fixups) (suc k) d lt =
    omega (arith, pages_of-above s fixups k d (omega arith), le-max_right (pages_with s f) (pages_of s fixups))

-- and the whole is no more than a bound of them
pub pages_of-below : (s : FixupSegment) (fixups : List Fixup) (p : ℕ)
    → ((k : ℕ) (d : Fixup) → k < length fixups → pages_with s (get_or fixups k d) ≤ p) → pages_of s fixups ≤ p
unfolding pages_of
pages_of-below s [] p each = omega arith
pages_of-below s (f ∷ fixups) p each =
    max-le (each 0 f (omega arith)) (pages_of-below s fixups p (λ k d lt. each (suc k) d (omega arith)))

-- a fixup outside a segment counts none of its pages
pub pages_with-out : (s : FixupSegment) (f : Fixup) → (f.address < s.address) ⊎ (s.address + s.file_size ≤ f.address) → pages_with s f ≡ 0
pages_with-out s f out =
    let no : is_in s f.address ≡ false = elim out [
      | inl low ↦ let t : nat_le s.address f.address ≡ false = grind (arith, nat_tests) in rw t refl
      | inr high ↦ outside (nat_le s.address f.address) (let t : nat_lt f.address (s.address + s.file_size) ≡ false = grind
          (arith, nat_tests) in t)
    ] in rw no refl
  where
    outside : (b : Bool) → nat_lt f.address (s.address + s.file_size) ≡ false → (b && nat_lt f.address (s.address + s.file_size)) ≡ false
    outside true h = h
    outside false h = refl

-- one inside counts those up to its own
pub pages_with-in : (s : FixupSegment) (f : Fixup) → s.address ≤ f.address → f.address < s.address + s.file_size
    → pages_with s f ≡ f.address / SEGMENT_PAGE - s.address / SEGMENT_PAGE + 1
pages_with-in s f low high =
    let a : nat_le s.address f.address ≡ true = grind (arith, nat_tests) in
    let b : nat_lt f.address (s.address + s.file_size) ≡ true = grind (arith, nat_tests) in rw (a, b) refl

-- a segment without fixups has no pages
pub pages_of-none : (s : FixupSegment) (fixups : List Fixup) (n : ℕ) → IsCut fixups n s.address → IsCut fixups n (s.address + s.file_size)
    → 0 ≡ pages_of s fixups
pages_of-none s fixups n front behind =
    let none : pages_of s fixups ≤ 0 = pages_of-below s fixups 0 (λ k d lt. elim (cases_lt k n) [
      | inl early ↦ omega (arith, pages_with-out s (get_or fixups k d) (inl (front.below k d early)))
      | inr late ↦ omega (arith, pages_with-out s (get_or fixups k d) (inr (behind.above k d late lt)))
    ]) in omega (arith, none)

-- a segment with pages has bytes
pub pages_of-no_bytes : (s : FixupSegment) (fixups : List Fixup) → 0 < pages_of s fixups → 0 < s.file_size
pages_of-no_bytes s fixups some =
    elim (cases_lt 0 s.file_size) [
      | inl bytes ↦ bytes
      | inr none ↦
          let empty : pages_of s fixups ≤ 0 = pages_of-below s fixups 0 (λ k d lt. elim (cases_lt (get_or fixups k d).address s.address) [
            | inl low ↦ omega (arith, pages_with-out s (get_or fixups k d) (inl low))
            | inr high ↦ omega (arith, pages_with-out s (get_or fixups k d) (inr (omega arith)))
          ]) in absurd (omega (arith, empty, some))
    ]
