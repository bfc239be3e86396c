-- What a placement lists stands in its lists once.
--
-- Sections of a link are listed by file, then number, so each has a file or a number below that of every later one; leaving
-- some out changes
-- nothing. Commons are listed by number. Slots' targets are a list with repeats taken out. So two entries of one section, one
-- common or one target
-- have one number in the list, and are one.
use Rattle.std.proofs.Common.{◌≡◌, ℕ, zero, suc, ◌+◌, ◌<◌, ◌≤◌, ◌⊎◌, inl, inr, ◌==◌, ◌&&◌, not, nat_lt, Bool, true, false, List, [], ◌∷◌, map, length, get_or, refl, sym, ap, ◌∙◌, arith, eq-eqb, All, subst}
use Rattle.std.specs.Prelude.{filter, Contains}
use Rattle.std.specs.List.{range_with_len, enumerate_from, flat_map, filter_map}
use Rattle.std.proofs.lemmas.List.Concat.{flat_map-cons}
use Rattle.std.proofs.lemmas.List.Elements.{All-append, All-map, All-nil, filter_passes}
use Rattle.std.proofs.lemmas.List.FromFn.{get_or-range_with_len, length-range_with_len}
use Rattle.macho_bytes.proofs.Orders.{EachLater, later_filter, later_append}
use Rattle.macho_model.specs.declared.targets.Target.{Target}
use Rattle.macho_model.specs.declared.targets.Target.TheVariants as target
use Rattle.macho_model.specs.Objects.{num_sections}
use Rattle.macho_model.specs.Links.{Link, Input, Object, Dylib, Stub, SectionId, section_id, sections_of_file, sections_of, carried_of, header_at, is_carried}
use Rattle.macho_model.specs.Needs.{distinct}
use Rattle.macho_model.specs.Uses.{uses_of, slot_of_use}
use Rattle.macho_model.specs.Targets.{same_target, slots_of}
use Rattle.macho_model.proofs.Uses.{slots_are}

-- a section stands before another one of the list: in an earlier file, or earlier in the same one
abbrev pub Before : SectionId → SectionId → Type 0
Before s t = (s.file < t.file) ⊎ ((s.file ≡ t.file) × (s.section < t.section))

-- the sections of a file rise
file_rises : (file a n : ℕ) → EachLater Before (map (λ (k : ℕ). section_id file k) (range_with_len a n))
file_rises file a zero = tt
file_rises file a (suc n) = (
  All-map (Before (section_id file a)) (λ (k : ℕ). section_id file k) (range_with_len (a + 1) n) (λ k d lt.
      let low : k < n = omega (arith, lt, length-range_with_len (a + 1) n) in
      let at_k = get_or-range_with_len (a + 1) n k d low in
      inr (refl, omega (arith, at_k))),
  file_rises file (a + 1) n,
)

input_rises : (file : ℕ) (x : Input) → EachLater Before (sections_of_file file x)
input_rises file (Object b) = file_rises file 0 (num_sections b)
input_rises file (Dylib b) = tt
input_rises file (Stub text says) = tt

-- they are of that file
in_file : (file : ℕ) (x : Input) → All (λ s. s.file ≡ file) (sections_of_file file x)
in_file file (Object b) = All-map (λ s. s.file ≡ file) (λ (k : ℕ). section_id file k) (range_with_len 0 (num_sections b)) (λ k d lt. refl)
in_file file (Dylib b) = All-nil (λ s. s.file ≡ file)
in_file file (Stub text says) = All-nil (λ s. s.file ≡ file)

abbrev sections_from : ℕ → List Input → List SectionId
sections_from n inputs = flat_map (λ i. sections_of_file i.0 i.1) (enumerate_from n inputs)

-- the sections of the inputs from a number on are of files from that number on
from_file : (n : ℕ) (inputs : List Input) → All (λ s. n ≤ s.file) (sections_from n inputs)
from_file n [] = All-nil (λ s. n ≤ s.file)
from_file n (x ∷ inputs) =
    rw (flat_map-cons (λ (i : ℕ × Input). sections_of_file i.0 i.1) (n, x) (enumerate_from (n + 1) inputs))
    (All-append (λ s. n ≤ s.file) (sections_of_file n x) (sections_from (n + 1) inputs)
    (λ k d lt. omega (arith, in_file n x k d lt)) (λ k d lt. omega (arith, from_file (n + 1) inputs k d lt)))

rise_from : (n : ℕ) (inputs : List Input) → EachLater Before (sections_from n inputs)
rise_from n [] = tt
rise_from n (x ∷ inputs) =
    let behind : All (λ s. All (Before s) (sections_from (n + 1) inputs)) (sections_of_file n x) = λ k d lt j e below.
    inl (omega (arith, in_file n x k d lt, from_file (n + 1) inputs j e below)) in
    rw (flat_map-cons (λ (i : ℕ × Input). sections_of_file i.0 i.1) (n, x) (enumerate_from (n + 1) inputs))
    (later_append Before (sections_of_file n x) (sections_from (n + 1) inputs) (input_rises n x) (rise_from (n + 1) inputs) behind)

pub carried_rise : (l : Link) → EachLater Before (carried_of l)
unfolding carried_of sections_of
carried_rise l = later_filter Before (λ s. is_carried (header_at l s)) (sections_of l) (rise_from 0 l.inputs)

pub not_before : (s t : SectionId) → s ≡ t → Before s t → ⊥
not_before s t same (inl below) = absurd (omega (arith, ap (λ (u : SectionId). u.file) same))
not_before s t same (inr below) = absurd (omega (arith, ap (λ (u : SectionId). u.section) same, below.1))

-- a list with repeats taken out
pub distinct_later : {X : Type 0} (same : X → X → Bool) (xs : List X) → EachLater (λ x y. same x y ≡ false) (distinct same xs)
distinct_later same [] = tt
distinct_later {X = X} same (x ∷ xs) =
    let rest = distinct_later same xs in
    let passes = filter_passes (λ (y : X). not (same x y)) (distinct same xs) in (
      λ k d lt. negated (same x (get_or (filter (λ (y : X). not (same x y)) (distinct same xs)) k d)) (passes k d lt),
      later_filter (λ x y. same x y ≡ false) (λ (y : X). not (same x y)) (distinct same xs) rest,
    )
  where
    negated : (b : Bool) → not b ≡ true → b ≡ false
    negated true e = cc
    negated false e = refl

pub slots_differ : (l : Link) → EachLater (λ t u. same_target t u ≡ false) (slots_of l)
slots_differ l =
    subst (EachLater (λ t u. same_target t u ≡ false)) (sym (slots_are l))
    (distinct_later same_target (filter_map (slot_of_use l) (uses_of l)))

-- numbers from one on rise
pub numbers_rise : (a n : ℕ) → EachLater (λ x y. x < y) (range_with_len a n)
numbers_rise a zero = tt
numbers_rise a (suc n) = (
  λ k d lt. omega (arith, get_or-range_with_len (a + 1) n k d (omega (arith, lt, length-range_with_len (a + 1) n))),
  numbers_rise (a + 1) n,
)
