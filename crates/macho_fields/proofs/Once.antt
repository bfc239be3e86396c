-- In a placement of a link each thing has one address.
--
-- Each list of the placement has its keys once: those of sections are the link's carried sections in another order, those of
-- commons the numbers below their count in another order, those of slots and stubs a list without repeats. So at most one
-- element has a key, and an element with the key that is looked for is the first one.
use Rattle.std.proofs.Common.{◌≡◌, ℕ, zero, suc, ◌+◌, ◌<◌, ◌≤◌, ◌==◌, ◌&&◌, not, true, false, Bool, cond, List, [], ◌∷◌, ◌++◌, length, map, filter, Contains, refl, sym, ap, subst, ◌∙◌, arith, inl, inr}
use Rattle.std.specs.List.{sum_by, flat_map, enumerate_from, range_with_len, filter_map}
use Rattle.std.proofs.lemmas.Bool.{cases_eq}
use Rattle.std.proofs.lemmas.List.Sums.{sum_by-cons}
use Rattle.std.specs.List.Sorted.{IsPermutation}
use Rattle.std.proofs.lemmas.List.Sorted.{sum_by-IsPermutation}
use Rattle.macho_model.specs.declared.placed.Counts.{Counts}
use Rattle.macho_model.specs.declared.placed.PlacedSection.{PlacedSection}
use Rattle.macho_model.specs.declared.placed.PlacedCommon.{PlacedCommon}
use Rattle.macho_model.specs.declared.placed.Slot.{Slot}
use Rattle.macho_model.specs.declared.placed.Stub.{Stub}
use Rattle.macho_model.specs.declared.targets.Target.{Target}
use Rattle.macho_model.specs.declared.targets.Target.TheVariants as target
use Rattle.macho_model.specs.Objects.{num_sections}
use Rattle.macho_model.specs.Links.{Input, Object, Dylib, Stub as StubInput, Link, SectionId, header_at, is_carried, sections_of_file, sections_of, carried_of}
use Rattle.macho_model.specs.Resolution.{chosen_commons}
use Rattle.macho_model.specs.Needs.{distinct}
use Rattle.macho_model.specs.Uses.{uses_of, slot_of_use, stub_of_use}
use Rattle.macho_model.specs.Targets.{same_target}
use Rattle.macho_model.specs.Placement.{Placed, IsPlaced, id_of}
use Rattle.macho_model.specs.Lists.{of_first}
use Rattle.macho_model.specs.Addresses.{section_address, common_address, slot_address}
use Rattle.macho_fields.specs.Looks.{stub_address, IsPlacedOnce}
use Rattle.macho_model.proofs.Uses.{slots_are, stubs_are}
use Rattle.macho_model.proofs.Parts.{same_order}
use Rattle.macho_bytes.proofs.Bools.{true_or_false, equal_is, unequal_is}
use Rattle.macho_model.proofs.SameTargets.{same_target_is, target_itself}

-- how many elements pass a test
abbrev pub one : Bool → ℕ
one true = 1
one false = 0

abbrev pub count : {X : Type 0} → (X → Bool) → List X → ℕ
count test [] = 0
count test (x ∷ xs) = one (test x) + count test xs

count_sum : {X : Type 0} (test : X → Bool) (xs : List X) → sum_by (λ x. one (test x)) xs ≡ count test xs
count_sum test [] = refl
count_sum test (x ∷ xs) = sum_by-cons (λ y. one (test y)) x xs ∙ ap (λ (m : ℕ). one (test x) + m) (count_sum test xs)

count_append : {X : Type 0} (test : X → Bool) (xs ys : List X) → count test (xs ++ ys) ≡ count test xs + count test ys
count_append test [] ys = omega arith
count_append test (x ∷ xs) ys = omega (arith, count_append test xs ys)

count_reordered : {X : Type 0} (test : X → Bool) (xs ys : List X) → IsPermutation xs ys → count test ys ≡ count test xs
count_reordered test xs ys h = sym (count_sum test ys) ∙ sum_by-IsPermutation (λ x. one (test x)) xs ys h ∙ count_sum test xs

-- an element that passes is counted
counted : {X : Type 0} (test : X → Bool) (xs : List X) (x : X) → Contains xs x → test x ≡ true → 1 ≤ count test xs
counted test [] x h passes = absurd (omega (arith, h.1))
counted {X} test (y ∷ xs) x (zero, lt, is) passes =
    let here : one (test y) ≡ 1 = ap (λ (z : X). one (test z)) is ∙ ap one passes in omega (arith, here)
counted test (y ∷ xs) x (suc k, lt, is) passes = omega (arith, counted test xs x (k, omega arith, is) passes)

-- the first that passes, by whether the first element does
first_at : {X : Type 0} (n : X → ℕ) (test : X → Bool) (y : X) (xs : List X) (x : X) (b : Bool) → test y ≡ b → 1 ≤ count test xs
    → count test (y ∷ xs) ≤ 1
    → (count test xs ≤ 1 → of_first 0 n (filter test xs) ≡ n x)
    → of_first 0 n (cond (test y) (y ∷ filter test xs) (filter test xs)) ≡ n x
first_at n test y xs x true here some few later =
    let own : one (test y) ≡ 1 = ap one here in absurd (omega (arith, own, some, few))
first_at {X} n test y xs x false here some few later =
    let own : one (test y) ≡ 0 = ap one here in
    ap (λ (b : Bool). of_first 0 n (cond b (y ∷ filter test xs) (filter test xs))) here ∙ later (omega (arith, own, few))

-- where at most one passes, it is the first that passes
pub first_is : {X : Type 0} (n : X → ℕ) (test : X → Bool) (xs : List X) (x : X) → count test xs ≤ 1 → Contains xs x → test x ≡ true
    → of_first 0 n (filter test xs) ≡ n x
first_is n test [] x few h passes = absurd (omega (arith, h.1))
first_is {X} n test (y ∷ xs) x few (zero, lt, is) passes =
    let here : test y ≡ true = ap test is ∙ passes in
    ap (λ (b : Bool). of_first 0 n (cond b (y ∷ filter test xs) (filter test xs))) here ∙ ap n is
first_is {X} n test (y ∷ xs) x few (suc k, lt, is) passes =
    let rest : Contains xs x = (k, omega arith, is) in
    let some = counted test xs x rest passes in
    first_at n test y xs x (test y) refl some few (λ less. first_is n test xs x less rest passes)

-- fewer pass among chosen ones
count_kept : {X : Type 0} (test : X → Bool) (x : X) (ys xs : List X) (b : Bool) → count test ys ≤ count test xs
    → count test (cond b (x ∷ ys) ys) ≤ one (test x) + count test xs
count_kept test x ys xs true less = omega (arith, less)
count_kept test x ys xs false less = omega (arith, less)

count_filter : {X : Type 0} (test p : X → Bool) (xs : List X) → count test (filter p xs) ≤ count test xs
count_filter test p [] = omega arith
count_filter test p (x ∷ xs) = count_kept test x (filter p xs) xs (p x) (count_filter test p xs)

count_map : {X Y : Type 0} (test : Y → Bool) (f : X → Y) (xs : List X) → count test (map f xs) ≡ count (λ x. test (f x)) xs
count_map test f [] = refl
count_map test f (x ∷ xs) = ap (λ (m : ℕ). one (test (f x)) + m) (count_map test f xs)

-- a number stands once in a row of numbers
count_range : (k a n : ℕ) → (count (λ m. m == k) (range_with_len a n) ≤ 1) × (k < a → count (λ m. m == k) (range_with_len a n) ≡ 0)
count_range k a zero = (omega arith, λ lt. refl)
count_range k a (suc n) = elim (cases_eq a k) [
  | inl same ↦
      let after = (count_range k (a + 1) n).1 (omega arith) in
      let here : one (a == k) ≡ 1 = ap one (equal_is a k same) in
      (omega (arith, after, here), λ lt. absurd (omega arith))
  | inr other ↦
      let after = count_range k (a + 1) n in
      let here : one (a == k) ≡ 0 = ap one (unequal_is a k other) in
      (omega (arith, after.0, here), λ lt. omega (arith, after.1 (omega arith), here))
]

-- a section stands once among those of all files
abbrev pub is_id : SectionId → SectionId → Bool
is_id s t = (t.file == s.file) && (t.section == s.section)

count_numbers : (s : SectionId) (file a n : ℕ) → file ≡ s.file
    → count (is_id s) (map (λ k. record { file = file; section = k }) (range_with_len a n)) ≡ count (λ m. m == s.section)
    (range_with_len a n)
count_numbers s file a zero same = refl
count_numbers s file a (suc n) same =
    let here : is_id s (record { file = file; section = a }) ≡ (a == s.section) = rw (equal_is file s.file same) refl in
    ap (λ (b : Bool). one b + count (is_id s) (map (λ k. record { file = file; section = k }) (range_with_len (a + 1) n))) here
    ∙ ap (λ (m : ℕ). one (a == s.section) + m) (count_numbers s file (a + 1) n same)

count_others : (s : SectionId) (file a n : ℕ) → (file ≡ s.file → ⊥)
    → count (is_id s) (map (λ k. record { file = file; section = k }) (range_with_len a n)) ≡ 0
count_others s file a zero other = refl
count_others s file a (suc n) other =
    let here : is_id s (record { file = file; section = a }) ≡ false = rw (unequal_is file s.file other) refl in
    let own : one (is_id s (record { file = file; section = a })) ≡ 0 = ap one here in
    omega (arith, own, count_others s file (a + 1) n other)

count_file : (s : SectionId) (file : ℕ) (x : Input) → (count (is_id s) (sections_of_file file x) ≤ 1)
    × ((file ≡ s.file → ⊥) → count (is_id s) (sections_of_file file x) ≡ 0)
count_file s file (Object bytes) = (
  elim (cases_eq file s.file) [
    | inl same ↦ omega (arith, count_numbers s file 0 (num_sections bytes) same, (count_range s.section 0 (num_sections bytes)).0)
    | inr other ↦ omega (arith, count_others s file 0 (num_sections bytes) other)
  ],
  count_others s file 0 (num_sections bytes),
)
count_file s file (Dylib bytes) = (omega arith, λ other. refl)
count_file s file (StubInput text says) = (omega arith, λ other. refl)

count_files : (s : SectionId) (n : ℕ) (xs : List Input)
    → (count (is_id s) (flat_map (λ i. sections_of_file i.0 i.1) (enumerate_from n xs)) ≤ 1)
    × (s.file < n → count (is_id s) (flat_map (λ i. sections_of_file i.0 i.1) (enumerate_from n xs)) ≡ 0)
count_files s n [] = (omega arith, λ lt. refl)
count_files s n (x ∷ xs) =
    let rest = flat_map (λ i. sections_of_file i.0 i.1) (enumerate_from (n + 1) xs) in
    let both : count (is_id s) (sections_of_file n x ++ rest) ≡ count (is_id s) (sections_of_file n x) + count (is_id s) rest =
    count_append (is_id s) (sections_of_file n x) rest in
    let own = count_file s n x in
    let after = count_files s (n + 1) xs in (
      elim (cases_eq n s.file) [
        | inl same ↦ omega (arith, both, own.0, after.1 (omega arith))
        | inr other ↦ omega (arith, both, own.1 other, after.0)
      ],
      λ lt. omega (arith, both, own.1 (λ same. absurd (omega arith)), after.1 (omega arith)),
    )

carried_once : (l : Link) (s : SectionId) → count (is_id s) (carried_of l) ≤ 1
unfolding carried_of sections_of
carried_once l s =
    omega (
      arith,
      count_filter (is_id s) (λ t. is_carried (header_at l t))
          (flat_map (λ i. sections_of_file i.0 i.1) (enumerate_from 0 l.inputs)),
      (count_files s 0 l.inputs).0,
    )

-- a target stands once where repeats are taken out
turned : (t x : Target) (c : Bool) → same_target x t ≡ c → same_target t x ≡ false → same_target x t ≡ false
turned t x true same is =
    absurd (true_or_false (same_target t x) (ap (λ (y : Target). same_target t y) (same_target_is x t same) ∙ target_itself t) is)
turned t x false same is = same

none_kept : (t x : Target) (ys : List Target) (b : Bool) → same_target t x ≡ b → count (λ s. same_target s t) ys ≡ 0
    → count (λ s. same_target s t) (cond (not (same_target t x)) (x ∷ ys) ys) ≡ 0
none_kept t x ys true is none = ap (λ (c : Bool). count (λ s. same_target s t) (cond (not c) (x ∷ ys) ys)) is ∙ none
none_kept t x ys false is none =
    ap (λ (c : Bool). count (λ s. same_target s t) (cond (not c) (x ∷ ys) ys)) is
    ∙ ap (λ (c : Bool). one c + count (λ s. same_target s t) ys) (turned t x (same_target x t) refl is) ∙ omega (arith, none)

count_none : (t : Target) (xs : List Target) → count (λ s. same_target s t) (filter (λ y. not (same_target t y)) xs) ≡ 0
count_none t [] = refl
count_none t (x ∷ xs) = none_kept t x (filter (λ y. not (same_target t y)) xs) (same_target t x) refl (count_none t xs)

distinct_kept : (t x : Target) (ys : List Target) (b : Bool) → same_target x t ≡ b → count (λ s. same_target s t) ys ≤ 1
    → one (same_target x t) + count (λ s. same_target s t) (filter (λ y. not (same_target x y)) ys) ≤ 1
distinct_kept t x ys true is few =
    let none : count (λ s. same_target s t) (filter (λ y. not (same_target x y)) ys) ≡ 0 =
    subst (λ (z : Target). count (λ s. same_target s t) (filter (λ y. not (same_target z y)) ys) ≡ 0) (sym (same_target_is x t is))
    (count_none t ys) in
    let own : one (same_target x t) ≡ 1 = ap one is in
    omega (arith, none, own)
distinct_kept t x ys false is few =
    let own : one (same_target x t) ≡ 0 = ap one is in
    omega (arith, own, few, count_filter (λ s. same_target s t) (λ y. not (same_target x y)) ys)

count_distinct : (t : Target) (xs : List Target) → count (λ s. same_target s t) (distinct same_target xs) ≤ 1
count_distinct t [] = omega arith
count_distinct t (x ∷ xs) = distinct_kept t x (distinct same_target xs) (same_target x t) refl (count_distinct t xs)

-- THE law.
pub placed_once : (l : Link) (counts : Counts) (p : Placed) → IsPlaced l counts p → IsPlacedOnce p
unfolding section_address common_address slot_address stub_address
placed_once l counts p placed = record {
  sections = λ q here.
      let few : count (is_id (id_of q)) (map id_of p.sections) ≤ 1 =
      omega (
        arith,
        count_reordered (is_id (id_of q)) (map id_of p.sections) (carried_of l) (same_order placed.whole_list.sections),
        carried_once l
            (id_of q),
      ) in
      first_is (λ (t : PlacedSection). t.address) (λ t. (t.file == q.file) && (t.section == q.section)) p.sections q
      (omega (arith, few, count_map (is_id (id_of q)) id_of p.sections)) here
      (rw (equal_is q.file q.file refl, equal_is q.section q.section refl) refl);
  commons = λ c here.
      let ids = map (λ (x : PlacedCommon). x.id) p.commons in
      let few : count (λ m. m == c.id) ids ≤ 1 =
      omega (
        arith,
        count_reordered (λ m. m == c.id) ids (range_with_len 0 (length (chosen_commons l))) (same_order placed.whole_list.commons),
        (count_range c.id 0 (length (chosen_commons l))).0,
      ) in
      first_is (λ (x : PlacedCommon). x.address) (λ x. x.id == c.id) p.commons c
      (omega (arith, few, count_map (λ m. m == c.id) (λ (x : PlacedCommon). x.id) p.commons)) here (equal_is c.id c.id refl);
  slots = λ s here.
      let few : count (λ t. same_target t s.target) (map (λ (x : Slot). x.target) p.slots) ≤ 1 =
      subst (λ (xs : List Target). count (λ t. same_target t s.target) xs ≤ 1) (sym (placed.whole_list.slots ∙ slots_are l))
      (count_distinct s.target (filter_map (slot_of_use l) (uses_of l))) in
      first_is (λ (x : Slot). x.address) (λ x. same_target x.target s.target) p.slots s
      (omega (arith, few, count_map (λ t. same_target t s.target) (λ (x : Slot). x.target) p.slots)) here (target_itself s.target);
  stubs = λ s here.
      let few : count (λ t. same_target t (target.Import s.import)) (map (λ (x : Stub). target.Import x.import) p.stubs) ≤ 1 =
      subst (λ (xs : List Target). count (λ t. same_target t (target.Import s.import)) xs ≤ 1) (sym (placed.whole_list.stubs ∙ stubs_are l))
      (count_distinct (target.Import s.import) (filter_map (stub_of_use l) (uses_of l))) in
      first_is (λ (x : Stub). x.address) (λ x. x.import == s.import) p.stubs s
      (omega (arith, few, count_map (λ t. same_target t (target.Import s.import)) (λ (x : Stub). target.Import x.import) p.stubs)) here
      (equal_is s.import s.import refl);
}
