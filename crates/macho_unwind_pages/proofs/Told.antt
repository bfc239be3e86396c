-- Entries by rising start, and passes over them.
--
-- A sorted list of entries is one whose starts don't fall. They differ, and a permutation keeps that, so they rise. A slot that
-- is written for one entry is that of every earlier entry with its id, and stands at no other id's place.
use Rattle.std.proofs.Common.{◌≡◌, ◌≢◌, ℕ, ◌+◌, ◌-◌, ◌^◌, ◌<◌, ◌≤◌, ◌==◌, Option, None, Some, IfSome, List, length, map, min, take, get_or, slice_get, slice_index, set, IsPermutation, sym, ap, subst, ◌∙◌, arith, inl, inr}
use Rattle.std.specs.List.{All, AllPairs}
use Rattle.std.specs.List.Sorted.{IsNonDecreasingBy}
use Rattle.std.proofs.lemmas.Bool.{cases_eq, cases_lt}
use Rattle.std.proofs.lemmas.Bool.Decides.{nat_tests, Decides-eqb}
use Rattle.std.proofs.lemmas.List.{take_more, take_all, get_or-map, length-map, length-take, get_or-take, length-set, get_or-set_same, get_or-set_other}
use Rattle.std.proofs.lemmas.Option.{slice_get_within, get_or_from_slice_get, slice_get-get_or}
use Rattle.macho_unwind_pages.specs.steps.Ranks.{IsNumberOf}
use Rattle.std.proofs.lemmas.List.Elements.{All-push}
use Rattle.std.proofs.lemmas.List.Sorted.{IsPermutation-map}
use Rattle.std.proofs.lemmas.Map.Keys.{IsDistinct-IsPermutation}
use Rattle.std.proofs.lemmas.Map.Made.{AllPairs-from_IsDistinct, IsDistinct-from_AllPairs}
use Rattle.macho_unwind_pages.specs.declared.entries.Personality.{Personality}
use Rattle.macho_unwind_pages.specs.declared.entries.ResolvedUnwindInfo.{ResolvedUnwindInfo}
use Rattle.macho_unwind_pages.specs.Entries.{place_in}
use Rattle.macho_unwind_pages.specs.steps.Planning.{IsNear, IsNumbered, AreAlike}
use Rattle.macho_unwind_pages.specs.steps.Plans.{HasSlot}

-- what holds of the first i and of the next one holds of one more
pub all_more : {X : Type 0} (P : X → Type 0) (xs : List X) (i : ℕ) (d : X) → i < length xs → All P (take i xs) → P (get_or xs i d)
    → All P (take (i + 1) xs)
all_more P xs i d within all one = subst (All P) (sym (take_more xs i d within)) (All-push P (take i xs) (get_or xs i d) all one)

-- what holds of the first i, which are all, holds of all
pub all_done : {X : Type 0} (P : X → Type 0) (xs : List X) (i : ℕ) → length xs ≤ i → All P (take i xs) → All P xs
all_done P xs i over all = subst (All P) (take_all i xs over) all

-- starts differ after a permutation too
starts_differ : (entries run : List ResolvedUnwindInfo) → AllPairs (λ e f. e.start ≢ f.start) entries → IsPermutation entries run
    → AllPairs (λ x y. x ≢ y) (map (λ e. e.start) run)
starts_differ entries run differ moved =
    AllPairs-from_IsDistinct Decides-eqb (map (λ (e : ResolvedUnwindInfo). e.start) run)
    (IsDistinct-IsPermutation (λ x y. x == y) flips
    (map (λ (e : ResolvedUnwindInfo). e.start) entries) (map (λ (e : ResolvedUnwindInfo). e.start) run)
    (IsPermutation-map (λ (e : ResolvedUnwindInfo). e.start) entries run moved)
    (IsDistinct-from_AllPairs Decides-eqb (map (λ (e : ResolvedUnwindInfo). e.start) entries) first))
  where
    flips : (x y : ℕ) → (x == y) ≡ (y == x)
    flips x y = grind (arith, nat_tests)

    none : ResolvedUnwindInfo
    none = record { start = 0; length = 0; encoding = 0; personality = None; lsda = None }

    first : AllPairs (λ x y. x ≢ y) (map (λ (e : ResolvedUnwindInfo). e.start) entries)
    first i j d low within same =
        let long : length (map (λ (e : ResolvedUnwindInfo). e.start) entries) ≡ length entries
        = length-map entries (λ (e : ResolvedUnwindInfo). e.start) in
        differ i j none low (omega arith)
        (sym (get_or-map (λ (e : ResolvedUnwindInfo). e.start) entries i none d (omega arith)) ∙ same
        ∙ get_or-map (λ (e : ResolvedUnwindInfo). e.start) entries j none d (omega arith))

-- starts that differ and don't fall rise
pub starts_rise : (entries run : List ResolvedUnwindInfo) → AllPairs (λ e f. e.start ≢ f.start) entries → IsPermutation entries run
    → IsNonDecreasingBy (λ e. e.start) run → AllPairs (λ e f. e.start < f.start) run
starts_rise entries run differ moved up i j d low within =
    let differs = starts_differ entries run differ moved i j 0 low (omega (arith, length-map run (λ (e : ResolvedUnwindInfo). e.start))) in
    let first = get_or-map (λ (e : ResolvedUnwindInfo). e.start) run i d 0 (omega arith) in
    let second = get_or-map (λ (e : ResolvedUnwindInfo). e.start) run j d 0 within in
    elim (cases_eq (get_or run i d).start (get_or run j d).start) [
      | inl same ↦ absurd (differs (first ∙ same ∙ sym second))
      | inr apart ↦ omega (arith, up i j d (omega arith) within)
    ]

written_there : (xs : List ℕ) (i v : ℕ) → i < length xs → slice_get (set xs i v) i ≡ Some v
written_there xs i v within =
    slice_get-get_or (set xs i v) i 0 (omega (arith, length-set xs i v)) ∙ ap (λ (n : ℕ). Some n) (get_or-set_same xs i v 0 within)

written_elsewhere : (xs : List ℕ) (i j v : ℕ) → j < length xs → j ≢ i → slice_get (set xs i v) j ≡ slice_get xs j
written_elsewhere xs i j v within other =
    slice_get-get_or (set xs i v) j 0 (omega (arith, length-set xs i v)) ∙ ap (λ (n : ℕ). Some n) (get_or-set_other xs i j v 0 other)
    ∙ sym (slice_get-get_or xs j 0 within)

-- a slot that is written
slot_kept : (text : ℕ) (ids slots : List ℕ) (p : Personality) (o : Option Personality) → length slots ≡ length ids
    → IsNumberOf ids p.id (place_in ids p.id) → IfSome o (λ q. IsNumberOf ids q.id (place_in ids q.id))
    → IfSome o (λ q. q.id ≡ p.id → q.slot ≡ p.slot) → IfSome o (λ q. slice_get slots (place_in ids q.id) ≡ Some (q.slot - text))
    → IfSome o (λ q. slice_get (set slots (place_in ids p.id) (p.slot - text)) (place_in ids q.id) ≡ Some (q.slot - text))
slot_kept text ids slots p None size here there alike was = tt
slot_kept text ids slots p (Some q) size here there alike was =
    elim (cases_eq (place_in ids p.id) (place_in ids q.id)) [
      | inl same ↦
          let one : q.id ≡ p.id = sym there.1 ∙ ap (slice_index ids) (sym same) ∙ here.1 in
          ap (slice_get (set slots (place_in ids p.id) (p.slot - text))) (sym same)
          ∙ written_there slots (place_in ids p.id) (p.slot - text) (omega (arith, here.0))
          ∙ ap (λ (s : ℕ). Some (s - text)) (sym (alike one))
      | inr other ↦
          written_elsewhere slots (place_in ids p.id) (place_in ids q.id) (p.slot - text) (omega (arith, there.0)) (λ e. other (sym e))
          ∙ was
    ]

-- an entry with a personality: its slot is written, and those of the entries before it stand
pub slots_more : (text : ℕ) (ids slots now : List ℕ) (run : List ResolvedUnwindInfo) (i : ℕ) (d : ResolvedUnwindInfo)
    (p : Personality) (place : ℕ)
    → i < length run → (get_or run i d).personality ≡ Some p → place ≡ place_in ids p.id → length slots ≡ length ids
    → now ≡ set slots place (p.slot - text) → All (IsNumbered ids) run → All (λ e. All (AreAlike e) run) run
    → All (HasSlot text ids slots) (take i run) → All (HasSlot text ids now) (take (i + 1) run)
slots_more text ids slots now run i d p place within is at size written numbered alike all =
    all_more (HasSlot text ids now) run i d within earlier last
  where
    number : IsNumberOf ids p.id (place_in ids p.id)
    number = subst (λ o. IfSome o (λ q. IsNumberOf ids q.id (place_in ids q.id))) is (numbered i d within)

    made : set slots (place_in ids p.id) (p.slot - text) ≡ now
    made = ap (λ k. set slots k (p.slot - text)) (sym at) ∙ sym written

    earlier : All (HasSlot text ids now) (take i run)
    earlier k e h =
        let low : k < i = omega (arith, length-take i run) in
        let f : ResolvedUnwindInfo = get_or (take i run) k e in
        let same : get_or (take i run) k e ≡ get_or run k e = get_or-take i run k e low in
        let with_this : IfSome (get_or run k e).personality (λ q. q.id ≡ p.id → q.slot ≡ p.slot)
        = subst (λ o. IfSome (get_or run k e).personality (λ q. IfSome o (λ q'. q.id ≡ q'.id → q.slot ≡ q'.slot))) is
        (alike k e (omega arith) i d within) in
        subst (λ s. HasSlot text ids s (get_or (take i run) k e)) made
        (slot_kept text ids slots p (get_or (take i run) k e).personality size number
        (subst (IsNumbered ids) (sym same) (numbered k e (omega arith)))
        (subst (λ (g : ResolvedUnwindInfo). IfSome g.personality (λ q. q.id ≡ p.id → q.slot ≡ p.slot)) (sym same) with_this)
        (all k e h))

    last : HasSlot text ids now (get_or run i d)
    last = subst (λ o. IfSome o (λ q. slice_get now (place_in ids q.id) ≡ Some (q.slot - text))) (sym is)
        (ap (λ s. slice_get s (place_in ids p.id)) (sym made)
        ∙ written_there slots (place_in ids p.id) (p.slot - text) (omega (arith, number.0)))

-- the slot of a near entry
pub near_slot : (text : ℕ) (e : ResolvedUnwindInfo) (p : Personality) → e.personality ≡ Some p → IsNear text e → p.slot - text < 2 ^ 32
near_slot text e p is near =
    let low : IfSome (Some p) (λ q. q.slot < text + 2 ^ 32) = subst (λ o. IfSome o (λ q. q.slot < text + 2 ^ 32)) is near.slot in
    omega (arith, low)

-- an entry without a personality
pub slots_passed : (text : ℕ) (ids slots : List ℕ) (run : List ResolvedUnwindInfo) (i : ℕ) (d : ResolvedUnwindInfo)
    → i < length run → (get_or run i d).personality ≡ None → All (HasSlot text ids slots) (take i run)
    → All (HasSlot text ids slots) (take (i + 1) run)
slots_passed text ids slots run i d within is all =
    all_more (HasSlot text ids slots) run i d within all
    (subst (λ o. IfSome o (λ q. slice_get slots (place_in ids q.id) ≡ Some (q.slot - text))) (sym is) tt)

-- a code of the table by its place
pub code_at : (entries : List (ℕ × ℕ)) (i code times : ℕ) → Some (code, times) ≡ slice_get entries i
    → (i < length (map (λ e. e.0) entries)) × (code ≡ slice_index (map (λ e. e.0) entries) i)
code_at entries i code times is =
    let within : i < length entries = slice_get_within entries i (code, times) (sym is) in (
      omega (arith, length-map entries (λ (e : ℕ × ℕ). e.0)),
      sym (get_or-map (λ (e : ℕ × ℕ). e.0) entries i (0, 0) 0 within
          ∙ ap (λ (e : ℕ × ℕ). e.0) (get_or_from_slice_get entries i (code, times) (0, 0) (sym is))),
    )

-- as many of a list as there are, up to a number
pub first_ones : (xs taken : List ℕ) (i n : ℕ) → i ≡ min (length xs) n → taken ≡ take i xs → taken ≡ take n xs
first_ones xs taken i n is same =
    elim (cases_lt (length xs) n) [
      | inl few ↦ same ∙ take_all i xs (omega arith) ∙ sym (take_all n xs (omega arith))
      | inr many ↦ same ∙ ap (λ k. take k xs) (let e : i ≡ n = omega arith in e)
    ]
