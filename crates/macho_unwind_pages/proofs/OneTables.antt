-- The tables of a plan are those of its entries.
--
-- Ranks are distinct, and so are the first ones. Each id is named by an entry, and its number is its place, since ids rise; so
-- the slot at each place is told by an entry. The entry that starts last is one of the entries, and it tells the end.
use Rattle.std.proofs.Common.{◌≡◌, ℕ, suc, ◌+◌, ◌-◌, ◌<◌, ◌≤◌, ◌==◌, true, nat_lt, Option, None, Some, IfSome, List, [], ◌∷◌, length, get_or, slice_get, slice_index, Contains, refl, sym, ap, subst, ◌∙◌, arith, inl, inr}
use Rattle.std.specs.Option.{option_map}
use Rattle.std.proofs.lemmas.Bool.{cases_Bool, eqb-true, eq-eqb}
use Rattle.std.proofs.lemmas.List.{ext_get_or, get_or-take, length-take, get_or_default}
use Rattle.std.proofs.lemmas.List.Elements.{All-contains}
use Rattle.std.proofs.lemmas.List.Folds.{list_any_at}
use Rattle.std.proofs.lemmas.List.Sorted.{All-permutation, Contains-permutation, IsPermutation-sym, length_permutation}
use Rattle.std.proofs.lemmas.Option.{get_or_from_slice_get}
use Rattle.macho_unwind_pages.specs.declared.entries.Personality.{Personality}
use Rattle.macho_unwind_pages.specs.declared.entries.ResolvedUnwindInfo.{ResolvedUnwindInfo}
use Rattle.macho_unwind_pages.specs.Entries.{inputs_of, ids_of, place_in, IsLast}
use Rattle.macho_unwind_pages.specs.steps.Entries.{named_by, named_ids, ranks_before}
use Rattle.macho_unwind_pages.specs.steps.Ranks.{ranked}
use Rattle.macho_unwind_pages.specs.Bounds.{MOST_GLOBALS, globals_of}
use Rattle.macho_unwind_pages.specs.Plans.{PlanList, IsPlanOf}
use Rattle.macho_unwind_pages.proofs.Orders.{has, nat_lt-strict, rises-in_order, rises_once, has-in_order}
use Rattle.macho_unwind_pages.proofs.Ranked.{ranks_before-strict}
use Rattle.macho_unwind_pages.proofs.Gathered.{place_at, is_last, none}
use Rattle.macho_unwind_pages.proofs.OneList.{AreDistinct}
use Rattle.macho_unwind_pages.proofs.OnePage.{place_once}
use Rattle.macho_unwind_pages.specs.steps.Plans.{HasSlot}

-- codes that every page may name are distinct
pub globals_once : (codes : List ℕ) → AreDistinct (globals_of codes)
globals_once codes i j d low within same =
    let size = length-take MOST_GLOBALS (ranked codes) in
    let strict = ranks_before-strict codes in
    rises_once (ranks_before codes) (ranked codes) strict (rises-in_order (ranks_before codes) codes strict) i j d low (omega arith)
    (sym (get_or-take MOST_GLOBALS (ranked codes) i d (omega arith)) ∙ same ∙ get_or-take MOST_GLOBALS (ranked codes) j d (omega arith))

-- An entry that names an id.
record IsNamedIn (entries : List ResolvedUnwindInfo) (id : ℕ) : Type 0 where
  entry : ResolvedUnwindInfo
  one : Contains entries entry
  personality : Personality
  has_it : entry.personality ≡ Some personality
  is : id ≡ personality.id

later : (e : ResolvedUnwindInfo) (entries : List ResolvedUnwindInfo) (id : ℕ) → IsNamedIn entries id → IsNamedIn (e ∷ entries) id
later e entries id n = record {
  entry = n.entry;
  one = (suc n.one.0, omega (arith, n.one.1), n.one.2);
  personality = n.personality;
  has_it = n.has_it;
  is = n.is;
}

named_in : (entries : List ResolvedUnwindInfo) (id : ℕ) → has id (named_ids (inputs_of entries)) ≡ true → IsNamedIn entries id
unfolding named_ids
named_in [] id there = absurd (cc)
named_in (e ∷ entries) id there =
    go e.personality refl there (named_in entries id)
  where
    go : (o : Option Personality) → e.personality ≡ o → has id (named_by (option_map (λ p. p.id) o) (named_ids (inputs_of entries))) ≡ true
        → (has id (named_ids (inputs_of entries)) ≡ true → IsNamedIn entries id) → IsNamedIn (e ∷ entries) id
    go None is found rest = later e entries id (rest found)
    go (Some p) is found rest = elim (cases_Bool (id == p.id)) [
      | inl same ↦ record { entry = e; one = (0, omega arith, refl); personality = p; has_it = is; is = eqb-true id p.id same }
      | inr other ↦ later e entries id (rest (rw other at found))
    ]

-- the slot at each place is that of an entry
slot_at : (text : ℕ) (entries : List ResolvedUnwindInfo) (p : PlanList) (k : ℕ)
    → (n : IsNamedIn entries (slice_index (ids_of (inputs_of entries)) k)) → IsPlanOf text entries p
    → k < length (ids_of (inputs_of entries)) → slice_index p.personalities k ≡ n.personality.slot - text
slot_at text entries p k n a within =
    let ids : List ℕ = ids_of (inputs_of entries) in
    let rises = rises-in_order nat_lt (named_ids (inputs_of entries)) nat_lt-strict in
    let there : has (slice_index ids k) ids ≡ true
    = list_any_at (λ other. slice_index ids k == other) ids k 0 within (eq-eqb (slice_index ids k) (slice_index ids k) refl) in
    let at = place_at ids (slice_index ids k) rises there in
    let place : place_in ids (slice_index ids k) ≡ k = place_once ids _ k (rises_once nat_lt ids nat_lt-strict rises) at.0 within at.1 in
    let slot : slice_get p.personalities (place_in ids n.personality.id) ≡ Some (n.personality.slot - text)
    = subst (λ o. IfSome o (λ q. slice_get p.personalities (place_in ids q.id) ≡ Some (q.slot - text))) n.has_it
    (All-contains (HasSlot text ids p.personalities) entries n.entry a.slots n.one) in
    ap (slice_index p.personalities) (sym place ∙ ap (place_in ids) n.is)
    ∙ get_or_from_slice_get p.personalities (place_in ids n.personality.id) (n.personality.slot - text) 0 slot

-- two plans of the same entries have the same slots
pub same_slots : (text : ℕ) (entries : List ResolvedUnwindInfo) (p q : PlanList) → IsPlanOf text entries p → IsPlanOf text entries q
    → p.personalities ≡ q.personalities
same_slots text entries p q a b =
    ext_get_or 0 p.personalities q.personalities (a.personalities ∙ sym b.personalities) (λ k within.
    let ids : List ℕ = ids_of (inputs_of entries) in
    let inside : k < length ids = omega (arith, a.personalities) in
    let there : has (slice_index ids k) ids ≡ true
    = list_any_at (λ other. slice_index ids k == other) ids k 0 inside (eq-eqb (slice_index ids k) (slice_index ids k) refl) in
    let n : IsNamedIn entries (slice_index ids k)
    = named_in entries (slice_index ids k) (sym (has-in_order nat_lt (slice_index ids k) (named_ids (inputs_of entries))) ∙ there) in
    slot_at text entries p k n a inside ∙ sym (slot_at text entries q k n b inside))

-- two plans of the same entries, one or more, have the same end
pub same_end : (text : ℕ) (entries : List ResolvedUnwindInfo) (p q : PlanList) → 0 < length entries → IsPlanOf text entries p
    → IsPlanOf text entries q → p.end ≡ q.end
same_end text entries p q some a b =
    let size = length_permutation entries a.run a.same in
    let e : ResolvedUnwindInfo = get_or a.run (length a.run - 1) none in
    let last : IsLast entries e
    = All-permutation (λ f. f.start ≤ e.start) a.run entries (IsPermutation-sym entries a.run a.same)
    (is_last a.run (length a.run - 1) none a.rising (omega arith)) in
    let one : Contains entries e
    = Contains-permutation a.run entries e (IsPermutation-sym entries a.run a.same)
    (length a.run - 1, omega arith, get_or_default a.run (length a.run - 1) e none (omega arith)) in
    All-contains (λ f. IsLast entries f → p.end ≡ f.start + f.length - text) entries e a.end one last
    ∙ sym (All-contains (λ f. IsLast entries f → q.end ≡ f.start + f.length - text) entries e b.end one last)
