-- The entries of a link at their addresses are such that unwind information can be made of them.
use Rattle.std.proofs.Common.{◌≡◌, ℕ, ◌+◌, ◌/◌, ◌%◌, ◌^◌, ◌<◌, ◌≤◌, inl, inr, List, [], ◌∷◌, length, map, get_or, refl, sym, ap, subst, ◌∙◌, arith}
use Rattle.std.specs.Prelude.{All, Contains, IfSome, option_map, slice_get, is_some, not, ◌==◌, false}
use Rattle.std.proofs.lemmas.Bool.{cases_lt, eqb-true}
use Rattle.macho_bytes.proofs.Members.{contains_all, map_contains, contains_first}
use Rattle.macho_model.specs.declared.placed.Counts.{Counts}
use Rattle.macho_model.specs.declared.targets.Target.{Target}
use Rattle.macho_model.specs.Links.{Link}
use Rattle.macho_model.specs.Needs.{PERSONALITY_PLACE}
use Rattle.macho_model.specs.Targets.{target_of_relocation, slot_number}
use Rattle.macho_model.specs.Consumed.{EntryId, entries_of_link, relocations_in_entry, unwind_entry, personality_targets, LSDA_PLACE}
use Rattle.macho_model.specs.Placement.{Placed}
use Rattle.macho_model.specs.Addresses.{slot_address}
use Rattle.macho_unwind_pages.specs.declared.entries.Personality.{Personality}
use Rattle.macho_unwind_pages.specs.declared.entries.UnwindInput.{UnwindInput}
use Rattle.macho_unwind_pages.specs.declared.entries.ResolvedUnwindInfo.{ResolvedUnwindInfo}
use Rattle.macho_unwind_pages.specs.Entries.{input_of, inputs_of, ids_of}
use Rattle.macho_promise.specs.Sizes.{unwind_input}
use Rattle.macho_promise.specs.UnwindSays.{moved, resolved, resolved_entries}
use Rattle.macho_consumed.specs.Rows.{entry_rows}
use Rattle.macho_consumed.proofs.Tests.{not_true}
use Rattle.macho_layout_laws.proofs.ByNumber.{slots_by_number}
use Rattle.macho_synthetic.specs.Entries.{resolved_row, MayBeBuilt}
use Rattle.macho_synthetic.specs.Made.{IsToMake}
use Rattle.macho_synthetic.specs.Laws.{EntriesMayBeBuilt}
use Rattle.macho_synthetic.proofs.EntryFacts.{bits_clear}
use Rattle.macho_synthetic.proofs.EntryPlaces.{function_stands, section_end, data_stands}
use Rattle.macho_synthetic.proofs.PersonalitySlots.{person_slotted, slot_above, ids_few}
use Rattle.macho_synthetic.proofs.Starts.{starts_distinct}
use Rattle.macho_synthetic.proofs.Resolving.{rows_resolved}
use Rattle.macho_promise.specs.steps.UnwindSays.{personality_of}

-- what holds of each entry of the link holds of all at their addresses
pub each_resolved : (P : ResolvedUnwindInfo → Type 0) (l : Link) (p : Placed)
    → ((d : EntryId) → Contains (entries_of_link l) d → P (resolved l p d))
    → All P (resolved_entries l p)
unfolding resolved_entries
each_resolved P l p each =
    contains_all P (map (resolved l p) (entries_of_link l)) (λ e has.
    let made = map_contains (resolved l p) (entries_of_link l) e has in subst P made.2 (each made.0 made.1))

-- a value of the first of some
if_first : (P : ℕ → Type 0) (f : ℕ → ℕ) (rs : List ℕ) → ((r : ℕ) → Contains rs r → P (f r)) → IfSome (option_map f (slice_get rs 0)) P
if_first P f [] each = tt
if_first P f (r ∷ rs) each = each r (contains_first r rs)

person_first : (P : Personality → Type 0) (f : ℕ → Personality) (rs : List ℕ) → ((r : ℕ) → Contains rs r → P (f r))
    → IfSome (option_map f (slice_get rs 0)) P
person_first P f [] each = tt
person_first P f (r ∷ rs) each = each r (contains_first r rs)

-- an entry's input
personality_input : (l : Link) (p : Placed) (d : EntryId) (rs : List ℕ)
    → option_map (λ q. q.id) (option_map (personality_of l p d) (slice_get rs 0)) ≡ option_map
    (λ r. slot_number l (target_of_relocation l d.of_section r)) (slice_get rs 0)
personality_input l p d [] = refl
personality_input l p d (r ∷ rs) = refl

data_input : (f : ℕ → ℕ) (rs : List ℕ) → is_some (option_map f (slice_get rs 0)) ≡ not (length rs == 0)
data_input f [] = refl
data_input f (r ∷ rs) = sym (ap not longer)
  where
    longer : (length (r ∷ rs) == 0) ≡ false
    longer = not_true _ (λ e. let none : length (r ∷ rs) ≡ 0 = eqb-true _ _ e in omega arith)

pub input_resolved : (l : Link) (p : Placed) (d : EntryId) → input_of (resolved l p d) ≡ unwind_input l d
input_resolved l p d =
    let person = personality_input l p d (relocations_in_entry l d.of_section d.entry PERSONALITY_PLACE) in
    let lsda = data_input (moved l p d (unwind_entry l d.of_section d.entry).lsda)
    (relocations_in_entry l d.of_section d.entry LSDA_PLACE) in
    λ i. record { encoding = (unwind_entry l d.of_section d.entry).encoding; personality = person i; lsda = lsda i }

pub inputs_resolved : (l : Link) (p : Placed) → inputs_of (resolved_entries l p) ≡ map (unwind_input l) (entries_of_link l)
unfolding resolved_entries
inputs_resolved l p = by (entries_of_link l)
  where
    by : (ds : List EntryId) → map input_of (map (resolved l p) ds) ≡ map (unwind_input l) ds
    by [] = refl
    by (d ∷ ds) = ap (λ (x : UnwindInput). x ∷ map input_of (map (resolved l p) ds)) (input_resolved l p d)
        ∙ ap (λ (xs : List UnwindInput). unwind_input l d ∷ xs) (by ds)

-- targets with one number have one slot
one_slot : (l : Link) (counts : Counts) (p : Placed) (t u : Target) → IsToMake l counts p → slot_number l t ≡ slot_number l u
    → slot_address p t ≡ slot_address p u
one_slot l counts p t u make same =
    slots_by_number l counts p make.placed t ∙ ap (λ (k : ℕ). get_or (map (λ s. s.address) p.slots) k 0) same ∙ sym
    (slots_by_number l counts p make.placed u)

slots_alike : (l : Link) (counts : Counts) (p : Placed) (d e : EntryId) (rs qs : List ℕ) → IsToMake l counts p
    → IfSome (option_map (personality_of l p d) (slice_get rs 0))
    (λ x. IfSome (option_map (personality_of l p e) (slice_get qs 0)) (λ y. x.id ≡ y.id → x.slot ≡ y.slot))
slots_alike l counts p d e [] qs make = tt
slots_alike l counts p d e (r ∷ rs) [] make = tt
slots_alike l counts p d e (r ∷ rs) (q ∷ qs) make =
    one_slot l counts p (target_of_relocation l d.of_section r) (target_of_relocation l e.of_section q) make

few : (n m : ℕ) → n ≤ m → ((number : ℕ) → (number ≡ m) × (3 < number) → ⊥) → n ≤ 3
few n m le none = elim (cases_lt 3 m) [ inl more ↦ absurd (none m (refl, more)) | inr less ↦ omega (arith, le, less) ]

-- THE entries may be built
pub resolved_sound : (l : Link) (counts : Counts) (p : Placed) → IsToMake l counts p → MayBeBuilt p.base (resolved_entries l p)
resolved_sound l counts p make = record {
  are = record {
    distinct = starts_distinct l counts p make;
    starts = each_resolved (λ e. p.base ≤ e.start) l p (λ d has.
        let at = function_stands l counts p d make has in omega (arith, at.above, at.from));
    slots = each_resolved (λ e. IfSome e.personality (λ q. p.base ≤ q.slot)) l p (λ d has.
        person_first (λ q. p.base ≤ q.slot) (personality_of l p d) (relocations_in_entry l d.of_section d.entry PERSONALITY_PLACE)
        (λ r here. slot_above l counts p (target_of_relocation l d.of_section r) make (person_slotted l d r has here)));
    lsdas = each_resolved (λ e. IfSome e.lsda (λ address. p.base ≤ address)) l p (λ d has.
        if_first (λ address. p.base ≤ address) (moved l p d (unwind_entry l d.of_section d.entry).lsda)
        (relocations_in_entry l d.of_section d.entry LSDA_PLACE) (λ r here. (data_stands l counts p d r make has here).0));
    ends = each_resolved (λ e. e.start + e.length < 2 ^ 64) l p (λ d has.
        let at = function_stands l counts p d make has in omega (arith, at.to, section_end l counts p at.q make at.has));
    alike = each_resolved (λ e. All (λ f. IfSome e.personality (λ x. IfSome f.personality (λ y. x.id ≡ y.id → x.slot ≡ y.slot)))
        (resolved_entries l p)) l p
        (λ d has.
        each_resolved (λ f. IfSome (resolved l p d).personality (λ x. IfSome f.personality (λ y. x.id ≡ y.id → x.slot ≡ y.slot))) l p
        (λ e there. slots_alike l counts p d e (relocations_in_entry l d.of_section d.entry PERSONALITY_PLACE)
        (relocations_in_entry l e.of_section e.entry PERSONALITY_PLACE) make));
    clear = each_resolved (λ e. e.encoding / 2 ^ 28 % 4 ≡ 0) l p (λ d has. bits_clear l d make.entries has);
  };
  lsdas = each_resolved (λ e. IfSome e.lsda (λ address. address < 2 ^ 64)) l p (λ d has.
      if_first (λ address. address < 2 ^ 64) (moved l p d (unwind_entry l d.of_section d.entry).lsda)
      (relocations_in_entry l d.of_section d.entry LSDA_PLACE) (λ r here. (data_stands l counts p d r make has here).1));
  few = subst (λ (xs : List UnwindInput). length (ids_of xs) ≤ 3) (sym (inputs_resolved l p))
      (few (length (ids_of (map (unwind_input l) (entries_of_link l)))) (length (personality_targets l)) (ids_few l)
      make.limits.personalities);
}

-- and so may the rows
pub rows_sound : EntriesMayBeBuilt
rows_sound l counts p look slots make tells same =
    subst (λ (n : ℕ). MayBeBuilt n (map (resolved_row look slots) (entry_rows l))) (sym tells.addresses.base)
    (subst (MayBeBuilt p.base) (sym (rows_resolved l counts p look slots make tells same)) (resolved_sound l counts p make))
