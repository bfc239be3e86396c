-- Where both texts are made, no address passes whose offset is written in 32 bits.
--
-- The relocation of an initializer stands in a slot, so its target is one of the initializers. An entry has one relocation at each place,
-- so the addresses that they lead to are those of the entry that was built, and none of these is far away.
use Rattle.std.proofs.Common.{◌≡◌, ℕ, ◌+◌, ◌*◌, ◌-◌, ◌/◌, ◌%◌, ◌^◌, ◌<◌, ◌≤◌, ◌⊎◌, inl, inr, ◌==◌, eq-eqb, true, List, [], ◌∷◌, length, map, refl, sym, ap, subst, arith}
use Rattle.std.specs.Prelude.{Contains, IsSomeAnd, option_map, slice_get, flat_map}
use Rattle.std.specs.FinMap.{empty}
use Rattle.std.specs.List.{range_with_len}
use Rattle.std.proofs.lemmas.Bool.{eqb-true, cases_lt}
use Rattle.macho_bytes.proofs.Members.{all_contains, contains_map, map_contains, contains_flat_map, flat_map_contains, contains_filter, contains_range, contains_cases, nil_contains}
use Rattle.macho_records.specs.Sections.{type_of}
use Rattle.macho_records.specs.declared.constants.TheConstants.{S_MOD_INIT_FUNC_POINTERS}
use Rattle.macho_model.specs.declared.placed.Counts.{Counts}
use Rattle.macho_model.specs.declared.targets.Target.{Target}
use Rattle.macho_model.specs.declared.targets.Target.TheVariants as target
use Rattle.macho_model.specs.Links.{Link, SectionId, header_at}
use Rattle.macho_model.specs.Needs.{relocation_in, section_named, relocations_of, relocations_at, initializer_sections, PERSONALITY_PLACE}
use Rattle.macho_model.specs.Targets.{same_target, target_of_relocation}
use Rattle.macho_model.specs.Consumed.{EntryId, entries_of_link, relocations_in_entry, unwind_entry, personality_targets, is_section_target, initializer_section_fits, START_PLACE, LSDA_PLACE}
use Rattle.macho_model.specs.Made.{initializers_of}
use Rattle.macho_model.specs.Placement.{Placed}
use Rattle.macho_model.specs.Addresses.{address_of, section_address, slot_address}
use Rattle.macho_model.specs.Stands.{IsAt, SectionAt, SlotAt}
use Rattle.macho_model.specs.Limits.{initializer, function, language, personality}
use Rattle.macho_unwind_pages.specs.declared.entries.ResolvedUnwindInfo.{ResolvedUnwindInfo}
use Rattle.macho_unwind_pages.specs.Plans.{IsFar, HasFarAddress}
use Rattle.macho_promise.specs.UnwindSays.{moved, resolved, resolved_entries}
use Rattle.macho_consumed.specs.Told.{InitializersKeepRules}
use Rattle.macho_consumed.proofs.BoundInputs.{in_section, one_personality}
use Rattle.macho_model.specs.Grammar.{ObjectsAreRead}
use Rattle.macho_placed_laws.proofs.Places.{places_are_one, slots_are_one}
use Rattle.macho_synthetic.specs.Made.{IsToMake, IsOffsetsText, IsUnwindMade}
use Rattle.macho_synthetic.specs.Laws.{NothingWrittenPasses}
use Rattle.macho_synthetic.proofs.Existing.{place_inside}
use Rattle.macho_synthetic.proofs.InitializerRows.{slot_fits, section_defined}
use Rattle.macho_synthetic.proofs.OffsetTexts.{lists_all}
use Rattle.macho_synthetic.proofs.EntryFacts.{few_at_lsda}
use Rattle.macho_synthetic.proofs.EntryPlaces.{function_stands}
use Rattle.macho_synthetic.proofs.PieceRows.{power_some}
use Rattle.macho_promise.specs.steps.UnwindSays.{personality_of}
use Rattle.macho_model.proofs.Uses.{initializers_are, personalities_are}
use Rattle.macho_bytes.proofs.Bools.{and_right}
use Rattle.macho_model.proofs.Sections.{initializer_section}
use Rattle.macho_model.proofs.Distinct.{distinct_contains}

-- where relocations of initializers stand
record InSlot (l : Link) (s : SectionId) (r slot : ℕ) : Type 0 where
  inside : 8 * slot + 8 ≤ (header_at l s).size
  here : Contains (relocations_at l s (8 * slot)) r

in_slot : (l : Link) (s : SectionId) (r : ℕ) → ObjectsAreRead l → InitializersKeepRules l → Contains (initializer_sections l) s
    → r < (header_at l s).nreloc → InSlot l s r ((relocation_in l s r).r_address / 8)
in_slot l s r read rules there low =
    let whole : (header_at l s).size % 8 ≡ 0 =
    eqb-true _ _ (and_right (type_of (header_at l s) == S_MOD_INIT_FUNC_POINTERS) _
    (all_contains (λ (t : SectionId). initializer_section_fits l t ≡ true) (initializer_sections l) s rules.initializers there)) in
    let placed : (relocation_in l s r).r_address % 8 ≡ 0 = eqb-true _ _ (rules.placed s r there low) in
    let field = place_inside l s r read (initializer_section l s there) low in
    let some = power_some (relocation_in l s r).r_length in
    let at : (relocation_in l s r).r_address ≡ 8 * ((relocation_in l s r).r_address / 8) = omega (arith, placed) in
    record {
      inside = omega (arith, whole, placed, field, some);
      here = contains_filter (λ q. (relocation_in l s q).r_address == 8 * ((relocation_in l s r).r_address / 8)) (relocations_of l s) r
          (contains_range (header_at l s).nreloc r low) (eq-eqb _ _ at);
    }

-- so their targets are initializers
initializer_listed : (l : Link) (s : SectionId) (r slot : ℕ) → Contains (initializer_sections l) s → InSlot l s r slot
    → Contains (initializers_of l) (target_of_relocation l s r)
initializer_listed l s r slot there at =
    let t : Target = target_of_relocation l s r in
    let low : slot < (header_at l s).size / 8 = omega (arith, at.inside) in
    subst (λ (ts : List Target). Contains ts t) (sym (initializers_are l))
    (contains_flat_map
    (λ q. flat_map (λ k. map (target_of_relocation l q) (relocations_at l q (8 * k))) (range_with_len 0 ((header_at l q).size / 8)))
    (initializer_sections l) s t there
    (contains_flat_map (λ k. map (target_of_relocation l s) (relocations_at l s (8 * k))) (range_with_len 0 ((header_at l s).size / 8))
    slot t
    (contains_range ((header_at l s).size / 8) slot low) (contains_map (target_of_relocation l s) (relocations_at l s (8 * slot)) r
    at.here)))

initializer_near : (l : Link) (counts : Counts) (p : Placed) (offsets : List ℕ) (s : SectionId) (r x : ℕ) → IsToMake l counts p
    → IsOffsetsText l p offsets → Contains (initializer_sections l) s → r < (header_at l s).nreloc
    → IsAt l p 0 empty (target_of_relocation l s r) x → x < p.base + 2 ^ 32
initializer_near l counts p offsets s r x make text there low at =
    let slot = in_slot l s r make.objects make.initializers there low in
    let fits = slot_fits l s ((relocation_in l s r).r_address / 8) r make.initializers there slot.inside slot.here in
    let section : is_section_target (target_of_relocation l s r) ≡ true = and_right _ _ fits in
    let one = places_are_one l p 0 empty (target_of_relocation l s r) x (lists_all l counts p make)
    (section_defined (target_of_relocation l s r) section) at in
    let near = all_contains (λ (t : Target). address_of p t < p.base + 2 ^ 32) (initializers_of l) (target_of_relocation l s r) text.near
    (initializer_listed l s r ((relocation_in l s r).r_address / 8) there slot) in
    omega (arith, one, near)

-- the address of a section
section_is : (l : Link) (counts : Counts) (p : Placed) (file section at : ℕ) → IsToMake l counts p → SectionAt p file section at
    → at ≡ section_address p file section
section_is l counts p file section at make there =
    let one = places_are_one l p 0 empty (target.Section file section 0) (at + 0 + 0) (lists_all l counts p make) refl (at, there, refl) in
    omega (arith, one)

-- the only element of a list
only_one : (rs : List ℕ) (r : ℕ) → length rs ≤ 1 → Contains rs r → rs ≡ r ∷ []
only_one [] r few has = absurd (nil_contains r has)
only_one (q ∷ []) r few has = elim (contains_cases q [] r has)
    [ inl same ↦ ap (λ (x : ℕ). x ∷ []) same | inr later ↦ absurd (nil_contains r later) ]
only_one (q ∷ s ∷ rs) r few has = absurd (omega (arith, few))

listed : (l : Link) (p : Placed) (d : EntryId) → Contains (entries_of_link l) d → Contains (resolved_entries l p) (resolved l p d)
unfolding resolved_entries
listed l p d has = contains_map (resolved l p) (entries_of_link l) d has

near_or_far : (base x : ℕ) → (base + 2 ^ 32 ≤ x → ⊥) → x < base + 2 ^ 32
near_or_far base x none = elim (cases_lt x (base + 2 ^ 32)) [ inl less ↦ less | inr far ↦ absurd (none far) ]

-- an address of an entry that is built isn't far
not_far : (l : Link) (p : Placed) (text : List ℕ) (d : EntryId) → IsUnwindMade l p text → Contains (entries_of_link l) d
    → HasFarAddress p.base (resolved l p d) → ⊥
not_far l p text d made has far = made.near (resolved l p d, listed l p d has, inl far)

some_slot : (l : Link) (p : Placed) (d : EntryId) (rs : List ℕ) (r : ℕ) → rs ≡ r ∷ []
    → IsFar p.base (slot_address p (target_of_relocation l d.of_section r))
    → IsSomeAnd (option_map (personality_of l p d) (slice_get rs 0)) (λ q. IsFar p.base q.slot)
some_slot l p d rs r is far =
    subst (λ (xs : List ℕ). IsSomeAnd (option_map (personality_of l p d) (slice_get xs 0)) (λ q. IsFar p.base q.slot)) (sym is) far

some_data : (l : Link) (p : Placed) (d : EntryId) (rs : List ℕ) (r : ℕ) → rs ≡ r ∷ []
    → IsFar p.base (moved l p d (unwind_entry l d.of_section d.entry).lsda r)
    → IsSomeAnd (option_map (moved l p d (unwind_entry l d.of_section d.entry).lsda) (slice_get rs 0)) (IsFar p.base)
some_data l p d rs r is far =
    subst (λ (xs : List ℕ). IsSomeAnd (option_map (moved l p d (unwind_entry l d.of_section d.entry).lsda) (slice_get xs 0))
    (IsFar p.base)) (sym is) far

function_near : (l : Link) (counts : Counts) (p : Placed) (text : List ℕ) (d : EntryId) (r at extra : ℕ) → IsToMake l counts p
    → IsUnwindMade l p text
    → Contains (entries_of_link l) d → Contains (relocations_in_entry l d.of_section d.entry START_PLACE) r
    → SectionAt p d.of_section.file (section_named l d.of_section r).section at
    → (extra ≡ 0) ⊎ (extra ≡ (unwind_entry l d.of_section d.entry).length)
    → at + ((unwind_entry l d.of_section d.entry).start - (header_at l (section_named l d.of_section r)).addr) + extra < p.base + 2 ^ 32
function_near l counts p text d r at extra make made has here place which =
    let stands = function_stands l counts p d make has in
    let same : stands.r ≡ r = elim (contains_cases stands.r [] r (subst (λ (rs : List ℕ). Contains rs r) stands.start.one here)) [
      | inl is ↦ is
      | inr later ↦ absurd (nil_contains r later)
    ] in
    let address : at ≡ section_address p d.of_section.file (section_named l d.of_section r).section =
    section_is l counts p d.of_section.file (section_named l d.of_section r).section at make place in
    let own : section_address p d.of_section.file (section_named l d.of_section stands.r).section
    ≡ section_address p d.of_section.file (section_named l d.of_section r).section =
    ap (λ (q : ℕ). section_address p d.of_section.file (section_named l d.of_section q).section) same in
    let offset : (unwind_entry l d.of_section d.entry).start - (header_at l (section_named l d.of_section stands.r)).addr
    ≡ (unwind_entry l d.of_section d.entry).start - (header_at l (section_named l d.of_section r)).addr =
    ap (λ (q : ℕ). (unwind_entry l d.of_section d.entry).start - (header_at l (section_named l d.of_section q)).addr) same in
    let end = all_contains (λ (e : ResolvedUnwindInfo). e.start + e.length < p.base + 2 ^ 32) (resolved_entries l p) (resolved l p d)
    made.ends (listed l p d has) in
    let placed = section_is l counts p d.of_section.file (section_named l d.of_section stands.r).section stands.q.address make
    (stands.q, stands.has, ap (λ (s : SectionId). s.file) stands.id, ap (λ (s : SectionId). s.section) stands.id, refl) in
    by which (omega (arith, end, stands.is, address, own, offset, placed))
  where
    by : (extra ≡ 0) ⊎ (extra ≡ (unwind_entry l d.of_section d.entry).length)
        → at + ((unwind_entry l d.of_section d.entry).start - (header_at l (section_named l d.of_section r)).addr)
        + (unwind_entry l d.of_section d.entry).length < p.base + 2 ^ 32
        → at + ((unwind_entry l d.of_section d.entry).start - (header_at l (section_named l d.of_section r)).addr) + extra < p.base + 2 ^ 32
    by (inl none) low = omega (arith, none, low)
    by (inr whole) low = omega (arith, whole, low)

language_near : (l : Link) (counts : Counts) (p : Placed) (text : List ℕ) (d : EntryId) (r at : ℕ) → IsToMake l counts p
    → IsUnwindMade l p text
    → Contains (entries_of_link l) d → Contains (relocations_in_entry l d.of_section d.entry LSDA_PLACE) r
    → SectionAt p d.of_section.file (section_named l d.of_section r).section at
    → at + ((unwind_entry l d.of_section d.entry).lsda - (header_at l (section_named l d.of_section r)).addr) < p.base + 2 ^ 32
language_near l counts p text d r at make made has here place =
    let it = in_section l d has in
    let one = only_one (relocations_in_entry l d.of_section d.entry LSDA_PLACE) r (few_at_lsda l d make.entries it) here in
    let address = section_is l counts p d.of_section.file (section_named l d.of_section r).section at make place in
    let near : moved l p d (unwind_entry l d.of_section d.entry).lsda r < p.base + 2 ^ 32 =
    near_or_far p.base (moved l p d (unwind_entry l d.of_section d.entry).lsda r)
    (λ far. not_far l p text d made has (inr (inr (some_data l p d (relocations_in_entry l d.of_section d.entry LSDA_PLACE) r one far)))) in
    omega (arith, near, address)

personality_near : (l : Link) (counts : Counts) (p : Placed) (text : List ℕ) (t : Target) (x : ℕ) → IsToMake l counts p
    → IsUnwindMade l p text
    → Contains (personality_targets l) t → SlotAt p 0 t x → x < p.base + 2 ^ 32
personality_near l counts p text t x make made has at =
    let f : EntryId → List Target = λ e. map (target_of_relocation l e.of_section)
    (relocations_in_entry l e.of_section e.entry PERSONALITY_PLACE) in
    let of = flat_map_contains f (entries_of_link l) t (distinct_contains same_target (flat_map f (entries_of_link l)) t
    (subst (λ (ts : List Target). Contains ts t) (personalities_are l) has)) in
    let d : EntryId = of.0 in
    let by = map_contains (target_of_relocation l d.of_section) (relocations_in_entry l d.of_section d.entry PERSONALITY_PLACE) t of.2 in
    let r : ℕ = by.0 in
    let it = in_section l d of.1 in
    let one = only_one (relocations_in_entry l d.of_section d.entry PERSONALITY_PLACE) r (one_personality l d make.entries it) by.1 in
    let slot = slots_are_one l p 0 t x (lists_all l counts p make) at in
    let near : slot_address p (target_of_relocation l d.of_section r) < p.base + 2 ^ 32 =
    near_or_far p.base (slot_address p (target_of_relocation l d.of_section r))
    (λ far. not_far l p text d made of.1 (inr (inl (some_slot l p d (relocations_in_entry l d.of_section d.entry PERSONALITY_PLACE) r one
    far)))) in
    omega (arith, slot, near, ap (slot_address p) by.2)

-- THE law
pub nothing_passes : NothingWrittenPasses
nothing_passes l counts p offsets text make told made _ (initializer s r x there low at) =
    initializer_near l counts p offsets s r x make told there low at
nothing_passes l counts p offsets text make told made _ (function d r at extra has here place which) =
    function_near l counts p text d r at extra make made has here place which
nothing_passes l counts p offsets text make told made _ (language d r at has here place) =
    language_near l counts p text d r at make made has here place
nothing_passes l counts p offsets text make told made _ (personality t x has at) = personality_near l counts p text t x make made has at
