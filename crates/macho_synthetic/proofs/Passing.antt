-- What is built is the link's unwind information, or the image passes 32 bits.
--
-- Where an address is too far from the base, it is one that is written in 32 bits. Where a page's place is, the room that was counted has
-- 2^32 bytes or more; its range lies in the file part of `__TEXT`, which has as many.
use Rattle.std.proofs.Common.{◌≡◌, ℕ, ◌+◌, ◌-◌, ◌^◌, ◌<◌, ◌≤◌, ◌⊎◌, inl, inr, ◌==◌, Bool, true, false, cond, List, [], ◌∷◌, length, map, refl, sym, ap, subst, ◌∙◌, arith}
use Rattle.std.specs.Prelude.{Contains, IsSomeAnd, option_map, slice_get}
use Rattle.std.proofs.lemmas.Bool.{cases_lt}
use Rattle.std.proofs.lemmas.Bool.Decides.{nat_tests}
use Rattle.std.proofs.lemmas.List.{length-map}
use Rattle.macho_bytes.proofs.Members.{map_contains, contains_first}
use Rattle.macho_model.specs.declared.placed.Counts.{Counts}
use Rattle.macho_model.specs.declared.placed.PlacedSection.{PlacedSection}
use Rattle.macho_model.specs.declared.placed.PlacedSegment.{PlacedSegment}
use Rattle.macho_model.specs.declared.targets.Target.{Target}
use Rattle.macho_model.specs.Links.{Link, SectionId, header_at}
use Rattle.macho_model.specs.Needs.{section_named, PERSONALITY_PLACE}
use Rattle.macho_model.specs.Targets.{target_of_relocation}
use Rattle.macho_model.specs.Consumed.{EntryId, entries_of_link, relocations_in_entry, unwind_entry, START_PLACE, LSDA_PLACE}
use Rattle.macho_model.specs.Segments.{TEXT}
use Rattle.macho_model.specs.Placement.{Placed, id_of}
use Rattle.macho_model.specs.steps.Parts.{LiesInNamed}
use Rattle.macho_model.specs.Spans.{range_span}
use Rattle.macho_model.specs.Addresses.{slot_address}
use Rattle.macho_model.specs.Stands.{SectionAt, SlotAt}
use Rattle.macho_model.specs.Limits.{IsWritten32, function, language, personality, ImagePasses}
use Rattle.macho_unwind_pages.specs.declared.entries.UnwindInput.{UnwindInput}
use Rattle.macho_unwind_pages.specs.declared.entries.ResolvedUnwindInfo.{ResolvedUnwindInfo}
use Rattle.macho_unwind_pages.specs.Bounds.{unwind_bound_of}
use Rattle.macho_unwind_pages.specs.Orders.{in_order}
use Rattle.macho_unwind_pages.specs.Entries.{input_of, inputs_of}
use Rattle.macho_unwind_pages.specs.Plans.{IsFar, HasFarAddress, HasFarOffset}
use Rattle.macho_unwind.specs.Entries.{HasFarPage}
use Rattle.macho_unwind.proofs.OnePlace.{far_page}
use Rattle.macho_promise.specs.Sizes.{unwind_input, text_span, unwind_size, counts_with}
use Rattle.macho_promise.specs.UnwindSays.{moved, resolved, resolved_entries, IsUnwindText}
use Rattle.macho_placed_laws.proofs.Places.{slots_are_had}
use Rattle.macho_synthetic.specs.declared.fault.MadeFault.{MadeFault}
use Rattle.macho_synthetic.specs.declared.fault.MadeFault.TheVariants.{TooLarge, OutOfMemory}
use Rattle.macho_synthetic.specs.Made.{IsToMake, IsUnwindMade, IsRefused}
use Rattle.macho_synthetic.specs.steps.Built.{IsBuilt, HasFarEnd, IsNotBuilt}
use Rattle.macho_synthetic.proofs.OffsetTexts.{lists_all}
use Rattle.macho_synthetic.proofs.EntryFacts.{has_data}
use Rattle.macho_synthetic.proofs.EntryPlaces.{placed_at, function_stands}
use Rattle.macho_synthetic.proofs.PersonalitySlots.{person_slotted, person_listed}
use Rattle.macho_synthetic.proofs.Sound.{inputs_resolved, resolved_sound}
use Rattle.macho_synthetic.proofs.TextSpan.{starts_span}
use Rattle.macho_promise.specs.steps.UnwindSays.{personality_of}
use Rattle.macho_model.proofs.Parts.{in_segment_of}

-- an entry at its address is that of an entry
pub of_entry : (l : Link) (p : Placed) (e : ResolvedUnwindInfo) → Contains (resolved_entries l p) e
    → (d : EntryId) × Contains (entries_of_link l) d × (resolved l p d ≡ e)
unfolding resolved_entries
of_entry l p e has = map_contains (resolved l p) (entries_of_link l) e has

-- THE numbers of the counts
pub unwind_counted : (l : Link) (counts : Counts) (p : Placed) → IsToMake l counts p → counts.unwind ≡ unwind_size l
unfolding counts_with
unwind_counted l counts p make = ap (λ (c : Counts). c.unwind) make.counted.are

-- how many entries there are
pub as_many : (l : Link) (p : Placed) → length (resolved_entries l p) ≡ length (entries_of_link l)
unfolding resolved_entries
as_many l p = length-map (entries_of_link l) (resolved l p)

-- the room of one entry or more
pub room_is : (l : Link) (p : Placed) → 0 < length (resolved_entries l p)
    → unwind_bound_of (inputs_of (resolved_entries l p)) (text_span l) ≡ unwind_size l
room_is l p some =
    let more : (length (entries_of_link l) == 0) ≡ false = unequal (length (entries_of_link l)) (omega (arith, some, as_many l p)) in
    ap (λ (xs : List UnwindInput). unwind_bound_of xs (text_span l)) (inputs_resolved l p)
    ∙ sym (ap (λ (t : Bool). cond t 0 (unwind_bound_of (map (unwind_input l) (entries_of_link l)) (text_span l))) more)
  where
    unequal : (n : ℕ) → 0 < n → (n == 0) ≡ false
    unequal n some = grind (arith, nat_tests)

-- a placed section is where it is
at_place : (p : Placed) (q : PlacedSection) (f : SectionId) → Contains p.sections q → id_of q ≡ f → SectionAt p f.file f.section q.address
at_place p q f has id = (q, has, ap (λ (s : SectionId). s.file) id, ap (λ (s : SectionId). s.section) id, refl)

-- a function's start, or its end
function_written : (l : Link) (counts : Counts) (p : Placed) (d : EntryId) (extra : ℕ) → IsToMake l counts p
    → Contains (entries_of_link l) d
    → (extra ≡ 0) ⊎ (extra ≡ (unwind_entry l d.of_section d.entry).length) → IsWritten32 l p ((resolved l p d).start + extra)
function_written l counts p d extra make has which =
    let at = function_stands l counts p d make has in
    let here : Contains (relocations_in_entry l d.of_section d.entry START_PLACE) at.r =
    subst (λ (rs : List ℕ). Contains rs at.r) (sym at.start.one) (contains_first at.r []) in
    subst (IsWritten32 l p) (ap (λ (n : ℕ). n + extra) (sym at.is))
    (function d at.r at.q.address extra has here (at_place p at.q (section_named l d.of_section at.r) at.has at.id) which)

data_written : (l : Link) (counts : Counts) (p : Placed) (d : EntryId) (r : ℕ) → IsToMake l counts p → Contains (entries_of_link l) d
    → Contains (relocations_in_entry l d.of_section d.entry LSDA_PLACE) r
    → IsWritten32 l p (moved l p d (unwind_entry l d.of_section d.entry).lsda r)
data_written l counts p d r make has here =
    let f : SectionId = section_named l d.of_section r in
    let it = has_data l d r make.objects make.entries has here in
    let at = placed_at l counts p f ((unwind_entry l d.of_section d.entry).lsda - (header_at l f).addr) make it.carried in
    subst (IsWritten32 l p) (sym at.is) (language d r at.q.address has here (at_place p at.q f at.has at.id))

slot_written : (l : Link) (counts : Counts) (p : Placed) (d : EntryId) (r : ℕ) → IsToMake l counts p → Contains (entries_of_link l) d
    → Contains (relocations_in_entry l d.of_section d.entry PERSONALITY_PLACE) r
    → IsWritten32 l p (slot_address p (target_of_relocation l d.of_section r))
slot_written l counts p d r make has here =
    let t : Target = target_of_relocation l d.of_section r in
    let at : SlotAt p 0 t (slot_address p t + 0) = slots_are_had l p 0 t (lists_all l counts p make) (person_slotted l d r has here) in
    personality t (slot_address p t) (person_listed l d r has here) (subst (SlotAt p 0 t) (omega arith) at)

-- a far address of an entry
passes : (l : Link) (p : Placed) (x : ℕ) → IsWritten32 l p x → p.base + 2 ^ 32 ≤ x → ImagePasses l p
passes l p x written far = inr (inr (x, written, far))

far_slot : (l : Link) (counts : Counts) (p : Placed) (d : EntryId) (rs : List ℕ) → IsToMake l counts p → Contains (entries_of_link l) d
    → relocations_in_entry l d.of_section d.entry PERSONALITY_PLACE ≡ rs
    → IsSomeAnd (option_map (personality_of l p d) (slice_get rs 0)) (λ q. IsFar p.base q.slot) → ImagePasses l p
far_slot l counts p d [] make has is far = absurd far
far_slot l counts p d (r ∷ rs) make has is far =
    passes l p (slot_address p (target_of_relocation l d.of_section r))
    (slot_written l counts p d r make has (subst (λ (xs : List ℕ). Contains xs r) (sym is) (contains_first r rs))) far

far_data : (l : Link) (counts : Counts) (p : Placed) (d : EntryId) (rs : List ℕ) → IsToMake l counts p → Contains (entries_of_link l) d
    → relocations_in_entry l d.of_section d.entry LSDA_PLACE ≡ rs
    → IsSomeAnd (option_map (moved l p d (unwind_entry l d.of_section d.entry).lsda) (slice_get rs 0)) (IsFar p.base) → ImagePasses l p
far_data l counts p d [] make has is far = absurd far
far_data l counts p d (r ∷ rs) make has is far =
    passes l p (moved l p d (unwind_entry l d.of_section d.entry).lsda r)
    (data_written l counts p d r make has (subst (λ (xs : List ℕ). Contains xs r) (sym is) (contains_first r rs))) far

far_address : (l : Link) (counts : Counts) (p : Placed) (d : EntryId) → IsToMake l counts p → Contains (entries_of_link l) d
    → HasFarAddress p.base (resolved l p d) → ImagePasses l p
far_address l counts p d make has (inl start) =
    passes l p ((resolved l p d).start + 0) (function_written l counts p d 0 make has (inl refl)) (omega (arith, start))
far_address l counts p d make has (inr (inl slot)) = far_slot l counts p d (relocations_in_entry l d.of_section d.entry PERSONALITY_PLACE)
    make has refl slot
far_address l counts p d make has (inr (inr lsda)) = far_data l counts p d (relocations_in_entry l d.of_section d.entry LSDA_PLACE) make
    has refl lsda

far_end : (l : Link) (counts : Counts) (p : Placed) (d : EntryId) → IsToMake l counts p → Contains (entries_of_link l) d
    → p.base + 2 ^ 32 ≤ (resolved l p d).start + (resolved l p d).length → ImagePasses l p
far_end l counts p d make has far =
    passes l p ((resolved l p d).start + (unwind_entry l d.of_section d.entry).length)
    (function_written l counts p d (unwind_entry l d.of_section d.entry).length make has (inr refl)) far

-- one of an entry that is given by its address
by_entry : (P : ResolvedUnwindInfo → Type 0) (l : Link) (p : Placed) (e : ResolvedUnwindInfo) → Contains (resolved_entries l p) e → P e
    → (d : EntryId) × Contains (entries_of_link l) d × P (resolved l p d)
by_entry P l p e has holds = let of = of_entry l p e has in (of.0, of.1, subst P (sym of.2) holds)

far_offset : (l : Link) (counts : Counts) (p : Placed) → IsToMake l counts p → HasFarOffset p.base (resolved_entries l p) → ImagePasses l p
far_offset l counts p make (e, has, inl far) =
    let of = by_entry (HasFarAddress p.base) l p e has far in far_address l counts p of.0 make of.1 of.2
far_offset l counts p make (e, has, inr (last, far)) =
    let of = by_entry (λ x. IsFar p.base (x.start + x.length)) l p e has far in far_end l counts p of.0 make of.1 of.2

-- a room of 2^32 bytes or more
large_room : (l : Link) (counts : Counts) (p : Placed) → IsToMake l counts p → 2 ^ 32 ≤ unwind_size l → ImagePasses l p
large_room l counts p make large = by (in_segment_of make.placed.placed).unwind.1
  where
    room : p.unwind.end ≡ p.unwind.start + unwind_size l
    room = make.placed.least.rooms.unwind ∙ ap (λ (n : ℕ). p.unwind.start + n) (unwind_counted l counts p make)

    by : (p.unwind.end ≡ p.unwind.start) ⊎ LiesInNamed p TEXT true (range_span p.unwind) → ImagePasses l p
    by (inl none) = absurd (omega (arith, none, room, large))
    by (inr lies) =
        let s : PlacedSegment = lies.0 in
        inl (s, lies.1, inr (omega (arith, lies.3.from, lies.3.to, room, large)))

-- no entries have little room
no_room : (span : ℕ) (xs : List UnwindInput) → length xs ≡ 0 → unwind_bound_of xs span ≤ 40
unfolding in_order
no_room span [] none = omega arith
no_room span (x ∷ xs) none = absurd (omega arith)

far_page_passes : (l : Link) (counts : Counts) (p : Placed) → IsToMake l counts p → HasFarPage p.base (resolved_entries l p)
    → ImagePasses l p
far_page_passes l counts p make far = by (cases_lt 0 (length (resolved_entries l p)))
  where
    large : 2 ^ 32 ≤ unwind_bound_of (inputs_of (resolved_entries l p)) (text_span l)
    large = far_page p.base (text_span l) (resolved_entries l p) (resolved_sound l counts p make).are far (starts_span l counts p make)

    by : (0 < length (resolved_entries l p)) ⊎ (length (resolved_entries l p) ≤ 0) → ImagePasses l p
    by (inl some) = large_room l counts p make (omega (arith, large, room_is l p some))
    by (inr none) =
        let long : length (inputs_of (resolved_entries l p)) ≡ length (resolved_entries l p) = length-map (resolved_entries l p) input_of in
        absurd (omega (arith, large, no_room (text_span l) (inputs_of (resolved_entries l p)) (omega (arith, long, none))))

-- THE refusal
pub not_built : (l : Link) (counts : Counts) (p : Placed) (base : ℕ) (entries : List ResolvedUnwindInfo) (fault : MadeFault)
    → IsToMake l counts p
    → base ≡ p.base → entries ≡ resolved_entries l p → IsNotBuilt base entries fault → IsRefused l p fault
not_built l counts p base entries TooLarge make at same why =
    by (subst (λ (es : List ResolvedUnwindInfo). IsNotBuilt p.base es TooLarge) same
    (subst (λ (n : ℕ). IsNotBuilt n entries TooLarge) at why))
  where
    by : HasFarEnd p.base (resolved_entries l p) ⊎ HasFarOffset p.base (resolved_entries l p) ⊎ HasFarPage p.base (resolved_entries l p)
        → ImagePasses l p
    by (inl (e, has, far)) =
        let of = by_entry (λ x. p.base + 2 ^ 32 ≤ x.start + x.length) l p e has far in far_end l counts p of.0 make of.1 of.2
    by (inr (inl far)) = far_offset l counts p make far
    by (inr (inr far)) = far_page_passes l counts p make far
not_built l counts p base entries OutOfMemory make at same why = tt

-- THE text
fitting : (l : Link) (counts : Counts) (p : Placed) (text : List ℕ) → IsToMake l counts p → IsBuilt p.base (resolved_entries l p) text
    → length text ≤ unwind_size l
fitting l counts p text make built = by built.exact
  where
    by : IsUnwindText p.base (resolved_entries l p) text → length text ≤ unwind_size l
    by (inl none) = omega (arith, ap length none.1)
    by (inr some) = omega (arith, built.fits (text_span l) (starts_span l counts p make), room_is l p some.0)

pub built_made : (l : Link) (counts : Counts) (p : Placed) (base : ℕ) (entries : List ResolvedUnwindInfo) (text : List ℕ)
    → IsToMake l counts p
    → base ≡ p.base → entries ≡ resolved_entries l p → IsBuilt base entries text → IsUnwindMade l p text
built_made l counts p base entries text make at same b =
    let built = subst (λ (es : List ResolvedUnwindInfo). IsBuilt p.base es text) same (subst (λ (n : ℕ). IsBuilt n entries text) at b) in
    record {
      exact = built.exact;
      found = built.found;
      only = built.only;
      room = fitting l counts p text make built;
      near = built.near;
      ends = built.ends;
    }
