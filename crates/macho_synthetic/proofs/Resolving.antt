-- What the look-ups tell of an entry's row is the entry at its address in the placement.
--
-- A start and language data move with the section that their relocations name; the personality's symbol leads where its relocation
-- does, so it has the slot, and the number of the slot, of that target.
use Rattle.std.proofs.Common.{◌≡◌, ℕ, ◌+◌, ◌-◌, List, [], ◌∷◌, map, Some, refl, sym, ap, subst, ◌∙◌, arith}
use Rattle.std.specs.Prelude.{Contains, option_map, slice_get}
use Rattle.std.specs.List.{position_or_len}
use Rattle.macho_bytes.proofs.Members.{contains_first}
use Rattle.macho_model.specs.declared.placed.Counts.{Counts}
use Rattle.macho_model.specs.declared.targets.Target.{Target}
use Rattle.macho_model.specs.Links.{Link, header_at}
use Rattle.macho_model.specs.Needs.{relocation_in, section_named, PERSONALITY_PLACE}
use Rattle.macho_model.specs.Targets.{same_target, target_of, target_of_relocation, slots_of, slot_number}
use Rattle.macho_model.specs.Consumed.{EntryId, entries_of_link, relocations_in_entry, unwind_entry, START_PLACE, LSDA_PLACE}
use Rattle.macho_model.specs.Placement.{Placed}
use Rattle.macho_model.specs.Addresses.{slot_address}
use Rattle.macho_unwind_pages.specs.declared.entries.Personality.{Personality}
use Rattle.macho_unwind_pages.specs.declared.entries.ResolvedUnwindInfo.{ResolvedUnwindInfo}
use Rattle.macho_promise.specs.UnwindSays.{moved, start_of, resolved, resolved_entries}
use Rattle.macho_consumed.specs.Rows.{place_named, start_place, personality_use, entry_row, entry_rows}
use Rattle.macho_consumed.proofs.BoundInputs.{in_section}
use Rattle.macho_consumed.proofs.Joined.{mapped_agree}
use Rattle.macho_consumed.proofs.Leading.{pointer_leads}
use Rattle.macho_fields.specs.Looks.{Look, Tells}
use Rattle.macho_synthetic.specs.Entries.{address_at, target_used, personality_at, resolved_row}
use Rattle.macho_synthetic.specs.Made.{IsToMake}
use Rattle.macho_synthetic.proofs.Existing.{symbol_low}
use Rattle.macho_synthetic.proofs.EntryFacts.{section_there, relocation_low, relocation_plain, personality_extern, has_start}
use Rattle.macho_promise.specs.steps.UnwindSays.{personality_of}

-- a place in a named section
place_moved : (l : Link) (p : Placed) (look : Look) (d : EntryId) (address r : ℕ) → Tells l p look
    → address_at look d.of_section.file (place_named l d.of_section address r) ≡ moved l p d address r
place_moved l p look d address r tells =
    ap (λ (n : ℕ). n + (address - (header_at l (section_named l d.of_section r)).addr))
    (tells.addresses.sections d.of_section.file (section_named l d.of_section r).section)

start_moved : (l : Link) (p : Placed) (look : Look) (d : EntryId) (rs : List ℕ) (r : ℕ) → Tells l p look → rs ≡ r ∷ []
    → address_at look d.of_section.file (start_place l d (slice_get rs 0)) ≡ start_of l p d (slice_get rs 0)
start_moved l p look d rs r tells is =
    subst (λ (xs : List ℕ). address_at look d.of_section.file (start_place l d (slice_get xs 0)) ≡ start_of l p d (slice_get xs 0)) (sym is)
    (place_moved l p look d (unwind_entry l d.of_section d.entry).start r tells)

data_moved : (l : Link) (p : Placed) (look : Look) (d : EntryId) (rs : List ℕ) → Tells l p look
    → option_map (address_at look d.of_section.file) (option_map (place_named l d.of_section (unwind_entry l d.of_section d.entry).lsda)
    (slice_get rs 0))
    ≡ option_map (moved l p d (unwind_entry l d.of_section d.entry).lsda) (slice_get rs 0)
data_moved l p look d [] tells = refl
data_moved l p look d (r ∷ rs) tells = ap (λ (n : ℕ). Some n) (place_moved l p look d (unwind_entry l d.of_section d.entry).lsda r tells)

-- the personality's target
pub person_leads : (l : Link) (counts : Counts) (p : Placed) (look : Look) (d : EntryId) (r : ℕ) → IsToMake l counts p → Tells l p look
    → Contains (entries_of_link l) d → Contains (relocations_in_entry l d.of_section d.entry PERSONALITY_PLACE) r
    → target_used look d.of_section.file (personality_use l d r) ≡ target_of_relocation l d.of_section r
unfolding target_of
person_leads l counts p look d r make tells has here =
    let s = d.of_section in
    let it = in_section l d has in
    let extern = personality_extern l d r make.entries has here in
    let low = symbol_low l s r make.objects (section_there l s it.there) (relocation_low l d PERSONALITY_PLACE r here) extern in
    tells.targets s.file (relocation_in l s r).r_symbolnum low
    ∙ sym (pointer_leads l s r (relocation_plain l d PERSONALITY_PLACE r make.entries it (omega arith) here) extern)

person_told : (l : Link) (counts : Counts) (p : Placed) (look : Look) (slots : List Target) (d : EntryId) (rs : List ℕ)
    → IsToMake l counts p
    → Tells l p look → slots ≡ slots_of l → Contains (entries_of_link l) d
    → relocations_in_entry l d.of_section d.entry PERSONALITY_PLACE ≡ rs
    → option_map (personality_at look slots d.of_section.file) (option_map (personality_use l d) (slice_get rs 0))
    ≡ option_map (personality_of l p d) (slice_get rs 0)
person_told l counts p look slots d [] make tells same has is = refl
person_told l counts p look slots d (r ∷ rs) make tells same has is =
    let here : Contains (relocations_in_entry l d.of_section d.entry PERSONALITY_PLACE) r = subst (λ (xs : List ℕ). Contains xs r)
    (sym is) (contains_first r rs) in
    let leads = person_leads l counts p look d r make tells has here in
    let t : Target = target_of_relocation l d.of_section r in
    let id : position_or_len (same_target (target_used look d.of_section.file (personality_use l d r))) slots ≡ slot_number l t =
    ap (λ (u : Target). position_or_len (same_target u) slots) leads ∙ ap (position_or_len (same_target t)) same in
    let slot : look.slot (target_used look d.of_section.file (personality_use l d r)) ≡ slot_address p t = ap look.slot leads ∙
    tells.addresses.slots t in
    let both : personality_at look slots d.of_section.file (personality_use l d r) ≡ personality_of l p d r = λ i. record
    { id = id i; slot = slot i } in
    ap (λ (q : Personality). Some q) both

-- THE row at its address
pub row_resolved : (l : Link) (counts : Counts) (p : Placed) (look : Look) (slots : List Target) (d : EntryId) → IsToMake l counts p
    → Tells l p look → slots ≡ slots_of l → Contains (entries_of_link l) d → resolved_row look slots (entry_row l d) ≡ resolved l p d
unfolding entry_row
row_resolved l counts p look slots d make tells same has =
    let start = has_start l d make.objects make.entries has in
    let starts = start_moved l p look d (relocations_in_entry l d.of_section d.entry START_PLACE) start.0 tells start.1.one in
    let person = person_told l counts p look slots d (relocations_in_entry l d.of_section d.entry PERSONALITY_PLACE) make tells same has
    refl in
    let placed = data_moved l p look d (relocations_in_entry l d.of_section d.entry LSDA_PLACE) tells in
    λ i. record {
      start = starts i;
      length = (unwind_entry l d.of_section d.entry).length;
      encoding = (unwind_entry l d.of_section d.entry).encoding;
      personality = person i;
      lsda = placed i;
    }

-- and all rows
pub rows_resolved : (l : Link) (counts : Counts) (p : Placed) (look : Look) (slots : List Target) → IsToMake l counts p → Tells l p look
    → slots ≡ slots_of l → map (resolved_row look slots) (entry_rows l) ≡ resolved_entries l p
unfolding entry_rows resolved_entries
rows_resolved l counts p look slots make tells same =
    twice (entries_of_link l)
    ∙ mapped_agree (λ d. resolved_row look slots (entry_row l d)) (resolved l p) (entries_of_link l)
    (λ d has. row_resolved l counts p look slots d make tells same has)
  where
    twice : (ds : List EntryId) → map (resolved_row look slots) (map (entry_row l) ds) ≡ map
        (λ d. resolved_row look slots (entry_row l d)) ds
    twice [] = refl
    twice (d ∷ ds) = ap (λ (xs : List ResolvedUnwindInfo). resolved_row look slots (entry_row l d) ∷ xs) (twice ds)
