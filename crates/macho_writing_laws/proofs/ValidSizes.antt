-- Numbers of a placed valid link fit: pages of a segment, and what 32 bits tell.
--
-- Segments are near the front of the file, so their pages are few and their tables end early; the one that keeps addresses free has no
-- bytes there. An address that is written as an offset from the base is near it: an initializer is a target, a function and its language
-- data lie in carried sections, and a personality is found by a slot.
use Rattle.std.proofs.Common.{◌≡◌, ℕ, zero, suc, ◌+◌, ◌-◌, ◌*◌, ◌/◌, ◌%◌, ◌^◌, ◌<◌, ◌≤◌, ◌==◌, ◌&&◌, ◌||◌, not, nat_le, nat_lt, true, false, List, [], ◌∷◌, ◌++◌, length, get_or, map, filter, refl, sym, ap, subst, ◌∙◌, arith, inl, inr, Some}
use Rattle.std.specs.Prelude.{Contains}
use Rattle.std.specs.List.{flat_map, list_all, range_with_len}
use Rattle.std.specs.Str.{bytes_eq}
use Rattle.std.proofs.lemmas.Bool.{cases_Bool, and_parts, eqb-true, eq-eqb, leb-true, true≢false}
use Rattle.std.proofs.lemmas.Nat.{pow_pos}
use Rattle.std.proofs.lemmas.List.Elements.{All-contains, Contains-append_left, Contains-append_right}
use Rattle.std.specs.FinMap.{empty}
use Rattle.macho_records.specs.Segments.{text_of}
use Rattle.macho_records.specs.declared.constants.TheConstants.{ARM64_RELOC_ADDEND, ARM64_RELOC_UNSIGNED, S_MOD_INIT_FUNC_POINTERS}
use Rattle.macho_records.specs.Sections.{type_of, should_exclude_of}
use Rattle.macho_model.specs.declared.placed.Counts.{Counts}
use Rattle.macho_model.specs.declared.placed.PlacedSegment.{PlacedSegment}
use Rattle.macho_model.specs.declared.placed.Range64.{Range64}
use Rattle.macho_model.specs.declared.rules.UnwindRule.TheVariants.{U4, U5, U7}
use Rattle.macho_model.specs.declared.targets.Limit.{Limit}
use Rattle.macho_model.specs.declared.targets.Limit.TheVariants as limit
use Rattle.macho_model.specs.declared.targets.Target.{Target}
use Rattle.macho_model.specs.declared.targets.Target.TheVariants as target
use Rattle.macho_model.specs.ExportLists.{plain_entries}
use Rattle.macho_model.specs.Links.{Link, SectionId, header_at, carried_of, sections_of, is_carried, is_initializers}
use Rattle.macho_model.specs.Needs.{relocation_in, section_named, relocations_of, relocations_at, initializer_sections, unwind_sections, is_imported, PERSONALITY_PLACE}
use Rattle.macho_model.specs.Uses.{ByInitializer, ByName, uses_of, carried_uses, initializer_uses, personality_uses}
use Rattle.macho_model.specs.Resolution.{chosen_commons}
use Rattle.macho_model.specs.Targets.{is_import, is_defined, target_of_relocation, slots_of}
use Rattle.macho_model.specs.Segments.{PAGEZERO, TEXT, DATA_CONST, DATA, LINKEDIT, may_hold_pointers, list_if, has_section_in, other_segments, segment_rank, segment_names_of}
use Rattle.macho_model.specs.Rows.{is_none}
use Rattle.macho_model.specs.Consumed.{EntryId, entries_of_link, entry_count, is_plain_pointer, is_section_target, relocations_in_entry, unwind_entry, START_PLACE, LSDA_PLACE, holds_functions, lies_in, starts_in}
use Rattle.macho_model.specs.Placement.{Placed, id_of, is_segment_named, linkedit_ranges}
use Rattle.macho_model.specs.steps.Least.{least_file_size}
use Rattle.macho_model.proofs.Least.{LiesInFile, tables_lie}
use Rattle.macho_model.specs.Stands.{SectionAt, IsAt}
use Rattle.macho_model.specs.Values.{is_absolute_target}
use Rattle.macho_model.specs.Limits.{PassesLimit, ImagePasses, IsWritten32}
use Rattle.macho_model.specs.Limits as written
use Rattle.macho_model.proofs.Unrefused.{valid_initializers, valid_slot, valid_at_slot, valid_entry}
use Rattle.macho_model.proofs.Words.{initializer_relocation_fits}
use Rattle.macho_image_laws.proofs.Inputs.{section_of_file}
use Rattle.macho_image_laws.proofs.Targets.{relocation_has}
use Rattle.macho_image_laws.proofs.Leading.{each_passes}
use Rattle.macho_writing_laws.proofs.Ranges.{VALID_SUM, IsValidPlaced, IsNear, segment_near, section_near, follow_at}
use Rattle.macho_writing_laws.proofs.Near.{same_id, target_near, slot_at_near}
use Rattle.macho_model.proofs.Outputs.{least_of}
use Rattle.macho_bytes.proofs.Comparing.{bytes_same}
use Rattle.macho_bytes.proofs.Members.{contains_map, map_contains, contains_filter as in_filter, contains_flat_map, flat_map_contains, contains_range, range_contains}
use Rattle.macho_model.proofs.Sections.{initializer_section}
use Rattle.macho_writing_laws.proofs.Tables.{pointers_above}

-- the segment that keeps addresses free has no bytes in the file
pagezero_rank : (l : Link) (name : List ℕ) → bytes_eq name PAGEZERO ≡ true → segment_rank l name ≡ 0
unfolding segment_rank
pagezero_rank l name is = rw is refl

pagezero_file : (l : Link) (counts : Counts) (p : Placed) (s : PlacedSegment) → IsValidPlaced l counts p → Contains p.segments s
    → is_segment_named PAGEZERO s ≡ true → (s.file_offset ≡ 0) × (s.file_size ≡ 0)
pagezero_file l counts p s h (k, lt, at) named = (
  front k lt at,
  All-contains (λ (x : PlacedSegment). x.file_size ≡ least_file_size l counts p x) p.segments s (least_of h.laid.least).file_sizes
      (k, lt, at) ∙ none,
)
  where
    none : least_file_size l counts p s ≡ 0
    none = rw named refl

    front : (k : ℕ) → k < length p.segments → get_or p.segments k s ≡ s → s.file_offset ≡ 0
    front zero lt at = h.laid.least.front s (lt, at)
    front (suc k) lt at =
        let step = follow_at l p.segments h.placed.follow k s lt in
        let rank : segment_rank l (text_of (get_or p.segments (suc k) s).name) ≡ 0 =
        ap (λ (x : PlacedSegment). segment_rank l (text_of x.name)) at ∙ pagezero_rank l (text_of s.name) named in
        absurd (omega (arith, step.rank, rank))

pub no_more_than : (l : Link) (counts : Counts) (p : Placed) (what : Limit) (number : ℕ) → IsValidPlaced l counts p
    → PassesLimit l counts what number (Some p) → ⊥
no_more_than l counts p limit.Pages number h (s, one, may, is, more) =
    let near = segment_near l counts p s h one (pointers_above (text_of s.name) may) in
    omega (arith, is, more, near.file)
no_more_than l counts p limit.Segments number h passes = passes
no_more_than l counts p limit.Libraries number h passes = passes
no_more_than l counts p limit.Sections number h passes = passes
no_more_than l counts p limit.Personalities number h passes = passes
no_more_than l counts p limit.Imports number h passes = passes
no_more_than l counts p limit.NameBytes number h passes = passes
no_more_than l counts p limit.Symbols number h passes = passes

-- `__LINKEDIT` is there
linkedit_named : (l : Link) → Contains (segment_names_of l) LINKEDIT
unfolding segment_names_of
linkedit_named l =
    Contains-append_right
    (list_if l.executable (PAGEZERO ∷ []) ++ TEXT ∷ [] ++ list_if (has_section_in l DATA_CONST || not (length (slots_of l) == 0))
    (DATA_CONST ∷ [])
    ++ list_if (has_section_in l DATA || not (length (chosen_commons l) == 0)) (DATA ∷ []) ++ other_segments l) (LINKEDIT ∷ []) LINKEDIT
    (0, omega arith, refl)

linkedit_end : (l : Link) (counts : Counts) (p : Placed) (r : Range64) → IsValidPlaced l counts p → Contains (linkedit_ranges p) r
    → r.end ≤ VALID_SUM
linkedit_end l counts p r h one =
    let names = subst (λ (ns : List (List ℕ)). Contains ns LINKEDIT) (sym h.laid.segments) (linkedit_named l) in
    let m = map_contains (λ (s : PlacedSegment). text_of s.name) p.segments LINKEDIT names in
    let named : is_segment_named LINKEDIT m.0 ≡ true = ap (λ (n : List ℕ). bytes_eq n LINKEDIT) m.2 ∙ bytes_same LINKEDIT in
    let there = in_filter (is_segment_named LINKEDIT) p.segments m.0 m.1 named in
    let lies =
    All-contains (LiesInFile p.segments) (linkedit_ranges p) r (tables_lie l counts p h.laid.segments (least_of h.laid.least)) one in
    let part = All-contains (λ (s : PlacedSegment). (s.file_offset ≤ r.start) × (r.start ≤ r.end) × (r.end ≤ s.file_offset + s.file_size))
    (filter (is_segment_named LINKEDIT) p.segments) m.0 lies there in
    let near = segment_near l counts p m.0 h m.1 (ap (λ (n : List ℕ). bytes_eq n PAGEZERO) m.2) in
    omega (arith, part.2, near.file)

initializer_use : (l : Link) (s : SectionId) (r slot : ℕ) → Contains (initializer_sections l) s → slot < (header_at l s).size / 8
    → Contains (relocations_at l s (8 * slot)) r → Contains (uses_of l) (ByInitializer s r)
unfolding uses_of
initializer_use l s r slot one within there =
    Contains-append_left
    (flat_map (carried_uses l) (carried_of l) ++ flat_map (initializer_uses l) (initializer_sections l) ++ flat_map (personality_uses l)
    (unwind_sections l))
    (map ByName (filter (is_imported l) (plain_entries l.export_lists))) (ByInitializer s r)
    (Contains-append_left (flat_map (carried_uses l) (carried_of l) ++ flat_map (initializer_uses l) (initializer_sections l))
    (flat_map (personality_uses l) (unwind_sections l)) (ByInitializer s r)
    (Contains-append_right (flat_map (carried_uses l) (carried_of l)) (flat_map (initializer_uses l) (initializer_sections l))
    (ByInitializer s r)
    (contains_flat_map (initializer_uses l) (initializer_sections l) s (ByInitializer s r) one
    (contains_flat_map (λ (k : ℕ). map (ByInitializer s) (relocations_at l s (8 * k))) (range_with_len 0 ((header_at l s).size / 8)) slot
    (ByInitializer s r)
    (contains_range ((header_at l s).size / 8) slot within) (contains_map (ByInitializer s) (relocations_at l s (8 * slot)) r there)))))

section_target : (t : Target) → is_section_target t ≡ true → (is_none t ≡ false) × (is_absolute_target t ≡ false) × (is_import t ≡ false)
section_target (target.Section file section offset) h = (refl, refl, refl)
section_target (target.Common id) h = absurd (true≢false (sym h))
section_target (target.Import id) h = absurd (true≢false (sym h))
section_target target.Base h = absurd (true≢false (sym h))
section_target (target.Absolute value) h = absurd (true≢false (sym h))
section_target target.None h = absurd (true≢false (sym h))

initializer_near : (l : Link) (counts : Counts) (p : Placed) (s : SectionId) (r x : ℕ) → IsValidPlaced l counts p
    → Contains (initializer_sections l) s
    → r < (header_at l s).nreloc → IsAt l p 0 empty (target_of_relocation l s r) x → IsNear p x
initializer_near l counts p s r x h one within at =
    let file = section_of_file l s h.objects (initializer_section l s one) in
    let inside = leb-true ((relocation_in l s r).r_address + 2 ^ (relocation_in l s r).r_length) (header_at l s).size
    (file.file.object.o10.1 s.section r file.within within) in
    let eight = eqb-true ((relocation_in l s r).r_address % 8) 0 (valid_at_slot l counts s r h.valid one within) in
    let whole = eqb-true ((header_at l s).size % 8) 0
    (and_parts (type_of (header_at l s) == S_MOD_INIT_FUNC_POINTERS) ((header_at l s).size % 8 == 0)
    (valid_initializers l counts s h.valid one)).1 in
    let slot : ℕ = (relocation_in l s r).r_address / 8 in
    let place : (relocation_in l s r).r_address ≡ 8 * slot = omega (arith, eight) in
    let end : 8 * slot + 8 ≤ (header_at l s).size = omega (arith, inside, whole, place, pow_pos (relocation_in l s r).r_length) in
    let n = (header_at l s).nreloc in
    let there : Contains (relocations_at l s (8 * slot)) r =
    in_filter (λ k. (relocation_in l s k).r_address == 8 * slot) (relocations_of l s) r (contains_range n r within)
    (eq-eqb (relocation_in l s r).r_address (8 * slot) place) in
    let slot_fits = valid_slot l counts s slot h.valid one end in
    let all = (and_parts (length (relocations_at l s (8 * slot)) == 1)
    (list_all (initializer_relocation_fits l s) (relocations_at l s (8 * slot)))
    (and_parts ((length (relocations_at l s (8 * slot)) == 1) && list_all (initializer_relocation_fits l s)
    (relocations_at l s (8 * slot))) _ slot_fits).0).1 in
    let fits = each_passes (initializer_relocation_fits l s) (relocations_at l s (8 * slot)) r all there in
    let both = and_parts (is_plain_pointer (relocation_in l s r) && (relocation_in l s r).r_extern)
    (is_section_target (target_of_relocation l s r)) fits in
    let type = eqb-true (relocation_in l s r).r_type ARM64_RELOC_UNSIGNED
    (and_parts ((relocation_in l s r).r_type == ARM64_RELOC_UNSIGNED) _
    (and_parts (((relocation_in l s r).r_type == ARM64_RELOC_UNSIGNED) && ((relocation_in l s r).r_length == 3)) _
    (and_parts (is_plain_pointer (relocation_in l s r)) (relocation_in l s r).r_extern both.0).0).0).0 in
    let t = section_target (target_of_relocation l s r) both.1 in
    let has = relocation_has l s r (ByInitializer s r) h.objects file within
    (initializer_use l s r slot one (omega (arith, end)) there) refl
    (ap (λ (k : ℕ). k == ARM64_RELOC_ADDEND) type) t.0 t.1 in
    target_near l counts p empty (target_of_relocation l s r) x h has t.2 at

-- entries of unwind information
entry_of : (l : Link) (d : EntryId) → Contains (entries_of_link l) d → Contains (unwind_sections l) d.of_section
    × (d.entry < entry_count l d.of_section)
unfolding entries_of_link
entry_of l d one =
    let m = flat_map_contains (λ s. map (λ e. record { of_section = s; entry = e }) (range_with_len 0 (entry_count l s)))
    (unwind_sections l) d one in
    let e = map_contains (λ e. record { of_section = m.0; entry = e }) (range_with_len 0 (entry_count l m.0)) d m.2 in
    subst (λ (x : EntryId). Contains (unwind_sections l) x.of_section × (x.entry < entry_count l x.of_section)) e.2
    (m.1, range_contains (entry_count l m.0) e.0 e.1)

-- an address of the input in a section, where the section is placed
lies_near : (l : Link) (counts : Counts) (p : Placed) (f : SectionId) (address size at extra : ℕ) → IsValidPlaced l counts p
    → lies_in l f address size ≡ true
    → SectionAt p f.file f.section at → extra ≤ size → at + (address - (header_at l f).addr) + extra ≤ p.base + VALID_SUM
lies_near l counts p f address size at extra h lies (q, one, file_is, section_is, is) fits =
    let near = section_near l counts p q h one in
    let same : (header_at l (id_of q)).size ≡ (header_at l f).size = ap (λ (s : SectionId). (header_at l s).size)
    (same_id q f.file f.section file_is section_is) in
    let both = and_parts (nat_le (header_at l f).addr address && nat_lt address ((header_at l f).addr + (header_at l f).size))
    (nat_le (address + size) ((header_at l f).addr + (header_at l f).size)) lies in
    let low = leb-true (header_at l f).addr address (and_parts (nat_le (header_at l f).addr address) _ both.0).0 in
    let high = leb-true (address + size) ((header_at l f).addr + (header_at l f).size) both.1 in
    omega (arith, near.1, same, low, high, fits, is)

-- THE addresses that are written in 32 bits
written_near : (l : Link) (counts : Counts) (p : Placed) (x : ℕ) → IsValidPlaced l counts p → IsWritten32 l p x → x ≤ p.base + VALID_SUM
written_near l counts p x h (written.IsWritten32.initializer s r _ one within at) = (initializer_near l counts p s r x h one within at).1
written_near l counts p _ h (written.IsWritten32.function d r at extra one there place extent) =
    let e = entry_of l d one in
    let s = d.of_section in
    let start = valid_entry l counts s d.entry U4 h.valid e.0 e.1 in
    let named = (and_parts (not (relocation_in l s r).r_extern) (holds_functions l (section_named l s r))
    (each_passes (λ k. not (relocation_in l s k).r_extern && holds_functions l (section_named l s k))
    (relocations_in_entry l s d.entry START_PLACE) r
    (and_parts (not (length (relocations_in_entry l s d.entry START_PLACE) == 0)) _ start).1 there)).0 in
    let inside = valid_entry l counts s d.entry U5 h.valid e.0 e.1 in
    let lies = each_passes (λ k. lies_in l (section_named l s k) (unwind_entry l s d.entry).start (unwind_entry l s d.entry).length)
    (starts_in l s d.entry) r inside
    (in_filter (λ k. not (relocation_in l s k).r_extern) (relocations_in_entry l s d.entry START_PLACE) r there named) in
    let fits : extra ≤ (unwind_entry l d.of_section d.entry).length = elim extent [ inl z ↦ omega (arith, z) | inr z ↦ omega (arith, z) ] in
    lies_near l counts p (section_named l s r) (unwind_entry l s d.entry).start (unwind_entry l s d.entry).length at extra h lies place fits
written_near l counts p _ h (written.IsWritten32.language d r at one there place) =
    let e = entry_of l d one in
    let s = d.of_section in
    let fit = valid_entry l counts s d.entry U7 h.valid e.0 e.1 in
    let second =
    (and_parts (list_all
    (λ k. (relocation_in l s k).r_extern && (is_defined (target_of_relocation l s k) || is_import (target_of_relocation l s k)))
    (relocations_in_entry l s d.entry PERSONALITY_PLACE)) _ fit).1 in
    let each = each_passes
    (λ k. not (relocation_in l s k).r_extern && is_carried (header_at l (section_named l s k)) && lies_in l (section_named l s k)
    (unwind_entry l s d.entry).lsda 0)
    (relocations_in_entry l s d.entry LSDA_PLACE) r second there in
    let lies = (and_parts (not (relocation_in l s r).r_extern && is_carried (header_at l (section_named l s r)))
    (lies_in l (section_named l s r) (unwind_entry l s d.entry).lsda 0) each).1 in
    let sum = lies_near l counts p (section_named l s r) (unwind_entry l s d.entry).lsda 0 at 0 h lies place (omega arith) in
    omega (arith, sum)
written_near l counts p x h (written.IsWritten32.personality t _ one at) = (slot_at_near l counts p t x h at).1

pub no_image_passes : (l : Link) (counts : Counts) (p : Placed) → IsValidPlaced l counts p → ImagePasses l p → ⊥
no_image_passes l counts p h (inl (s, one, big)) =
    elim (cases_Bool (is_segment_named PAGEZERO s)) [
      | inl free ↦
          let none = pagezero_file l counts p s h one free in
          elim big [ inl offset ↦ omega (arith, offset, none.0) | inr size ↦ omega (arith, size, none.1) ]
      | inr other ↦
          let near = segment_near l counts p s h one other in
          elim big [ inl offset ↦ omega (arith, offset, near.file) | inr size ↦ omega (arith, size, near.file) ]
    ]
no_image_passes l counts p h (inr (inl (r, one, passes))) = omega (arith, passes, linkedit_end l counts p r h one)
no_image_passes l counts p h (inr (inr (x, written_as, far))) = omega (arith, far, written_near l counts p x h written_as)
