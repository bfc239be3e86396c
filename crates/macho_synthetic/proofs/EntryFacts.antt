-- What holds of an entry that keeps its rules.
--
-- It has one relocation of its start, by the number of a section that functions stand in; the function lies in that section as the
-- input has it. Its relocations are plain pointers: that of the personality to a symbol, that of language data by the number of a
-- carried section. And the bits that number personalities are clear.
use Rattle.std.proofs.Common.{◌≡◌, ℕ, ◌+◌, ◌*◌, ◌/◌, ◌%◌, ◌^◌, ◌<◌, ◌≤◌, ◌==◌, ◌&&◌, eq-eqb, not, nat_le, nat_lt, Bool, true, false, List, [], ◌∷◌, length, filter, refl, sym, ap, subst, arith}
use Rattle.std.specs.Prelude.{Contains}
use Rattle.std.proofs.lemmas.Bool.{leb-true, ltb-true, eqb-true}
use Rattle.macho_records.specs.Sections.{should_exclude_of}
use Rattle.macho_bytes.proofs.Members.{filter_contains, range_contains, contains_filter, contains_first, one_passes}
use Rattle.macho_model.specs.declared.rules.UnwindRule.TheVariants.{U2, U3, U4, U5, U7, U8}
use Rattle.macho_model.specs.Links.{Link, SectionId, header_at, is_carried, is_unwind_entries, sections_of, carried_of}
use Rattle.macho_model.specs.Needs.{relocation_in, section_named, relocations_of, unwind_sections, PERSONALITY_PLACE}
use Rattle.macho_model.specs.Consumed.{EntryId, entries_of_link, relocations_in_entry, unwind_entry, is_plain_pointer, holds_functions, lies_in, starts_in, START_PLACE, LSDA_PLACE}
use Rattle.macho_consumed.specs.Told.{EntriesKeepRules}
use Rattle.macho_consumed.proofs.BoundInputs.{IsInSection, in_section}
use Rattle.macho_consumed.specs.steps.Entries.{unwind_relocation_fits}
use Rattle.macho_model.specs.Grammar.{ObjectsAreRead}
use Rattle.macho_synthetic.proofs.Existing.{named_there}
use Rattle.macho_bytes.proofs.Bools.{and_left, and_right, false_of_not}

-- a section of entries is one of the link
pub section_there : (l : Link) (s : SectionId) → Contains (unwind_sections l) s → Contains (sections_of l) s
unfolding unwind_sections
section_there l s has = (filter_contains (λ t. not (should_exclude_of (header_at l t)) && is_unwind_entries (header_at l t))
    (sections_of l) s has).0

-- a relocation at one of the three places of an entry is one of the section, and a plain pointer
pub relocation_low : (l : Link) (d : EntryId) (place r : ℕ) → Contains (relocations_in_entry l d.of_section d.entry place) r
    → r < (header_at l d.of_section).nreloc
relocation_low l d place r has =
    range_contains (header_at l d.of_section).nreloc r
    (filter_contains (λ q. (relocation_in l d.of_section q).r_address == 32 * d.entry + place) (relocations_of l d.of_section) r has).0

pub relocation_plain : (l : Link) (d : EntryId) (place r : ℕ) → EntriesKeepRules l → IsInSection l d → place < 32
    → Contains (relocations_in_entry l d.of_section d.entry place) r → is_plain_pointer (relocation_in l d.of_section r) ≡ true
relocation_plain l d place r rules it small has =
    let s = d.of_section in
    let hit = filter_contains (λ q. (relocation_in l s q).r_address == 32 * d.entry + place) (relocations_of l s) r has in
    let address : (relocation_in l s r).r_address ≡ 32 * d.entry + place = eqb-true _ _ hit.1 in
    let mine : ((relocation_in l s r).r_address / 32 == d.entry) ≡ true = eq-eqb _ _ (omega (arith, address, small)) in
    and_left _ _ (one_passes (unwind_relocation_fits l s) (filter (λ q. (relocation_in l s q).r_address / 32 == d.entry)
    (relocations_of l s)) r
    (rules.unwind s d.entry U2 it.there it.within)
    (contains_filter (λ q. (relocation_in l s q).r_address / 32 == d.entry) (relocations_of l s) r hit.0 mine))

-- each place has one relocation at most
pub few_at_start : (l : Link) (d : EntryId) → EntriesKeepRules l → IsInSection l d
    → length (relocations_in_entry l d.of_section d.entry START_PLACE) ≤ 1
few_at_start l d rules it = leb-true _ _ (and_left _ _ (rules.unwind d.of_section d.entry U3 it.there it.within))

pub few_at_lsda : (l : Link) (d : EntryId) → EntriesKeepRules l → IsInSection l d
    → length (relocations_in_entry l d.of_section d.entry LSDA_PLACE) ≤ 1
few_at_lsda l d rules it =
    let single = rules.unwind d.of_section d.entry U3 it.there it.within in
    let later = and_right (nat_le (length (relocations_in_entry l d.of_section d.entry START_PLACE)) 1) _ single in
    leb-true _ _ (and_left _ _ (and_right (nat_le (length (relocations_in_entry l d.of_section d.entry PERSONALITY_PLACE)) 1) _ later))

-- The start of an entry.
pub record HasStart (l : Link) (d : EntryId) (r : ℕ) : Type 0 where
  pub one : relocations_in_entry l d.of_section d.entry START_PLACE ≡ r ∷ []
  pub by_number : (relocation_in l d.of_section r).r_extern ≡ false
  pub carried : Contains (carried_of l) (section_named l d.of_section r)
  pub holds : holds_functions l (section_named l d.of_section r) ≡ true
  pub inside : lies_in l (section_named l d.of_section r) (unwind_entry l d.of_section d.entry).start
      (unwind_entry l d.of_section d.entry).length ≡ true

pub has_start : (l : Link) (d : EntryId) → ObjectsAreRead l → EntriesKeepRules l → Contains (entries_of_link l) d → (r : ℕ) × HasStart l d r
has_start l d read rules has = by (relocations_in_entry l d.of_section d.entry START_PLACE) refl
  where
    it : IsInSection l d
    it = in_section l d has

    s : SectionId
    s = d.of_section

    by : (rs : List ℕ) → relocations_in_entry l s d.entry START_PLACE ≡ rs → (r : ℕ) × HasStart l d r
    by [] is =
        let fits : not (length (relocations_in_entry l s d.entry START_PLACE) == 0) ≡ true = and_left _ _
        (rules.unwind s d.entry U4 it.there it.within) in
        let none : not (length (relocations_in_entry l s d.entry START_PLACE) == 0) ≡ false = ap (λ (xs : List ℕ). not (length xs == 0))
        is in
        cc
    by (r ∷ q ∷ rs) is = absurd (omega (arith, few_at_start l d rules it, ap length is))
    by (r ∷ []) is =
        let here : Contains (relocations_in_entry l s d.entry START_PLACE) r = subst (λ (xs : List ℕ). Contains xs r) (sym is)
        (contains_first r []) in
        let fits = one_passes (λ q. not (relocation_in l s q).r_extern && holds_functions l (section_named l s q))
        (relocations_in_entry l s d.entry START_PLACE) r
        (and_right (not (length (relocations_in_entry l s d.entry START_PLACE) == 0)) _ (rules.unwind s d.entry U4 it.there it.within))
        here in
        let number = false_of_not _ (and_left _ _ fits) in
        let holds : holds_functions l (section_named l s r) ≡ true = and_right (not (relocation_in l s r).r_extern) _ fits in
        let named : Contains (starts_in l s d.entry) r =
        contains_filter (λ q. not (relocation_in l s q).r_extern) (relocations_in_entry l s d.entry START_PLACE) r here
        (and_left _ _ fits) in (
          r,
          record {
            one = is;
            by_number = number;
            carried = named_there l s r read (section_there l s it.there) (relocation_low l d START_PLACE r here)
                (relocation_plain l d START_PLACE r rules it (omega arith) here) number
                (and_left _ _ (and_left _ _ (and_left _ _ holds)));
            holds = holds;
            inside = one_passes (λ q. lies_in l (section_named l s q) (unwind_entry l s d.entry).start (unwind_entry l s d.entry).length)
                (starts_in l s d.entry) r (rules.unwind s d.entry U5 it.there it.within) named;
          },
        )

-- The language data of an entry that has some.
pub record HasData (l : Link) (d : EntryId) (r : ℕ) : Type 0 where
  pub carried : Contains (carried_of l) (section_named l d.of_section r)
  pub inside : lies_in l (section_named l d.of_section r) (unwind_entry l d.of_section d.entry).lsda 0 ≡ true

pub has_data : (l : Link) (d : EntryId) (r : ℕ) → ObjectsAreRead l → EntriesKeepRules l → Contains (entries_of_link l) d
    → Contains (relocations_in_entry l d.of_section d.entry LSDA_PLACE) r → HasData l d r
has_data l d r read rules has here =
    let it = in_section l d has in
    let s = d.of_section in
    let fits = one_passes (λ q. not (relocation_in l s q).r_extern && is_carried (header_at l (section_named l s q))
    && lies_in l (section_named l s q) (unwind_entry l s d.entry).lsda 0) (relocations_in_entry l s d.entry LSDA_PLACE) r
    (and_right _ _ (rules.unwind s d.entry U7 it.there it.within)) here in
    record {
      carried = named_there l s r read (section_there l s it.there) (relocation_low l d LSDA_PLACE r here)
          (relocation_plain l d LSDA_PLACE r rules it (omega arith) here) (false_of_not _ (and_left _ _ (and_left _ _ fits)))
          (and_right (not (relocation_in l s r).r_extern) _ (and_left _ _ fits));
      inside = and_right (not (relocation_in l s r).r_extern && is_carried (header_at l (section_named l s r))) _ fits;
    }

-- a personality's relocation is extern
pub personality_extern : (l : Link) (d : EntryId) (r : ℕ) → EntriesKeepRules l → Contains (entries_of_link l) d
    → Contains (relocations_in_entry l d.of_section d.entry PERSONALITY_PLACE) r → (relocation_in l d.of_section r).r_extern ≡ true
personality_extern l d r rules has here =
    let it = in_section l d has in
    and_left _ _ (one_passes _ (relocations_in_entry l d.of_section d.entry PERSONALITY_PLACE) r
    (and_left _ _ (rules.unwind d.of_section d.entry U7 it.there it.within)) here)

-- the bits of the personality are clear
pub bits_clear : (l : Link) (d : EntryId) → EntriesKeepRules l → Contains (entries_of_link l) d
    → (unwind_entry l d.of_section d.entry).encoding / 2 ^ 28 % 4 ≡ 0
bits_clear l d rules has =
    let it = in_section l d has in
    eqb-true _ _ (and_left _ _ (rules.unwind d.of_section d.entry U8 it.there it.within))

-- what lies in a section of the input
pub lies_from : (l : Link) (f : SectionId) (address size : ℕ) → lies_in l f address size ≡ true → (header_at l f).addr ≤ address
lies_from l f address size e = leb-true _ _ (and_left _ _ (and_left _ _ e))

pub lies_below : (l : Link) (f : SectionId) (address size : ℕ) → lies_in l f address size ≡ true
    → address < (header_at l f).addr + (header_at l f).size
lies_below l f address size e = ltb-true _ _ (and_right (nat_le (header_at l f).addr address) _ (and_left _ _ e))

pub lies_up_to : (l : Link) (f : SectionId) (address size : ℕ) → lies_in l f address size ≡ true
    → address + size ≤ (header_at l f).addr + (header_at l f).size
lies_up_to l f address size e =
    leb-true _ _ (and_right (nat_le (header_at l f).addr address && nat_lt address ((header_at l f).addr + (header_at l f).size)) _ e)
