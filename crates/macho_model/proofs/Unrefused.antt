-- What a valid link keeps, since no refusal of it stands.
--
-- Each of these conditions is a test. Where it failed, a refusal would stand that isn't one of a name that can't be written.
use Rattle.std.proofs.Common.{◌≡◌, ℕ, ◌+◌, ◌*◌, ◌%◌, ◌<◌, ◌≤◌, ◌==◌, inl, inr, Bool, true, false, refl, sym, ap, ◌∙◌}
use Rattle.std.specs.Prelude.{Contains, None}
use Rattle.std.proofs.lemmas.Bool.{cases_Bool, cases_lt, true≢false}
use Rattle.macho_model.specs.declared.placed.Counts.{Counts}
use Rattle.macho_model.specs.declared.rules.UnwindRule.{UnwindRule}
use Rattle.macho_model.specs.declared.rules.UnwindRule.TheVariants.{U1, U2, U3, U4, U5, U6, U7, U8}
use Rattle.macho_model.specs.declared.targets.Limit.{Limit}
use Rattle.macho_model.specs.Links.{Link, SectionId, header_at}
use Rattle.macho_model.specs.Needs.{initializer_sections, unwind_sections, relocation_in, POINTER_SIZE}
use Rattle.macho_model.specs.Rows.{is_supported, share_byte, are_pair}
use Rattle.macho_model.specs.Consumed.{initializer_section_fits, initializer_slot_fits, entry_count, whole_entries, keeps}
use Rattle.macho_model.specs.Limits.{limited}
use Rattle.macho_model.specs.Faults.{LinkFault, BadInitializer, BadUnwind, UnsupportedRelocation, OverlappingFields, TooMany, BadName, FaultStands, kept_placement}
use Rattle.macho_model.specs.Supported.{RelocationsAreSupported}
use Rattle.macho_model.specs.Valid.{IsValid}
use Rattle.macho_bytes.proofs.Bools.{not_false}

abbrev pub is_bad_name : LinkFault → Bool
is_bad_name BadName = true
is_bad_name f = false

-- no other refusal stands that keeps no placement
pub never : (l : Link) (counts : Counts) (f : LinkFault) → IsValid l counts → kept_placement f ≡ None → is_bad_name f ≡ false
    → FaultStands l counts f → ⊥
never l counts f valid alone other stands = true≢false (sym (ap is_bad_name (valid.unrefused f alone stands)) ∙ other)

-- relocations
pub valid_relocations : (l : Link) (counts : Counts) → IsValid l counts → RelocationsAreSupported l
valid_relocations l counts valid = record {
  supported = λ s r one within. not_false (is_supported l s r)
      (λ broken. never l counts (UnsupportedRelocation s.file s.section r) valid refl refl (one, within, broken));
  apart = λ s q r one before within. elim (cases_Bool (share_byte l s q r)) [
    | inl share ↦ inr (not_false (are_pair l s q r)
        (λ alone. never l counts (OverlappingFields s.file s.section q r) valid refl refl (one, before, within, share, alone)))
    | inr none ↦ inl none
  ];
}

-- initializers
pub valid_initializers : (l : Link) (counts : Counts) (s : SectionId) → IsValid l counts → Contains (initializer_sections l) s
    → initializer_section_fits l s ≡ true
valid_initializers l counts s valid one =
    not_false (initializer_section_fits l s)
    (λ broken. never l counts (BadInitializer s.file s.section 0) valid refl refl (one, inl (broken, refl)))

pub valid_slot : (l : Link) (counts : Counts) (s : SectionId) (slot : ℕ) → IsValid l counts → Contains (initializer_sections l) s
    → POINTER_SIZE * slot + POINTER_SIZE ≤ (header_at l s).size → initializer_slot_fits l s slot ≡ true
valid_slot l counts s slot valid one within =
    not_false (initializer_slot_fits l s slot)
    (λ broken. never l counts (BadInitializer s.file s.section (POINTER_SIZE * slot)) valid refl refl
    (one, inr (inl (slot, within, refl, broken))))

pub valid_at_slot : (l : Link) (counts : Counts) (s : SectionId) (r : ℕ) → IsValid l counts → Contains (initializer_sections l) s
    → r < (header_at l s).nreloc → ((relocation_in l s r).r_address % POINTER_SIZE == 0) ≡ true
valid_at_slot l counts s r valid one within =
    not_false ((relocation_in l s r).r_address % POINTER_SIZE == 0)
    (λ broken. never l counts (BadInitializer s.file s.section (relocation_in l s r).r_address) valid refl refl
    (one, inr (inr (r, within, refl, broken))))

-- unwind entries
pub valid_whole : (l : Link) (counts : Counts) (s : SectionId) → IsValid l counts → Contains (unwind_sections l) s
    → whole_entries l s ≡ true
valid_whole l counts s valid one =
    not_false (whole_entries l s)
    (λ broken. never l counts (BadUnwind s.file s.section (entry_count l s) U1) valid refl refl (one, (refl, broken)))

pub valid_entry : (l : Link) (counts : Counts) (s : SectionId) (e : ℕ) (rule : UnwindRule) → IsValid l counts
    → Contains (unwind_sections l) s → e < entry_count l s → keeps l s e rule ≡ true
valid_entry l counts s e U1 valid one within = valid_whole l counts s valid one
valid_entry l counts s e U2 valid one within =
    not_false (keeps l s e U2) (λ broken. never l counts (BadUnwind s.file s.section e U2) valid refl refl (one, (within, broken)))
valid_entry l counts s e U3 valid one within =
    not_false (keeps l s e U3) (λ broken. never l counts (BadUnwind s.file s.section e U3) valid refl refl (one, (within, broken)))
valid_entry l counts s e U4 valid one within =
    not_false (keeps l s e U4) (λ broken. never l counts (BadUnwind s.file s.section e U4) valid refl refl (one, (within, broken)))
valid_entry l counts s e U5 valid one within =
    not_false (keeps l s e U5) (λ broken. never l counts (BadUnwind s.file s.section e U5) valid refl refl (one, (within, broken)))
valid_entry l counts s e U6 valid one within =
    not_false (keeps l s e U6) (λ broken. never l counts (BadUnwind s.file s.section e U6) valid refl refl (one, (within, broken)))
valid_entry l counts s e U7 valid one within =
    not_false (keeps l s e U7) (λ broken. never l counts (BadUnwind s.file s.section e U7) valid refl refl (one, (within, broken)))
valid_entry l counts s e U8 valid one within =
    not_false (keeps l s e U8) (λ broken. never l counts (BadUnwind s.file s.section e U8) valid refl refl (one, (within, broken)))

-- numbers
pub valid_limit : (l : Link) (counts : Counts) (what : Limit) → IsValid l counts → (limited l counts what).0 ≤ (limited l counts what).1
valid_limit l counts what valid = elim (cases_lt (limited l counts what).1 (limited l counts what).0) [
  | inl more ↦ absurd (never l counts (TooMany what (limited l counts what).0 None) valid refl refl (refl, more))
  | inr few ↦ few
]
