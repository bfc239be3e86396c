-- Of a link that is fit no refusal stands that is looked for before anything has an address.
--
-- Each part of fitness says that what a refusal would show is not there: names that are used, entered at or listed are defined,
-- initializers and unwind entries keep their rules, relocations are supported and apart, addends fit, pointers stand where they may.
use Rattle.std.proofs.Common.{◌≡◌, ℕ, ◌%◌, ◌==◌, Bool, true, false, sym, ap, ◌∙◌, inl, inr, Option, Some, None}
use Rattle.std.specs.Prelude.{Contains, is_none, IsNone}
use Rattle.std.proofs.lemmas.List.Elements.{All-contains}
use Rattle.macho_model.specs.declared.rules.UnwindRule.{UnwindRule}
use Rattle.macho_model.specs.declared.rules.UnwindRule.TheVariants.{U1, U2, U3, U4, U5, U6, U7, U8}
use Rattle.macho_model.specs.ExportLists.{plain_entries}
use Rattle.macho_model.specs.Links.{Link, SectionId, section_id}
use Rattle.macho_model.specs.Resolution.{definition_of}
use Rattle.macho_model.specs.Needs.{initializer_sections, unwind_sections, relocation_in, POINTER_SIZE}
use Rattle.macho_model.specs.Consumed.{initializer_section_fits, initializer_slot_fits, whole_entries, keeps}
use Rattle.macho_model.specs.Values.{fits_signed}
use Rattle.macho_model.specs.Faults.{DuplicateSymbol, UndefinedSymbol, EntryNotDefined, ExportListMissing, BadInitializer, BadUnwind, UnsupportedRelocation, OverlappingFields, BindAddend, FixupPlace, TooMany, ImageTooLarge, RebaseTarget, RelocationRange, BadName, IsBadEntry, IsBadInitializer}
use Rattle.macho_consumed.specs.Told.{InitializersKeepRules, EntriesKeepRules}
use Rattle.macho_reading.specs.Laws.{ReadIsNotRefused, PersonalitiesAreFit}
use Rattle.macho_bytes.proofs.Bools.{true_or_false as clash}

neither : {X : Type 0} (o : Option X) → IsNone o → is_none o ≡ false → ⊥
neither None none some = cc
neither (Some x) none some = cc

-- no entry of unwind information is bad, and no initializer
no_bad_entry : (l : Link) (s : SectionId) (e : ℕ) (rule : UnwindRule) → EntriesKeepRules l → Contains (unwind_sections l) s
    → IsBadEntry l s e rule → ⊥
no_bad_entry l s e U1 keep one (at, broken) =
    clash (whole_entries l s) (All-contains (λ t. whole_entries l t ≡ true) (unwind_sections l) s keep.whole one) broken
no_bad_entry l s e U2 keep one (within, broken) = clash (keeps l s e U2) (keep.unwind s e U2 one within) broken
no_bad_entry l s e U3 keep one (within, broken) = clash (keeps l s e U3) (keep.unwind s e U3 one within) broken
no_bad_entry l s e U4 keep one (within, broken) = clash (keeps l s e U4) (keep.unwind s e U4 one within) broken
no_bad_entry l s e U5 keep one (within, broken) = clash (keeps l s e U5) (keep.unwind s e U5 one within) broken
no_bad_entry l s e U6 keep one (within, broken) = clash (keeps l s e U6) (keep.unwind s e U6 one within) broken
no_bad_entry l s e U7 keep one (within, broken) = clash (keeps l s e U7) (keep.unwind s e U7 one within) broken
no_bad_entry l s e U8 keep one (within, broken) = clash (keeps l s e U8) (keep.unwind s e U8 one within) broken

no_bad_initializer : (l : Link) (s : SectionId) (offset : ℕ) → InitializersKeepRules l → Contains (initializer_sections l) s
    → IsBadInitializer l s offset → ⊥
no_bad_initializer l s offset keep one (inl (broken, at)) =
    clash (initializer_section_fits l s)
    (All-contains (λ t. initializer_section_fits l t ≡ true) (initializer_sections l) s keep.initializers one) broken
no_bad_initializer l s offset keep one (inr (inl (slot, within, at, broken))) =
    clash (initializer_slot_fits l s slot) (keep.slots s slot one within) broken
no_bad_initializer l s offset keep one (inr (inr (r, within, at, broken))) =
    clash ((relocation_in l s r).r_address % POINTER_SIZE == 0) (keep.placed s r one within)
    (ap (λ (n : ℕ). n % POINTER_SIZE == 0) (sym at) ∙ broken)

-- THE refusals that are looked for
pub read_is_not_refused : ReadIsNotRefused
read_is_not_refused l counts (UndefinedSymbol name file) fit early undefined = fit.names.none name file undefined
read_is_not_refused l counts (EntryNotDefined name) fit early (is, broken) = clash _ fit.entry broken
read_is_not_refused l counts (ExportListMissing name) fit early (one, none) =
    neither (definition_of l name) none
    (All-contains (λ n. is_none (definition_of l n) ≡ false) (plain_entries l.export_lists) name fit.listed one)
read_is_not_refused l counts (BadInitializer file section offset) fit early (one, bad) =
    no_bad_initializer l (section_id file section) offset fit.initializers one bad
read_is_not_refused l counts (BadUnwind file section entry rule) fit early (one, bad) =
    no_bad_entry l (section_id file section) entry rule fit.entries one bad
read_is_not_refused l counts (UnsupportedRelocation file section relocation) fit early (one, within, broken) =
    clash _ (fit.sound.relocations.supported (section_id file section) relocation one within) broken
read_is_not_refused l counts (OverlappingFields file section first second) fit early (one, before, within, share, pair) =
    elim (fit.sound.relocations.apart (section_id file section) first second one before within) [
      | inl none ↦ clash _ share none
      | inr are ↦ clash _ are pair
    ]
read_is_not_refused l counts (BindAddend file section relocation addend) fit early (f, of, pointer, import, is, broken) =
    clash (fits_signed 32 f.addend) (fit.sound.addends (section_id file section) f of.0 of.1 pointer import)
    (ap (fits_signed 32) (sym is) ∙ broken)
read_is_not_refused l counts (FixupPlace file section relocation None) fit early (f, of, needs, broken) =
    clash _ (fit.sound.places (section_id file section) f of.0 of.1 needs) broken
read_is_not_refused l counts (FixupPlace file section relocation (Some p)) fit early stands = early
read_is_not_refused l counts (DuplicateSymbol name first second) fit early stands = early
read_is_not_refused l counts (TooMany what number placement) fit early stands = early
read_is_not_refused l counts (ImageTooLarge placement) fit early stands = early
read_is_not_refused l counts (RebaseTarget at p) fit early stands = early
read_is_not_refused l counts (RelocationRange at p) fit early stands = early
read_is_not_refused l counts BadName fit early stands = early

pub personalities_are_fit : PersonalitiesAreFit
personalities_are_fit l keep = record { each = λ s e one within. keep.unwind s e U7 one within }
