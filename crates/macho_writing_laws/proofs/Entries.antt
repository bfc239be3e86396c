-- The entries that pointers need of their own fit the import table.
--
-- Each is that of a pointer of a carried section that leads to an import: the loader writes it, so the import is one of the link's,
-- and by soundness its addend has 32 bits. As many entries and bytes of names were counted as the table has.
use Rattle.std.proofs.Common.{◌≡◌, ℕ, ◌+◌, ◌<◌, ◌≤◌, inl, inr, ◌&&◌, ◌==◌, not, Bool, true, false, List, [], ◌∷◌, map, length, Option, Some, None, refl, sym, ap, subst, ◌∙◌, arith, Vec, Global}
use Rattle.std.specs.Prelude.{Contains, sum_by}
use Rattle.std.specs.List.{flat_map, filter_map}
use Rattle.std.proofs.lemmas.Bool.{cases_lt}
use Rattle.std.proofs.lemmas.List.{length-map}
use Rattle.macho_bytes.proofs.Members.{all_contains, contains_all, contains_map, flat_map_contains, filter_map_contains}
use Rattle.macho_model.specs.declared.placed.Counts.{Counts}
use Rattle.macho_model.specs.declared.targets.Limit.{Limit}
use Rattle.macho_model.specs.declared.targets.Limit.TheVariants as limit
use Rattle.macho_model.specs.declared.targets.Target.{Target}
use Rattle.macho_model.specs.declared.targets.Target.TheVariants as target
use Rattle.macho_records.specs.Sections.{type_of}
use Rattle.macho_records.specs.declared.constants.TheConstants.{S_THREAD_LOCAL_VARIABLES}
use Rattle.macho_model.specs.Links.{Link, SectionId, header_at, carried_of}
use Rattle.macho_model.specs.Needs.{imports_of, distinct}
use Rattle.macho_model.specs.Targets.{is_import}
use Rattle.macho_model.specs.Fields.{Field, fields_of}
use Rattle.macho_model.specs.Values.{fits_signed, is_pointer, needs_fixup}
use Rattle.macho_model.specs.Limits.{limited}
use Rattle.macho_model.specs.Fixups.{EntryOfImport, same_entry, has_room, own_entry, own_entries}
use Rattle.macho_symbols.specs.declared.solved.Import.{Import}
use Rattle.macho_promise.specs.Sizes.{text_size}
use Rattle.macho_promise.specs.Sound.{IsSound}
use Rattle.macho_image_laws.specs.Leads.{HasPlace, TargetsLead}
use Rattle.macho_image_laws.proofs.Leading.{link_leads}
use Rattle.macho_symbols.specs.declared.solved.OwnEntry.{OwnEntry}
use Rattle.macho_linkedit.specs.Imports.{name_bytes}
use Rattle.macho_symbols.specs.Entries.{entry_of}
use Rattle.macho_linkedit.proofs.LinkEntries.{named, entries_long}
use Rattle.macho_writing_laws.specs.Entries.{OwnEntriesFit, NumbersHold, EntriesFit, EntriesAreOfLink}
use Rattle.macho_model.proofs.Distinct.{distinct_contains}
use Rattle.macho_linkedit.proofs.Counted.{sum_names}
use Rattle.macho_promise.proofs.Counted.{imports_counted, names_counted}

-- what an entry of its own is of
pub record IsOwn (is_one : Bool) (t : Target) (addend : ℕ) (e : EntryOfImport) : Type 0 where
  pub pointer : is_one ≡ true
  pub target_is : t ≡ target.Import e.import
  pub addend_is : addend ≡ e.addend

own_is : (is_one : Bool) (t : Target) (addend : ℕ) (e : EntryOfImport) → own_entry is_one t addend ≡ Some e → IsOwn is_one t addend e
own_is true (target.Import id) addend e is = by (has_room addend) refl
  where
    given : Some (record { import = id; addend = addend }) ≡ Some e → IsOwn true (target.Import id) addend e
    given same =
        let one : record { import = id; addend = addend } ≡ e = cc in
        record {
          pointer = refl;
          target_is = ap (λ (d : EntryOfImport). target.Import d.import) one;
          addend_is = ap (λ (d : EntryOfImport). d.addend) one;
        }

    by : (x : Bool) → has_room addend ≡ x → IsOwn true (target.Import id) addend e
    by true room = let no : None ≡ Some e = rw room at is in absurd (cc)
    by false room = given (rw room at is)
own_is true (target.Section file section offset) addend e is = absurd (cc)
own_is true (target.Common id) addend e is = absurd (cc)
own_is true target.Base addend e is = absurd (cc)
own_is true (target.Absolute value) addend e is = absurd (cc)
own_is true target.None addend e is = absurd (cc)
own_is false t addend e is = absurd (cc)

-- a pointer to an import is one that the loader writes
import_needs : (l : Link) (s : SectionId) (f : Field) (id : ℕ) → is_pointer f ≡ true → f.target ≡ target.Import id
    → needs_fixup l s f ≡ true
import_needs l s f id pointer is =
    rw (pointer, is) (plain (type_of (header_at l s) == S_THREAD_LOCAL_VARIABLES))
  where
    plain : (b : Bool) → not (b && false) ≡ true
    plain true = refl
    plain false = refl

-- an entry fits
abbrev Fits : Link → EntryOfImport → Type 0
Fits l e = (e.import < length (imports_of l)) × (fits_signed 32 e.addend ≡ true)

entry_fits : (l : Link) (lead : TargetsLead l) → IsSound l → (s : SectionId) (f : Field) (e : EntryOfImport) → Contains (carried_of l) s
    → Contains (fields_of l s) f → own_entry (is_pointer f) f.target f.addend ≡ Some e → Fits l e
entry_fits l lead sound s f e carried has is =
    let own = own_is (is_pointer f) f.target f.addend e is in
    let place = lead.pointers s f carried has (import_needs l s f e.import own.pointer own.target_is) in
    let below : HasPlace l (target.Import e.import) = subst (HasPlace l) own.target_is place in
    let addend = sound.addends s f carried has own.pointer (ap is_import own.target_is) in
    (below, ap (fits_signed 32) (sym own.addend_is) ∙ addend)

pub own_fit : OwnEntriesFit
unfolding own_entries
own_fit l objects sound personalities =
    let lead = link_leads l objects sound.relocations personalities in
    let in_field : SectionId → Field → Option EntryOfImport = λ s f. own_entry (is_pointer f) f.target f.addend in
    let in_section : SectionId → List EntryOfImport = λ s. filter_map (in_field s) (fields_of l s) in
    contains_all (Fits l) (distinct same_entry (flat_map in_section (carried_of l))) (λ e has.
    let s = flat_map_contains in_section (carried_of l) e (distinct_contains same_entry (flat_map in_section (carried_of l)) e has) in
    let f = filter_map_contains (in_field s.0) (fields_of l s.0) e s.2 in
    entry_fits l lead sound s.0 f.0 e s.1 f.1 f.2)

-- a number that passes no limit
within : (l : Link) (counts : Counts) (what : Limit) → NumbersHold l counts → (limited l counts what).0 ≤ (limited l counts what).1
within l counts what numbers = elim (cases_lt (limited l counts what).1 (limited l counts what).0) [
  | inl more ↦ absurd (numbers what (limited l counts what).0 (refl, more))
  | inr less ↦ less
]

pub entries_fit : EntriesFit
entries_fit l counts imports own libraries of =
    let fit = own_fit l of.objects of.sound of.personalities in
    let many : length own ≡ length (own_entries l) = sym (length-map own entry_of) ∙ ap length of.own_are in
    let names : name_bytes imports ≡ counts.name_bytes =
    sum_names imports ∙ ap (sum_by text_size) (named l imports of.imports_are) ∙ sym (names_counted l counts of.counted) in
    let each : (o : OwnEntry) → Contains own o → Fits l (entry_of o) = λ o has.
    all_contains (Fits l) (own_entries l) (entry_of o) fit
    (subst (λ (es : List EntryOfImport). Contains es (entry_of o)) of.own_are (contains_map entry_of own o has)) in
    record {
      libraries_few = omega (
        arith,
        within l counts limit.Libraries of.numbers,
        ap length of.libraries_are,
        length-map libraries (λ (name : Vec ℕ Global). name.items),
      );
      entries_few = omega (
        arith,
        within l counts limit.Imports of.numbers,
        imports_counted l counts of.counted,
        entries_long l,
        many,
        of.imports_are.long,
      );
      names_short = omega (arith, within l counts limit.NameBytes of.numbers, names);
      among = contains_all (λ o. o.import < length imports) own (λ o has. omega (arith, (each o has).0, of.imports_are.long));
      addends = contains_all (λ o. fits_signed 32 o.addend ≡ true) own (λ o has. (each o has).1);
    }

pub entries_of_link : EntriesAreOfLink
entries_of_link l counts imports own libraries of =
    record { imports_are = of.imports_are; own_are = of.own_are; libraries_are = of.libraries_are }
