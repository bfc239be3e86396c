-- The initializers that are read are the link's, and so are their rules.
--
-- A row is that of a relocation of a slot of a listed section. By the section's bytes the slot has this one plain pointer, and is
-- empty; by the symbols that are resolved it leads into a carried section. Where a section is broken by either, it is broken in the
-- link.
use Rattle.std.proofs.Common.{◌≡◌, ℕ, ◌+◌, ◌*◌, ◌/◌, ◌%◌, ◌<◌, ◌≤◌, inl, inr, true, false, ◌&&◌, ◌==◌, List, [], length, get_or, Option, Some, None, is_none, refl, sym, ap, ◌∙◌, subst, arith}
use Rattle.std.proofs.lemmas.List.FromFn.{length-map-range_with_len}
use Rattle.std.proofs.lemmas.List.Elements.{All-contains, All-map}
use Rattle.std.specs.List.{flat_map, list_all, Contains, All}
use Rattle.macho_bytes.specs.Numbers.{le_at}
use Rattle.macho_object.specs.Views.{FileBytes}
use Rattle.macho_model.specs.Objects.{num_symbols, section_at, relocation_at}
use Rattle.macho_model.specs.Links.{Link, SectionId, object_of, header_at}
use Rattle.macho_model.specs.Needs.{relocations_at, relocation_in, initializer_sections}
use Rattle.macho_model.specs.Targets.{target_of_relocation}
use Rattle.macho_model.specs.Uses.{target_with}
use Rattle.macho_model.specs.Consumed.{is_plain_pointer, bytes_of_section, is_section_target, initializer_section_fits, initializer_slot_fits}
use Rattle.macho_model.specs.Faults.{IsBadInitializer}
use Rattle.macho_model.proofs.Words.{initializer_relocation_fits}
use Rattle.macho_symbol_names.specs.Kept.{FileRows, rows_of_object, row_of_symbol}
use Rattle.macho_symbols.specs.Kept.{ResolvedRows, IsResolved, HasSymbol, symbol_id}
use Rattle.macho_consumed.specs.declared.listing.Kind.TheVariants.{Initializers}
use Rattle.macho_consumed.specs.declared.listing.SectionRef.{SectionRef}
use Rattle.macho_consumed.specs.declared.fault.ConsumedFault.{ConsumedFault}
use Rattle.macho_consumed.specs.declared.fault.ConsumedFault.TheVariants.{BadInitializer, BadUnwind, OutOfMemory}
use Rattle.macho_promise.specs.Views.{views_of}
use Rattle.macho_consumed.specs.Views.{AreKept}
use Rattle.macho_consumed.specs.Rows.{initializer_rows_in, initializer_rows}
use Rattle.macho_consumed.specs.Told.{IsStanding, InitializersKeepRules}
use Rattle.macho_consumed.specs.steps.Slots.{is_symbol_pointer, is_empty_slot, SlotFits, SlotBreaks, SlotStrays, SectionBreaks, row_at}
use Rattle.macho_consumed.specs.steps.Listed.{id_of_ref, bytes_in}
use Rattle.macho_consumed.specs.steps.Gathered.{all_of, initializers_at, FitsAt, IsBadAt}
use Rattle.macho_consumed.specs.steps.Checked.{AreNamed, leads_into}
use Rattle.macho_consumed.proofs.Tests.{one_fails}
use Rattle.macho_consumed.proofs.Members.{in_map, IsFrom}
use Rattle.macho_consumed.proofs.Joined.{joined_agree}
use Rattle.macho_consumed.proofs.InAll.{IsOne, all_listed}
use Rattle.macho_consumed.proofs.Sectioned.{initializers_are}
use Rattle.macho_consumed.proofs.Transfer.{object_is, slot_is, section_is, initializer_rows_are}
use Rattle.macho_consumed.proofs.Leading.{IsBlind, pointer_tells}
use Rattle.macho_bytes.proofs.Maps.{flat_map-map}
use Rattle.macho_bytes.proofs.Bools.{and_left, and_right, and_both as both, and_left_false as and_fails_left}
use Rattle.macho_bytes.proofs.Members.{contains_first, contains_all, contains_map}
use Rattle.macho_model.proofs.FixedPointers.{none_and as and_fails}

one_listed : (files : List (Option FileBytes)) (s : SectionRef) → Contains (all_of Initializers files) s → IsOne Initializers files s
one_listed files s c = All-contains (IsOne Initializers files) (all_of Initializers files) s (all_listed Initializers files) c

-- the rows
pub rows_read : (l : Link) (files : List (Option FileBytes)) → files ≡ views_of l
    → flat_map (initializers_at files) (all_of Initializers files) ≡ initializer_rows l
unfolding initializer_rows
rows_read l files views =
    joined_agree (initializers_at files) (λ s. initializer_rows_in l (id_of_ref s)) (all_of Initializers files)
    (λ s c. sym (initializer_rows_are l s.file (bytes_in files s.file) s.section (object_is l files s.file views
    (one_listed files s c).listed.file)))
    ∙ sym (flat_map-map (initializer_rows_in l) id_of_ref (all_of Initializers files))
    ∙ ap (flat_map (initializer_rows_in l)) (initializers_are l files views)

-- its symbol is there
pub has_symbol : (files : List (Option FileBytes)) (r : ResolvedRows) (file symbol : ℕ) → AreKept files r.files
    → (listed : file < length files) (view : FileBytes)
    → get_or files file None ≡ Some view → symbol < num_symbols view.bytes → HasSymbol r file symbol
unfolding rows_of_object
has_symbol files r file symbol kept listed view is lt =
    let same = kept.kept file view listed is in (
      omega (arith, listed, kept.long),
      ap (λ (f : FileRows). is_none f.library) same,
      omega (
        arith,
        lt,
        ap (λ (f : FileRows). length f.rows) same,
        length-map-range_with_len (row_of_symbol view.bytes) 0
            (num_symbols view.bytes),
      ),
    )

pub all_named : (files : List (Option FileBytes)) (r : ResolvedRows) (file : ℕ) (view : FileBytes) → AreKept files r.files
    → (listed : file < length files) → Some view ≡ get_or files file None → AreNamed r file view.bytes
all_named files r file view kept listed is = λ s lt. has_symbol files r file s kept listed view (sym is) lt

-- what breaks a section by its bytes breaks it in the link
slot_breaks : (l : Link) (file : ℕ) (b : List ℕ) (k slot : ℕ) → object_of l file ≡ b → SlotBreaks b k slot
    → initializer_slot_fits l (record { file = file; section = k }) slot ≡ false
slot_breaks l file b k slot e (inl many) =
    rw (slot_is l file b k (8 * slot) e) (rw many refl)
slot_breaks l file b k slot e (inr (inl (r, c, bad))) =
    let s : SectionId = record { file = file; section = k } in
    let fails : initializer_relocation_fits l s r ≡ false =
    and_fails_left (is_plain_pointer (relocation_in l s r) && (relocation_in l s r).r_extern) (is_section_target
    (target_of_relocation l s r))
    (subst (λ (x : List ℕ). is_symbol_pointer (relocation_at x k r) ≡ false) (sym e) bad) in
    let there : Contains (relocations_at l s (8 * slot)) r = subst (λ (xs : List ℕ). Contains xs r) (sym (slot_is l file b k
    (8 * slot) e)) c in
    and_fails_left _ _ (and_fails (length (relocations_at l s (8 * slot)) == 1) _ (one_fails (initializer_relocation_fits l s)
    (relocations_at l s (8 * slot)) r there fails))
slot_breaks l file b k slot e (inr (inr full)) =
    let s : SectionId = record { file = file; section = k } in
    and_fails ((length (relocations_at l s (8 * slot)) == 1) && list_all (initializer_relocation_fits l s) (relocations_at l s
    (8 * slot))) _
    (subst (λ (x : List ℕ). is_empty_slot x k slot ≡ false) (sym e) full)

-- where the pointer of a slot leads
sections_are_blind : IsBlind is_section_target
sections_are_blind = record { imports = λ i j. refl }

-- the pointer of a row, in the link
row_pointer : (l : Link) (file : ℕ) (b : List ℕ) (k r : ℕ) → object_of l file ≡ b → is_symbol_pointer (relocation_at b k r) ≡ true
    → (is_plain_pointer (relocation_in l (record { file = file; section = k }) r) ≡ true) × ((relocation_in l
    (record { file = file; section = k }) r).r_extern ≡ true)
row_pointer l file b k r e pointer =
    let there : is_symbol_pointer (relocation_in l (record { file = file; section = k }) r) ≡ true =
    subst (λ (x : List ℕ). is_symbol_pointer (relocation_at x k r) ≡ true) (sym e) pointer in
    (and_left _ _ there, and_right (is_plain_pointer (relocation_in l (record { file = file; section = k }) r)) _ there)

target_told : (l : Link) (noted : List (List ℕ)) (file : ℕ) (b : List ℕ) (k r : ℕ) → object_of l file ≡ b
    → is_symbol_pointer (relocation_at b k r) ≡ true
    → is_section_target (target_of_relocation l (record { file = file; section = k }) r) ≡ leads_into l noted (row_at b file k r)
target_told l noted file b k r e pointer =
    let s : SectionId = record { file = file; section = k } in
    let p = row_pointer l file b k r e pointer in
    pointer_tells is_section_target sections_are_blind l noted s r p.0 p.1
    ∙ ap (λ (x : List ℕ). is_section_target (target_with l noted (symbol_id file (relocation_at x k r).r_symbolnum))) e

slot_strays : (l : Link) (noted : List (List ℕ)) (r : ResolvedRows) (file : ℕ) (b : List ℕ) (k slot : ℕ) → object_of l file ≡ b
    → IsResolved l noted r → SlotStrays r b file k slot → initializer_slot_fits l (record { file = file; section = k }) slot ≡ false
slot_strays l noted r file b k slot e resolved it =
    let s : SectionId = record { file = file; section = k } in
    let wrong : is_section_target (target_of_relocation l s it.number) ≡ false =
    target_told l noted file b k it.number e it.fits.pointer ∙ it.leads l noted resolved in
    let fails : initializer_relocation_fits l s it.number ≡ false =
    and_fails (is_plain_pointer (relocation_in l s it.number) && (relocation_in l s it.number).r_extern) _ wrong in
    let there : Contains (relocations_at l s (8 * slot)) it.number =
    subst (λ (xs : List ℕ). Contains xs it.number) (sym (slot_is l file b k (8 * slot) e ∙ it.fits.one)) (contains_first it.number []) in
    and_fails_left _ (le_at 8 (bytes_of_section l s) (8 * slot) == 0)
    (and_fails (length (relocations_at l s (8 * slot)) == 1) _ (one_fails (initializer_relocation_fits l s)
    (relocations_at l s (8 * slot)) it.number there fails))

section_breaks : (l : Link) (noted : List (List ℕ)) (r : ResolvedRows) (file : ℕ) (b : List ℕ) (k offset : ℕ) → object_of l file ≡ b
    → IsResolved l noted r → SectionBreaks r b file k offset → IsBadInitializer l (record { file = file; section = k }) offset
section_breaks l noted r file b k offset e resolved (inl bad) = inl (section_is l file b k e ∙ bad.0, bad.1)
section_breaks l noted r file b k offset e resolved (inr (inl (slot, within, at, inl bad))) =
    inr (inl (slot, subst (λ (x : List ℕ). 8 * slot + 8 ≤ (section_at x k).size) (sym e) within, at, slot_breaks l file b k slot e bad))
section_breaks l noted r file b k offset e resolved (inr (inl (slot, within, at, inr astray))) =
    inr (inl (
      slot,
      subst (λ (x : List ℕ). 8 * slot + 8 ≤ (section_at x k).size) (sym e) within,
      at,
      slot_strays l noted r file b k slot e resolved astray,
    ))
section_breaks l noted r file b k offset e resolved (inr (inr (q, lt, at, off))) =
    inr (inr (
      q,
      subst (λ (x : List ℕ). q < (section_at x k).nreloc) (sym e) lt,
      subst (λ (x : List ℕ). offset ≡ (relocation_at x k q).r_address) (sym e) at,
      off,
    ))

listed_there : (l : Link) (files : List (Option FileBytes)) (s : SectionRef) → files ≡ views_of l
    → Contains (all_of Initializers files) s → Contains (initializer_sections l) (id_of_ref s)
listed_there l files s views c =
    subst (λ (xs : List SectionId). Contains xs (id_of_ref s)) (initializers_are l files views) (contains_map id_of_ref
    (all_of Initializers files) s c)

told_at : (l : Link) (f s file k offset : ℕ) → f ≡ file → s ≡ k → Contains (initializer_sections l) (record { file = file; section = k })
    → IsBadInitializer l (record { file = file; section = k }) offset → IsStanding l (BadInitializer f s offset)
told_at l f s file k offset is_file is_section there bad =
    subst (λ (x : ℕ). IsStanding l (BadInitializer x s offset)) (sym is_file) (subst (λ (x : ℕ). IsStanding l
    (BadInitializer file x offset)) (sym is_section) (there, bad))

pub bad_stands : (l : Link) (noted : List (List ℕ)) (files : List (Option FileBytes)) (r : ResolvedRows) (fault : ConsumedFault)
    → files ≡ views_of l → IsResolved l noted r → IsBadAt r files fault → IsStanding l fault
bad_stands l noted files r (BadInitializer f s offset) views resolved (at, c, bad) =
    told_at l f s at.file at.section offset bad.0 bad.1 (listed_there l files at views c)
    (section_breaks l noted r at.file (bytes_in files at.file) at.section offset (object_is l files at.file views
    (one_listed files at c).listed.file) resolved bad.2)
bad_stands l noted files r (BadUnwind f s e rule) views resolved bad = absurd bad
bad_stands l noted files r OutOfMemory views resolved bad = tt

-- where none is broken, the rules are kept
slot_keeps : (l : Link) (noted : List (List ℕ)) (file : ℕ) (b : List ℕ) (k slot r : ℕ) → object_of l file ≡ b → SlotFits b k slot r
    → leads_into l noted (row_at b file k r) ≡ true → initializer_slot_fits l (record { file = file; section = k }) slot ≡ true
slot_keeps l noted file b k slot r e fits leads =
    let s : SectionId = record { file = file; section = k } in
    let p = row_pointer l file b k r e fits.pointer in
    let one = slot_is l file b k (8 * slot) e ∙ fits.one in
    let good : initializer_relocation_fits l s r ≡ true = both _ _ (both _ _ p.0 p.1) (target_told l noted file b k r e fits.pointer
    ∙ leads) in
    both ((length (relocations_at l s (8 * slot)) == 1) && list_all (initializer_relocation_fits l s) (relocations_at l s (8 * slot))) _
    (rw one (both _ _ good refl)) (subst (λ (x : List ℕ). is_empty_slot x k slot ≡ true) (sym e) fits.empty)

section_of : (l : Link) (files : List (Option FileBytes)) (s : SectionId) → files ≡ views_of l → Contains (initializer_sections l) s
    → IsFrom id_of_ref (all_of Initializers files) s
section_of l files s views c =
    in_map id_of_ref (all_of Initializers files) s (subst (λ (xs : List SectionId). Contains xs s) (sym (initializers_are l files views)) c)

pub rules_kept : (l : Link) (noted : List (List ℕ)) (files : List (Option FileBytes)) (r : ResolvedRows) → files ≡ views_of l
    → IsResolved l noted r → All (FitsAt r files) (all_of Initializers files) → InitializersKeepRules l
rules_kept l noted files r views resolved fit = record {
  initializers = subst (λ (xs : List SectionId). All (λ s. initializer_section_fits l s ≡ true) xs) (initializers_are l files views)
      (All-map (λ s. initializer_section_fits l s ≡ true) id_of_ref (all_of Initializers files)
      (contains_all (λ s. initializer_section_fits l (id_of_ref s) ≡ true) (all_of Initializers files) (λ s c.
      section_is l s.file (bytes_in files s.file) s.section (object_is l files s.file views (one_listed files s c).listed.file)
      ∙ (All-contains (FitsAt r files) (all_of Initializers files) s fit c).section)));
  slots = λ s slot c within.
      let m = section_of l files s views c in
      subst (λ (x : SectionId). initializer_slot_fits l x slot ≡ true) (sym m.is)
      (at_slot m.at m.there slot (subst (λ (x : SectionId). 8 * slot + 8 ≤ (header_at l x).size) m.is within));
  placed = λ s q c lt.
      let m = section_of l files s views c in
      let e = object_is l files m.at.file views (one_listed files m.at m.there).listed.file in
      let fits = All-contains (FitsAt r files) (all_of Initializers files) m.at fit m.there in
      subst (λ (x : SectionId). ((relocation_in l x q).r_address % 8 == 0) ≡ true) (sym m.is)
      (subst (λ (x : List ℕ). ((relocation_at x m.at.section q).r_address % 8 == 0) ≡ true) (sym e)
      (fits.placed q (subst (λ (x : List ℕ). q < (section_at x m.at.section).nreloc) e (subst (λ (x : SectionId). q <
      (header_at l x).nreloc) m.is lt))));
}
  where
    at_slot : (at : SectionRef) → Contains (all_of Initializers files) at → (slot : ℕ) → 8 * slot + 8 ≤ (header_at l (id_of_ref at)).size
        → initializer_slot_fits l (id_of_ref at) slot ≡ true
    at_slot at there slot within =
        let b = bytes_in files at.file in
        let e = object_is l files at.file views (one_listed files at there).listed.file in
        let fits = All-contains (FitsAt r files) (all_of Initializers files) at fit there in
        let room : 8 * slot + 8 ≤ (section_at b at.section).size = subst (λ (x : List ℕ). 8 * slot + 8 ≤
        (section_at x at.section).size) e within in
        let lt : slot < (section_at b at.section).size / 8 = omega (arith, room) in
        let one = fits.slots.slots slot lt in
        slot_keeps l noted at.file b at.section slot one.0 e one.1 (fits.lead slot lt one.0 one.1 l noted resolved)
