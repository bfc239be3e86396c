-- The inputs of the bound are the link's.
--
-- By the rules the relocation of a personality is a plain pointer to a symbol, so it leads where the symbol does, and the number of
-- that target's slot is the place of the target among slots. Whether there is language data, its relocation tells.
use Rattle.std.proofs.Common.{◌≡◌, ℕ, ◌+◌, ◌*◌, ◌/◌, ◌<◌, ◌≤◌, eqb, eq-eqb, Bool, true, false, cond, ◌&&◌, ◌||◌, not, ◌==◌, nat_lt, List, [], ◌∷◌, length, map, filter, Some, None, is_some, position, refl, sym, ap, ◌∙◌, subst, arith, leb-true, nat_le}
use Rattle.std.proofs.lemmas.Bool.Decides.{nat_tests}
use Rattle.std.proofs.lemmas.Bool.{eqb-true}
use Rattle.std.proofs.lemmas.List.{length-map}
use Rattle.std.proofs.lemmas.List.Elements.{All-contains, All-map}
use Rattle.std.specs.List.{range_with_len, Contains, position_or_len}
use Rattle.macho_model.specs.declared.targets.Target.{Target}
use Rattle.macho_model.specs.declared.rules.UnwindRule.TheVariants.{U2, U7, U3}
use Rattle.macho_model.specs.Links.{Link, header_at}
use Rattle.macho_model.specs.Needs.{relocation_in, unwind_sections, PERSONALITY_PLACE}
use Rattle.macho_model.specs.Targets.{target_of, target_of_relocation, slot_number, slots_of, same_target, is_defined, is_import}
use Rattle.macho_model.specs.Consumed.{EntryId, entry_count, entries_of_link, relocations_in_entry, unwind_entry, LSDA_PLACE, START_PLACE}
use Rattle.macho_symbols.specs.Kept.{symbol_id}
use Rattle.macho_unwind_pages.specs.declared.entries.UnwindInput.{UnwindInput}
use Rattle.macho_unwind_pages.specs.Bounds.{unwind_bound_of}
use Rattle.macho_unwind_pages.specs.Entries.{ids_of}
use Rattle.macho_unwind_pages.specs.Orders.{in_order}
use Rattle.macho_promise.specs.Sizes.{unwind_input, text_span, unwind_size}
use Rattle.macho_consumed.specs.steps.Entries.{unwind_relocation_fits}
use Rattle.macho_consumed.specs.declared.rows.PersonalityUse.{PersonalityUse}
use Rattle.macho_consumed.specs.declared.rows.UnwindEntry.{UnwindEntry}
use Rattle.macho_consumed.specs.Rows.{entry_row, entry_rows}
use Rattle.macho_consumed.specs.Told.{EntriesKeepRules}
use Rattle.macho_consumed.specs.steps.Inputs.{number_of_target, input_by}
use Rattle.macho_consumed.proofs.Tests.{not_true}
use Rattle.macho_consumed.proofs.Members.{in_filter, all_joined}
use Rattle.macho_consumed.proofs.Joined.{mapped_agree}
use Rattle.macho_consumed.proofs.Leading.{pointer_leads}
use Rattle.macho_bytes.proofs.Bools.{and_left, and_right}
use Rattle.macho_bytes.proofs.Members.{contains_first, contains_all, contains_filter, range_contains, one_passes}

-- an entry of the link is one of its section
pub record IsInSection (l : Link) (d : EntryId) : Type 0 where
  pub there : Contains (unwind_sections l) d.of_section
  pub within : d.entry < entry_count l d.of_section

pub in_section : (l : Link) (d : EntryId) → Contains (entries_of_link l) d → IsInSection l d
unfolding entries_of_link
in_section l d c =
    All-contains (IsInSection l) (entries_of_link l) d
    (all_joined (IsInSection l) (λ s. map (λ e. record { of_section = s; entry = e }) (range_with_len 0 (entry_count l s)))
    (unwind_sections l) (λ s there.
    All-map (IsInSection l) (λ e. record { of_section = s; entry = e }) (range_with_len 0 (entry_count l s))
    (contains_all (λ e. IsInSection l (record { of_section = s; entry = e })) (range_with_len 0 (entry_count l s))
    (λ e b. record { there = there; within = range_contains (entry_count l s) e b })))) c

-- the relocation of a personality is a pointer to a symbol
pub person_leads : (l : Link) (d : EntryId) (r : ℕ) → EntriesKeepRules l → IsInSection l d
    → Contains (relocations_in_entry l d.of_section d.entry PERSONALITY_PLACE) r
    → target_of_relocation l d.of_section r ≡ target_of l (symbol_id d.of_section.file (relocation_in l d.of_section r).r_symbolnum)
unfolding target_of
person_leads l d r keeps it c =
    let s = d.of_section in
    let hit = in_filter (λ q. eqb (relocation_in l s q).r_address (32 * d.entry + 16)) (range_with_len 0 (header_at l s).nreloc) r c in
    let address : (relocation_in l s r).r_address ≡ 32 * d.entry + 16 = eqb-true _ _ hit.0 in
    let mine : eqb ((relocation_in l s r).r_address / 32) d.entry ≡ true = eq-eqb _ _ (omega (arith, address)) in
    let plain = and_left _ _ (one_passes (unwind_relocation_fits l s) (filter (λ q. eqb ((relocation_in l s q).r_address / 32) d.entry)
    (range_with_len 0 (header_at l s).nreloc)) r
    (keeps.unwind s d.entry U2 it.there it.within)
    (contains_filter (λ q. eqb ((relocation_in l s q).r_address / 32) d.entry) (range_with_len 0 (header_at l s).nreloc) r hit.1 mine)) in
    let extern = and_left _ _ (one_passes (λ q. (relocation_in l s q).r_extern && (is_defined (target_of_relocation l s q) || is_import
    (target_of_relocation l s q)))
    (relocations_in_entry l s d.entry PERSONALITY_PLACE) r (and_left _ _ (keeps.unwind s d.entry U7 it.there it.within)) c) in
    pointer_leads l s r plain extern

number_told : (l : Link) (d : EntryId) (rs : List ℕ) → relocations_in_entry l d.of_section d.entry PERSONALITY_PLACE ≡ rs
    → EntriesKeepRules l → IsInSection l d
    → number_of_target l d.of_section.file (entry_row l d).personality ≡ (unwind_input l d).personality
unfolding entry_row
number_told l d [] is keeps it = rw is refl
number_told l d (r ∷ rs) is keeps it =
    rw is (ap (λ (t : Target). Some (slot_number l t)) (sym (person_leads l d r keeps it (subst (λ (xs : List ℕ). Contains xs r)
    (sym is) (contains_first r rs)))))

longer : (r : ℕ) (rs : List ℕ) → (length (r ∷ rs) == 0) ≡ false
longer r rs = not_true _ (λ e. let none : length (r ∷ rs) ≡ 0 = eqb-true _ _ e in omega arith)

data_told : (l : Link) (d : EntryId) (rs : List ℕ) → relocations_in_entry l d.of_section d.entry LSDA_PLACE ≡ rs
    → is_some (entry_row l d).lsda ≡ (unwind_input l d).lsda
unfolding entry_row
data_told l d [] is = rw is refl
data_told l d (r ∷ rs) is = rw is (sym (ap not (longer r rs)))

words_told : (l : Link) (d : EntryId) → (entry_row l d).encoding ≡ (unwind_entry l d.of_section d.entry).encoding
unfolding entry_row
words_told l d = refl

pub file_told : (l : Link) (d : EntryId) → (entry_row l d).file ≡ d.of_section.file
unfolding entry_row
file_told l d = refl

pub input_told : (l : Link) (d : EntryId) → EntriesKeepRules l → Contains (entries_of_link l) d
    → input_by l (entry_row l d) ≡ unwind_input l d
input_told l d keeps c =
    let it = in_section l d c in
    let words = words_told l d in
    let person = ap (λ (f : ℕ). number_of_target l f (entry_row l d).personality) (file_told l d)
    ∙ number_told l d (relocations_in_entry l d.of_section d.entry PERSONALITY_PLACE) refl keeps it in
    let lsda = data_told l d (relocations_in_entry l d.of_section d.entry LSDA_PLACE) refl in
    λ i. record { encoding = words i; personality = person i; lsda = lsda i }

pub inputs_told : (l : Link) → EntriesKeepRules l → map (input_by l) (entry_rows l) ≡ map (unwind_input l) (entries_of_link l)
unfolding entry_rows
inputs_told l keeps = twice (entries_of_link l) ∙ mapped_agree (λ d. input_by l (entry_row l d)) (unwind_input l) (entries_of_link l)
    (λ d c. input_told l d keeps c)
  where
    twice : (ds : List EntryId) → map (input_by l) (map (entry_row l) ds) ≡ map (λ d. input_by l (entry_row l d)) ds
    twice [] = refl
    twice (d ∷ ds) = ap (λ (xs : List UnwindInput). input_by l (entry_row l d) ∷ xs) (twice ds)

-- how many there are
many_rows : (l : Link) → length (entry_rows l) ≡ length (entries_of_link l)
unfolding entry_rows
many_rows l = length-map (entries_of_link l) (entry_row l)

pub none_told : (l : Link) (rows : List UnwindEntry) → rows ≡ entry_rows l → true ≡ (length rows == 0) → 0 ≡ unwind_size l
none_told l rows are empty =
    let zero : (length (entries_of_link l) == 0) ≡ true = ap (λ (n : ℕ). n == 0) (sym (many_rows l) ∙ ap length (sym are)) ∙ sym empty in
    sym (ap (λ (t : Bool). cond t 0 (unwind_bound_of (map (unwind_input l) (entries_of_link l)) (text_span l))) zero)

pub some_told : (l : Link) (rows : List UnwindEntry) (span : ℕ) → EntriesKeepRules l → rows ≡ entry_rows l → span ≡ text_span l
    → false ≡ (length rows == 0)
    → unwind_bound_of (map (input_by l) rows) span ≡ unwind_size l
some_told l rows span keeps are spans some =
    let more : (length (entries_of_link l) == 0) ≡ false = ap (λ (n : ℕ). n == 0) (sym (many_rows l) ∙ ap length (sym are)) ∙ sym some in
    ap (λ (xs : List UnwindInput). unwind_bound_of xs span) (ap (map (input_by l)) are ∙ inputs_told l keeps)
    ∙ ap (unwind_bound_of (map (unwind_input l) (entries_of_link l))) spans
    ∙ sym (ap (λ (t : Bool). cond t 0 (unwind_bound_of (map (unwind_input l) (entries_of_link l)) (text_span l))) more)

pub none_few : (l : Link) (rows : List UnwindEntry) → rows ≡ entry_rows l → true ≡ (length rows == 0)
    → length (ids_of (map (unwind_input l) (entries_of_link l))) ≤ 3
unfolding in_order
none_few l rows are empty =
    let zero : length (entries_of_link l) ≡ 0 = eqb-true _ _ (ap (λ (n : ℕ). n == 0) (sym (many_rows l) ∙ ap length (sym are))
    ∙ sym empty) in
    by (entries_of_link l) zero
  where
    by : (ds : List EntryId) → length ds ≡ 0 → length (ids_of (map (unwind_input l) ds)) ≤ 3
    by [] z = omega arith
    by (d ∷ ds) z = absurd (omega arith)

-- the number of a slot that is looked up
pub slot_told : (slots : List Target) (t : Target) (n : ℕ) → Some n ≡ position (same_target t) slots
    → n ≡ position_or_len (same_target t) slots
slot_told slots t n e = by (nat_lt (position_or_len (same_target t) slots) (length slots)) e
  where
    by : (b : Bool) → Some n ≡ cond b (Some (position_or_len (same_target t) slots)) None → n ≡ position_or_len (same_target t) slots
    by true e = cc
    by false e = cc

within_len : (p : Target → Bool) (xs : List Target) → position_or_len p xs ≤ length xs
within_len p [] = omega arith
within_len p (x ∷ xs) = by (p x) (within_len p xs)
  where
    by : (t : Bool) → position_or_len p xs ≤ length xs → cond (not t) (1 + position_or_len p xs) 0 ≤ length (x ∷ xs)
    by true le = omega arith
    by false le = omega (arith, le)

pub number_is : (l : Link) (slots : List Target) (t : Target) (file : ℕ) (p : PersonalityUse) (n : ℕ)
    → n ≡ position_or_len (same_target t) slots
    → t ≡ target_of l (symbol_id file p.relocation.r_symbolnum) → slots ≡ slots_of l → Some n ≡ number_of_target l file (Some p)
number_is l slots t file p n is leads are =
    ap Some (is ∙ ap (λ (x : Target). position_or_len (same_target x) slots) leads
    ∙ ap (λ (xs : List Target). position_or_len (same_target (target_of l (symbol_id file p.relocation.r_symbolnum))) xs) are)

pub no_slot_told : (slots : List Target) (t : Target) → None ≡ position (same_target t) slots
    → length slots ≡ position_or_len (same_target t) slots
no_slot_told slots t e = by (nat_lt (position_or_len (same_target t) slots) (length slots)) refl e
  where
    by : (b : Bool) → nat_lt (position_or_len (same_target t) slots) (length slots) ≡ b
        → None ≡ cond b (Some (position_or_len (same_target t) slots)) None
        → length slots ≡ position_or_len (same_target t) slots
    by true is e = cc
    by false is e = let past : length slots ≤ position_or_len (same_target t) slots = grind (arith, nat_tests, is) in omega
        (arith, past, within_len (same_target t) slots)

-- there is one at most
pub one_personality : (l : Link) (d : EntryId) → EntriesKeepRules l → IsInSection l d
    → length (relocations_in_entry l d.of_section d.entry PERSONALITY_PLACE) ≤ 1
one_personality l d keeps it =
    leb-true _ _ (and_left _ _ (and_right (nat_le (length (relocations_in_entry l d.of_section d.entry START_PLACE)) 1) _
    (keeps.unwind d.of_section d.entry U3 it.there it.within)))
