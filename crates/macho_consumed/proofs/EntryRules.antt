-- The rules of unwind entries, kept or broken, once rows are checked.
--
-- The rows are those of the link's entries, place by place. Where two rows have one start, their entries are two, since rows are
-- distinct: so the later breaks the rule. Where no two have one, an entry with the start of another is that other.
use Rattle.std.proofs.Common.{◌≡◌, ◌≢◌, ℕ, ◌/◌, ◌<◌, ◌≤◌, inl, inr, eq-eqb, Bool, true, false, ◌&&◌, ◌||◌, not, ◌==◌, nat_le, List, length, map, get_or, Option, refl, sym, ap, ◌∙◌, subst, arith}
use Rattle.std.proofs.lemmas.Bool.Decides.{nat_tests}
use Rattle.std.proofs.lemmas.Bool.{eqb-true, cases_lt}
use Rattle.std.proofs.lemmas.List.{get_or-map, length-map, get_or_default}
use Rattle.std.proofs.lemmas.List.Elements.{All-contains, All-map}
use Rattle.std.specs.List.{range_with_len, flat_map, list_all, Contains, All, AllPairs}
use Rattle.macho_object.specs.Views.{FileBytes}
use Rattle.macho_model.specs.declared.rules.UnwindRule.{UnwindRule}
use Rattle.macho_model.specs.declared.rules.UnwindRule.TheVariants.{U1, U2, U3, U4, U5, U6, U7, U8}
use Rattle.macho_model.specs.Objects.{section_at, relocation_at}
use Rattle.macho_model.specs.Links.{Link, SectionId, object_of}
use Rattle.macho_model.specs.Needs.{relocation_in, unwind_sections, PERSONALITY_PLACE}
use Rattle.macho_model.specs.Targets.{target_of_relocation}
use Rattle.macho_model.specs.Consumed.{EntryId, entry_count, same_section, same_start, entries_of_link, keeps, whole_entries, relocations_in_entry, START_PLACE, LSDA_PLACE}
use Rattle.macho_symbols.specs.Kept.{ResolvedRows, IsResolved}
use Rattle.macho_consumed.specs.declared.listing.Kind.TheVariants.{Entries}
use Rattle.macho_consumed.specs.declared.listing.SectionRef.{SectionRef}
use Rattle.macho_consumed.specs.declared.rows.UnwindEntry.{UnwindEntry}
use Rattle.macho_consumed.specs.declared.fault.ConsumedFault.{ConsumedFault}
use Rattle.macho_consumed.specs.declared.fault.ConsumedFault.TheVariants.{BadInitializer, BadUnwind, OutOfMemory}
use Rattle.macho_promise.specs.Views.{views_of}
use Rattle.macho_consumed.specs.Rows.{entry_row, entry_rows}
use Rattle.macho_consumed.specs.Told.{IsStanding, EntriesKeepRules}
use Rattle.macho_consumed.specs.steps.Entries.{at_place, read_entry, data_fits, EntryFits, row_in}
use Rattle.macho_consumed.specs.steps.Listed.{id_of_ref, bytes_in}
use Rattle.macho_consumed.specs.steps.Gathered.{all_of, entries_at, KeepsAt}
use Rattle.macho_consumed.specs.steps.Checked.{start_key, IsAgain, IsAgainOrMemory, leads_somewhere}
use Rattle.macho_consumed.proofs.Tests.{one_fails, not_true}
use Rattle.macho_consumed.proofs.Members.{in_map}
use Rattle.macho_consumed.proofs.InAll.{IsOne, all_listed}
use Rattle.macho_consumed.proofs.Transfer.{object_is, entry_test}
use Rattle.macho_consumed.proofs.Sectioned.{unwind_are}
use Rattle.macho_consumed.proofs.Pairs.{Pairs, at_pairs}
use Rattle.macho_consumed.proofs.EntryStarts.{AreOthers, rows_differ}
use Rattle.macho_consumed.proofs.SameStarts.{known, known_starts, keys_meet, meet_keys}
use Rattle.macho_consumed.proofs.ReadEntries.{rows_read, HasPerson, nobody, someone, person, is_person, person_told, is_somewhere}
use Rattle.macho_bytes.proofs.Bools.{and_left, and_right, and_both}
use Rattle.macho_bytes.proofs.Members.{contains_all, contains_map, contains_flat_map, contains_range, passes_each as all_pass}
use Rattle.macho_consumed.proofs.BoundInputs.{file_told}

abbrev pub no_entry : EntryId
no_entry = record { of_section = record { file = 0; section = 0 }; entry = 0 }

-- the row of an entry, place by place
row_at : (l : Link) (rows : List UnwindEntry) (i : ℕ) (d : UnwindEntry) → rows ≡ map (entry_row l) (entries_of_link l) → i < length rows
    → get_or rows i d ≡ entry_row l (get_or (entries_of_link l) i no_entry)
row_at l rows i d are lt =
    let within : i < length (entries_of_link l) = omega (arith, lt, ap length are, length-map (entries_of_link l) (entry_row l)) in
    ap (λ (xs : List UnwindEntry). get_or xs i d) are ∙ get_or-map (entry_row l) (entries_of_link l) i no_entry d within

entry_there : (l : Link) (rows : List UnwindEntry) (i : ℕ) → rows ≡ map (entry_row l) (entries_of_link l) → i < length rows
    → Contains (entries_of_link l) (get_or (entries_of_link l) i no_entry)
entry_there l rows i are lt =
    let within : i < length (entries_of_link l) = omega (arith, lt, ap length are, length-map (entries_of_link l) (entry_row l)) in
    (i, within, get_or_default (entries_of_link l) i (get_or (entries_of_link l) i no_entry) no_entry within)

row_section : (l : Link) (d : EntryId) → (entry_row l d).section ≡ d.of_section.section
unfolding entry_row
row_section l d = refl

row_entry : (l : Link) (d : EntryId) → (entry_row l d).entry ≡ d.entry
unfolding entry_row
row_entry l d = refl

rows_are : (l : Link) (files : List (Option FileBytes)) (rows : List UnwindEntry) → files ≡ views_of l
    → rows ≡ flat_map (entries_at files) (all_of Entries files)
    → rows ≡ map (entry_row l) (entries_of_link l)
unfolding entry_rows
rows_are l files rows views are = are ∙ rows_read l files views

alone_test : (l : Link) (d e : EntryId) → (same_start l d e ≡ true)
    → ((same_section d.of_section e.of_section && (d.entry == e.entry)) ≡ false)
    → (not (same_start l d e) || (same_section d.of_section e.of_section && (d.entry == e.entry))) ≡ false
alone_test l d e same differ = rw (same, differ) refl

again_of : (l : Link) (files : List (Option FileBytes)) (r : ResolvedRows) (rows : List UnwindEntry) (fault : ConsumedFault)
    → files ≡ views_of l
    → All (KeepsAt r files) (all_of Entries files)
    → rows ≡ flat_map (entries_at files) (all_of Entries files) → IsAgain rows fault → IsStanding l fault
again_of l files r rows fault views keep are again =
    let all = rows_are l files rows views are in
    let before : again.place < length rows = omega (arith, again.before, again.there) in
    let d : EntryId = get_or (entries_of_link l) again.later no_entry in
    let e : EntryId = get_or (entries_of_link l) again.place no_entry in
    let other = row_at l rows again.later again.row all again.there in
    let this = sym again.is ∙ row_at l rows again.place again.row all before in
    let known_d = known l files d views (entry_there l rows again.later all again.there) in
    let known_e = known l files e views (entry_there l rows again.place all before) in
    let sd = known_starts l files r d views keep known_d in
    let se = known_starts l files r e views keep known_e in
    let same = keys_meet l d e sd.0 se.0 sd.1 se.1 (ap start_key (sym other) ∙ again.same ∙ ap start_key this) in
    let others = at_pairs AreOthers rows again.place again.later again.row again.row (subst (λ
    (xs : List UnwindEntry). Pairs AreOthers xs) (sym are) (rows_differ files)) again.before again.there in
    let differ : (same_section d.of_section e.of_section && (d.entry == e.entry)) ≡ false =
    not_true _ (λ alike.
    let section = and_left _ _ alike in
    others.apart
    (sym (ap (λ (x : UnwindEntry). x.file) other ∙ file_told l d ∙ eqb-true _ _ (and_left _ _ section) ∙ sym (file_told l e)
    ∙ sym (ap (λ (x : UnwindEntry). x.file) (again.is ∙ this))))
    (sym (ap (λ (x : UnwindEntry). x.section) other ∙ row_section l d
    ∙ eqb-true _ _ (and_right (d.of_section.file == e.of_section.file) _ section) ∙ sym (row_section l e)
    ∙ sym (ap (λ (x : UnwindEntry). x.section) (again.is ∙ this))))
    (sym (ap (λ (x : UnwindEntry). x.entry) other ∙ row_entry l d ∙ eqb-true _ _
    (and_right (same_section d.of_section e.of_section) _ alike)
    ∙ sym (row_entry l e) ∙ sym (ap (λ (x : UnwindEntry). x.entry) (again.is ∙ this))))) in
    let fails : keeps l e.of_section e.entry U6 ≡ false =
    one_fails (λ x. not (same_start l x e) || (same_section x.of_section e.of_section && (x.entry == e.entry))) (entries_of_link l) d
    (entry_there l rows again.later all again.there)
    (alone_test l d e same differ) in
    let there : Contains (unwind_sections l) e.of_section =
    subst (λ (s : SectionId). Contains (unwind_sections l) s) (sym known_e.section)
    (subst (λ (xs : List SectionId). Contains xs (id_of_ref known_e.at)) (unwind_are l files views) (contains_map id_of_ref
    (all_of Entries files) known_e.at known_e.there)) in
    let within : e.entry < entry_count l e.of_section = subst (λ (s : SectionId). e.entry < entry_count l s)
    (sym known_e.section) known_e.within in
    let stands : IsStanding l (BadUnwind e.of_section.file e.of_section.section e.entry U6) = (there, (within, fails)) in
    subst (IsStanding l) (sym (again.told ∙ ap (λ (x : UnwindEntry). BadUnwind x.file x.section x.entry U6) this
    ∙ ap (λ (f : ℕ). BadUnwind f (entry_row l e).section (entry_row l e).entry U6) (file_told l e)
    ∙ ap (λ (s : ℕ). BadUnwind e.of_section.file s (entry_row l e).entry U6) (row_section l e)
    ∙ ap (λ (n : ℕ). BadUnwind e.of_section.file e.of_section.section n U6) (row_entry l e))) stands

pub again_stands : (l : Link) (files : List (Option FileBytes)) (r : ResolvedRows) (rows : List UnwindEntry) (fault : ConsumedFault)
    → files ≡ views_of l
    → All (KeepsAt r files) (all_of Entries files)
    → rows ≡ flat_map (entries_at files) (all_of Entries files) → IsAgainOrMemory rows fault → IsStanding l fault
again_stands l files r rows (BadInitializer f s offset) views keep are again = again_of l files r rows
    (BadInitializer f s offset) views keep are again
again_stands l files r rows (BadUnwind f s e rule) views keep are again =
    again_of l files r rows (BadUnwind f s e rule) views keep are again
again_stands l files r rows OutOfMemory views keep are again = tt

-- where no two have one start, each is alone
alone_kept : (l : Link) (files : List (Option FileBytes)) (r : ResolvedRows) (rows : List UnwindEntry) (e : EntryId) → files ≡ views_of l
    → All (KeepsAt r files) (all_of Entries files)
    → rows ≡ map (entry_row l) (entries_of_link l) → AllPairs (λ d e. start_key d ≢ start_key e) rows → Contains (entries_of_link l) e
    → keeps l e.of_section e.entry U6 ≡ true
alone_kept l files r rows e views keep are apart there =
    all_pass (λ d. not (same_start l d e) || (same_section d.of_section e.of_section && (d.entry == e.entry))) (entries_of_link l)
    (λ d c. by d c (same_start l d e) refl)
  where
    long : length (entries_of_link l) ≡ length rows
    long = sym (ap length are ∙ length-map (entries_of_link l) (entry_row l))

    row_is : (x : EntryId) (i : ℕ) (z : UnwindEntry) → i < length (entries_of_link l) → get_or (entries_of_link l) i x ≡ x
        → get_or rows i z ≡ entry_row l x
    row_is x i z lt is =
        ap (λ (xs : List UnwindEntry). get_or xs i z) are ∙ get_or-map (entry_row l) (entries_of_link l) i x z lt ∙ ap (entry_row l) is

    one : (d : EntryId) (i j : ℕ) → i < length (entries_of_link l) → j < length (entries_of_link l)
        → get_or (entries_of_link l) i d ≡ d → get_or (entries_of_link l) j e ≡ e
        → start_key (entry_row l d) ≡ start_key (entry_row l e) → d ≡ e
    one d i j lt_i lt_j is_d is_e keys =
        elim (cases_lt i j) [
          | inl less ↦ absurd (apart i j (entry_row l d) less (omega (arith, lt_j, long))
              (ap start_key (row_is d i (entry_row l d) lt_i is_d) ∙ keys ∙ sym (ap start_key (row_is e j (entry_row l d) lt_j is_e))))
          | inr more ↦ elim (cases_lt j i) [
            | inl less ↦ absurd (apart j i (entry_row l d) less (omega (arith, lt_i, long))
                (ap start_key (row_is e j (entry_row l d) lt_j is_e) ∙ sym keys
                ∙ sym (ap start_key (row_is d i (entry_row l d) lt_i is_d))))
            | inr least ↦ (let same : i ≡ j = omega arith in
                sym is_d ∙ get_or_default (entries_of_link l) i d e lt_i ∙ ap (λ (n : ℕ). get_or (entries_of_link l) n e) same ∙ is_e)
          ]
        ]

    by : (d : EntryId) → Contains (entries_of_link l) d → (t : Bool) → same_start l d e ≡ t
        → (not (same_start l d e) || (same_section d.of_section e.of_section && (d.entry == e.entry))) ≡ true
    by d c false is = rw is refl
    by d c true is =
        let sd = known_starts l files r d views keep (known l files d views c) in
        let se = known_starts l files r e views keep (known l files e views there) in
        let same : d ≡ e = one d c.0 there.0 c.1 there.1 c.2 there.2 (meet_keys l d e sd.0 se.0 sd.1 se.1 is) in
        let equal : (same_section d.of_section e.of_section && (d.entry == e.entry)) ≡ true =
        and_both _ _ (and_both _ _ (eq-eqb _ _ (ap (λ (x : EntryId). x.of_section.file) same)) (eq-eqb _ _ (ap (λ
        (x : EntryId). x.of_section.section) same))) (eq-eqb _ _ (ap (λ (x : EntryId). x.entry) same)) in
        rw (is, equal) refl

-- personalities and language data
one_of_few : (xs : List ℕ) (a b : ℕ) → length xs ≤ 1 → Contains xs a → Contains xs b → a ≡ b
one_of_few xs a b few (i, lt, is) (j, below, at) =
    let same : i ≡ j = omega arith in
    sym is ∙ get_or_default xs i a b lt ∙ ap (λ (n : ℕ). get_or xs n b) same ∙ at

few_people : (b : List ℕ) (k e : ℕ) → EntryFits b k e → length (at_place b k e PERSONALITY_PLACE) ≤ 1
few_people b k e fits = at_most _ (and_left _ _ (and_right (nat_le (length (at_place b k e START_PLACE)) 1) _ fits.single))
  where
    at_most : (n : ℕ) → nat_le n 1 ≡ true → n ≤ 1
    at_most n few = grind (arith, nat_tests, few)

person_leads : (l : Link) (noted : List (List ℕ)) (file : ℕ) (b : List ℕ) (k e q : ℕ) → object_of l file ≡ b → EntryFits b k e
    → HasPerson b file k e
    → leads_somewhere l noted file (row_in b file k e).personality ≡ true → Contains (at_place b k e PERSONALITY_PLACE) q
    → is_somewhere (target_of_relocation l (record { file = file; section = k }) q) ≡ true
person_leads l noted file b k e q is fits (nobody none empty) leads (i, lt, at) = absurd (omega (arith, lt, ap length empty))
person_leads l noted file b k e q is fits (someone r some c) leads d =
    let same = one_of_few (at_place b k e PERSONALITY_PLACE) q r (few_people b k e fits) d c in
    ap (λ (x : ℕ). is_somewhere (target_of_relocation l (record { file = file; section = k }) x)) same
    ∙ person_told l noted file b k r is (is_person b k e r fits c) ∙ ap (leads_somewhere l noted file) (sym some) ∙ leads

links_kept : (l : Link) (noted : List (List ℕ)) (file : ℕ) (b : List ℕ) (k e : ℕ) → object_of l file ≡ b → EntryFits b k e
    → leads_somewhere l noted file (row_in b file k e).personality ≡ true
    → keeps l (record { file = file; section = k }) e U7 ≡ true
links_kept l noted file b k e is fits leads =
    let s : SectionId = record { file = file; section = k } in
    let people : list_all (λ q. (relocation_in l s q).r_extern && is_somewhere (target_of_relocation l s q))
    (relocations_in_entry l s e PERSONALITY_PLACE) ≡ true =
    all_pass (λ q. (relocation_in l s q).r_extern && is_somewhere (target_of_relocation l s q))
    (relocations_in_entry l s e PERSONALITY_PLACE) (λ q c.
    let d : Contains (at_place b k e PERSONALITY_PLACE) q = subst (λ (x : List ℕ). Contains (at_place x k e PERSONALITY_PLACE) q) is c in
    and_both _ _ (subst (λ (x : List ℕ). (relocation_at x k q).r_extern ≡ true) (sym is) (is_person b k e q fits d).extern)
    (person_leads l noted file b k e q is fits (person b file k e) leads d)) in
    and_both _ _ people
    (subst (λ (x : List ℕ). list_all (λ r. data_fits x (read_entry x k e).lsda (relocation_at x k r))
    (at_place x k e LSDA_PLACE) ≡ true) (sym is) (and_right _ _ fits.links))

-- all rules
pub rules_kept : (l : Link) (noted : List (List ℕ)) (files : List (Option FileBytes)) (r : ResolvedRows) (rows : List UnwindEntry)
    → files ≡ views_of l
    → IsResolved l noted r → All (KeepsAt r files) (all_of Entries files) → rows ≡ flat_map (entries_at files) (all_of Entries files)
    → AllPairs (λ d e. start_key d ≢ start_key e) rows → EntriesKeepRules l
unfolding entry_row entries_of_link
rules_kept l noted files r rows views resolved keep are apart = record {
  whole = subst (λ (xs : List SectionId). All (λ s. whole_entries l s ≡ true) xs) (unwind_are l files views)
      (All-map (λ s. whole_entries l s ≡ true) id_of_ref (all_of Entries files)
      (contains_all (λ s. whole_entries l (id_of_ref s) ≡ true) (all_of Entries files) (λ s c.
      (entry_test l s.file (bytes_in files s.file) s.section 0 (object_is l files s.file views (listed s c))).5
      ∙ (All-contains (KeepsAt r files) (all_of Entries files) s keep c).whole)));
  unwind = λ s e rule c lt.
      let m = in_map id_of_ref (all_of Entries files) s (subst (λ (xs : List SectionId). Contains xs s) (sym
      (unwind_are l files views)) c) in
      subst (λ (x : SectionId). keeps l x e rule ≡ true) (sym m.is)
      (kept m.at m.there e (subst (λ (x : SectionId). e < entry_count l x) m.is lt) rule
      (subst (λ (x : SectionId). Contains (entries_of_link l) (record { of_section = x; entry = e })) m.is (contains_flat_map (λ t. map
      (λ n. record { of_section = t; entry = n }) (range_with_len 0 (entry_count l t))) (unwind_sections l) s
      (record { of_section = s; entry = e }) c
      (contains_map (λ n. record { of_section = s; entry = n }) (range_with_len 0 (entry_count l s)) e
      (contains_range (entry_count l s) e lt)))));
}
  where
    listed : (s : SectionRef) → Contains (all_of Entries files) s → s.file < length files
    listed s c = (All-contains (IsOne Entries files) (all_of Entries files) s (all_listed Entries files) c).listed.file

    all : rows ≡ map (entry_row l) (entries_of_link l)
    all = rows_are l files rows views are

    kept : (at : SectionRef) → Contains (all_of Entries files) at → (e : ℕ) → e < entry_count l (id_of_ref at) → (rule : UnwindRule)
        → Contains (entries_of_link l) (record { of_section = id_of_ref at; entry = e }) → keeps l (id_of_ref at) e rule ≡ true
    kept at c e lt rule there =
        let b = bytes_in files at.file in
        let is = object_is l files at.file views (listed at c) in
        let keeps_all = All-contains (KeepsAt r files) (all_of Entries files) at keep c in
        let within = subst (λ (x : List ℕ). e < (section_at x at.section).size / 32) is lt in
        let fits = keeps_all.entries.entries e within in
        let test = entry_test l at.file b at.section e is in
        elim rule as (λ x. keeps l (id_of_ref at) e x ≡ true) [
          | U1 ↦ test.5 ∙ keeps_all.whole
          | U2 ↦ test.0 ∙ fits.placed
          | U3 ↦ test.1 ∙ fits.single
          | U4 ↦ test.2 ∙ fits.start
          | U5 ↦ test.3 ∙ fits.inside
          | U6 ↦ alone_kept l files r rows (record { of_section = id_of_ref at; entry = e }) views keep all apart there
          | U7 ↦ links_kept l noted at.file b at.section e is fits (keeps_all.lead e within l noted resolved)
          | U8 ↦ test.4 ∙ fits.clear
        ]
