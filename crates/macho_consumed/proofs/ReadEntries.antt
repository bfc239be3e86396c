-- The unwind entries that are read are the link's, and so are their rules.
--
-- A row is that of an entry of a listed section. All rules but one are kept by the section's bytes and by where its personalities
-- lead; that starts are distinct is what the rows are checked for. Where a section breaks a rule so, it breaks it in the link.
use Rattle.std.proofs.Common.{◌≡◌, ℕ, ◌+◌, ◌*◌, ◌/◌, ◌<◌, inl, inr, eqb, eq-eqb, Bool, true, false, ◌&&◌, ◌||◌, List, [], ◌∷◌, map, filter, Option, Some, None, refl, sym, ap, ◌∙◌, subst, arith}
use Rattle.std.proofs.lemmas.Bool.{eqb-true}
use Rattle.std.proofs.lemmas.List.Elements.{All-contains}
use Rattle.std.specs.List.{range_with_len, flat_map, list_all, Contains}
use Rattle.macho_object.specs.Views.{FileBytes}
use Rattle.macho_model.specs.declared.rules.UnwindRule.{UnwindRule}
use Rattle.macho_model.specs.declared.rules.UnwindRule.TheVariants.{U1, U2, U3, U4, U5, U6, U7, U8}
use Rattle.macho_model.specs.Objects.{section_at, relocation_at}
use Rattle.macho_model.specs.Links.{Link, SectionId, object_of}
use Rattle.macho_model.specs.Needs.{relocation_in, unwind_sections, PERSONALITY_PLACE}
use Rattle.macho_model.specs.declared.targets.Target.{Target}
use Rattle.macho_model.specs.Targets.{target_of_relocation, is_defined, is_import}
use Rattle.macho_model.specs.Uses.{target_with}
use Rattle.macho_model.specs.Consumed.{EntryId, is_plain_pointer, entry_count, relocations_in_entry, entries_of_link, keeps, LSDA_PLACE}
use Rattle.macho_model.specs.Faults.{IsBadEntry}
use Rattle.macho_symbols.specs.Kept.{ResolvedRows, IsResolved, symbol_id}
use Rattle.macho_consumed.specs.declared.listing.Kind.TheVariants.{Entries}
use Rattle.macho_consumed.specs.declared.listing.SectionRef.{SectionRef}
use Rattle.macho_consumed.specs.declared.rows.UnwindEntry.{UnwindEntry}
use Rattle.macho_consumed.specs.declared.fault.ConsumedFault.{ConsumedFault}
use Rattle.macho_consumed.specs.declared.fault.ConsumedFault.TheVariants.{BadInitializer, BadUnwind, OutOfMemory}
use Rattle.macho_promise.specs.Views.{views_of}
use Rattle.macho_consumed.specs.Rows.{entry_row, entry_rows}
use Rattle.macho_consumed.specs.Told.{IsStanding}
use Rattle.macho_consumed.specs.steps.Alone.{alone, own}
use Rattle.macho_consumed.specs.steps.Entries.{unwind_relocation_fits, at_place, links_fit, data_fits, read_entry, EntryFits, SectionBreaksRule, EntryIsLost, rows_in, row_in}
use Rattle.macho_consumed.specs.steps.Listed.{id_of_ref, bytes_in}
use Rattle.macho_consumed.specs.steps.Gathered.{all_of, entries_at, IsBadRuleAt}
use Rattle.macho_consumed.specs.steps.Checked.{leads_somewhere}
use Rattle.macho_consumed.proofs.Tests.{one_fails, not_true}
use Rattle.macho_consumed.proofs.Members.{in_filter}
use Rattle.macho_consumed.proofs.Joined.{joined_agree, mapped_agree}
use Rattle.macho_consumed.proofs.InAll.{IsOne, all_listed}
use Rattle.macho_consumed.proofs.Sectioned.{unwind_are}
use Rattle.macho_consumed.proofs.Transfer.{object_is, entry_row_is, entry_test}
use Rattle.macho_consumed.proofs.Leading.{IsBlind, pointer_tells}
use Rattle.macho_bytes.proofs.Maps.{flat_map-map}
use Rattle.macho_bytes.proofs.Bools.{and_left, and_right, and_both, and_left_false}
use Rattle.macho_bytes.proofs.Members.{contains_first, contains_map, contains_filter, range_contains, passes_each, one_passes}
use Rattle.macho_model.proofs.FixedPointers.{none_and}
use Rattle.macho_model.proofs.Uses.{map_flat}

one_listed : (files : List (Option FileBytes)) (s : SectionRef) → Contains (all_of Entries files) s → IsOne Entries files s
one_listed files s c = All-contains (IsOne Entries files) (all_of Entries files) s (all_listed Entries files) c

abbrev pub entries_in : Link → SectionId → List EntryId
entries_in l s = map (λ e. record { of_section = s; entry = e }) (range_with_len 0 (entry_count l s))

-- the rows of a section
section_rows : (l : Link) (file : ℕ) (b : List ℕ) (k : ℕ) → object_of l file ≡ b
    → map (entry_row l) (entries_in l (record { file = file; section = k })) ≡ rows_in b file k ((section_at b k).size / 32)
unfolding rows_in
section_rows l file b k e =
    let s : SectionId = record { file = file; section = k } in
    let n : entry_count l s ≡ (section_at b k).size / 32 = ap (λ (x : List ℕ). (section_at x k).size / 32) e in
    twice (range_with_len 0 (entry_count l s)) ∙ mapped_agree (λ i. entry_row l (record { of_section = s; entry = i }))
    (row_in b file k) (range_with_len 0 (entry_count l s)) (λ i c. entry_row_is l file b k i e)
    ∙ ap (λ (m : ℕ). map (row_in b file k) (range_with_len 0 m)) n
  where
    twice : (es : List ℕ) → map (entry_row l) (map (λ e. record { of_section = record { file = file; section = k }; entry = e }) es)
        ≡ map (λ i. entry_row l (record { of_section = record { file = file; section = k }; entry = i })) es
    twice [] = refl
    twice (i ∷ es) = ap (λ (xs : List UnwindEntry). entry_row l
        (record { of_section = record { file = file; section = k }; entry = i }) ∷ xs) (twice es)

-- all rows
pub rows_read : (l : Link) (files : List (Option FileBytes)) → files ≡ views_of l
    → flat_map (entries_at files) (all_of Entries files) ≡ entry_rows l
unfolding entry_rows entries_of_link
rows_read l files views =
    joined_agree (entries_at files) (λ s. map (entry_row l) (entries_in l (id_of_ref s))) (all_of Entries files)
    (λ s c. sym (section_rows l s.file (bytes_in files s.file) s.section (object_is l files s.file views
    (one_listed files s c).listed.file)))
    ∙ sym (flat_map-map (λ s. map (entry_row l) (entries_in l s)) id_of_ref (all_of Entries files))
    ∙ ap (flat_map (λ s. map (entry_row l) (entries_in l s))) (unwind_are l files views)
    ∙ sym (map_flat (entry_row l) (entries_in l) (unwind_sections l))

-- a rule that an entry breaks by its bytes it breaks in the link
links_break : (l : Link) (file : ℕ) (b : List ℕ) (k e : ℕ) → object_of l file ≡ b → links_fit b k e ≡ false
    → keeps l (record { file = file; section = k }) e U7 ≡ false
links_break l file b k e is bad =
    let s : SectionId = record { file = file; section = k } in
    not_true (keeps l s e U7) (λ good.
    let people = and_left _ _ good in
    let extern : list_all (λ r. (relocation_in l s r).r_extern) (relocations_in_entry l s e PERSONALITY_PLACE) ≡ true =
    passes_each (λ r. (relocation_in l s r).r_extern) (relocations_in_entry l s e PERSONALITY_PLACE) (λ r c.
    and_left _ _ (one_passes (λ q. (relocation_in l s q).r_extern && (is_defined (target_of_relocation l s q) || is_import
    (target_of_relocation l s q))) (relocations_in_entry l s e PERSONALITY_PLACE) r people c)) in
    let whole : links_fit b k e ≡ true =
    and_both _ _ (subst (λ (x : List ℕ). list_all (λ r. (relocation_at x k r).r_extern)
    (at_place x k e PERSONALITY_PLACE) ≡ true) is extern)
    (subst (λ (x : List ℕ). list_all (λ r. data_fits x (read_entry x k e).lsda (relocation_at x k r))
    (at_place x k e LSDA_PLACE) ≡ true) is (and_right _ _ good)) in
    let clash : true ≡ false = sym whole ∙ bad in
    cc)

-- the personality of a row, if it has one
pub data HasPerson (b : List ℕ) (file k e : ℕ) : Type 0 where
  nobody : (row_in b file k e).personality ≡ None → at_place b k e PERSONALITY_PLACE ≡ [] → HasPerson b file k e
  someone : (r : ℕ) → (row_in b file k e).personality ≡ Some (record { number = r; relocation = relocation_at b k r })
      → Contains (at_place b k e PERSONALITY_PLACE) r → HasPerson b file k e

person_of : (b : List ℕ) (file k e : ℕ) (xs : List ℕ) → at_place b k e PERSONALITY_PLACE ≡ xs → HasPerson b file k e
unfolding entry_row
person_of b file k e [] is = nobody (rw is refl) is
person_of b file k e (r ∷ rs) is = someone r (rw is refl) (subst (λ (xs : List ℕ). Contains xs r) (sym is) (contains_first r rs))

pub person : (b : List ℕ) (file k e : ℕ) → HasPerson b file k e
person b file k e = person_of b file k e (at_place b k e PERSONALITY_PLACE) refl

-- a relocation of an entry's personality
pub record IsPerson (b : List ℕ) (k r : ℕ) : Type 0 where
  pub below : r < (section_at b k).nreloc
  pub plain : is_plain_pointer (relocation_at b k r) ≡ true
  pub extern : (relocation_at b k r).r_extern ≡ true

pub is_person : (b : List ℕ) (k e r : ℕ) → EntryFits b k e → Contains (at_place b k e PERSONALITY_PLACE) r → IsPerson b k r
is_person b k e r fits c =
    let hit = in_filter (λ q. eqb (relocation_at b k q).r_address (32 * e + 16)) (range_with_len 0 (section_at b k).nreloc) r c in
    let address : (relocation_at b k r).r_address ≡ 32 * e + 16 = eqb-true _ _ hit.0 in
    let mine : eqb ((relocation_at b k r).r_address / 32) e ≡ true = eq-eqb _ _ (omega (arith, address)) in
    record {
      below = range_contains (section_at b k).nreloc r hit.1;
      plain = and_left _ _ (one_passes (unwind_relocation_fits (alone b) (own k))
          (filter (λ q. eqb ((relocation_at b k q).r_address / 32) e)
          (range_with_len 0 (section_at b k).nreloc)) r fits.placed
          (contains_filter (λ q. eqb ((relocation_at b k q).r_address / 32) e) (range_with_len 0 (section_at b k).nreloc) r hit.1 mine));
      extern = one_passes (λ q. (relocation_at b k q).r_extern) (at_place b k e PERSONALITY_PLACE) r (and_left _ _ fits.links) c;
    }

-- where a personality leads
abbrev pub is_somewhere : Target → Bool
is_somewhere t = is_defined t || is_import t

somewhere_is_blind : IsBlind is_somewhere
somewhere_is_blind = record { imports = λ i j. refl }

pointer_told : (l : Link) (noted : List (List ℕ)) (file : ℕ) (b : List ℕ) (k r : ℕ) → object_of l file ≡ b
    → is_plain_pointer (relocation_at b k r) ≡ true → (relocation_at b k r).r_extern ≡ true
    → is_somewhere (target_of_relocation l (record { file = file; section = k }) r) ≡ leads_somewhere l noted file (Some
    (record { number = r; relocation = relocation_at b k r }))
pointer_told l noted file b k r e plain extern =
    let s : SectionId = record { file = file; section = k } in
    pointer_tells is_somewhere somewhere_is_blind l noted s r (subst (λ (x : List ℕ). is_plain_pointer (relocation_at x k r) ≡ true)
    (sym e) plain)
    (subst (λ (x : List ℕ). (relocation_at x k r).r_extern ≡ true) (sym e) extern)
    ∙ ap (λ (x : List ℕ). is_somewhere (target_with l noted (symbol_id file (relocation_at x k r).r_symbolnum))) e

pub person_told : (l : Link) (noted : List (List ℕ)) (file : ℕ) (b : List ℕ) (k r : ℕ) → object_of l file ≡ b → IsPerson b k r
    → is_somewhere (target_of_relocation l (record { file = file; section = k }) r) ≡ leads_somewhere l noted file (Some
    (record { number = r; relocation = relocation_at b k r }))
person_told l noted file b k r e p = pointer_told l noted file b k r e p.plain p.extern

lost_breaks : (l : Link) (noted : List (List ℕ)) (r : ResolvedRows) (file : ℕ) (b : List ℕ) (k e : ℕ) → object_of l file ≡ b
    → IsResolved l noted r → EntryIsLost r b file k e → keeps l (record { file = file; section = k }) e U7 ≡ false
lost_breaks l noted r file b k e is resolved it =
    let s : SectionId = record { file = file; section = k } in
    let wrong : is_somewhere (target_of_relocation l s it.number) ≡ false =
    pointer_told l noted file b k it.number is it.plain it.extern ∙ it.leads l noted resolved in
    and_left_false _ _
    (one_fails (λ q. (relocation_in l s q).r_extern && is_somewhere (target_of_relocation l s q))
    (relocations_in_entry l s e PERSONALITY_PLACE) it.number
    (subst (λ (x : List ℕ). Contains (at_place x k e PERSONALITY_PLACE) it.number) (sym is) it.there) (none_and (relocation_in l s
    it.number).r_extern _ wrong))

entry_breaks : (l : Link) (noted : List (List ℕ)) (r : ResolvedRows) (file : ℕ) (b : List ℕ) (k e : ℕ) (rule : UnwindRule)
    → object_of l file ≡ b → IsResolved l noted r → SectionBreaksRule r b file k e rule
    → IsBadEntry l (record { file = file; section = k }) e rule
entry_breaks l noted r file b k e U1 is resolved (at, bad) = (
  at ∙ ap (λ (x : List ℕ). (section_at x k).size / 32) (sym is),
  (entry_test l file b k e is).5 ∙ bad,
)
entry_breaks l noted r file b k e U2 is resolved (lt, bad) = (
  subst (λ (x : List ℕ). e < (section_at x k).size / 32) (sym is) lt,
  (entry_test l file b k e is).0 ∙ bad,
)
entry_breaks l noted r file b k e U3 is resolved (lt, bad) = (
  subst (λ (x : List ℕ). e < (section_at x k).size / 32) (sym is) lt,
  (entry_test l file b k e is).1 ∙ bad,
)
entry_breaks l noted r file b k e U4 is resolved (lt, bad) = (
  subst (λ (x : List ℕ). e < (section_at x k).size / 32) (sym is) lt,
  (entry_test l file b k e is).2 ∙ bad,
)
entry_breaks l noted r file b k e U5 is resolved (lt, bad) = (
  subst (λ (x : List ℕ). e < (section_at x k).size / 32) (sym is) lt,
  (entry_test l file b k e is).3 ∙ bad,
)
entry_breaks l noted r file b k e U6 is resolved (lt, bad) = absurd bad
entry_breaks l noted r file b k e U7 is resolved (lt, inl bad) = (
  subst (λ (x : List ℕ). e < (section_at x k).size / 32) (sym is) lt,
  links_break l file b k e is bad,
)
entry_breaks l noted r file b k e U7 is resolved (lt, inr lost) = (
  subst (λ (x : List ℕ). e < (section_at x k).size / 32) (sym is) lt,
  lost_breaks l noted r file b k e is resolved lost,
)
entry_breaks l noted r file b k e U8 is resolved (lt, bad) = (
  subst (λ (x : List ℕ). e < (section_at x k).size / 32) (sym is) lt,
  (entry_test l file b k e is).4 ∙ bad,
)

listed_there : (l : Link) (files : List (Option FileBytes)) (s : SectionRef) → files ≡ views_of l → Contains (all_of Entries files) s
    → Contains (unwind_sections l) (id_of_ref s)
listed_there l files s views c =
    subst (λ (xs : List SectionId). Contains xs (id_of_ref s)) (unwind_are l files views)
    (contains_map id_of_ref (all_of Entries files) s c)

told_at : (l : Link) (f s file k e : ℕ) (rule : UnwindRule) → f ≡ file → s ≡ k
    → Contains (unwind_sections l) (record { file = file; section = k })
    → IsBadEntry l (record { file = file; section = k }) e rule → IsStanding l (BadUnwind f s e rule)
told_at l f s file k e rule is_file is_section there bad =
    subst (λ (x : ℕ). IsStanding l (BadUnwind x s e rule)) (sym is_file) (subst (λ (x : ℕ). IsStanding l (BadUnwind file x e rule))
    (sym is_section) (there, bad))

pub bad_stands : (l : Link) (noted : List (List ℕ)) (files : List (Option FileBytes)) (r : ResolvedRows) (fault : ConsumedFault)
    → files ≡ views_of l → IsResolved l noted r → IsBadRuleAt r files fault → IsStanding l fault
bad_stands l noted files r (BadInitializer f s offset) views resolved bad = absurd bad
bad_stands l noted files r (BadUnwind f s e rule) views resolved (at, c, bad) =
    told_at l f s at.file at.section e rule bad.0 bad.1 (listed_there l files at views c)
    (entry_breaks l noted r at.file (bytes_in files at.file) at.section e rule (object_is l files at.file views
    (one_listed files at c).listed.file) resolved bad.2)
bad_stands l noted files r OutOfMemory views resolved bad = tt
