-- No two entries of a link have one start, or two do.
--
-- Of an entry that keeps its rules by the bytes the link knows one relocation of its start, and its row tells where that leads: the
-- file, the section and the offset in it. Two entries have one start exactly where these are the same, as each start is not below its
-- section's.
use Rattle.std.proofs.Common.{◌≡◌, ℕ, ◌-◌, ◌/◌, ◌<◌, ◌≤◌, eq-eqb, Bool, true, false, ◌&&◌, ◌||◌, not, ◌==◌, List, [], ◌∷◌, map, filter, Option, refl, sym, ap, ◌∙◌, subst, arith}
use Rattle.std.proofs.lemmas.Bool.{eqb-true}
use Rattle.std.proofs.lemmas.List.Elements.{All-contains, All-map}
use Rattle.std.specs.List.{range_with_len, Contains, All}
use Rattle.macho_object.specs.Views.{FileBytes}
use Rattle.macho_model.specs.Objects.{section_at, relocation_at}
use Rattle.macho_model.specs.Links.{Link, SectionId, object_of, header_at}
use Rattle.macho_model.specs.Needs.{section_named, unwind_sections}
use Rattle.macho_model.specs.Consumed.{EntryId, entry_count, starts_in, same_section, same_start, entries_of_link, unwind_entry, START_PLACE}
use Rattle.macho_consumed.specs.declared.listing.Kind.TheVariants.{Entries}
use Rattle.macho_consumed.specs.declared.listing.SectionRef.{SectionRef}
use Rattle.macho_consumed.specs.declared.starts.StartKey.{StartKey}
use Rattle.macho_promise.specs.Views.{views_of}
use Rattle.macho_consumed.specs.Rows.{entry_row}
use Rattle.macho_consumed.specs.steps.Entries.{named, at_place, read_entry, EntryFits}
use Rattle.macho_consumed.specs.steps.Listed.{id_of_ref, bytes_in}
use Rattle.macho_symbols.specs.Kept.{ResolvedRows}
use Rattle.macho_consumed.specs.steps.Gathered.{all_of, KeepsAt}
use Rattle.macho_consumed.specs.steps.Checked.{start_key}
use Rattle.macho_consumed.proofs.Members.{in_map, IsFrom, all_joined}
use Rattle.macho_consumed.proofs.InAll.{IsOne, all_listed}
use Rattle.macho_consumed.proofs.Transfer.{object_is, entry_row_is}
use Rattle.macho_consumed.proofs.Sectioned.{unwind_are}
use Rattle.macho_consumed.proofs.EntryStarts.{has_start, row_start}
use Rattle.macho_bytes.proofs.Bools.{and_left, and_right, and_both}
use Rattle.macho_bytes.proofs.Members.{contains_all, range_contains}

-- THE start of an entry of a link.
pub record StartsAt (l : Link) (d : EntryId) (q : ℕ) : Type 0 where
  pub one : starts_in l d.of_section d.entry ≡ q ∷ []
  pub above : (header_at l (section_named l d.of_section q)).addr ≤ (unwind_entry l d.of_section d.entry).start
  pub key : start_key (entry_row l d) ≡ record {
    file = d.of_section.file;
    section = (section_named l d.of_section q).section;
    offset = (unwind_entry l d.of_section d.entry).start - (header_at l (section_named l d.of_section q)).addr;
  }

pub starts_at : (l : Link) (file : ℕ) (b : List ℕ) (k e : ℕ) → object_of l file ≡ b → EntryFits b k e
    → (q : ℕ) × StartsAt l (record { of_section = record { file = file; section = k }; entry = e }) q
unfolding entry_row
starts_at l file b k e is fits =
    let has = has_start b k e fits in
    let q = has.0 in (
      q,
      record {
        one = subst (λ (x : List ℕ). filter (λ r. not (relocation_at x k r).r_extern) (at_place x k e START_PLACE) ≡ q ∷ []) (sym is)
            (rw (has.1.one) (rw (has.1.by_number) refl));
        above = subst (λ (x : List ℕ). (section_at x (named (relocation_at x k q))).addr ≤ (read_entry x k e).start) (sym is) has.1.above;
        key = ap start_key (entry_row_is l file b k e is)
            ∙ ap (λ p. record { file = file; section = p.section; offset = p.offset }) (row_start b file k e q has.1)
            ∙ ap (λ (x : List ℕ). record {
              file = file;
              section = named (relocation_at x k q);
              offset = (read_entry x k e).start - (section_at x (named (relocation_at x k q))).addr;
            }) (sym is);
      },
    )

-- two starts by their relocations
meets : (l : Link) (d e : EntryId) (q r : ℕ) → StartsAt l d q → StartsAt l e r
    → same_start l d e ≡ (((same_section (section_named l d.of_section q) (section_named l e.of_section r) || false) || false)
    && ((unwind_entry l d.of_section d.entry).start == (unwind_entry l e.of_section e.entry).start))
meets l d e q r s t = rw (s.one, t.one) refl

or_false : (t : Bool) → ((t || false) || false) ≡ t
or_false true = refl
or_false false = refl

-- sections named alike are one
alike : (l : Link) (m n : SectionId) → m.file ≡ n.file → m.section ≡ n.section → (header_at l m).addr ≡ (header_at l n).addr
alike l m n file section = ap (λ (f : ℕ). (header_at l (record { file = f; section = m.section })).addr) file
    ∙ ap (λ (k : ℕ). (header_at l (record { file = n.file; section = k })).addr) section

pub keys_meet : (l : Link) (d e : EntryId) (q r : ℕ) → StartsAt l d q → StartsAt l e r
    → start_key (entry_row l d) ≡ start_key (entry_row l e) → same_start l d e ≡ true
keys_meet l d e q r s t same =
    let keys = sym s.key ∙ same ∙ t.key in
    let file : d.of_section.file ≡ e.of_section.file = ap (λ (k : StartKey). k.file) keys in
    let section : (section_named l d.of_section q).section ≡ (section_named l e.of_section r).section = ap (λ
    (k : StartKey). k.section) keys in
    let addr = alike l (section_named l d.of_section q) (section_named l e.of_section r) file section in
    let start : (unwind_entry l d.of_section d.entry).start ≡ (unwind_entry l e.of_section e.entry).start = omega (
      arith,
      ap (λ
          (k : StartKey). k.offset) keys,
      addr,
      s.above,
      t.above,
    ) in
    meets l d e q r s t
    ∙ and_both _ _ (or_false (same_section (section_named l d.of_section q) (section_named l e.of_section r))
    ∙ and_both _ _ (eq-eqb _ _ file) (eq-eqb _ _ section)) (eq-eqb _ _ start)

pub meet_keys : (l : Link) (d e : EntryId) (q r : ℕ) → StartsAt l d q → StartsAt l e r → same_start l d e ≡ true
    → start_key (entry_row l d) ≡ start_key (entry_row l e)
meet_keys l d e q r s t same =
    let all = sym (meets l d e q r s t) ∙ same in
    let sections : same_section (section_named l d.of_section q) (section_named l e.of_section r) ≡ true = sym (or_false (same_section
    (section_named l d.of_section q) (section_named l e.of_section r))) ∙ and_left _ _ all in
    let start : (unwind_entry l d.of_section d.entry).start ≡ (unwind_entry l e.of_section e.entry).start =
    eqb-true _ _ (and_right ((same_section (section_named l d.of_section q) (section_named l e.of_section r) || false) || false) _ all) in
    let file : d.of_section.file ≡ e.of_section.file = eqb-true _ _ (and_left _ _ sections) in
    let section : (section_named l d.of_section q).section ≡ (section_named l e.of_section r).section = eqb-true _ _ (and_right
    (d.of_section.file == e.of_section.file) _ sections) in
    let addr = alike l (section_named l d.of_section q) (section_named l e.of_section r) file section in
    let offset : (unwind_entry l d.of_section d.entry).start - (header_at l (section_named l d.of_section q)).addr
    ≡ (unwind_entry l e.of_section e.entry).start - (header_at l (section_named l e.of_section r)).addr = omega (arith, start, addr) in
    s.key ∙ (λ i. record { file = file i; section = section i; offset = offset i }) ∙ sym t.key

-- An entry of the link is one of a listed section.
pub record IsKnown (l : Link) (files : List (Option FileBytes)) (d : EntryId) : Type 0 where
  pub at : SectionRef
  pub there : Contains (all_of Entries files) at
  pub section : d.of_section ≡ id_of_ref at
  pub within : d.entry < entry_count l (id_of_ref at)

pub known : (l : Link) (files : List (Option FileBytes)) (d : EntryId) → files ≡ views_of l → Contains (entries_of_link l) d
    → IsKnown l files d
unfolding entries_of_link
known l files d views c =
    All-contains (IsKnown l files) (entries_of_link l) d
    (all_joined (IsKnown l files) (λ s. map (λ e. record { of_section = s; entry = e }) (range_with_len 0 (entry_count l s)))
    (unwind_sections l) (λ s there.
    let m = in_map id_of_ref (all_of Entries files) s (subst (λ (xs : List SectionId). Contains xs s) (sym
    (unwind_are l files views)) there) in
    all_here s m)) c
  where
    all_here : (s : SectionId) → IsFrom id_of_ref (all_of Entries files) s
        → All (IsKnown l files) (map (λ e. record { of_section = s; entry = e }) (range_with_len 0 (entry_count l s)))
    all_here s m =
        All-map (IsKnown l files) (λ e. record { of_section = s; entry = e }) (range_with_len 0 (entry_count l s))
        (contains_all (λ e. IsKnown l files (record { of_section = s; entry = e })) (range_with_len 0 (entry_count l s)) (λ e d. record {
          at = m.at;
          there = m.there;
          section = m.is;
          within = subst (λ (x : SectionId). e < entry_count l x) m.is (range_contains (entry_count l s) e d);
        }))

pub known_starts : (l : Link) (files : List (Option FileBytes)) (r : ResolvedRows) (d : EntryId) → files ≡ views_of l
    → All (KeepsAt r files) (all_of Entries files) → IsKnown l files d
    → (q : ℕ) × StartsAt l d q
known_starts l files r d views keep it =
    let e = object_is l files it.at.file views (All-contains (IsOne Entries files) (all_of Entries files) it.at
    (all_listed Entries files) it.there).listed.file in
    let fits = (All-contains (KeepsAt r files) (all_of Entries files) it.at keep it.there).entries.entries d.entry (subst (λ
    (x : List ℕ). d.entry < (section_at x it.at.section).size / 32) e it.within) in
    subst (λ (s : SectionId). (q : ℕ) × StartsAt l (record { of_section = s; entry = d.entry }) q) (sym it.section)
    (starts_at l it.at.file (bytes_in files it.at.file) it.at.section d.entry e fits)
