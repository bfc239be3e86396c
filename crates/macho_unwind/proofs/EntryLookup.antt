-- Look-up in the section of entries finds each offset's entry, and nothing else.
--
-- The plan says of an offset what its entry says, and all bytes that begin with its text say what the plan says. The other way round: where
-- look-up finds something, some row starts at the offset or before it, so some entry does, and the greatest of these is the
-- offset's entry; look-up finds it, and finds one thing at most.
use Rattle.std.proofs.Common.{◌≡◌, ℕ, ◌+◌, ◌<◌, ◌≤◌, List, [], ◌∷◌, length, get_or, None, ap, subst, ◌∙◌, arith}
use Rattle.macho_bytes.specs.Texts.{Stands}
use Rattle.macho_unwind_pages.specs.declared.entries.ResolvedUnwindInfo.{ResolvedUnwindInfo}
use Rattle.macho_unwind_pages.specs.Entries.{AreEntries, inputs_of, ids_of}
use Rattle.macho_unwind_pages.specs.declared.paging.Row.{Row}
use Rattle.macho_unwind_pages.specs.Plans.{PlanList}
use Rattle.macho_unwind.specs.Entries.{found_for, IsEntryOf, BeginsWith, FindsEntries, FindsOnlyEntries, FindsNothing, IsSectionOf}
use Rattle.macho_unwind.specs.Laws.{SectionsAreRead}
use Rattle.macho_unwind.specs.Texts.{HasPlaces, section_text}
use Rattle.macho_unwind.proofs.Uniqueness.{finds-unique}
use Rattle.macho_unwind.proofs.Standing.{section-parts}
use Rattle.macho_unwind.proofs.PlanLookup.{IsGiven, found-where-said, covered-where-found}
use Rattle.macho_unwind.proofs.Greatest.{top-of}
use Rattle.macho_unwind.proofs.EntryRows.{IsMadeOf, made_of, row-of-entry, entry-of-row, said-of-entry}
use Rattle.macho_unwind.proofs.PlanRows.{row_there}
use Rattle.std.proofs.lemmas.List.{get_or_default}
use Rattle.macho_unwind_pages.specs.Orders.{in_order}

-- an entry that isn't there
abbrev pub no_entry : ResolvedUnwindInfo
no_entry = record { start = 0; length = 0; encoding = 0; personality = None; lsda = None }

-- The bytes are the text of a plan of the entries that was written.
pub record IsWritten (text : ℕ) (entries : List ResolvedUnwindInfo) (section : List ℕ) : Type 0 where
  pub plan : PlanList
  pub made : IsMadeOf text entries plan
  pub places : HasPlaces plan
  pub is : section ≡ section_text plan

pub written : (text : ℕ) (entries : List ResolvedUnwindInfo) (section : List ℕ) → AreEntries text entries
    → IsSectionOf text entries section → IsWritten text entries section
written text entries section are s =
    record { plan = s.plan; made = made_of text entries s.plan are s.of_entries s.formed; places = s.places; is = s.is }

-- a plan of an entry or more has a page or more
pub some-page : (text : ℕ) (entries : List ResolvedUnwindInfo) (plan : PlanList) → IsMadeOf text entries plan
    → 0 < length entries → 0 < length plan.pages
some-page text entries plan p some =
    let e : ResolvedUnwindInfo = get_or entries 0 no_entry in
    let row = row_there plan _ (row-of-entry text entries plan p e (0, some, get_or_default entries 0 e no_entry some)) in
    omega (arith, row.one)

-- the section's plan, in bytes that begin with the section
pub section-given : (text : ℕ) (entries : List ResolvedUnwindInfo) (section bytes : List ℕ) (s : IsWritten text entries section)
    → BeginsWith bytes section → IsGiven bytes s.plan
section-given text entries section bytes s begins = record {
  formed = s.made.formed;
  places = s.places;
  stands = section-parts bytes s.plan (subst (λ (t : List ℕ). BeginsWith bytes t) s.is begins);
}

-- look-up in the entries' section finds each offset's entry
pub finds-entries : (text : ℕ) (entries : List ResolvedUnwindInfo) (section : List ℕ) → AreEntries text entries
    → IsWritten text entries section → FindsEntries text entries section
finds-entries text entries section are s bytes begins offset e of =
    found-where-said bytes s.plan offset (found_for text e) (section-given text entries section bytes s begins)
    (said-of-entry text entries s.plan offset e are s.made of)

-- what look-up finds there of an offset is what the entry of the offset says
pub finds-only-entries : (text : ℕ) (entries : List ResolvedUnwindInfo) (section : List ℕ) → AreEntries text entries
    → IsWritten text entries section → FindsOnlyEntries text entries section
finds-only-entries text entries section are s bytes begins offset x finds =
    let covered = covered-where-found bytes s.plan offset x (section-given text entries section bytes s begins) finds in
    let m = entry-of-row text entries s.plan s.made no_entry covered.row covered.one in
    let start = ap (λ (r : Row). r.start) m.is in
    let top = top-of (λ (e : ResolvedUnwindInfo). e.start) (text + offset) entries m.item m.one (omega (arith, start, covered.up_to)) in
    let of : IsEntryOf text entries offset top.item = record {
      one = top.one;
      up_to = top.up_to;
      greatest = top.greatest;
      before_end = λ k d lt last. omega (arith, s.made.end k d lt last, covered.before_end);
    } in record {
      entry = top.item;
      of_offset = of;
      is = finds-unique bytes offset x (found_for text top.item) finds
          (finds-entries text entries section are s bytes begins offset top.item of);
    }

-- THE law
pub sections_are_read : SectionsAreRead
sections_are_read text entries section are s =
    let w = written text entries section are s in
    (finds-entries text entries section are w, finds-only-entries text entries section are w)

-- no bytes say anything
pub nothing-finds : (bytes : List ℕ) → bytes ≡ [] → FindsNothing bytes
nothing-finds bytes empty offset x finds = absurd (omega (arith, finds.tables.header, ap (λ (t : List ℕ). length t) empty))

-- no entries name no personality
pub no-ids : (entries : List ResolvedUnwindInfo) → length entries ≡ 0 → length (ids_of (inputs_of entries)) ≤ 3
unfolding in_order
no-ids [] none = omega arith
no-ids (e ∷ entries) none = absurd (omega arith)
