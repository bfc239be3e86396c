-- What a section says of the entries that it was made of.
use Rattle.std.specs.Prelude.{◌≡◌, ℕ, ◌+◌, ◌-◌, ◌^◌, ◌<◌, ◌≤◌, ◌⊎◌, List, length, All, Contains, option_map}
use Rattle.macho_bytes.specs.Texts.{Stands}
use Rattle.macho_unwind_pages.specs.declared.entries.ResolvedUnwindInfo.{ResolvedUnwindInfo}
use Rattle.macho_unwind_pages.specs.declared.entries.UnwindFault.{UnwindFault}
use Rattle.macho_unwind_pages.specs.declared.entries.UnwindFault.TheVariants.{TooManyPersonalities, OffsetTooLarge, OutOfMemory}
use Rattle.macho_unwind_pages.specs.Entries.{MOST_PERSONALITIES, inputs_of, ids_of, IsLast, SpansAtMost}
use Rattle.macho_unwind_pages.specs.Bounds.{unwind_bound_of}
use Rattle.macho_unwind_pages.specs.Plans.{PlanList, IsPlan, IsPlanOf, HasFarOffset}
use Rattle.macho_unwind_pages.specs.Calls.{HasTooMany}
use Rattle.macho_unwind.specs.Lookup.{UnwindFinds}
use Rattle.macho_unwind.specs.Texts.{HasPlaces, section_text, page_place}
use Rattle.macho_unwind.specs.declared.lookup.Found.{Found}

-- what is to be found of an entry: its encoding, and its addresses less the text's start
abbrev pub found_for : ℕ → ResolvedUnwindInfo → Found
found_for text e = record {
  start = e.start - text;
  encoding = e.encoding;
  personality = option_map (λ p. p.slot - text) e.personality;
  lsda = option_map (λ address. address - text) e.lsda;
}

-- The entry of an offset is the one with the greatest start not above it. From the end of the last entry on, and before
-- the first start, there is none.
pub record IsEntryOf (text : ℕ) (entries : List ResolvedUnwindInfo) (offset : ℕ) (e : ResolvedUnwindInfo) : Type 0 where
  pub one : Contains entries e
  pub up_to : e.start ≤ text + offset
  pub greatest : All (λ f. f.start ≤ text + offset → f.start ≤ e.start) entries
  pub before_end : All (λ f. IsLast entries f → text + offset < f.start + f.length) entries

-- bytes begin with a section; room that is kept for it may follow
abbrev pub BeginsWith : List ℕ → List ℕ → Type 0
BeginsWith bytes section = Stands bytes (record { at = 0; text = section })

-- in all bytes that begin with a section look-up of an offset finds its entry
abbrev pub FindsEntries : ℕ → List ResolvedUnwindInfo → List ℕ → Type 0
FindsEntries text entries section =
    (bytes : List ℕ) → BeginsWith bytes section → (offset : ℕ) (e : ResolvedUnwindInfo) → IsEntryOf text entries offset e
    → UnwindFinds bytes offset (found_for text e)

-- An entry of an offset, of which this is what is to be found.
pub record IsFoundFor (text : ℕ) (entries : List ResolvedUnwindInfo) (offset : ℕ) (x : Found) : Type 0 where
  pub entry : ResolvedUnwindInfo
  pub of_offset : IsEntryOf text entries offset entry
  pub is : x ≡ found_for text entry

-- and it finds nothing else
abbrev pub FindsOnlyEntries : ℕ → List ResolvedUnwindInfo → List ℕ → Type 0
FindsOnlyEntries text entries section =
    (bytes : List ℕ) → BeginsWith bytes section → (offset : ℕ) (x : Found) → UnwindFinds bytes offset x → IsFoundFor text entries offset x

-- look-up finds nothing in the bytes
abbrev pub FindsNothing : List ℕ → Type 0
FindsNothing bytes = (offset : ℕ) (x : Found) → UnwindFinds bytes offset x → ⊥

-- the bytes are at most as many as the bound for any span that the starts keep to
abbrev pub FitsTheBound : List ResolvedUnwindInfo → List ℕ → Type 0
FitsTheBound entries bytes =
    (span : ℕ) → SpansAtMost span entries → length bytes ≤ unwind_bound_of (inputs_of entries) span

-- The bytes are those of a plan of the entries, of which one entry or more have only one (`PlansAreOne`). No number of it is cut to 32
-- bits, so look-up finds what the entries say (`SectionsAreRead`).
pub record IsSectionOf (text : ℕ) (entries : List ResolvedUnwindInfo) (bytes : List ℕ) : Type 0 where
  pub plan : PlanList
  pub of_entries : IsPlanOf text entries plan
  pub formed : IsPlan plan
  pub places : HasPlaces plan
  pub is : bytes ≡ section_text plan

-- The last page of a plan of the entries has no place of 32 bits.
pub record HasFarPage (text : ℕ) (entries : List ResolvedUnwindInfo) : Type 0 where
  pub plan : PlanList
  pub of_entries : IsPlanOf text entries plan
  pub far : 2 ^ 32 ≤ page_place plan (length plan.pages - 1)

-- Why entries have no section: too many personality functions, or else an offset that doesn't fit 32 bits, from the
-- start of the text or of a page from the start of the section.
abbrev pub BuildFault : ℕ → List ResolvedUnwindInfo → UnwindFault → Type 0
BuildFault text entries TooManyPersonalities = HasTooMany (inputs_of entries)
BuildFault text entries OffsetTooLarge =
    (length (ids_of (inputs_of entries)) ≤ MOST_PERSONALITIES) × (HasFarOffset text entries ⊎ HasFarPage text entries)
BuildFault text entries OutOfMemory = Unit {0}
