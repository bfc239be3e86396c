-- The run of fixups of an image: every word that is asked for, once, in the order of addresses.
use Rattle.std.specs.Prelude.{◌≡◌, ℕ, ◌+◌, ◌%◌, ◌^◌, ◌≤◌, ◌⊎◌, true, false, List, length, filter, All, AllPairs, Contains, IsPermutation}
use Rattle.std.specs.List.Sorted.{IsNonDecreasingBy}
use Rattle.macho_records.specs.Sections.{is_zerofill}
use Rattle.macho_model.specs.declared.placed.PlacedSection.{PlacedSection}
use Rattle.macho_model.specs.Links.{Link, SectionId, header_at, carried_of}
use Rattle.macho_model.specs.Fields.{Field, fields_of}
use Rattle.macho_model.specs.Placement.{Placed, id_of}
use Rattle.macho_model.specs.Segments.{SEGMENT_PAGE}
use Rattle.macho_model.specs.Chain.{STRIDE}
use Rattle.macho_model.specs.Needs.{POINTER_SIZE}
use Rattle.macho_model.specs.Values.{needs_fixup}
use Rattle.macho_model.specs.Fixups.{import_entries_of}
use Rattle.macho_fixups.specs.declared.run.Fixup.{Fixup}
use Rattle.macho_fixups.specs.Runs.{AreFixups}
use Rattle.macho_promise.specs.FixupsSay.{IsFixupOf, fixup_segments}

-- the same fixups, by rising addresses
pub record IsSortedRunOf (asked run : List Fixup) : Type 0 where
  pub same : IsPermutation asked run
  pub order : IsNonDecreasingBy (λ f. f.address) run

-- THE run of a link by a placement: what both writers of a fixup table ask, all fixups of the link and no other.
pub record IsRunOf (l : Link) (p : Placed) (fixups : List Fixup) : Type 0 where
  pub run : AreFixups (fixup_segments p) fixups
  pub each : All (IsFixupOf l p) fixups
  pub all : (f : Fixup) → IsFixupOf l p f → Contains fixups f

-- a word may be on a chain: it stands at a multiple of a step, and whole in a page
abbrev pub IsWordPlace : ℕ → Type 0
IsWordPlace a = (a % STRIDE ≡ 0) × (a % SEGMENT_PAGE + POINTER_SIZE ≤ SEGMENT_PAGE)

-- two fields of a section, of a word each, share no byte
abbrev pub WordsApart : Field → Field → Type 0
WordsApart f g = (f.offset + POINTER_SIZE ≤ g.offset) ⊎ (g.offset + POINTER_SIZE ≤ f.offset)

-- The pointers that the loader writes stand where a chain may reach them.
pub record PointersFit (l : Link) (p : Placed) : Type 0 where
  -- each lies whole in its section, which has bytes in the file
  pub inside : (s : SectionId) (f : Field) → Contains (carried_of l) s → Contains (fields_of l s) f → needs_fixup l s f ≡ true
      → (f.offset + POINTER_SIZE ≤ (header_at l s).size) × (is_zerofill (header_at l s) ≡ false)
  -- those of one section share no byte
  pub apart : (s : SectionId) → Contains (carried_of l) s → AllPairs WordsApart (filter (needs_fixup l s) (fields_of l s))
  -- each stands at a place for a word
  pub places : (q : PlacedSection) (f : Field) → Contains p.sections q → Contains (fields_of l (id_of q)) f → needs_fixup l
      (id_of q) f ≡ true
      → IsWordPlace (q.address + f.offset)
  -- the number of an entry of the import table has 24 bits
  pub entries : length (import_entries_of l) ≤ 2 ^ 24
