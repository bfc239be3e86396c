-- Laws on the words of a placed link and on its fixup table: the contracts of the functions of `src/laws.rt`.
use Rattle.std.specs.Prelude.{◌≡◌, ℕ, ◌+◌, ◌<◌, ◌≤◌, List, [], ◌∷◌, ◌++◌, length, map, slice_index, All, Contains}
use Rattle.macho_bytes.specs.Texts.{Stands}
use Rattle.macho_model.specs.declared.placed.Counts.{Counts}
use Rattle.macho_model.specs.declared.targets.Site.{Site}
use Rattle.macho_model.specs.Links.{Link}
use Rattle.macho_model.specs.Needs.{POINTER_SIZE}
use Rattle.macho_model.specs.Images.{tables_of}
use Rattle.macho_model.specs.ImportTable.{ImportTableSays}
use Rattle.macho_model.specs.Placement.{Placed}
use Rattle.macho_model.specs.Zeros.{Span}
use Rattle.macho_model.specs.Spans.{section_span, slot_span, IsOutsideSpan, filled_sections, in_file}
use Rattle.macho_model.specs.Values.{BadRebase}
use Rattle.macho_model.specs.Head.{range_size}
use Rattle.macho_fixups.specs.declared.run.Fixup.{Fixup}
use Rattle.macho_fixups.specs.Calls.{AreEntries}
use Rattle.macho_fixups.specs.Chains.{place_of, AllStand, ChainIsRun}
use Rattle.macho_fixups.specs.Readings.{TableReadsBack}
use Rattle.macho_promise.specs.FixupsSay.{IsFixupOf, fixup_segments}
use Rattle.macho_linkedit.specs.declared.imports.ImportTable.{ImportTable}
use Rattle.macho_linkedit.specs.Imports.{IsImportTable, AreTellable}
use Rattle.macho_linkedit.specs.Runs.{IsRunOf}
use Rattle.macho_image_laws.specs.Composed.{FixupsAreWritten}
use Rattle.macho_image_laws.specs.Laws.{WordsAreWritten}
use Rattle.macho_contents.specs.Chaining.{CanBeChained}
use Rattle.macho_contents.specs.Writing.{text_of_table, text_of_range}

-- the ranges of the file that words lie in: those of sections with bytes, and those of slots
unfoldable pub word_ranges : Link → Placed → List Span
word_ranges l p = map (λ q. in_file p (section_span l q)) (filled_sections l p) ++ map (λ s. in_file p (slot_span s)) p.slots

-- The eight bytes from a place on lie in a range.
pub record WordLiesIn (place : ℕ) (s : Span) : Type 0 where
  pub from : s.start ≤ place
  pub to : place + POINTER_SIZE ≤ s.start + s.size

-- the word of a fixup of a link lies in one of them
abbrev pub WordsLieInRanges : Type 0
WordsLieInRanges =
    (l : Link) (counts : Counts) (p : Placed) (f : Fixup) → CanBeChained l counts p → IsFixupOf l p f
    → (s : Span) × Contains (word_ranges l p) s × WordLiesIn (place_of (fixup_segments p) f.address) s

-- so a byte in none of them is as before
abbrev pub BytesOutsideStay : Type 0
BytesOutsideStay =
    (l : Link) (counts : Counts) (p : Placed) (run : List Fixup) (before now : List ℕ) (i : ℕ) → CanBeChained l counts p
    → WordsAreWritten l p run before now → All (IsOutsideSpan i) (word_ranges l p) → slice_index now i ≡ slice_index before i

-- two files have the same bytes in a range
abbrev pub AgreeIn : List ℕ → List ℕ → Span → Type 0
AgreeIn now b s = (i : ℕ) → s.start ≤ i → i < s.start + s.size → slice_index b i ≡ slice_index now i

-- and all words stand in a file of the same length that has the same bytes in all of them
abbrev pub WordsStay : Type 0
WordsStay =
    (l : Link) (counts : Counts) (p : Placed) (run : List Fixup) (before now b : List ℕ) → CanBeChained l counts p
    → WordsAreWritten l p run before now
    → length b ≡ length now → All (AgreeIn now b) (word_ranges l p) → AllStand (fixup_segments p) run b

-- The words of the link's run stand in a file, and in the range of its one fixup table stands what was put there.
pub record FixupsStand (l : Link) (p : Placed) (run : List Fixup) (t : ImportTable) (b : List ℕ) : Type 0 where
  pub run_is : IsRunOf l p run
  pub chain : ChainIsRun (fixup_segments p) run
  pub words : AllStand (fixup_segments p) run b
  pub text : Stands b (record { at = p.linkedit.fixups.start; text = text_of_range p run t })
  pub one : tables_of b ≡ record { at = p.linkedit.fixups.start; size = range_size p.linkedit.fixups } ∷ []

-- The table is that of the link's imports, and is read back from its range.
pub record TableIsOf (l : Link) (p : Placed) (run : List Fixup) (t : ImportTable) : Type 0 where
  pub table : IsImportTable l t.format t.entries.items t.names.items
  pub entries : AreEntries t.format t.entries.items
  pub long : length (text_of_range p run t) ≡ range_size p.linkedit.fixups
  pub within : length (text_of_table p run t) ≤ range_size p.linkedit.fixups
  pub reads : TableReadsBack p.base run (fixup_segments p) t.format t.entries.items t.names.items

-- then the file says the fixups and the imports of the link
abbrev pub FixupsAreKept : Type 0
FixupsAreKept =
    (l : Link) (p : Placed) (run : List Fixup) (t : ImportTable) (b : List ℕ) → FixupsStand l p run t b → TableIsOf l p run t
    → ((at : Site) → BadRebase l p at → ⊥) → FixupsAreWritten l b p

abbrev pub ImportsAreKept : Type 0
ImportsAreKept =
    (l : Link) (p : Placed) (run : List Fixup) (t : ImportTable) (b : List ℕ) → FixupsStand l p run t b → TableIsOf l p run t
    → AreTellable l → ImportTableSays l b
