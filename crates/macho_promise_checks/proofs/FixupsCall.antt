-- The fixups of the call's image, as the premises of the laws want them.
--
-- What the table and the words say is computed in `RowsCallFixups`. Here the words lead to no further one, so the chain is the run; the
-- table reads back; and of the two words the one that moves has a target that it has room for.
use Rattle.std.proofs.Common.{◌≡◌, ℕ, zero, suc, ◌+◌, ◌%◌, ◌^◌, ◌<◌, ◌≤◌, ◌⊎◌, true, false, List, [], ◌∷◌, length, get_or, map, refl, sym, ap, subst, ◌∙◌, arith, inl, inr, All}
use Rattle.std.specs.Prelude.{Contains, pos}
use Rattle.std.specs.List.{AllByRecursion}
use Rattle.std.proofs.lemmas.Bool.{true≢false}
use Rattle.std.proofs.lemmas.List.Elements.{All-from_recursion}
use Rattle.std.specs.FinMap.{empty}
use Rattle.macho_bytes.proofs.Layouts.{reads_back}
use Rattle.macho_bytes.proofs.Numbers.{little_is_sound}
use Rattle.macho_wire.specs.declared.fixups.ChainedFixupsHeader.{ChainedFixupsHeader}
use Rattle.macho_model.specs.declared.placed.PlacedSection.{PlacedSection}
use Rattle.macho_model.specs.declared.placed.Slot.{Slot}
use Rattle.macho_model.specs.declared.targets.Site.{Site}
use Rattle.macho_model.specs.declared.targets.Site.TheVariants as site
use Rattle.macho_model.specs.declared.targets.Target.TheVariants as target
use Rattle.macho_model.specs.Targets.{is_import}
use Rattle.macho_model.specs.Values.{needs_fixup, IsNotEncodable, BadRebase}
use Rattle.macho_model.specs.Stands.{IsAt}
use Rattle.macho_model.specs.Fixups.{import_format}
use Rattle.macho_model.specs.ImportTable.{names_text}
use Rattle.macho_fixups.specs.declared.run.Fixup.{Fixup}
use Rattle.macho_fixups.specs.declared.run.FixupSegment.{FixupSegment}
use Rattle.macho_fixups.specs.declared.imports.ImportEntry.{ImportEntry}
use Rattle.macho_fixups.specs.declared.words.FixupKind.TheVariants.{Rebase, Bind}
use Rattle.macho_fixups.specs.Words.{IsWordOf, word_of}
use Rattle.macho_fixups.specs.Runs.{pages_of, start_of}
use Rattle.macho_fixups.specs.Chains.{ChainIsRun, step_of}
use Rattle.macho_fixups.specs.Tables.{table_header, table_text, image_starts_text, image_starts_size, offsets_text, segment_text, segment_size, starts_text, page_starts_text}
use Rattle.macho_fixups.specs.Readings.{TableReadsBack}
use Rattle.macho_fixups.specs.Calls.{FitsTable, AreEntries}
use Rattle.macho_fixups.specs.steps.Calls.{EntryFits}
use Rattle.macho_fixups.proofs.RunPages.{chain_is_run}
use Rattle.macho_fixups.proofs.TableReading.{table_reads_back}
use Rattle.macho_promise.specs.FixupsSay.{fixup_segments}
use Rattle.macho_promise.specs.FixupsSay as promised
use Rattle.macho_bytes.specs.Numbers.{le_bytes, row_bytes}
use Rattle.macho_model.specs.Links.{SectionId, section_id, carried_of}
use Rattle.macho_model.specs.Fields.{Field, fields_of}
use Rattle.macho_model_checks.proofs.Examples.{words}
use Rattle.macho_model_checks.proofs.ExampleLinks.{section}
use Rattle.macho_model_checks.proofs.ExampleCall.{calling, placed_call, call_image}
use Rattle.macho_model_checks.proofs.RowsCallFixups.{fixups_in_call, run_of_call, entry_of_exit, name_of_exit, table_size, what_is_asked, each_word, table_stands, call_fixups}
use Rattle.macho_model_checks.proofs.RowsCallChain.{pointer_field, data_fields}
use Rattle.macho_image_laws.specs.Composed.{FixupsAreWritten}
use Rattle.macho_image_laws.proofs.TableLength.{table_long}
use Rattle.macho_promise_checks.proofs.FactsCall.{carried_call, field_call, fields_call, slots_call}
use Rattle.macho_promise_checks.proofs.HeadCall.{segments_call}
use Rattle.macho_bytes.specs.Spellings.{ReadsBack, spelling}
use Rattle.macho_wire.specs.Spellings.{chained_fixups_header_rows}
use Rattle.macho_bytes.proofs.Members.{contains_cases, nil_contains}
use Rattle.macho_model_checks.proofs.RowsCall.{call_long}
use Rattle.macho_model_checks.proofs.RowsCallChanges.{code_is_at}

-- the words of the run
steps_call : (step_of fixups_in_call 0 ≡ 0) × (step_of fixups_in_call 1 ≡ 0)
unfolding step_of
steps_call = (refl, refl)

slot_word : IsWordOf (Bind 0 0) 0 (word_of (Bind 0 0) 0)
unfolding word_of
slot_word = record { fits = omega arith; says = (refl, refl, refl, refl); leads = refl }

pointer_word : IsWordOf (Rebase 0x398) 0 (word_of (Rebase 0x398) 0)
unfolding word_of
pointer_word = record { fits = omega arith; says = (refl, refl, refl); leads = refl }

each_word_is : (k : ℕ) (d : Fixup) → k < length fixups_in_call
    → IsWordOf (get_or fixups_in_call k d).kind (step_of fixups_in_call k)
    (word_of (get_or fixups_in_call k d).kind (step_of fixups_in_call k))
each_word_is zero d lt = rw steps_call.0 slot_word
each_word_is (suc zero) d lt = rw steps_call.1 pointer_word
each_word_is (suc (suc k)) d lt = absurd (omega (arith, lt))

chain_call : ChainIsRun (fixup_segments placed_call) fixups_in_call
chain_call = chain_is_run (fixup_segments placed_call) fixups_in_call run_of_call segments_call each_word_is

-- the table: two segments with a page
abbrev pages_in : FixupSegment → ℕ
pages_in s = pages_of s fixups_in_call

pages_call : map pages_in (fixup_segments placed_call) ≡ 0 ∷ 0 ∷ 1 ∷ 1 ∷ 0 ∷ []
unfolding pages_of
pages_call = refl

few_pages : AllByRecursion (λ (s : FixupSegment). pages_in s ≤ 65535) (fixup_segments placed_call)
unfolding pages_of
few_pages = (omega arith, (omega arith, (omega arith, (omega arith, (omega arith, tt)))))

pages_above : AllByRecursion (λ (s : FixupSegment). (pages_in s ≡ 0) ⊎ (0x100000000 ≤ s.address)) (fixup_segments placed_call)
unfolding pages_of
pages_above = (inl refl, (inl refl, (inr (omega arith), (inr (omega arith), (inl refl, tt)))))

fits_call : FitsTable 0x100000000 fixups_in_call (fixup_segments placed_call)
fits_call = record {
  run = run_of_call;
  order = segments_call;
  count = omega arith;
  pages = All-from_recursion (λ (s : FixupSegment). pages_in s ≤ 65535) (fixup_segments placed_call) few_pages;
  above = All-from_recursion (λ (s : FixupSegment). (pages_in s ≡ 0) ⊎ (0x100000000 ≤ s.address)) (fixup_segments placed_call) pages_above;
}

entries_fit : AreEntries 1 (entry_of_exit ∷ [])
entries_fit = record {
  known = inl refl;
  plain = λ h. All-from_recursion (λ (e : ImportEntry). e.addend ≡ pos 0) (entry_of_exit ∷ []) (refl, tt);
  count = omega arith;
  names = All-from_recursion (λ (e : ImportEntry). e.name_offset < 2 ^ 23) (entry_of_exit ∷ []) (omega arith, tt);
}

each_fits : All EntryFits (entry_of_exit ∷ [])
each_fits = All-from_recursion EntryFits (entry_of_exit ∷ []) (record { library_fits = omega arith; addend_fits = omega arith }, tt)

abbrev header_of_table : ChainedFixupsHeader
header_of_table = record {
  fixups_version = 0;
  starts_offset = 28;
  imports_offset = 100;
  symbols_offset = 104;
  imports_count = 1;
  imports_format = 1;
  symbols_format = 0;
}

header_call : table_header fixups_in_call (fixup_segments placed_call) 1 (entry_of_exit ∷ []) ≡ header_of_table
unfolding image_starts_size segment_size pages_of
header_call = refl

header_back : ReadsBack chained_fixups_header_rows (table_header fixups_in_call (fixup_segments placed_call) 1 (entry_of_exit ∷ []))
header_back = rw header_call (reads_back chained_fixups_header_rows header_of_table little_is_sound
    (((omega arith, (omega arith, (omega arith, (omega arith, (omega arith, (omega arith, (omega arith, tt))))))), refl), tt)
    refl)

starts_size : length (image_starts_text 0x100000000 fixups_in_call (fixup_segments placed_call))
    ≡ image_starts_size fixups_in_call (fixup_segments placed_call)
unfolding image_starts_text image_starts_size offsets_text segment_text segment_size starts_text page_starts_text pages_of start_of
    spelling row_bytes le_bytes
starts_size = refl

table_back : TableReadsBack 0x100000000 fixups_in_call (fixup_segments placed_call) 1 (entry_of_exit ∷ []) name_of_exit
table_back = table_reads_back 0x100000000 fixups_in_call (fixup_segments placed_call) 1
    (entry_of_exit ∷ []) name_of_exit fits_call entries_fit each_fits header_back
    starts_size (omega (arith, table_long 0x100000000 fixups_in_call (fixup_segments placed_call) 1 (entry_of_exit ∷ []) name_of_exit))

table_back_call : TableReadsBack 0x100000000 fixups_in_call (fixup_segments placed_call) (import_format calling) (entry_of_exit ∷ [])
    (names_text calling)
table_back_call = rw (what_is_asked.0, what_is_asked.1) table_back

room_of_table : length (table_text 0x100000000 fixups_in_call (fixup_segments placed_call) (import_format calling) (entry_of_exit ∷ [])
    (names_text calling)) ≤ 0xd0
room_of_table = rw (what_is_asked.0, what_is_asked.1) (omega (arith, table_size))

-- Of the fields the pointer alone needs a word,
branch_is_plain : needs_fixup calling (section 0 0) field_call ≡ false
unfolding field_call
branch_is_plain = refl

carried_is : (s : SectionId) → Contains (carried_of calling) s → (section 0 0 ≡ s) ⊎ (section 0 1 ≡ s)
carried_is s one = among (subst (λ (ss : List SectionId). Contains ss s) carried_call one)
  where
    among : Contains (section 0 0 ∷ section 0 1 ∷ []) s → (section 0 0 ≡ s) ⊎ (section 0 1 ≡ s)
    among (zero, within, is) = inl is
    among (suc zero, within, is) = inr is
    among (suc (suc k), within, is) = absurd (omega (arith, within))

one_of : (g f : Field) → Contains (g ∷ []) f → g ≡ f
one_of g f (zero, within, is) = is
one_of g f (suc k, within, is) = absurd (omega (arith, within))

needing : (s : SectionId) (f : Field) → Contains (carried_of calling) s → Contains (fields_of calling s) f → needs_fixup calling s f ≡ true
    → pointer_field ≡ f
needing s f carried field needs = by (carried_is s carried)
  where
    by : (section 0 0 ≡ s) ⊎ (section 0 1 ≡ s) → pointer_field ≡ f
    by (inl code) =
        let here : Contains (fields_of calling (section 0 0)) f =
        subst (λ (x : SectionId). Contains (fields_of calling x) f) (sym code) field in
        let same = one_of field_call f (subst (λ (fs : List Field). Contains fs f) fields_call here) in
        let need : needs_fixup calling (section 0 0) field_call ≡ true =
        subst (λ (g : Field). needs_fixup calling (section 0 0) g ≡ true) (sym same)
        (subst (λ (x : SectionId). needs_fixup calling x f ≡ true) (sym code) needs) in
        absurd (true≢false (sym need ∙ branch_is_plain))
    by (inr data_section) =
        let here : Contains (fields_of calling (section 0 1)) f =
        subst (λ (x : SectionId). Contains (fields_of calling x) f) (sym data_section) field in
        one_of pointer_field f (subst (λ (fs : List Field). Contains fs f) data_fields.0 here)

-- so a word has room for it; and the slot leads to an import
has_room_for : IsNotEncodable placed_call ((0x100000398 + 0) % 2 ^ 64) → ⊥
has_room_for (inl below) = omega (arith, below)
has_room_for (inr high) = omega (arith, high)

none_bad : (at : Site) → BadRebase calling placed_call at → ⊥
none_bad (site.Field file number relocation) (f, x, (carried, field, is), needs, moves, at, bad) =
    let same = needing (section_id file number) f carried field needs in
    let leads : IsAt calling placed_call 0 empty (target.Section 0 0 0) x =
    subst (λ (g : Field). IsAt calling placed_call 0 empty g.target x) (sym same) at in
    let none : IsNotEncodable placed_call ((x + 0) % 2 ^ 64) =
    subst (λ (g : Field). IsNotEncodable placed_call ((x + g.addend) % 2 ^ 64)) (sym same) bad in
    has_room_for (subst (λ (y : ℕ). IsNotEncodable placed_call ((y + 0) % 2 ^ 64)) (code_is_at x leads) none)
none_bad (site.Slot index) (t, x, number, moves, at, bad) =
    let there : Contains (target.Import 0 ∷ []) t = subst (λ (ts : List _). Contains ts t) slots_call (index, number.0, number.1) in
    elim (contains_cases (target.Import 0) [] t there) [
      | inl here ↦ true≢false (ap is_import here ∙ moves)
      | inr rest ↦ nil_contains t rest
    ]
none_bad (site.Stub index) bad = bad

pub fixups_call : FixupsAreWritten calling call_image placed_call
unfolding call_fixups
fixups_call = record {
  say = call_fixups;
  run = run_of_call;
  words = record { each = each_word };
  chain = chain_call;
  entries = entry_of_exit ∷ [];
  text = table_stands;
  table = table_back_call;
  room = room_of_table;
  inside = omega (arith, call_long);
  encoded = none_bad;
}
