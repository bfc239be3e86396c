-- The unwind information of a link with one entry, by computing from its bytes, and two changes of one byte that break it.
--
-- The object's function has 8 bytes and no frame. It stands at 0x138, and the section `__unwind_info` behind it: header, the one
-- encoding, the page's entry and the last one, and the page with its one function (`mach-o/compact_unwind_encoding.h`). Entries have one
-- plan, so a section with another encoding, or with another end of the last function, is none of theirs.
use Rattle.std.proofs.Common.{◌≡◌, ℕ, ◌+◌, ◌-◌, ◌/◌, ◌%◌, ◌^◌, ◌<◌, ◌≤◌, List, [], ◌∷◌, ◌++◌, length, get_or, replicate, refl, sym, ap, ◌↔◌, ◌∙◌, subst, inl, inr, arith, None, All}
use Rattle.std.specs.Prelude.{slice_index, slice_range, IfSome}
use Rattle.std.proofs.lemmas.List.Elements.{All-nil, All-cons}
use Rattle.std.proofs.lemmas.List.Sorted.{IsPermutation-refl}
use Rattle.std.proofs.lemmas.List.{get_or-take}
use Rattle.macho_bytes.specs.Numbers.{le_at, le_bytes, row_bytes}
use Rattle.macho_bytes.specs.Layouts.{reading}
use Rattle.macho_bytes.specs.Texts.{Stands}
use Rattle.macho_model.specs.Commands.{header_of, commands_from, commands_of, commands_end}
use Rattle.macho_model.specs.Objects.{num_sections, section_place, section_at, section_bytes, symtab_of, num_symbols, symbol_place, symbol_at, strings_of, symbol_name, relocation_place, relocation_at}
use Rattle.macho_model.specs.ExportLists.{plain_entries, all_entries, entries_of}
use Rattle.macho_model.specs.Links.{Link, sections_of, carried_of, template_exponent, placed_exponent}
use Rattle.macho_model.specs.Resolution.{symbols_of, strong_of, commons_of, greatest_of, libraries_with, definition_of, chosen_commons}
use Rattle.macho_model.specs.Needs.{initializer_sections, unwind_sections, imports_of, libraries_needed, carried_relocations, initializer_relocations, personality_relocations}
use Rattle.macho_model.specs.Targets.{target_of, target_of_relocation, slots_of, stubs_of}
use Rattle.macho_model.specs.Fields.{fields_of}
use Rattle.macho_model.specs.Consumed.{entries_of_link}
use Rattle.macho_model.specs.Placement.{Placed}
use Rattle.macho_model.specs.Addresses.{offset_in_file, section_address}
use Rattle.macho_unwind_pages.specs.declared.entries.ResolvedUnwindInfo.{ResolvedUnwindInfo}
use Rattle.macho_unwind_pages.specs.declared.paging.Row.{Row}
use Rattle.macho_unwind_pages.specs.Entries.{AreEntries, IsLast, inputs_of, ids_of}
use Rattle.macho_unwind_pages.specs.Orders.{in_order, put_in_order}
use Rattle.macho_unwind_pages.specs.Plans.{PageList, PlanList, IsPage, IsPlan, FitOnPage, IsPlanOf, own_codes}
use Rattle.macho_unwind_pages.proofs.OnePlan.{plans_are_one}
use Rattle.macho_unwind.specs.Texts.{section_text, page_text}
use Rattle.macho_unwind.specs.declared.lookup.Found.{Found}
use Rattle.macho_unwind.specs.Lookup.{UnwindFinds}
use Rattle.macho_unwind.specs.Entries.{IsSectionOf, IsFoundFor, BeginsWith}
use Rattle.macho_unwind.proofs.EntryLookup.{sections_are_read}
use Rattle.macho_promise.specs.UnwindSays.{resolved_entries, unwind_bytes, IsUnwindText, UnwindSays}
use Rattle.macho_model_checks.proofs.Examples.{words8, words, halves, name16, changed}
use Rattle.macho_model_checks.proofs.ExampleLinks.{entry}
use Rattle.macho_model_checks.proofs.ExamplePlacement.{placed_a}
use Rattle.macho_model_checks.proofs.RowsValid.{data_object, unwind_object, unwind_entry, link_of_object}
use Rattle.macho_bytes.specs.Spellings.{spelling}
use Rattle.macho_unwind_pages.specs.steps.Plans.{HasSlot}

abbrev pub unwinding : Link
unwinding = link_of_object (unwind_object (unwind_entry 8 0x02000000) (0 ∷ 0x06000001 ∷ []))

abbrev pub placed_unwind : Placed
placed_unwind = record placed_a { unwind = record { start = 0x100000140; end = 0x100000188 } }

-- the section, 72 bytes
unfoldable pub unwind_section : List ℕ
unwind_section =
    words (1 ∷ 28 ∷ 1 ∷ 32 ∷ 0 ∷ 32 ∷ 2 ∷ []) ++ words (0x02000000 ∷ [])
    ++ words (0x138 ∷ 56 ∷ 56 ∷ []) ++ words (0x140 ∷ 0 ∷ 56 ∷ [])
    ++ words (3 ∷ []) ++ halves (12 ∷ 1 ∷ 16 ∷ 0 ∷ []) ++ words (0 ∷ [])

-- the file: of what stands in front of the function only its bytes matter here
unfoldable pub unwind_file : List ℕ
unwind_file = replicate 0x138 0 ++ words (0x52800000 ∷ 0xd65f03c0 ∷ []) ++ unwind_section

abbrev pub function_there : ResolvedUnwindInfo
function_there = record { start = 0x100000138; length = 8; encoding = 0x02000000; personality = None; lsda = None }

abbrev pub functions : List ResolvedUnwindInfo
functions = function_there ∷ []

resolved_are : resolved_entries unwinding placed_unwind ≡ functions
unfolding commands_end commands_of commands_from header_of reading le_at row_bytes le_bytes words8 words halves name16 entry
    num_sections section_place section_at section_bytes symtab_of num_symbols symbol_place symbol_at strings_of symbol_name
    relocation_place relocation_at sections_of carried_of template_exponent placed_exponent symbols_of strong_of commons_of
    greatest_of libraries_with definition_of chosen_commons initializer_sections unwind_sections carried_relocations initializer_relocations
    personality_relocations imports_of
    libraries_needed target_of target_of_relocation slots_of stubs_of fields_of plain_entries all_entries entries_of
    entries_of_link section_address resolved_entries data_object unwind_object unwind_entry
resolved_are = refl

range_there : unwind_bytes unwind_file placed_unwind ≡ unwind_section
unfolding words halves le_bytes row_bytes unwind_section unwind_file offset_in_file unwind_bytes
range_there = refl

-- the plan: one page of one function
abbrev page_there : PageList
page_there = record { first = 0x138; words = 0 ∷ []; locals = [] }

abbrev plan_there : PlanList
plan_there = record { globals = 0x02000000 ∷ []; personalities = []; lsdas = []; pages = page_there ∷ []; end = 0x140 }

one_of : {X : Type 0} (P : X → Type 0) (x : X) → P x → All P (x ∷ [])
one_of P x h = All-cons P x [] h (All-nil P)

page_fits : IsPage plan_there.globals page_there
page_fits = record {
  some = omega arith;
  first = refl;
  rising = λ i j d lt within. absurd (omega (arith, lt, within));
  named = one_of (λ word. word / 2 ^ 24 < 1) 0 (omega arith);
  locals = omega arith;
  room = omega arith;
  start = omega arith;
  codes = All-nil (λ code. code < 2 ^ 32);
}

plan_fits : IsPlan plan_there
plan_fits = record {
  pages = one_of (IsPage plan_there.globals) page_there page_fits;
  order = λ i j d lt within. absurd (omega (arith, lt, within));
  globals = omega arith;
  personalities = omega arith;
  lsda_order = λ i j d lt within. absurd (omega (arith, lt, within));
  codes = one_of (λ code. code < 2 ^ 32) 0x02000000 (omega arith);
  slots = All-nil (λ slot. slot < 2 ^ 32);
  lsdas = All-nil (λ l. (l.function < 2 ^ 32) × (l.lsda < 2 ^ 32));
  end = omega arith;
}

-- its functions: one
abbrev row_there : Row
row_there = record { start = 0x138; code = 0x02000000 }

fits_there : FitOnPage plan_there.globals (row_there ∷ [])
unfolding own_codes
fits_there = record {
  near = one_of (λ row. row.start < 0x138 + 2 ^ 24) row_there (omega arith);
  locals = omega arith;
  room = omega arith;
}

pub plan_is_theirs : IsPlanOf 0x100000000 functions plan_there
unfolding in_order put_in_order own_codes
plan_is_theirs = record {
  run = functions;
  same = IsPermutation-refl functions;
  rising = λ i j d lt within. absurd (omega (arith, lt, within));
  pages = (row_there ∷ []) ∷ [];
  divided = record {
    all = refl;
    each = one_of (λ page. (1 ≤ length page) × FitOnPage plan_there.globals page) (row_there ∷ []) (omega arith, fits_there);
    closed = λ k within fit. omega (arith, within);
  };
  written = refl;
  globals = refl;
  personalities = refl;
  slots = one_of (HasSlot 0x100000000 (ids_of (inputs_of functions)) plan_there.personalities) function_there tt;
  lsdas = refl;
  end = one_of (λ e. IsLast functions e → plan_there.end ≡ e.start + e.length - 0x100000000) function_there (λ last. refl);
}

they_are_entries : AreEntries 0x100000000 functions
they_are_entries = record {
  distinct = λ i j d lt within. absurd (omega (arith, lt, within));
  starts = one_of (λ e. 0x100000000 ≤ e.start) function_there (omega arith);
  slots = one_of (λ e. IfSome e.personality (λ p. 0x100000000 ≤ p.slot)) function_there tt;
  lsdas = one_of (λ e. IfSome e.lsda (λ address. 0x100000000 ≤ address)) function_there tt;
  ends = one_of (λ e. e.start + e.length < 2 ^ 64) function_there (omega arith);
  alike = one_of (λ e. All (λ f. IfSome e.personality (λ p. IfSome f.personality (λ q. p.id ≡ q.id → p.slot ≡ q.slot))) functions)
      function_there
      (one_of (λ f. IfSome function_there.personality (λ p. IfSome f.personality (λ q. p.id ≡ q.id → p.slot ≡ q.slot))) function_there tt);
  clear = one_of (λ e. e.encoding / 2 ^ 28 % 4 ≡ 0) function_there refl;
}

-- THE text of the plan is the section that was written out
text_there : section_text plan_there ≡ unwind_section
unfolding spelling words halves le_bytes row_bytes unwind_section section_text page_text
text_there = refl

section_is_theirs : IsSectionOf 0x100000000 functions unwind_section
section_is_theirs = record {
  plan = plan_there;
  of_entries = plan_is_theirs;
  formed = plan_fits;
  places = record { some = omega arith; fits = omega arith };
  is = sym text_there;
}

long_section : length unwind_section ≡ 72
unfolding words halves le_bytes row_bytes unwind_section
long_section = refl

whole_section : slice_range unwind_section 0 (0 + length unwind_section) ≡ unwind_section
unfolding words halves le_bytes row_bytes unwind_section
whole_section = refl

begins_there : BeginsWith (unwind_bytes unwind_file placed_unwind) unwind_section
begins_there = rw range_there (record { within = omega (arith, long_section); same = whole_section })

-- look-up of an offset finds the entry, and nothing else
pub entry_is_found : (offset : ℕ) (x : Found)
    → UnwindFinds (unwind_bytes unwind_file placed_unwind) offset x ↔ IsFoundFor 0x100000000 functions offset x
entry_is_found offset x =
    let read = sections_are_read 0x100000000 functions unwind_section they_are_entries section_is_theirs in (
      read.1 (unwind_bytes unwind_file placed_unwind) begins_there offset x,
      λ is. subst (λ (y : Found). UnwindFinds (unwind_bytes unwind_file placed_unwind) offset y) (sym is.is)
          (read.0 (unwind_bytes unwind_file placed_unwind) begins_there offset is.entry is.of_offset),
    )

-- THE unwind information of a link with an entry
pub entry_is_said : UnwindSays unwinding unwind_file placed_unwind
entry_is_said = record {
  content = unwind_section;
  exact = rw resolved_are (inr (omega arith, section_is_theirs));
  begins = begins_there;
  finds = rw resolved_are entry_is_found;
}

-- entries have one plan, so they have one text
content_is : (content : List ℕ) → IsUnwindText 0x100000000 functions content → content ≡ unwind_section
content_is content (inl (none, empty)) = absurd (omega (arith, ap (λ (es : List ResolvedUnwindInfo). length es) none))
content_is content (inr (some, section)) =
    let same = plans_are_one 0x100000000 functions section.plan plan_there some section.of_entries plan_is_theirs in
    section.is ∙ ap section_text same ∙ text_there

-- whatever the file, its range begins with this section
content_asked : (b : List ℕ) (k : ℕ) → k < 72 → UnwindSays unwinding b placed_unwind
    → slice_index (unwind_bytes b placed_unwind) k ≡ slice_index unwind_section k
unfolding unwind_section words halves row_bytes le_bytes
content_asked b k lt says =
    let exact = subst (λ (es : List ResolvedUnwindInfo). IsUnwindText 0x100000000 es says.content) resolved_are says.exact in
    let whole = content_is says.content exact in
    let stands = subst (λ (t : List ℕ). Stands (unwind_bytes b placed_unwind) (record { at = 0; text = t })) whole says.begins in
    let bytes : get_or (slice_range (unwind_bytes b placed_unwind) 0 (0 + length unwind_section)) k 0 ≡ get_or unwind_section k 0 =
    ap (λ (t : List ℕ). get_or t k 0) stands.same in
    sym (get_or-take (length unwind_section) (unwind_bytes b placed_unwind) k 0 (omega (arith, lt, long_section))) ∙ bytes

-- of the encodings the highest byte: a frame is told where there is none
unfoldable pub with_another_encoding : List ℕ
with_another_encoding = changed unwind_file 0x15f (4 ∷ [])

-- of the last page entry the end of the function, told four bytes early
unfoldable pub with_another_end : List ℕ
with_another_end = changed unwind_file 0x16c (0x3c ∷ [])

changed_bytes : (slice_index (unwind_bytes with_another_encoding placed_unwind) 31 ≡ 4) × (slice_index unwind_section 31 ≡ 2)
    × (slice_index (unwind_bytes with_another_end placed_unwind) 44 ≡ 0x3c) × (slice_index unwind_section 44 ≡ 0x40)
unfolding words halves le_bytes row_bytes unwind_section unwind_file offset_in_file unwind_bytes changed with_another_encoding
    with_another_end
changed_bytes = (refl, refl, refl, refl)

pub encoding_is_asked : UnwindSays unwinding with_another_encoding placed_unwind → ⊥
encoding_is_asked says =
    let byte = content_asked with_another_encoding 31 (omega arith) says in
    omega (arith, byte, changed_bytes.0, changed_bytes.1)

pub end_of_function_is_asked : UnwindSays unwinding with_another_end placed_unwind → ⊥
end_of_function_is_asked says =
    let byte = content_asked with_another_end 44 (omega arith) says in
    omega (arith, byte, changed_bytes.2, changed_bytes.3)
