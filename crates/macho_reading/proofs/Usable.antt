-- What rows use can be noted: the relocation of a row is a plain pointer to a symbol that is kept.
--
-- That it is such a pointer is a rule of its section. By the rules of objects the symbol's number is one of the object, and of each
-- symbol of an object a row is kept. The link that is spoken of contains_first has the inputs of which views and rows of symbols are.
use Rattle.std.proofs.Common.{◌≡◌, ℕ, ◌+◌, ◌*◌, ◌/◌, ◌^◌, ◌<◌, ◌≤◌, nat_le, nat_lt, ◌&&◌, ◌||◌, ◌==◌, Bool, true, false, List, [], ◌∷◌, not, length, map, get_or, Option, Some, None, is_none, refl, sym, ap, ◌∙◌, subst, arith, All, if◌then◌else◌}
use Rattle.std.specs.Prelude.{Contains, option_map}
use Rattle.std.specs.List.{range_with_len, slice_get}
use Rattle.std.proofs.lemmas.Bool.Decides.{Decides-eqb}
use Rattle.std.proofs.lemmas.List.{length-map, get_or-map}
use Rattle.std.proofs.lemmas.List.FromFn.{length-map-range_with_len}
use Rattle.std.proofs.lemmas.List.Elements.{All-map}
use Rattle.macho_model.specs.steps.RecordTests.{relocation_number_exists}
use Rattle.macho_records.specs.Sections.{should_exclude_of}
use Rattle.macho_object.specs.Views.{FileBytes}
use Rattle.macho_model.specs.declared.rules.UnwindRule.TheVariants.{U2, U7}
use Rattle.macho_model.specs.Objects.{num_sections, num_symbols, relocation_at}
use Rattle.macho_records.specs.declared.constants.TheConstants.{ARM64_RELOC_ADDEND}
use Rattle.macho_model.specs.Links.{Input, Object, Link, SectionId, no_input, object_bytes, object_of, header_at, is_initializers, is_unwind_entries, sections_of}
use Rattle.macho_model.specs.Needs.{relocation_in, relocations_of, relocations_at, initializer_sections, unwind_sections, PERSONALITY_PLACE}
use Rattle.macho_model.specs.Consumed.{entry_count, entries_of_link, is_plain_pointer, relocations_in_entry}
use Rattle.macho_symbol_names.specs.Kept.{FileRows, Keeps, no_file, kept_of, row_of_symbol, rows_of_object}
use Rattle.macho_symbols.specs.Kept.{ResolvedRows, IsResolved}
use Rattle.macho_needs.proofs.Using.{link_with}
use Rattle.macho_promise.specs.UnwindSays.{relocation_of}
use Rattle.macho_model.specs.Grammar.{ObjectsAreRead}
use Rattle.macho_model.proofs.Words.{initializer_relocation_fits}
use Rattle.macho_promise.specs.Views.{object_view, views_of}
use Rattle.macho_relocation_scan.specs.Surveys.{AreOfInputs}
use Rattle.macho_relocation_scan.proofs.Viewing.{view_says, file_inside}
use Rattle.macho_consumed.specs.Views.{AreKept}
use Rattle.macho_consumed.specs.Rows.{initializer_row, initializer_rows_in, initializer_rows, personality_use, entry_row, entry_rows}
use Rattle.macho_consumed.specs.Told.{InitializersKeepRules, EntriesKeepRules}
use Rattle.macho_consumed.proofs.Members.{in_filter, all_joined}
use Rattle.macho_consumed.specs.steps.Entries.{unwind_relocation_fits}
use Rattle.macho_image_laws.proofs.Inputs.{section_of_file}
use Rattle.macho_reading.specs.steps.Rows.{IsWhole, IsSymbolPointer, IsUsable, IsUsableIf, IsUsableEntry}
use Rattle.macho_bytes.proofs.Bools.{and_left, and_right}
use Rattle.macho_bytes.proofs.Members.{contains_first, contains_all, contains_filter, range_contains, one_passes}
use Rattle.macho_model.proofs.ObjectLaws.{symbol_exists}

-- a view that is got is of an object
object_got : (views : List (Option FileBytes)) (inputs : List Input) (k : ℕ) (f : FileBytes) → views ≡ map object_view inputs
    → k < length views → get_or views k None ≡ Some f → (get_or inputs k no_input ≡ Object f.bytes) × (f.is_dynamic ≡ false)
object_got views inputs k f are below is =
    let within : k < length inputs = file_inside views inputs k are below in
    view_says (get_or inputs k no_input) f
    (sym (get_or-map object_view inputs k no_input None within) ∙ ap (λ (vs : List (Option FileBytes)). get_or vs k None) (sym are) ∙ is)

pub are_kept : (views : List (Option FileBytes)) (files : List FileRows) → length views < 2 ^ 32 → AreOfInputs views files
    → AreKept views files
are_kept views files few of = record {
  few = few;
  long = omega (arith, ap length of.keeps.are, length-map of.inputs kept_of, ap length of.are, length-map of.inputs object_view);
  objects = λ k f below is. (object_got views of.inputs k f of.are below is).1;
  kept = λ k f below is.
      ap (λ (fs : List FileRows). get_or fs k no_file) of.keeps.are
      ∙ get_or-map kept_of of.inputs k no_input no_file (file_inside views of.inputs k of.are below)
      ∙ ap kept_of (object_got views of.inputs k f of.are below is).0;
}

-- the link of these inputs
pub is_resolved : (r : ResolvedRows) (inputs : List Input) → Keeps inputs r.files → IsResolved (link_with inputs) r.noted r
unfolding link_with
is_resolved r inputs keeps = record { keeps = keeps.are; notes = refl }

pub are_views_of : (views : List (Option FileBytes)) (inputs : List Input) → views ≡ map object_view inputs
    → views ≡ views_of (link_with inputs)
unfolding link_with
are_views_of views inputs are = are

-- files that are viewed are objects
pub objects_read : (views : List (Option FileBytes)) (inputs : List Input) → views ≡ map object_view inputs → All IsWhole views
    → ObjectsAreRead (link_with inputs)
unfolding link_with
objects_read views inputs are whole file b (lt, is) =
    let below : file < length views = omega (arith, lt, ap length are, length-map inputs object_view) in
    let seen : get_or views file None ≡ Some (record { bytes = b; is_dynamic = false })
    = ap (λ (vs : List (Option FileBytes)). get_or vs file None) are ∙ get_or-map object_view inputs file (Object b) None lt
    ∙ ap object_view is in
    subst IsWhole seen (whole file None below)

pointer_usable : (l : Link) (symbols : ResolvedRows) (s : SectionId) (r : ℕ) → ObjectsAreRead l → symbols.files ≡ map kept_of l.inputs
    → Contains (sections_of l) s → r < (header_at l s).nreloc → is_plain_pointer (relocation_in l s r) ≡ true
    → (relocation_in l s r).r_extern ≡ true → IsSymbolPointer symbols s.file (relocation_in l s r)
unfolding rows_of_object
pointer_usable l symbols s r read keeps there lt plain extern =
    let of = section_of_file l s read there in
    let number = symbol_exists (object_of l s.file) s.section r (of.file.object.o5.1 s.section r of.within lt) extern in
    let same : get_or symbols.files s.file no_file ≡ kept_of (Object of.file.bytes)
    = ap (λ (fs : List FileRows). get_or fs s.file no_file) keeps ∙ get_or-map kept_of l.inputs s.file no_input no_file of.file.within
    ∙ ap kept_of of.file.is in
    record {
      form = plain;
      named = extern;
      symbol = (
        omega (arith, of.file.within, ap length keeps, length-map l.inputs kept_of),
        ap (λ (f : FileRows). is_none f.library) same,
        omega (
          arith,
          number,
          ap (λ (x : Input). num_symbols (object_bytes x)) of.file.is,
          ap (λ (f : FileRows). length f.rows) same,
          length-map-range_with_len (row_of_symbol of.file.bytes) 0 (num_symbols of.file.bytes),
        ),
      );
    }

-- THE rows of initializers
one_initializer : (l : Link) (symbols : ResolvedRows) (s : SectionId) (slot r : ℕ) → ObjectsAreRead l → symbols.files ≡ map kept_of l.inputs
    → InitializersKeepRules l → Contains (initializer_sections l) s → slot < (header_at l s).size / 8
    → Contains (relocations_at l s (8 * slot)) r → IsUsable symbols (initializer_row l s r)
unfolding initializer_sections
one_initializer l symbols s slot r read keeps rules there below at =
    let listed = (in_filter (λ (t : SectionId). not (should_exclude_of (header_at l t)) && is_initializers (header_at l t))
    (sections_of l) s there).1 in
    let among = (in_filter (λ (q : ℕ). (relocation_in l s q).r_address == 8 * slot) (relocations_of l s) r at).1 in
    let inside : 8 * slot + 8 ≤ (header_at l s).size = omega (arith, below) in
    let fits = rules.slots s slot there inside in
    let one : initializer_relocation_fits l s r ≡ true
    = one_passes (initializer_relocation_fits l s) (relocations_at l s (8 * slot)) r (and_right _ _ (and_left _ _ fits)) at in
    let pointer = and_left (is_plain_pointer (relocation_in l s r) && (relocation_in l s r).r_extern) _ one in
    pointer_usable l symbols s r read keeps listed (range_contains (header_at l s).nreloc r among)
    (and_left _ _ pointer) (and_right (is_plain_pointer (relocation_in l s r)) _ pointer)

pub initializers_usable : (l : Link) (symbols : ResolvedRows) → ObjectsAreRead l → symbols.files ≡ map kept_of l.inputs
    → InitializersKeepRules l → All (IsUsable symbols) (initializer_rows l)
unfolding initializer_rows initializer_rows_in
initializers_usable l symbols read keeps rules =
    all_joined (IsUsable symbols) (initializer_rows_in l) (initializer_sections l) (λ s c.
    all_joined (IsUsable symbols) (λ slot. map (initializer_row l s) (relocations_at l s (8 * slot)))
    (range_with_len 0 ((header_at l s).size / 8)) (λ slot d.
    All-map (IsUsable symbols) (initializer_row l s) (relocations_at l s (8 * slot))
    (contains_all (λ r. IsUsable symbols (initializer_row l s r)) (relocations_at l s (8 * slot))
    (λ r e. one_initializer l symbols s slot r read keeps rules c (range_contains ((header_at l s).size / 8) slot d) e))))

-- THE rows of unwind entries
got : (rs : List ℕ) (r : ℕ) → slice_get rs 0 ≡ Some r → Contains rs r
got [] r is = cc
got (q ∷ rs) r is = let same : q ≡ r = cc in subst (λ (x : ℕ). Contains (q ∷ rs) x) same (contains_first q rs)

one_personality : (l : Link) (symbols : ResolvedRows) (s : SectionId) (e r : ℕ) → ObjectsAreRead l → symbols.files ≡ map kept_of l.inputs
    → EntriesKeepRules l → Contains (unwind_sections l) s → e < entry_count l s
    → Contains (relocations_in_entry l s e PERSONALITY_PLACE) r → IsSymbolPointer symbols s.file (relocation_in l s r)
unfolding unwind_sections
one_personality l symbols s e r read keeps rules there below at =
    let listed = (in_filter (λ (t : SectionId). not (should_exclude_of (header_at l t)) && is_unwind_entries (header_at l t))
    (sections_of l) s there).1 in
    let among = in_filter (λ (q : ℕ). (relocation_in l s q).r_address == 32 * e + PERSONALITY_PLACE) (relocations_of l s) r at in
    let place = (Decides-eqb (relocation_in l s r).r_address (32 * e + PERSONALITY_PLACE)).0 among.0 in
    let of_entry : ((relocation_in l s r).r_address / 32 == e)
    ≡ true = (Decides-eqb ((relocation_in l s r).r_address / 32) e).1 (omega (arith, place)) in
    let plain = one_passes (unwind_relocation_fits l s) _ r (rules.unwind s e U2 there below)
    (contains_filter (λ (q : ℕ). (relocation_in l s q).r_address / 32 == e) (relocations_of l s) r among.1 of_entry) in
    let extern = one_passes _ (relocations_in_entry l s e PERSONALITY_PLACE) r (and_left _ _ (rules.unwind s e U7 there below)) at in
    pointer_usable l symbols s r read keeps listed (range_contains (header_at l s).nreloc r among.1)
    (and_left (is_plain_pointer (relocation_in l s r)) _ plain) (and_left (relocation_in l s r).r_extern _ extern)

one_entry : (l : Link) (symbols : ResolvedRows) (s : SectionId) (e : ℕ) → ObjectsAreRead l → symbols.files ≡ map kept_of l.inputs
    → EntriesKeepRules l → Contains (unwind_sections l) s → e < entry_count l s
    → IsUsableEntry symbols (entry_row l (record { of_section = s; entry = e }))
unfolding entry_row
one_entry l symbols s e read keeps rules there below = by (relocation_of l (record { of_section = s; entry = e }) PERSONALITY_PLACE) refl
  where
    by : (o : Option ℕ) → relocation_of l (record { of_section = s; entry = e }) PERSONALITY_PLACE ≡ o
        → IsUsableIf symbols s.file (option_map (personality_use l (record { of_section = s; entry = e })) o)
    by None is = tt
    by (Some r) is =
        one_personality l symbols s e r read keeps rules there below (got (relocations_in_entry l s e PERSONALITY_PLACE) r is)

pub entries_usable : (l : Link) (symbols : ResolvedRows) → ObjectsAreRead l → symbols.files ≡ map kept_of l.inputs
    → EntriesKeepRules l → All (IsUsableEntry symbols) (entry_rows l)
unfolding entry_rows entries_of_link
entries_usable l symbols read keeps rules =
    All-map (IsUsableEntry symbols) (entry_row l) (entries_of_link l)
    (all_joined (λ d. IsUsableEntry symbols (entry_row l d))
    (λ s. map (λ e. record { of_section = s; entry = e }) (range_with_len 0 (entry_count l s)))
    (unwind_sections l) (λ s c.
    All-map (λ d. IsUsableEntry symbols (entry_row l d)) (λ e. record { of_section = s; entry = e }) (range_with_len 0 (entry_count l s))
    (contains_all (λ e. IsUsableEntry symbols (entry_row l (record { of_section = s; entry = e }))) (range_with_len 0 (entry_count l s))
    (λ e d. one_entry l symbols s e read keeps rules c (range_contains (entry_count l s) e d)))))
