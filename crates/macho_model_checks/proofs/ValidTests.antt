-- Each part of validity as one test, and what the tests say of a link.
--
-- A part says that the refusals of a kind don't stand, that each field fits, or that the sum is small; all parts together are validity.
-- A part speaks of each symbol, use, section, relocation, slot or limit, and of these a link has finitely many: so it has a
-- test that is true exactly where the part holds. Of names there are more, but one with two definitions is that of a symbol.
-- So the tests, computed, show of a small link that it is valid, or which part it breaks, and that it keeps the others.
use Rattle.std.proofs.Common.{◌≡◌, ◌≢◌, ℕ, ◌/◌, ◌%◌, ◌<◌, ◌≤◌, ◌==◌, ◌⊎◌, inl, inr, nat_le, Bool, true, false, not, ◌&&◌, ◌||◌, List, [], ◌∷◌, length, get_or, map, refl, sym, ap, ◌∙◌, arith, Some, None}
use Rattle.std.specs.Prelude.{Option, Contains, IsNone, is_some, filter}
use Rattle.std.specs.List.{list_all}
use Rattle.std.proofs.lemmas.Bool.{leb-true, le-leb, cases_lt}
use Rattle.std.proofs.lemmas.List.{get_or_default}
use Rattle.std.proofs.lemmas.List.Elements.{All-contains, All-filter, Contains-get_or, filter_passes}
use Rattle.std.proofs.lemmas.Slice.Eq.{bytes_eq-Decides}
use Rattle.macho_model.specs.declared.rules.UnwindRule.{UnwindRule}
use Rattle.macho_model.specs.declared.rules.UnwindRule.TheVariants.{U1, U2, U3, U4, U5, U6, U7, U8}
use Rattle.macho_model.specs.declared.targets.Limit.{Limit}
use Rattle.macho_model.specs.declared.targets.Limit.TheVariants as limit
use Rattle.macho_model.specs.declared.placed.Counts.{Counts}
use Rattle.macho_model.specs.ExportLists.{plain_entries}
use Rattle.macho_model.specs.Links.{Link, SectionId, section_id, header_at, carried_of}
use Rattle.macho_model.specs.Lists.{IsNumber}
use Rattle.macho_model.specs.Placement.{Placed}
use Rattle.macho_model.specs.Values.{fits_signed}
use Rattle.macho_model.specs.Resolution.{SymbolId, symbols_of, name_at, has_name, strong_of, definition_of}
use Rattle.macho_model.specs.steps.Resolved.{is_strong}
use Rattle.macho_model.specs.Needs.{initializer_sections, unwind_sections, relocation_in, POINTER_SIZE}
use Rattle.macho_model.specs.Fields.{fields_of}
use Rattle.macho_model.specs.WrittenSum.{written_sum_of}
use Rattle.macho_model.specs.Stands.{kind_of}
use Rattle.macho_model.specs.Rows.{is_supported, share_byte, are_pair}
use Rattle.macho_model.specs.Consumed.{initializer_section_fits, initializer_slot_fits, entry_count, whole_entries, keeps}
use Rattle.macho_model.specs.Limits.{limited}
use Rattle.macho_model.specs.Faults.{LinkFault, DuplicateSymbol, UndefinedSymbol, EntryNotDefined, ExportListMissing, BadInitializer, BadUnwind, UnsupportedRelocation, OverlappingFields, BindAddend, FixupPlace, TooMany, ImageTooLarge, RebaseTarget, RelocationRange, BadName, entry_is_defined, IsBadEntry, IsBadInitializer, FaultStands, kept_placement}
use Rattle.macho_model.specs.Valid.{field_fits, IsValid}
use Rattle.macho_model_checks.specs.ValidParts.{VALID_SUM, ValidPart, ValidKeeps, symbols_read, Single, Used, Listed, Begun, Supported, NonOverlapping, Fitting, Initializers, Slots, AtSlots, Whole, Unwind, Limits, Sum}
use Rattle.macho_model.proofs.EachBelow.{each_below, below_pass, pass_below}
use Rattle.macho_model.proofs.FixedPointers.{import_needs, pointer_keeps, import_stays}
use Rattle.macho_model.proofs.Unrefused.{never, valid_relocations, valid_initializers, valid_slot, valid_at_slot, valid_whole, valid_entry, valid_limit}
use Rattle.macho_bytes.proofs.Bools.{not_false, true_or_false, and_right, or_second, same_number, other_number}
use Rattle.macho_bytes.proofs.Members.{passes_each, one_passes, all_pass, pass_all}

-- Of a link that keeps each part no refusal stands: each shows a part that is broken.
none_some : {X : Type 0} (o : Option X) → IsNone o → is_some o ≡ true → ⊥
none_some o none some = true_or_false (is_some o) some none

bad_entry : (l : Link) (counts : Counts) (s : SectionId) (e : ℕ) (rule : UnwindRule) → ((part : ValidPart) → ValidKeeps l counts part)
    → Contains (unwind_sections l) s → IsBadEntry l s e rule → ⊥
bad_entry l counts s e U1 h one (at, broken) =
    true_or_false (whole_entries l s) (All-contains (λ t. whole_entries l t ≡ true) (unwind_sections l) s (h Whole) one) broken
bad_entry l counts s e U2 h one (within, broken) = true_or_false (keeps l s e U2) (h Unwind s e U2 one within) broken
bad_entry l counts s e U3 h one (within, broken) = true_or_false (keeps l s e U3) (h Unwind s e U3 one within) broken
bad_entry l counts s e U4 h one (within, broken) = true_or_false (keeps l s e U4) (h Unwind s e U4 one within) broken
bad_entry l counts s e U5 h one (within, broken) = true_or_false (keeps l s e U5) (h Unwind s e U5 one within) broken
bad_entry l counts s e U6 h one (within, broken) = true_or_false (keeps l s e U6) (h Unwind s e U6 one within) broken
bad_entry l counts s e U7 h one (within, broken) = true_or_false (keeps l s e U7) (h Unwind s e U7 one within) broken
bad_entry l counts s e U8 h one (within, broken) = true_or_false (keeps l s e U8) (h Unwind s e U8 one within) broken

bad_initializer : (l : Link) (counts : Counts) (s : SectionId) (offset : ℕ) → ((part : ValidPart) → ValidKeeps l counts part)
    → Contains (initializer_sections l) s → IsBadInitializer l s offset → ⊥
bad_initializer l counts s offset h one (inl (broken, at)) =
    true_or_false (initializer_section_fits l s)
    (All-contains (λ t. initializer_section_fits l t ≡ true) (initializer_sections l) s (h Initializers) one) broken
bad_initializer l counts s offset h one (inr (inl (slot, within, at, broken))) =
    true_or_false (initializer_slot_fits l s slot) (h Slots s slot one within) broken
bad_initializer l counts s offset h one (inr (inr (r, within, at, broken))) =
    true_or_false ((relocation_in l s r).r_address % POINTER_SIZE == 0) (h AtSlots s r one within)
    (ap (λ (n : ℕ). n % POINTER_SIZE == 0) (sym at) ∙ broken)

-- a refusal that keeps a placement is not of the link alone
kept : (p : Placed) → Some p ≡ None → ⊥
kept p h = cc

unrefused_keeping : (l : Link) (counts : Counts) (f : LinkFault) → ((part : ValidPart) → ValidKeeps l counts part)
    → kept_placement f ≡ None → FaultStands l counts f → f ≡ BadName
unrefused_keeping l counts (DuplicateSymbol name first second) h alone (i, j, s, t, before, at_i, at_j, one, two) =
    absurd (omega (arith, h Single name, before, at_j.0))
unrefused_keeping l counts (UndefinedSymbol name file) h alone (s, one, is, of, none) =
    absurd (none_some (definition_of l name) none
    (ap (λ (n : List ℕ). is_some (definition_of l n)) (sym is)
    ∙ All-contains (λ t. is_some (definition_of l (name_at l t)) ≡ true) (symbols_read l) s (h Used) one))
unrefused_keeping l counts (EntryNotDefined name) h alone (is, broken) = absurd (true_or_false _ (h Begun) broken)
unrefused_keeping l counts (ExportListMissing name) h alone (one, none) =
    absurd (none_some (definition_of l name) none
    (All-contains (λ n. is_some (definition_of l n) ≡ true) (plain_entries l.export_lists) name (h Listed) one))
unrefused_keeping l counts (BadInitializer file section offset) h alone (one, bad) =
    absurd (bad_initializer l counts (section_id file section) offset h one bad)
unrefused_keeping l counts (BadUnwind file section entry rule) h alone (one, bad) =
    absurd (bad_entry l counts (section_id file section) entry rule h one bad)
unrefused_keeping l counts (UnsupportedRelocation file section relocation) h alone (one, within, broken) =
    absurd (true_or_false _ (h Supported (section_id file section) relocation one within) broken)
unrefused_keeping l counts (OverlappingFields file section first second) h alone (one, before, within, share, pair) =
    elim (h NonOverlapping (section_id file section) first second one before within) [
      | inl none ↦ absurd (true_or_false _ share none)
      | inr are ↦ absurd (true_or_false _ are pair)
    ]
unrefused_keeping l counts (BindAddend file section relocation addend) h alone (f, of, pointer, import, is, broken) =
    absurd (true_or_false (fits_signed 32 f.addend)
    (import_stays l f.target f.addend import
    (pointer_keeps l (section_id file section) f (h Fitting) of.0 of.1 (import_needs l (section_id file section) f pointer import)).2)
    (ap (fits_signed 32) (sym is) ∙ broken))
unrefused_keeping l counts (FixupPlace file section relocation None) h alone (f, of, needs, broken) =
    absurd (true_or_false _ (pointer_keeps l (section_id file section) f (h Fitting) of.0 of.1 needs).0 broken)
unrefused_keeping l counts (FixupPlace file section relocation (Some p)) h alone stands = absurd (kept p alone)
unrefused_keeping l counts (TooMany what number None) h alone (is, more) = absurd (omega (arith, h Limits what, is, more))
unrefused_keeping l counts (TooMany what number (Some p)) h alone stands = absurd (kept p alone)
unrefused_keeping l counts (ImageTooLarge None) h alone stands = absurd (omega (arith, h Sum, stands))
unrefused_keeping l counts (ImageTooLarge (Some p)) h alone stands = absurd (kept p alone)
unrefused_keeping l counts (RebaseTarget at p) h alone stands = absurd (kept p alone)
unrefused_keeping l counts (RelocationRange at p) h alone stands = absurd (kept p alone)
unrefused_keeping l counts BadName h alone stands = refl

-- A link that keeps each part is valid, and the other way.
pub valid_keeping : (l : Link) (counts : Counts) → ((part : ValidPart) → ValidKeeps l counts part) → IsValid l counts
valid_keeping l counts h = record {
  unrefused = λ f alone stands. unrefused_keeping l counts f h alone stands;
  fields = h Fitting;
  sum = h Sum;
}

-- two strong definitions of a name are told, by the files of the first two
numbered : {X : Type 0} (xs : List X) (k : ℕ) (d : X) → k < length xs → IsNumber xs k (get_or xs k d)
numbered xs k d lt = (lt, get_or_default xs k (get_or xs k d) d lt)

pub keeping_valid : (l : Link) (counts : Counts) → IsValid l counts → (part : ValidPart) → ValidKeeps l counts part
keeping_valid l counts v Single = λ name. elim (cases_lt 1 (length (strong_of l name))) [
  | inl many ↦
      let none : SymbolId = record { file = 0; symbol = 0 } in
      let s = get_or (strong_of l name) 0 none in
      let t = get_or (strong_of l name) 1 none in
      absurd (never l counts (DuplicateSymbol name s.file t.file) v refl refl (
        0,
        1,
        s,
        t,
        omega arith,
        numbered (strong_of l name) 0 none (omega (arith, many)),
        numbered (strong_of l name) 1 none many,
        refl,
        refl,
      ))
  | inr few ↦ few
]
keeping_valid l counts v Used = λ k d lt. not_false _
    (λ none. never l counts (UndefinedSymbol (name_at l (get_or (symbols_read l) k d)) (get_or (symbols_read l) k d).file) v refl refl
    (get_or (symbols_read l) k d, Contains-get_or (symbols_read l) k d lt, refl, refl, none))
keeping_valid l counts v Listed = λ k d lt. not_false _
    (λ none. never l counts (ExportListMissing (get_or (plain_entries l.export_lists) k d)) v refl refl
    (Contains-get_or (plain_entries l.export_lists) k d lt, none))
keeping_valid l counts v Begun = not_false (entry_is_defined l)
    (λ broken. never l counts (EntryNotDefined l.entry) v refl refl (refl, broken))
keeping_valid l counts v Supported = (valid_relocations l counts v).supported
keeping_valid l counts v NonOverlapping = (valid_relocations l counts v).apart
keeping_valid l counts v Fitting = v.fields
keeping_valid l counts v Initializers = λ k d lt. valid_initializers l counts (get_or (initializer_sections l) k d) v
    (Contains-get_or (initializer_sections l) k d lt)
keeping_valid l counts v Slots = λ s slot one within. valid_slot l counts s slot v one within
keeping_valid l counts v AtSlots = λ s r one within. valid_at_slot l counts s r v one within
keeping_valid l counts v Whole = λ k d lt. valid_whole l counts (get_or (unwind_sections l) k d) v
    (Contains-get_or (unwind_sections l) k d lt)
keeping_valid l counts v Unwind = λ s e rule one within. valid_entry l counts s e rule v one within
keeping_valid l counts v Limits = λ what. valid_limit l counts what v
keeping_valid l counts v Sum = v.sum

-- two relocations share no byte, or are a pair
abbrev pub part_in_peace : Link → SectionId → ℕ → ℕ → Bool
part_in_peace l s r q = not (share_byte l s q r) || are_pair l s q r

abbrev pub unwind_rules : List UnwindRule
unwind_rules = U1 ∷ U2 ∷ U3 ∷ U4 ∷ U5 ∷ U6 ∷ U7 ∷ U8 ∷ []

abbrev pub all_limits : List Limit
all_limits =
    limit.Segments ∷ limit.Libraries ∷ limit.Sections ∷ limit.Personalities ∷ limit.Imports ∷ limit.NameBytes ∷ limit.Symbols
    ∷ limit.Pages ∷ []

abbrev pub is_in_limit : Link → Counts → Limit → Bool
is_in_limit l counts what = nat_le (limited l counts what).0 (limited l counts what).1

-- a part's test
abbrev pub valid_test : Link → Counts → ValidPart → Bool
valid_test l counts Single = list_all (λ s. nat_le (length (strong_of l (name_at l s))) 1) (symbols_of l)
valid_test l counts Used = list_all (λ s. is_some (definition_of l (name_at l s))) (symbols_read l)
valid_test l counts Listed = list_all (λ name. is_some (definition_of l name)) (plain_entries l.export_lists)
valid_test l counts Begun = entry_is_defined l
valid_test l counts Supported = list_all (λ s. each_below (header_at l s).nreloc (is_supported l s)) (carried_of l)
valid_test l counts NonOverlapping = list_all (λ s. each_below (header_at l s).nreloc (λ r. each_below r (part_in_peace l s r)))
    (carried_of l)
valid_test l counts Fitting = list_all (λ s. list_all (λ f. field_fits l s f (kind_of f.type (is_some f.subtrahend))) (fields_of l s))
    (carried_of l)
valid_test l counts Initializers = list_all (initializer_section_fits l) (initializer_sections l)
valid_test l counts Slots = list_all (λ s. each_below ((header_at l s).size / 8) (initializer_slot_fits l s)) (initializer_sections l)
valid_test l counts AtSlots =
    list_all (λ s. each_below (header_at l s).nreloc (λ r. (relocation_in l s r).r_address % POINTER_SIZE == 0)) (initializer_sections l)
valid_test l counts Whole = list_all (whole_entries l) (unwind_sections l)
valid_test l counts Unwind = list_all (λ s. each_below (entry_count l s) (λ e. list_all (keeps l s e) unwind_rules)) (unwind_sections l)
valid_test l counts Limits = list_all (is_in_limit l counts) all_limits
valid_test l counts Sum = nat_le (written_sum_of l counts) VALID_SUM

-- a name with two strong definitions is that of a symbol
single_shows : (l : Link) → list_all (λ s. nat_le (length (strong_of l (name_at l s))) 1) (symbols_of l) ≡ true → (name : List ℕ)
    → length (strong_of l name) ≤ 1
unfolding strong_of
single_shows l h name =
    elim (cases_lt 1 (length (strong_of l name))) [
      | inl many ↦
          let none : SymbolId = record { file = 0; symbol = 0 } in
          let test : SymbolId → Bool = λ s. is_strong l s && has_name l name s in
          let some : 0 < length (filter test (symbols_of l)) = omega (arith, many) in
          let s = get_or (strong_of l name) 0 none in
          let among : Contains (symbols_of l) s =
          All-filter test (λ x. Contains (symbols_of l) x) (symbols_of l) (λ k d lt. Contains-get_or (symbols_of l) k d lt) 0 none some in
          let named = (bytes_eq-Decides (name_at l s) name).0 (and_right (is_strong l s) (has_name l name s)
          (filter_passes test (symbols_of l) 0 none some)) in
          let few = leb-true (length (strong_of l (name_at l s))) 1 (one_passes (λ x. nat_le (length (strong_of l (name_at l x))) 1)
          (symbols_of l) s h among) in
          let same : length (strong_of l (name_at l s)) ≡ length (strong_of l name) = ap (λ n. length (strong_of l n)) named in
          absurd (omega (arith, many, few, same))
      | inr few ↦ few
    ]

-- the other way of a pair's test
peace_shows : (a b : Bool) → (not a || b) ≡ true → (a ≡ false) ⊎ (b ≡ true)
peace_shows true b h = inr h
peace_shows false b h = inl refl

shows_peace : (a b : Bool) → (a ≡ false) ⊎ (b ≡ true) → (not a || b) ≡ true
shows_peace a b (inl none) = rw none refl
shows_peace a b (inr some) = or_second (not a) b some

unwind_shows : (l : Link) (s : SectionId) (e : ℕ) (rule : UnwindRule) → list_all (keeps l s e) unwind_rules ≡ true → keeps l s e rule ≡ true
unwind_shows l s e U1 h = all_pass (keeps l s e) unwind_rules h 0 U1 (omega arith)
unwind_shows l s e U2 h = all_pass (keeps l s e) unwind_rules h 1 U1 (omega arith)
unwind_shows l s e U3 h = all_pass (keeps l s e) unwind_rules h 2 U1 (omega arith)
unwind_shows l s e U4 h = all_pass (keeps l s e) unwind_rules h 3 U1 (omega arith)
unwind_shows l s e U5 h = all_pass (keeps l s e) unwind_rules h 4 U1 (omega arith)
unwind_shows l s e U6 h = all_pass (keeps l s e) unwind_rules h 5 U1 (omega arith)
unwind_shows l s e U7 h = all_pass (keeps l s e) unwind_rules h 6 U1 (omega arith)
unwind_shows l s e U8 h = all_pass (keeps l s e) unwind_rules h 7 U1 (omega arith)

limit_shows : (l : Link) (counts : Counts) (what : Limit) → list_all (is_in_limit l counts) all_limits ≡ true
    → is_in_limit l counts what ≡ true
limit_shows l counts limit.Segments h = all_pass (is_in_limit l counts) all_limits h 0 limit.Segments (omega arith)
limit_shows l counts limit.Libraries h = all_pass (is_in_limit l counts) all_limits h 1 limit.Segments (omega arith)
limit_shows l counts limit.Sections h = all_pass (is_in_limit l counts) all_limits h 2 limit.Segments (omega arith)
limit_shows l counts limit.Personalities h = all_pass (is_in_limit l counts) all_limits h 3 limit.Segments (omega arith)
limit_shows l counts limit.Imports h = all_pass (is_in_limit l counts) all_limits h 4 limit.Segments (omega arith)
limit_shows l counts limit.NameBytes h = all_pass (is_in_limit l counts) all_limits h 5 limit.Segments (omega arith)
limit_shows l counts limit.Symbols h = all_pass (is_in_limit l counts) all_limits h 6 limit.Segments (omega arith)
limit_shows l counts limit.Pages h = all_pass (is_in_limit l counts) all_limits h 7 limit.Segments (omega arith)

-- A part's test that is true shows the part.
pub valid_test_shows : (l : Link) (counts : Counts) (part : ValidPart) → valid_test l counts part ≡ true → ValidKeeps l counts part
valid_test_shows l counts Single h = single_shows l h
valid_test_shows l counts Used h = all_pass (λ s. is_some (definition_of l (name_at l s))) (symbols_read l) h
valid_test_shows l counts Listed h = all_pass (λ name. is_some (definition_of l name)) (plain_entries l.export_lists) h
valid_test_shows l counts Begun h = h
valid_test_shows l counts Supported h =
    λ s r one lt. below_pass (header_at l s).nreloc (is_supported l s)
    (one_passes (λ x. each_below (header_at l x).nreloc (is_supported l x)) (carried_of l) s h one) r lt
valid_test_shows l counts NonOverlapping h =
    λ s q r one before lt. let of_section = one_passes (λ x. each_below (header_at l x).nreloc (λ r. each_below r (part_in_peace l x r)))
    (carried_of l) s h one in
    peace_shows (share_byte l s q r) (are_pair l s q r)
    (below_pass r (part_in_peace l s r) (below_pass (header_at l s).nreloc (λ r. each_below r (part_in_peace l s r)) of_section r lt) q
    before)
valid_test_shows l counts Fitting h =
    λ s one. all_pass (λ f. field_fits l s f (kind_of f.type (is_some f.subtrahend))) (fields_of l s)
    (one_passes (λ x. list_all (λ f. field_fits l x f (kind_of f.type (is_some f.subtrahend))) (fields_of l x)) (carried_of l) s h one)
valid_test_shows l counts Initializers h = all_pass (initializer_section_fits l) (initializer_sections l) h
valid_test_shows l counts Slots h =
    λ s slot one lt. below_pass ((header_at l s).size / 8) (initializer_slot_fits l s)
    (one_passes (λ x. each_below ((header_at l x).size / 8) (initializer_slot_fits l x)) (initializer_sections l) s h one) slot
    (omega (arith, lt))
valid_test_shows l counts AtSlots h =
    λ s r one lt. below_pass (header_at l s).nreloc (λ r. (relocation_in l s r).r_address % POINTER_SIZE == 0)
    (one_passes (λ x. each_below (header_at l x).nreloc (λ r. (relocation_in l x r).r_address % POINTER_SIZE == 0))
    (initializer_sections l) s h one) r lt
valid_test_shows l counts Whole h = all_pass (whole_entries l) (unwind_sections l) h
valid_test_shows l counts Unwind h =
    λ s e rule one lt. unwind_shows l s e rule
    (below_pass (entry_count l s) (λ e. list_all (keeps l s e) unwind_rules)
    (one_passes (λ x. each_below (entry_count l x) (λ e. list_all (keeps l x e) unwind_rules)) (unwind_sections l) s h one) e lt)
valid_test_shows l counts Limits h = λ what. leb-true (limited l counts what).0 (limited l counts what).1 (limit_shows l counts what h)
valid_test_shows l counts Sum h = leb-true (written_sum_of l counts) VALID_SUM h

-- A part that holds has a test that is true.
pub shows_valid_test : (l : Link) (counts : Counts) (part : ValidPart) → ValidKeeps l counts part → valid_test l counts part ≡ true
shows_valid_test l counts Single h =
    passes_each (λ s. nat_le (length (strong_of l (name_at l s))) 1) (symbols_of l)
    (λ s one. le-leb (length (strong_of l (name_at l s))) 1 (h (name_at l s)))
shows_valid_test l counts Used h = pass_all (λ s. is_some (definition_of l (name_at l s))) (symbols_read l) h
shows_valid_test l counts Listed h = pass_all (λ name. is_some (definition_of l name)) (plain_entries l.export_lists) h
shows_valid_test l counts Begun h = h
shows_valid_test l counts Supported h =
    passes_each (λ s. each_below (header_at l s).nreloc (is_supported l s)) (carried_of l)
    (λ s one. pass_below (header_at l s).nreloc (is_supported l s) (λ r lt. h s r one lt))
shows_valid_test l counts NonOverlapping h =
    passes_each (λ s. each_below (header_at l s).nreloc (λ r. each_below r (part_in_peace l s r))) (carried_of l)
    (λ s one. pass_below (header_at l s).nreloc (λ r. each_below r (part_in_peace l s r))
    (λ r lt. pass_below r (part_in_peace l s r) (λ q before. shows_peace (share_byte l s q r) (are_pair l s q r) (h s q r one before lt))))
shows_valid_test l counts Fitting h =
    passes_each (λ s. list_all (λ f. field_fits l s f (kind_of f.type (is_some f.subtrahend))) (fields_of l s)) (carried_of l)
    (λ s one. pass_all (λ f. field_fits l s f (kind_of f.type (is_some f.subtrahend))) (fields_of l s) (h s one))
shows_valid_test l counts Initializers h = pass_all (initializer_section_fits l) (initializer_sections l) h
shows_valid_test l counts Slots h =
    passes_each (λ s. each_below ((header_at l s).size / 8) (initializer_slot_fits l s)) (initializer_sections l)
    (λ s one. pass_below ((header_at l s).size / 8) (initializer_slot_fits l s) (λ slot lt. h s slot one (omega (arith, lt))))
shows_valid_test l counts AtSlots h =
    passes_each (λ s. each_below (header_at l s).nreloc (λ r. (relocation_in l s r).r_address % POINTER_SIZE == 0)) (initializer_sections l)
    (λ s one. pass_below (header_at l s).nreloc (λ r. (relocation_in l s r).r_address % POINTER_SIZE == 0) (λ r lt. h s r one lt))
shows_valid_test l counts Whole h = pass_all (whole_entries l) (unwind_sections l) h
shows_valid_test l counts Unwind h =
    passes_each (λ s. each_below (entry_count l s) (λ e. list_all (keeps l s e) unwind_rules)) (unwind_sections l)
    (λ s one. pass_below (entry_count l s) (λ e. list_all (keeps l s e) unwind_rules)
    (λ e lt. pass_all (keeps l s e) unwind_rules (λ k d within. h s e (get_or unwind_rules k d) one lt)))
shows_valid_test l counts Limits h =
    pass_all (is_in_limit l counts) all_limits (λ k d within. le-leb _ _ (h (get_or all_limits k d)))
shows_valid_test l counts Sum h = le-leb (written_sum_of l counts) VALID_SUM h

-- the parts and their places among them
abbrev pub valid_parts : List ValidPart
valid_parts =
    Single ∷ Used ∷ Listed ∷ Begun ∷ Supported ∷ NonOverlapping ∷ Fitting ∷ Initializers ∷ Slots ∷ AtSlots ∷ Whole ∷ Unwind ∷ Limits ∷ Sum
    ∷ []

abbrev pub valid_number : ValidPart → ℕ
valid_number Single = 0
valid_number Used = 1
valid_number Listed = 2
valid_number Begun = 3
valid_number Supported = 4
valid_number NonOverlapping = 5
valid_number Fitting = 6
valid_number Initializers = 7
valid_number Slots = 8
valid_number AtSlots = 9
valid_number Whole = 10
valid_number Unwind = 11
valid_number Limits = 12
valid_number Sum = 13

-- what the tests say, part by part, and what they say of a valid link
unfoldable pub valid_verdict : Link → Counts → List Bool
valid_verdict l counts = map (valid_test l counts) valid_parts

abbrev pub verdict_but : (ValidPart → Bool) → List Bool
verdict_but broken = map (λ q. not (broken q)) valid_parts

abbrev pub is_part : ValidPart → ValidPart → Bool
is_part part q = valid_number q == valid_number part

at_valid_part : (f : ValidPart → Bool) (part : ValidPart) → get_or (map f valid_parts) (valid_number part) false ≡ f part
at_valid_part f Single = refl
at_valid_part f Used = refl
at_valid_part f Listed = refl
at_valid_part f Begun = refl
at_valid_part f Supported = refl
at_valid_part f NonOverlapping = refl
at_valid_part f Fitting = refl
at_valid_part f Initializers = refl
at_valid_part f Slots = refl
at_valid_part f AtSlots = refl
at_valid_part f Whole = refl
at_valid_part f Unwind = refl
at_valid_part f Limits = refl
at_valid_part f Sum = refl

pub valid_answer : (l : Link) (counts : Counts) (broken : ValidPart → Bool) → valid_verdict l counts ≡ verdict_but broken → (q : ValidPart)
    → valid_test l counts q ≡ not (broken q)
unfolding valid_verdict
valid_answer l counts broken h q =
    sym (at_valid_part (valid_test l counts) q) ∙ ap (λ (v : List Bool). get_or v (valid_number q) false) h
    ∙ at_valid_part (λ r. not (broken r)) q

-- A link whose tests are all true is valid.
pub is_valid_by_tests : (l : Link) (counts : Counts) → valid_verdict l counts ≡ verdict_but (λ q. false) → IsValid l counts
is_valid_by_tests l counts h = valid_keeping l counts (λ part. valid_test_shows l counts part (valid_answer l counts (λ q. false) h part))

-- one part is broken, and so validity is; the other parts are kept
pub record ValidBreaksAlone (l : Link) (counts : Counts) (part : ValidPart) : Type 0 where
  pub broken : ValidKeeps l counts part → ⊥
  pub not_valid : IsValid l counts → ⊥
  pub others : (other : ValidPart) → valid_number other ≢ valid_number part → ValidKeeps l counts other

pub valid_breaks_alone : (l : Link) (counts : Counts) (part : ValidPart) → valid_verdict l counts ≡ verdict_but (is_part part)
    → ValidBreaksAlone l counts part
valid_breaks_alone l counts part h =
    record {
      broken = breaks;
      not_valid = λ v. breaks (keeping_valid l counts v part);
      others = λ other apart. valid_test_shows l counts other (valid_answer l counts (is_part part) h other
          ∙ other_number (valid_number other) (valid_number part) apart);
    }
  where
    breaks : ValidKeeps l counts part → ⊥
    breaks kept =
        true_or_false (valid_test l counts part) (shows_valid_test l counts part kept)
        (valid_answer l counts (is_part part) h part ∙ same_number (valid_number part))
