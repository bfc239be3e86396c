-- What breaks no rule passes each test, and what passes each test breaks no rule.
--
-- A section, a symbol, a relocation or a command that fails a test breaks its rule, at the record's place, since the commands are
-- whole and the tables stand inside the file. Where the commands of a number aren't one, there is none or a second one.
use Rattle.std.proofs.Common.{◌≡◌, ℕ, ◌==◌, ◌<◌, ◌⊎◌, Bool, true, List, [], ◌∷◌, length, get_or, refl, sym, ap, subst, arith, inl, inr, ◌+◌, ◌||◌, false}
use Rattle.std.proofs.lemmas.List.{get_or_default}
use Rattle.macho_records.specs.declared.constants.TheConstants.{LC_ID_DYLIB, LC_SEGMENT_64, LC_SYMTAB, MH_DYLIB, MH_OBJECT}
use Rattle.macho_model.specs.declared.rules.ObjectRule.{ObjectRule}
use Rattle.macho_model.specs.declared.rules.ObjectRule.TheVariants.{O1, O2, O3, O4, O5, O6, O7, O8, O9, O10, O11, O12, O13, O14}
use Rattle.macho_model.specs.Commands.{Command, commands_of, numbered, place_of, command_fits}
use Rattle.macho_model.specs.ObjectRules.{head_fits, commands_inside, needed_in_object, needed_in_dylib, has_one, tables_inside, section_keeps, symbol_keeps, relocation_keeps, path_ends}
use Rattle.macho_model.specs.Objects.{section_at, symbol_at, relocation_at, num_sections, section_bytes, num_symbols}
use Rattle.macho_model.specs.Grammar.{EachCommand, AreWhole, IsObject, IsDylib, SectionFails, SymbolFails, RelocationFails, CommandFails, IsNotOne, ObjectBreaks, DylibBreaks, IsFile}
use Rattle.macho_model.specs.ObjectLaws.{EachSection, EachSymbol, EachRelocation, KeepsObjectRules, KeepsDylibRules}
use Rattle.macho_bytes.proofs.Bools.{not_false, true_or_false, is_equal, and_left, or_right}
use Rattle.std.specs.Prelude.{nat_le, slice_range, nat_lt}
use Rattle.std.proofs.lemmas.Bool.{leb-true, ltb-true}
use Rattle.macho_records.specs.Sections.{is_zerofill}
use Rattle.std.proofs.lemmas.List.Edits.{length-between}
use Rattle.macho_model.specs.steps.RecordTests.{relocation_number_exists}

-- where no record fails a rule's test, each one passes it
sections_pass : (b : List ℕ) (rule : ObjectRule) → ((place : ℕ) → SectionFails b rule place → ⊥) → EachSection b rule
sections_pass b rule none k within = not_false (section_keeps b rule (section_at b k)) (λ fails. none _ (k, within, refl, fails))

symbols_pass : (b : List ℕ) (rule : ObjectRule) → tables_inside b ≡ true → ((place : ℕ) → SymbolFails b rule place → ⊥) → EachSymbol b rule
symbols_pass b rule tables none k within =
    not_false (symbol_keeps b rule (symbol_at b k)) (λ fails. none _ (tables, k, within, refl, fails))

relocations_pass : (b : List ℕ) (rule : ObjectRule) → EachSection b O10 → ((place : ℕ) → RelocationFails b rule place → ⊥)
    → EachRelocation b rule
relocations_pass b rule inside none k r within among =
    not_false (relocation_keeps b rule (section_at b k) (relocation_at b k r))
    (λ fails. none _ (k, r, within, inside k within, among, refl, fails))

commands_pass : (cs : List Command) (test : Command → Bool) → ((place : ℕ) → CommandFails cs place test → ⊥) → EachCommand cs test
commands_pass cs test none k d within =
    let c = get_or cs k d in not_false (test c) (λ fails. none _ (k, c, (within, get_or_default cs k c d within), refl, fails))

is_one : (n : ℕ) (b : List ℕ) → ((place : ℕ) → IsNotOne n b place → ⊥) → has_one n b ≡ true
is_one n b none = by_count (numbered n b) refl
  where
    by_count : (cs : List Command) → numbered n b ≡ cs → (length cs == 1) ≡ true
    by_count [] is = absurd (none 0 (inl (is, refl)))
    by_count (c ∷ []) is = refl
    by_count (c ∷ d ∷ rest) is =
        let second = subst (λ cs. (1 < length cs) × (get_or cs 1 d ≡ d)) (sym is) (omega arith, refl) in
        absurd (none d.at (inr (1, d, omega arith, second, refl)))

-- an object passes each test
pub object_keeps : {b : List ℕ} → IsObject b → KeepsObjectRules b
object_keeps {b} is =
    record {
      o1 = head;
      o2 = whole;
      o3 = once;
      o4 = tables;
      o5 = (
        symbols_pass b O5 tables (λ place h. is.unbroken O5 place (whole, once, inr (inl h))),
        relocations_pass b O5 inside (λ place h. is.unbroken O5 place (whole, once, inr (inr h))),
      );
      o6 = sections_pass b O6 (λ place h. is.unbroken O6 place (whole, once, inl h));
      o7 = sections_pass b O7 (λ place h. is.unbroken O7 place (whole, once, inl h));
      o8 = symbols_pass b O8 tables (λ place h. is.unbroken O8 place (whole, once, inr (inl h)));
      o9 = symbols_pass b O9 tables (λ place h. is.unbroken O9 place (whole, once, inr (inl h)));
      o10 = (
        inside,
        relocations_pass b O10 inside (λ place h. is.unbroken O10 place (whole, once, inr (inr h))),
      );
      o11 = sections_pass b O11 (λ place h. is.unbroken O11 place (whole, once, inl h));
      o12 = sections_pass b O12 (λ place h. is.unbroken O12 place (whole, once, inl h));
      o13 = symbols_pass b O13 tables (λ place h. is.unbroken O13 place (whole, once, inr (inl h)));
      o14 = symbols_pass b O14 tables (λ place h. is.unbroken O14 place (whole, once, inr (inl h)));
    }
  where
    head : head_fits MH_OBJECT b ≡ true
    head = not_false (head_fits MH_OBJECT b) (λ fails. is.unbroken O1 0 (refl, fails))

    whole : AreWhole b (command_fits (needed_in_object b) b)
    whole = (
      not_false (commands_inside b) (λ fails. is.unbroken O2 0 (inl (refl, fails))),
      commands_pass (commands_of b) (command_fits (needed_in_object b) b) (λ place h. is.unbroken O2 place (inr h)),
    )

    once : (has_one LC_SEGMENT_64 b ≡ true) × (has_one LC_SYMTAB b ≡ true)
    once = (
      is_one LC_SEGMENT_64 b (λ place h. is.unbroken O3 place (whole, inl h)),
      is_one LC_SYMTAB b (λ place h. is.unbroken O3 place (whole, inr h)),
    )

    tables : tables_inside b ≡ true
    tables = not_false (tables_inside b) (λ fails. is.unbroken O4 (place_of LC_SYMTAB b) (whole, once, (refl, fails)))

    inside : EachSection b O10
    inside = sections_pass b O10 (λ place h. is.unbroken O10 place (whole, once, inl h))

-- a dynamic library passes each test
pub dylib_keeps : {b : List ℕ} → IsDylib b → KeepsDylibRules b
dylib_keeps {b} is =
    record {
      o1 = not_false (head_fits MH_DYLIB b) (λ fails. is.unbroken O1 0 (refl, fails));
      o2 = whole;
      o3 = once;
      o4 = tables;
      o9 = (
        symbols_pass b O9 tables (λ place h. is.unbroken O9 place (whole, once, inl h)),
        commands_pass (numbered LC_ID_DYLIB b) (path_ends b) (λ place h. is.unbroken O9 place (whole, once, inr h)),
      );
      o13 = symbols_pass b O13 tables (λ place h. is.unbroken O13 place (whole, once, h));
    }
  where
    whole : AreWhole b (command_fits needed_in_dylib b)
    whole = (
      not_false (commands_inside b) (λ fails. is.unbroken O2 0 (inl (refl, fails))),
      commands_pass (commands_of b) (command_fits needed_in_dylib b) (λ place h. is.unbroken O2 place (inr h)),
    )

    once : (has_one LC_ID_DYLIB b ≡ true) × (has_one LC_SYMTAB b ≡ true)
    once = (
      is_one LC_ID_DYLIB b (λ place h. is.unbroken O3 place (whole, inl h)),
      is_one LC_SYMTAB b (λ place h. is.unbroken O3 place (whole, inr h)),
    )

    tables : tables_inside b ≡ true
    tables = not_false (tables_inside b) (λ fails. is.unbroken O4 (place_of LC_SYMTAB b) (whole, once, (refl, fails)))

-- where each record passes a rule's test, none fails it
section_fails : (b : List ℕ) (place : ℕ) (rule : ObjectRule) → SectionFails b rule place → EachSection b rule → ⊥
section_fails b place rule (k, within, told, fails) each = true_or_false (section_keeps b rule (section_at b k)) (each k within) fails

symbol_fails : (b : List ℕ) (place : ℕ) (rule : ObjectRule) → SymbolFails b rule place → EachSymbol b rule → ⊥
symbol_fails b place rule (tables, k, within, told, fails) each =
    true_or_false (symbol_keeps b rule (symbol_at b k)) (each k within) fails

relocation_fails : (b : List ℕ) (place : ℕ) (rule : ObjectRule) → RelocationFails b rule place → EachRelocation b rule → ⊥
relocation_fails b place rule (k, r, within, inside, among, told, fails) each =
    true_or_false (relocation_keeps b rule (section_at b k) (relocation_at b k r)) (each k r within among) fails

pub command_fails : (cs : List Command) (place : ℕ) (test : Command → Bool) → CommandFails cs place test → EachCommand cs test → ⊥
command_fails cs place test (k, c, (within, is), told, fails) each =
    true_or_false (test c) (subst (λ x. test x ≡ true) is (each k c within)) fails

not_one : (n : ℕ) (b : List ℕ) (place : ℕ) → IsNotOne n b place → has_one n b ≡ true → ⊥
not_one n b place (inl (none, told)) one =
    let count = is_equal (length (numbered n b)) 1 one in let empty = ap (λ (cs : List Command). length cs) none in omega
    (arith, count, empty)
not_one n b place (inr (k, c, least, (within, is), told)) one =
    let count = is_equal (length (numbered n b)) 1 one in omega (arith, count, least, within)

-- the records of each kind keep every rule
sections_keep : (b : List ℕ) (rule : ObjectRule) → KeepsObjectRules b → EachSection b rule
sections_keep b O6 o = o.o6
sections_keep b O7 o = o.o7
sections_keep b O10 o = o.o10.0
sections_keep b O11 o = o.o11
sections_keep b O12 o = o.o12
sections_keep b _ o = λ k within. refl

symbols_keep : (b : List ℕ) (rule : ObjectRule) → KeepsObjectRules b → EachSymbol b rule
symbols_keep b O5 o = o.o5.0
symbols_keep b O8 o = o.o8
symbols_keep b O9 o = o.o9
symbols_keep b O13 o = o.o13
symbols_keep b O14 o = o.o14
symbols_keep b _ o = λ k within. refl

relocations_keep : (b : List ℕ) (rule : ObjectRule) → KeepsObjectRules b → EachRelocation b rule
relocations_keep b O5 o = o.o5.1
relocations_keep b O10 o = o.o10.1
relocations_keep b _ o = λ k r within among. refl

unbroken_records : (b : List ℕ) (rule : ObjectRule) (place : ℕ) → KeepsObjectRules b
    → SectionFails b rule place ⊎ SymbolFails b rule place ⊎ RelocationFails b rule place → ⊥
unbroken_records b rule place o (inl h) = section_fails b place rule h (sections_keep b rule o)
unbroken_records b rule place o (inr (inl h)) = symbol_fails b place rule h (symbols_keep b rule o)
unbroken_records b rule place o (inr (inr h)) = relocation_fails b place rule h (relocations_keep b rule o)

unbroken_object : (b : List ℕ) (rule : ObjectRule) (place : ℕ) → KeepsObjectRules b → ObjectBreaks b rule place → ⊥
unbroken_object b O1 place o h = true_or_false _ o.o1 h.1
unbroken_object b O2 place o (inl h) = true_or_false _ o.o2.0 h.1
unbroken_object b O2 place o (inr h) = command_fails (commands_of b) place (command_fits (needed_in_object b) b) h o.o2.1
unbroken_object b O3 place o (whole, inl h) = not_one LC_SEGMENT_64 b place h o.o3.0
unbroken_object b O3 place o (whole, inr h) = not_one LC_SYMTAB b place h o.o3.1
unbroken_object b O4 place o (whole, once, h) = true_or_false _ o.o4 h.1
unbroken_object b O5 place o (whole, once, h) = unbroken_records b O5 place o h
unbroken_object b O6 place o (whole, once, h) = unbroken_records b O6 place o h
unbroken_object b O7 place o (whole, once, h) = unbroken_records b O7 place o h
unbroken_object b O8 place o (whole, once, h) = unbroken_records b O8 place o h
unbroken_object b O9 place o (whole, once, h) = unbroken_records b O9 place o h
unbroken_object b O10 place o (whole, once, h) = unbroken_records b O10 place o h
unbroken_object b O11 place o (whole, once, h) = unbroken_records b O11 place o h
unbroken_object b O12 place o (whole, once, h) = unbroken_records b O12 place o h
unbroken_object b O13 place o (whole, once, h) = unbroken_records b O13 place o h
unbroken_object b O14 place o (whole, once, h) = unbroken_records b O14 place o h

unbroken_dylib : (b : List ℕ) (rule : ObjectRule) (place : ℕ) → KeepsDylibRules b → DylibBreaks b rule place → ⊥
unbroken_dylib b O1 place d h = true_or_false _ d.o1 h.1
unbroken_dylib b O2 place d (inl h) = true_or_false _ d.o2.0 h.1
unbroken_dylib b O2 place d (inr h) = command_fails (commands_of b) place (command_fits needed_in_dylib b) h d.o2.1
unbroken_dylib b O3 place d (whole, inl h) = not_one LC_ID_DYLIB b place h d.o3.0
unbroken_dylib b O3 place d (whole, inr h) = not_one LC_SYMTAB b place h d.o3.1
unbroken_dylib b O4 place d (whole, once, h) = true_or_false _ d.o4 h.1
unbroken_dylib b O9 place d (whole, once, inl h) = symbol_fails b place O9 h d.o9.0
unbroken_dylib b O9 place d (whole, once, inr h) = command_fails (numbered LC_ID_DYLIB b) place (path_ends b) h d.o9.1
unbroken_dylib b O13 place d (whole, once, h) = symbol_fails b place O13 h d.o13
unbroken_dylib b _ place d h = absurd h.2

-- what passes each test is an object, or a dynamic library
pub kept_object : {b : List ℕ} → KeepsObjectRules b → IsObject b
kept_object {b} o = record { unbroken = λ rule place h. unbroken_object b rule place o h }

pub kept_dylib : {b : List ℕ} → KeepsDylibRules b → IsDylib b
kept_dylib {b} d = record { unbroken = λ rule place h. unbroken_dylib b rule place d h }

-- the bytes of a section that has them in the file
pub section_long : (b : List ℕ) (k : ℕ) → KeepsObjectRules b → k < num_sections b → is_zerofill (section_at b k) ≡ false
    → length (section_bytes b k) ≡ (section_at b k).size
unfolding section_bytes
section_long b k object among filled =
    let h = section_at b k in
    let end = h.offset + h.size in
    let inside = leb-true end (length b) (or_right (is_zerofill h) (nat_le end (length b))
    (and_left (is_zerofill h || nat_le end (length b)) _ (object.o6 k among)) filled) in
    let long : length (slice_range b h.offset end) ≡ h.size = omega (arith, inside, length-between b h.offset end) in
    rw filled long

pub keeps_of : (dyn : Bool) (b : List ℕ) → dyn ≡ false → IsFile dyn b → KeepsObjectRules b
keeps_of dyn b static kept =
    let whole : IsFile false b = subst (λ (d : Bool). IsFile d b) static kept in object_keeps whole

-- what a relocation names is there
pub symbol_exists : (b : List ℕ) (k r : ℕ) → relocation_number_exists b k r ≡ true → (relocation_at b k r).r_extern ≡ true
    → (relocation_at b k r).r_symbolnum < num_symbols b
symbol_exists b k r h extern =
    let test : nat_lt (relocation_at b k r).r_symbolnum (num_symbols b) ≡ true = rw extern at h in ltb-true _ _ test
