-- Each rule of objects as one test, and what the tests say of the definition.
--
-- A rule speaks of each section, symbol, relocation or command, which are finitely many, so it has a test that is true
-- exactly where the rule is kept. An object is what keeps every rule. So the tests, computed, show of an example that
-- it is an object, or which rule it breaks, and that it keeps the others.
use Rattle.std.proofs.Common.{◌≡◌, ◌≢◌, ℕ, ◌<◌, ◌==◌, Bool, true, false, not, ◌&&◌, List, [], ◌∷◌, get_or, map, refl, sym, ap, ◌∙◌}
use Rattle.std.specs.List.{list_all}
use Rattle.macho_model.specs.steps.RecordTests.{symbol_section_exists, relocation_number_exists, data_inside, exponent_fits, value_in_section, name_ends, relocations_inside, field_inside, thread_local_in_data, zerofill_unrelocated, global_has_name, common_fits}
use Rattle.macho_records.specs.declared.constants.TheConstants.{LC_SEGMENT_64, LC_SYMTAB, MH_OBJECT}
use Rattle.macho_model.specs.declared.rules.ObjectRule.{ObjectRule}
use Rattle.macho_model.specs.declared.rules.ObjectRule.TheVariants.{O1, O2, O3, O4, O5, O6, O7, O8, O9, O10, O11, O12, O13, O14}
use Rattle.macho_model.specs.Commands.{commands_of, command_fits}
use Rattle.macho_model.specs.Objects.{num_sections, section_at, num_symbols}
use Rattle.macho_model.specs.ObjectRules.{head_fits, commands_inside, needed_in_object, has_one, tables_inside}
use Rattle.macho_model.specs.Grammar.{EachCommand, IsObject}
use Rattle.macho_model.specs.ObjectLaws.{EachSection, EachSymbol, EachRelocation, KeepsObjectRules}
use Rattle.macho_model.proofs.ObjectLaws.{object_keeps, kept_object}
use Rattle.macho_model.proofs.EachBelow.{each_below, below_pass, pass_below}
use Rattle.macho_bytes.proofs.Bools.{true_or_false, and_left, and_right, and_both, same_number, other_number}
use Rattle.macho_bytes.proofs.Members.{all_pass, pass_all}

-- what an object keeps, rule by rule: the fields of `KeepsObjectRules`
abbrev pub Keeps : List ℕ → ObjectRule → Type 0
Keeps b O1 = head_fits MH_OBJECT b ≡ true
Keeps b O2 = (commands_inside b ≡ true) × EachCommand (commands_of b) (command_fits (needed_in_object b) b)
Keeps b O3 = (has_one LC_SEGMENT_64 b ≡ true) × (has_one LC_SYMTAB b ≡ true)
Keeps b O4 = tables_inside b ≡ true
Keeps b O5 = EachSymbol b O5 × EachRelocation b O5
Keeps b O6 = EachSection b O6
Keeps b O7 = EachSection b O7
Keeps b O8 = EachSymbol b O8
Keeps b O9 = EachSymbol b O9
Keeps b O10 = EachSection b O10 × EachRelocation b O10
Keeps b O11 = EachSection b O11
Keeps b O12 = EachSection b O12
Keeps b O13 = EachSymbol b O13
Keeps b O14 = EachSymbol b O14

pub keeps_all : (b : List ℕ) → ((rule : ObjectRule) → Keeps b rule) → IsObject b
keeps_all b h =
    let keeps : KeepsObjectRules b =
    record {
      o1 = h O1;
      o2 = h O2;
      o3 = h O3;
      o4 = h O4;
      o5 = h O5;
      o6 = h O6;
      o7 = h O7;
      o8 = h O8;
      o9 = h O9;
      o10 = h O10;
      o11 = h O11;
      o12 = h O12;
      o13 = h O13;
      o14 = h O14;
    } in
    kept_object keeps

pub all_kept : (b : List ℕ) → IsObject b → (rule : ObjectRule) → Keeps b rule
all_kept b is = by_rule (object_keeps is)
  where
    by_rule : KeepsObjectRules b → (rule : ObjectRule) → Keeps b rule
    by_rule keeps O1 = keeps.o1
    by_rule keeps O2 = keeps.o2
    by_rule keeps O3 = keeps.o3
    by_rule keeps O4 = keeps.o4
    by_rule keeps O5 = keeps.o5
    by_rule keeps O6 = keeps.o6
    by_rule keeps O7 = keeps.o7
    by_rule keeps O8 = keeps.o8
    by_rule keeps O9 = keeps.o9
    by_rule keeps O10 = keeps.o10
    by_rule keeps O11 = keeps.o11
    by_rule keeps O12 = keeps.o12
    by_rule keeps O13 = keeps.o13
    by_rule keeps O14 = keeps.o14

-- a test of each relocation
abbrev pub each_relocation : List ℕ → (ℕ → ℕ → Bool) → Bool
each_relocation b test = each_below (num_sections b) (λ k. each_below (section_at b k).nreloc (test k))

relocations_pass : (b : List ℕ) (test : ℕ → ℕ → Bool) → each_relocation b test ≡ true → (k r : ℕ) → k < num_sections b
    → r < (section_at b k).nreloc → test k r ≡ true
relocations_pass b test h k r in_sections in_table =
    below_pass (section_at b k).nreloc (test k) (below_pass (num_sections b) (λ j. each_below (section_at b j).nreloc (test j)) h k
    in_sections) r in_table

pass_relocations : (b : List ℕ) (test : ℕ → ℕ → Bool) → ((k r : ℕ) → k < num_sections b → r < (section_at b k).nreloc → test k r ≡ true)
    → each_relocation b test ≡ true
pass_relocations b test h =
    pass_below (num_sections b) (λ j. each_below (section_at b j).nreloc (test j))
    (λ k in_sections. pass_below (section_at b k).nreloc (test k) (λ r in_table. h k r in_sections in_table))

-- a rule's test
abbrev pub keeps_test : List ℕ → ObjectRule → Bool
keeps_test b O1 = head_fits MH_OBJECT b
keeps_test b O2 = commands_inside b && list_all (command_fits (needed_in_object b) b) (commands_of b)
keeps_test b O3 = has_one LC_SEGMENT_64 b && has_one LC_SYMTAB b
keeps_test b O4 = tables_inside b
keeps_test b O5 = each_below (num_symbols b) (symbol_section_exists b) && each_relocation b (relocation_number_exists b)
keeps_test b O6 = each_below (num_sections b) (data_inside b)
keeps_test b O7 = each_below (num_sections b) (exponent_fits b)
keeps_test b O8 = each_below (num_symbols b) (value_in_section b)
keeps_test b O9 = each_below (num_symbols b) (name_ends b)
keeps_test b O10 = each_below (num_sections b) (relocations_inside b) && each_relocation b (field_inside b)
keeps_test b O11 = each_below (num_sections b) (thread_local_in_data b)
keeps_test b O12 = each_below (num_sections b) (zerofill_unrelocated b)
keeps_test b O13 = each_below (num_symbols b) (global_has_name b)
keeps_test b O14 = each_below (num_symbols b) (common_fits b)

-- a test that is true shows its rule
pub test_shows : (b : List ℕ) (rule : ObjectRule) → keeps_test b rule ≡ true → Keeps b rule
test_shows b O1 h = h
test_shows b O2 h = (
  and_left (commands_inside b) (list_all (command_fits (needed_in_object b) b) (commands_of b)) h,
  all_pass (command_fits (needed_in_object b) b) (commands_of b)
      (and_right (commands_inside b) (list_all (command_fits (needed_in_object b) b) (commands_of b)) h),
)
test_shows b O3 h = (
  and_left (has_one LC_SEGMENT_64 b) (has_one LC_SYMTAB b) h,
  and_right (has_one LC_SEGMENT_64 b) (has_one LC_SYMTAB b)
      h,
)
test_shows b O4 h = h
test_shows b O5 h = (
  below_pass (num_symbols b) (symbol_section_exists b)
      (and_left (each_below (num_symbols b) (symbol_section_exists b)) (each_relocation b (relocation_number_exists b)) h),
  relocations_pass b (relocation_number_exists b)
      (and_right (each_below (num_symbols b) (symbol_section_exists b)) (each_relocation b (relocation_number_exists b)) h),
)
test_shows b O6 h = below_pass (num_sections b) (data_inside b) h
test_shows b O7 h = below_pass (num_sections b) (exponent_fits b) h
test_shows b O8 h = below_pass (num_symbols b) (value_in_section b) h
test_shows b O9 h = below_pass (num_symbols b) (name_ends b) h
test_shows b O10 h = (
  below_pass (num_sections b) (relocations_inside b) (and_left (each_below (num_sections b) (relocations_inside b))
      (each_relocation b (field_inside b)) h),
  relocations_pass b (field_inside b) (and_right (each_below (num_sections b) (relocations_inside b)) (each_relocation b (field_inside b))
      h),
)
test_shows b O11 h = below_pass (num_sections b) (thread_local_in_data b) h
test_shows b O12 h = below_pass (num_sections b) (zerofill_unrelocated b) h
test_shows b O13 h = below_pass (num_symbols b) (global_has_name b) h
test_shows b O14 h = below_pass (num_symbols b) (common_fits b) h

-- a rule that is kept has a test that is true
pub shows_test : (b : List ℕ) (rule : ObjectRule) → Keeps b rule → keeps_test b rule ≡ true
shows_test b O1 h = h
shows_test b O2 h =
    and_both (commands_inside b) (list_all (command_fits (needed_in_object b) b) (commands_of b)) h.0
    (pass_all (command_fits (needed_in_object b) b) (commands_of b) h.1)
shows_test b O3 h = and_both (has_one LC_SEGMENT_64 b) (has_one LC_SYMTAB b) h.0 h.1
shows_test b O4 h = h
shows_test b O5 h =
    and_both (each_below (num_symbols b) (symbol_section_exists b)) (each_relocation b (relocation_number_exists b))
    (pass_below (num_symbols b) (symbol_section_exists b) h.0) (pass_relocations b (relocation_number_exists b) h.1)
shows_test b O6 h = pass_below (num_sections b) (data_inside b) h
shows_test b O7 h = pass_below (num_sections b) (exponent_fits b) h
shows_test b O8 h = pass_below (num_symbols b) (value_in_section b) h
shows_test b O9 h = pass_below (num_symbols b) (name_ends b) h
shows_test b O10 h =
    and_both (each_below (num_sections b) (relocations_inside b)) (each_relocation b (field_inside b))
    (pass_below (num_sections b) (relocations_inside b) h.0) (pass_relocations b (field_inside b) h.1)
shows_test b O11 h = pass_below (num_sections b) (thread_local_in_data b) h
shows_test b O12 h = pass_below (num_sections b) (zerofill_unrelocated b) h
shows_test b O13 h = pass_below (num_symbols b) (global_has_name b) h
shows_test b O14 h = pass_below (num_symbols b) (common_fits b) h

-- the rules, and the place of each among them
abbrev pub rules : List ObjectRule
rules = O1 ∷ O2 ∷ O3 ∷ O4 ∷ O5 ∷ O6 ∷ O7 ∷ O8 ∷ O9 ∷ O10 ∷ O11 ∷ O12 ∷ O13 ∷ O14 ∷ []

abbrev pub number : ObjectRule → ℕ
number O1 = 0
number O2 = 1
number O3 = 2
number O4 = 3
number O5 = 4
number O6 = 5
number O7 = 6
number O8 = 7
number O9 = 8
number O10 = 9
number O11 = 10
number O12 = 11
number O13 = 12
number O14 = 13

-- what the tests say, rule by rule; what they say where one rule alone is broken, and where none is
unfoldable pub verdict : List ℕ → List Bool
verdict b = map (keeps_test b) rules

abbrev pub all_but : ObjectRule → List Bool
all_but rule = map (λ r. not (number r == number rule)) rules

abbrev pub all_pass_verdict : List Bool
all_pass_verdict = map (λ r. true) rules

-- the verdict at a rule's place
verdict_at : (b : List ℕ) (rule : ObjectRule) → get_or (verdict b) (number rule) false ≡ keeps_test b rule
unfolding verdict
verdict_at b O1 = refl
verdict_at b O2 = refl
verdict_at b O3 = refl
verdict_at b O4 = refl
verdict_at b O5 = refl
verdict_at b O6 = refl
verdict_at b O7 = refl
verdict_at b O8 = refl
verdict_at b O9 = refl
verdict_at b O10 = refl
verdict_at b O11 = refl
verdict_at b O12 = refl
verdict_at b O13 = refl
verdict_at b O14 = refl

-- a list of answers at a rule's place
at_rule : (f : ObjectRule → Bool) (rule : ObjectRule) → get_or (map f rules) (number rule) false ≡ f rule
at_rule f O1 = refl
at_rule f O2 = refl
at_rule f O3 = refl
at_rule f O4 = refl
at_rule f O5 = refl
at_rule f O6 = refl
at_rule f O7 = refl
at_rule f O8 = refl
at_rule f O9 = refl
at_rule f O10 = refl
at_rule f O11 = refl
at_rule f O12 = refl
at_rule f O13 = refl
at_rule f O14 = refl

-- An example whose tests are all true is an object.
pub is_object : (b : List ℕ) → verdict b ≡ all_pass_verdict → IsObject b
is_object b h =
    keeps_all b (λ rule. test_shows b rule (sym (verdict_at b rule) ∙ ap (λ (v : List Bool). get_or v (number rule) false) h
    ∙ at_rule (λ r. true) rule))

-- one rule is broken, and all others are kept
pub record BreaksAlone (b : List ℕ) (rule : ObjectRule) : Type 0 where
  pub broken : Keeps b rule → ⊥
  pub others : (other : ObjectRule) → number other ≢ number rule → Keeps b other

-- An example whose tests are all true but one breaks that rule alone.
pub breaks_alone : (b : List ℕ) (rule : ObjectRule) → verdict b ≡ all_but rule → BreaksAlone b rule
breaks_alone b rule h =
    record {
      broken = λ kept. true_or_false (keeps_test b rule) (shows_test b rule kept) (answer rule ∙ same_number (number rule));
      others = λ other apart. test_shows b other (answer other ∙ other_number (number other) (number rule) apart);
    }
  where
    answer : (r : ObjectRule) → keeps_test b r ≡ not (number r == number rule)
    answer r =
        sym (verdict_at b r) ∙ ap (λ (v : List Bool). get_or v (number r) false) h ∙ at_rule (λ q. not (number q == number rule)) r
