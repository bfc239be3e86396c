-- A dynamic library of one symbol, written out by hand: it keeps each rule of libraries, and changes break each alone.
--
-- Each rule has a test, of finitely many commands and symbols; the tests are all true exactly where the bytes are a
-- library. So a change whose tests are all true but one breaks that rule and no other.
use Rattle.std.proofs.Common.{◌≡◌, ℕ, Bool, true, false, ◌&&◌, ◌==◌, not, List, [], ◌∷◌, ◌++◌, get_or, replicate, map, refl, ap, ◌∙◌, All}
use Rattle.std.specs.Prelude.{codes}
use Rattle.std.specs.List.{list_all, AllByRecursion}
use Rattle.std.proofs.lemmas.List.Elements.{All-from_recursion}
use Rattle.macho_model.specs.steps.RecordTests.{name_ends, global_has_name}
use Rattle.macho_bytes.specs.Numbers.{le_at, le_bytes, row_bytes}
use Rattle.macho_bytes.specs.Layouts.{reading}
use Rattle.macho_records.specs.declared.constants.TheConstants.{LC_ID_DYLIB, LC_SYMTAB, MH_DYLIB}
use Rattle.macho_model.specs.Commands.{header_of, commands_from, commands_of, commands_end, numbered, command_fits}
use Rattle.macho_model.specs.Objects.{symtab_of, num_symbols, symbol_place, symbol_at, strings_of, symbol_name, install_name_of}
use Rattle.macho_model.specs.ObjectRules.{head_fits, commands_inside, needed_in_dylib, has_one, tables_inside, path_ends}
use Rattle.macho_model.specs.Grammar.{IsDylib}
use Rattle.macho_model.specs.ObjectLaws.{KeepsDylibRules}
use Rattle.macho_model.proofs.ObjectLaws.{dylib_keeps, kept_dylib}
use Rattle.macho_model.proofs.EachBelow.{each_below, below_pass, pass_below}
use Rattle.macho_model_checks.proofs.Examples.{words8, words, halves, changed}
use Rattle.macho_bytes.proofs.Bools.{true_or_false, and_left, and_right, and_both}
use Rattle.macho_bytes.proofs.Members.{all_pass, pass_all}

-- Header 32 bytes; the install name `/a` 32, symbol table 24, UUID 24; at 112 the global `_f`, at 128 its name.
unfoldable pub dylib_c : List ℕ
dylib_c =
    words (0xfeedfacf ∷ 0x0100000c ∷ 0 ∷ 6 ∷ 3 ∷ 80 ∷ 0 ∷ 0 ∷ [])
    ++ words (0xd ∷ 32 ∷ 24 ∷ 2 ∷ 0x10000 ∷ 0x10000 ∷ []) ++ codes "/a" ++ replicate 6 0
    ++ words (2 ∷ 24 ∷ 112 ∷ 1 ∷ 128 ∷ 4 ∷ [])
    ++ words (0x1b ∷ 24 ∷ 0 ∷ 0 ∷ 0 ∷ 0 ∷ [])
    ++ words (1 ∷ []) ++ 0x0f ∷ 1 ∷ halves (0 ∷ []) ++ words8 (0 ∷ [])
    ++ 0 ∷ codes "_f" ++ 0 ∷ []

-- what it says
pub names_of_c : (install_name_of dylib_c ≡ codes "/a") × (num_symbols dylib_c ≡ 1) × (symbol_name dylib_c 0 ≡ codes "_f")
unfolding install_name_of symbol_name header_of commands_from commands_of symtab_of num_symbols symbol_place symbol_at strings_of le_at
    le_bytes row_bytes reading words8 words halves dylib_c
names_of_c = (refl, refl, refl)

-- the tests of the rules: the first four, then of names and of global symbols
unfoldable pub dylib_tests : List ℕ → List Bool
dylib_tests b =
    head_fits MH_DYLIB b ∷ (commands_inside b && list_all (command_fits needed_in_dylib b) (commands_of b))
    ∷ (has_one LC_ID_DYLIB b && has_one LC_SYMTAB b) ∷ tables_inside b
    ∷ (each_below (num_symbols b) (name_ends b) && list_all (path_ends b) (numbered LC_ID_DYLIB b))
    ∷ each_below (num_symbols b) (global_has_name b) ∷ []

-- the answer to a rule's test
answer : (n : ℕ) (xs ys : List Bool) → xs ≡ ys → get_or xs n false ≡ get_or ys n false
answer n xs ys h = ap (λ (v : List Bool). get_or v n false) h

pub is_dylib : (b : List ℕ) → dylib_tests b ≡ replicate 6 true → IsDylib b
unfolding dylib_tests
is_dylib b h =
    let ans = λ (n : ℕ). answer n (dylib_tests b) (replicate 6 true) h in
    let keeps : KeepsDylibRules b =
    record {
      o1 = ans 0;
      o2 = (
        and_left (commands_inside b) _ (ans 1),
        all_pass (command_fits needed_in_dylib b) (commands_of b)
            (and_right (commands_inside b) _ (ans 1)),
      );
      o3 = (and_left (has_one LC_ID_DYLIB b) _ (ans 2), and_right (has_one LC_ID_DYLIB b) _ (ans 2));
      o4 = ans 3;
      o9 = (
        below_pass (num_symbols b) (name_ends b) (and_left (each_below (num_symbols b) (name_ends b)) _ (ans 4)),
        all_pass (path_ends b) (numbered LC_ID_DYLIB b) (and_right (each_below (num_symbols b) (name_ends b)) _ (ans 4)),
      );
      o13 = below_pass (num_symbols b) (global_has_name b) (ans 5);
    } in
    kept_dylib keeps

pub dylib_passes : (b : List ℕ) → IsDylib b → dylib_tests b ≡ replicate 6 true
unfolding dylib_tests
dylib_passes b is =
    let d = dylib_keeps is in
    rw (
      d.o1,
      and_both (commands_inside b) (list_all (command_fits needed_in_dylib b) (commands_of b)) d.o2.0
          (pass_all (command_fits needed_in_dylib b) (commands_of b) d.o2.1),
      and_both (has_one LC_ID_DYLIB b) (has_one LC_SYMTAB b) d.o3.0 d.o3.1,
      d.o4,
      and_both (each_below (num_symbols b) (name_ends b)) (list_all (path_ends b) (numbered LC_ID_DYLIB b))
          (pass_below (num_symbols b) (name_ends b) d.o9.0)
          (pass_all (path_ends b) (numbered LC_ID_DYLIB b) d.o9.1),
      pass_below (num_symbols b) (global_has_name b) d.o13,
    ) refl

pub c_is_dylib : IsDylib dylib_c
unfolding dylib_tests header_of commands_from commands_of commands_end symtab_of num_symbols symbol_place symbol_at strings_of le_at
    le_bytes row_bytes reading words8 words halves dylib_c
c_is_dylib = is_dylib dylib_c refl

-- A change of the library and the number of the test that fails.
pub record DylibChange : Type 0 where
  pub test : ℕ
  pub at : ℕ
  pub text : List ℕ

abbrev pub changed_dylib : DylibChange → List ℕ
changed_dylib c = changed dylib_c c.at c.text

abbrev pub all_but : ℕ → List Bool
all_but n = map (λ k. not (k == n)) (0 ∷ 1 ∷ 2 ∷ 3 ∷ 4 ∷ 5 ∷ [])

abbrev pub dylib_changes : List DylibChange
dylib_changes =
    -- the type of an object
    record { test = 0; at = 12; text = words (1 ∷ []) }
    -- the last command passes `sizeofcmds`
    ∷ record { test = 1; at = 20; text = words (79 ∷ []) }
    -- a second install name, in place of the UUID
    ∷ record { test = 2; at = 88; text = words (0xd ∷ []) }
    -- the string table passes the file by a byte
    ∷ record { test = 3; at = 84; text = words (5 ∷ []) }
    -- a name behind the string table; an install name that begins at the end of its command
    ∷ record { test = 4; at = 112; text = words (4 ∷ []) }
    ∷ record { test = 4; at = 40; text = words (32 ∷ []) }
    -- a global symbol without a name
    ∷ record { test = 5; at = 112; text = words (0 ∷ []) }
    ∷ []

verdicts : AllByRecursion (λ c. dylib_tests (changed_dylib c) ≡ all_but c.test) dylib_changes
unfolding dylib_tests header_of commands_from commands_of commands_end symtab_of num_symbols symbol_place symbol_at strings_of le_at
    le_bytes row_bytes reading words8 words halves dylib_c changed
verdicts = (refl, (refl, (refl, (refl, (refl, (refl, (refl, tt)))))))

-- Each change fails its test, and no other one.
pub each_dylib_change : All (λ c. dylib_tests (changed_dylib c) ≡ all_but c.test) dylib_changes
each_dylib_change = All-from_recursion (λ c. dylib_tests (changed_dylib c) ≡ all_but c.test) dylib_changes verdicts

-- So none of them is a library.
pub broken_is_no_dylib : (b : List ℕ) (n : ℕ) → get_or (all_but n) n false ≡ false → get_or (replicate 6 true) n false ≡ true
    → dylib_tests b ≡ all_but n → IsDylib b → ⊥
broken_is_no_dylib b n fails among h d =
    true_or_false (get_or (dylib_tests b) n false) (answer n (dylib_tests b) (replicate 6 true) (dylib_passes b d) ∙ among)
    (answer n (dylib_tests b) (all_but n) h ∙ fails)
