-- Two texts as libraries have them, and what is answered of them, by computing the whole reading. The first has three
-- documents: a library and two that it reexports; the second a list over two lines, a key that is skipped and an end.
-- Of each the answer is the library that is written down here, so the text makes this library in the sense of the
-- grammar and the rules, and no other; and what its documents say are slices of the text.
-- Then one thing is changed: a document that the library doesn't reexport stands behind the others, or the document isn't
-- for the target, though its item is. The answer is the rule that is broken, at the first line of that document. Last,
-- each of the other rules is broken alone by a small text near one that keeps them.
use Rattle.std.proofs.Common.{◌≡◌, ℕ, List, [], ◌∷◌, ◌++◌, Ok, refl, sym, ◌∙◌}
use Rattle.std.specs.List.{AllByRecursion}
use Rattle.std.specs.Prelude.{codes}
use Rattle.macho_stub_lines.specs.declared.fault.StubFault.TheVariants.{Rule}
use Rattle.macho_stub_lines.specs.declared.fault.StubRule.TheVariants.{S2, S4, S5, S6, S7, S8, S9}
use Rattle.macho_stub_lines.specs.Faults.{broken}
use Rattle.macho_stub_lines.proofs.Bind.{same_ok}
use Rattle.macho_stub.specs.Library.{LibraryFields}
use Rattle.macho_stub.specs.Answer.{IsStub, DocumentStands, IsToldOfText}
use Rattle.macho_stub.specs.steps.Answer.{answer_of}
use Rattle.macho_stub_lines.specs.Slices.{Slice}
use Rattle.macho_stub.specs.Documents.{DocumentOf, documents_texts}
use Rattle.macho_stub.proofs.Trees.{in_places}
use Rattle.macho_stub.proofs.TreesStand.{text_stands}
use Rattle.macho_stub.proofs.Answered.{answer_found, answer_only, answer_told}
use Rattle.macho_stub.proofs.RowsOpened.{answer_opened}

-- ---- what follows from an answer

-- The text makes the library, and no other one, and each text of its documents stands in it at its place.
pub record IsLibraryOf (text : List ℕ) (library : LibraryFields) : Type 0 where
  pub makes : IsStub text library
  pub alone : (other : LibraryFields) → IsStub text other → other ≡ library
  pub slices : List (DocumentOf Slice)
  pub are : documents_texts slices ≡ makes.main ∷ makes.others
  pub stand : AllByRecursion (DocumentStands text) slices

library_of_answer : (text : List ℕ) (library : LibraryFields) → answer_of text ≡ Ok library → IsLibraryOf text library
library_of_answer text library e =
    let makes : IsStub text library = answer_found text library e in
    let p = in_places text (makes.main ∷ makes.others) makes.in_grammar in
    record {
      makes = makes;
      alone = λ other is. same_ok other library (sym (answer_only text other is) ∙ e);
      slices = p.0;
      are = p.2;
      stand = text_stands text p.0 p.1;
    }

-- ---- a library with two that it reexports

abbrev pub main_text : List ℕ
main_text =
    codes "--- !tapi-tbd\n" ++ codes "tbd-version:     4\n" ++ codes "targets:         [ x86_64-macos, arm64e-macos ]\n"
    ++ codes "install-name:    '/usr/lib/libMain.dylib'\n" ++ codes "current-version: 1.2.3\n" ++ codes "reexported-libraries:\n"
    ++ codes "  - targets:         [ x86_64-macos, arm64e-macos ]\n"
    ++ codes "    libraries:       [ '/usr/lib/libA.dylib', '/usr/lib/libB.dylib' ]\n" ++ codes "exports:\n"
    ++ codes "  - targets:         [ arm64e-macos ]\n" ++ codes "    symbols:         [ _main_arm64 ]\n"
    ++ codes "    weak-symbols:    [ _main_weak_arm64 ]\n" ++ codes "  - targets:         [ x86_64-macos ]\n"
    ++ codes "    symbols:         [ _main_x86_64 ]\n" ++ codes "--- !tapi-tbd\n" ++ codes "tbd-version:     4\n"
    ++ codes "targets:         [ x86_64-macos, arm64e-macos ]\n" ++ codes "install-name:    '/usr/lib/libA.dylib'\n"
    ++ codes "current-version: 10\n" ++ codes "parent-umbrella:\n" ++ codes "  - targets:         [ x86_64-macos, arm64e-macos ]\n"
    ++ codes "    umbrella:        Main\n" ++ codes "exports:\n" ++ codes "  - targets:         [ arm64e-macos ]\n"
    ++ codes "    symbols:         [ _a_arm64 ]\n" ++ codes "    weak-symbols:    [ _a_weak_arm64 ]\n" ++ codes "--- !tapi-tbd\n"
    ++ codes "tbd-version:     4\n" ++ codes "targets:         [ x86_64-macos, arm64e-macos ]\n"
    ++ codes "install-name:    '/usr/lib/libB.dylib'\n" ++ codes "current-version: 11\n" ++ codes "exports:\n"
    ++ codes "  - targets:         [ arm64e-macos ]\n" ++ codes "    symbols:         [ _b_arm64 ]\n" ++ codes "reexports:\n"
    ++ codes "  - targets:         [ arm64e-macos ]\n" ++ codes "    symbols:         [ _b_exported_arm64 ]\n"
    ++ codes "    weak-symbols:    [ _b_weak_exported_arm64 ]\n"

abbrev pub main_library : LibraryFields
main_library = record {
  install_name = codes "/usr/lib/libMain.dylib";
  current_version = codes "1.2.3";
  symbols = codes "_main_arm64" ∷ codes "_a_arm64" ∷ codes "_b_arm64" ∷ codes "_b_exported_arm64" ∷ [];
  weak_symbols = codes "_main_weak_arm64" ∷ codes "_a_weak_arm64" ∷ codes "_b_weak_exported_arm64" ∷ [];
}

-- what is answered of it
pub main_answer : answer_of main_text ≡ Ok main_library
unfolding answer_opened
main_answer = refl

pub main_is : IsLibraryOf main_text main_library
main_is = library_of_answer main_text main_library main_answer

-- ---- a list over two lines, a key that is skipped, and an end

abbrev pub system_text : List ℕ
system_text =
    codes "--- !tapi-tbd\n" ++ codes "tbd-version:     4\n" ++ codes "targets:         [ x86_64-macos, arm64-macos,\n"
    ++ codes "                   arm64e-macos ]\n" ++ codes "install-name:    '/usr/lib/libSystem.B.dylib'\n"
    ++ codes "current-version: 1351\n" ++ codes "exports:\n"
    ++ codes "  - targets:         [ x86_64-macos, arm64-macos, arm64e-macos ]\n" ++ codes "    symbols:         [ _exit,\n"
    ++ codes "                       _write ]\n" ++ codes "    objc-classes:    [ Skipped ]\n" ++ codes "...\n"

abbrev pub system_library : LibraryFields
system_library = record {
  install_name = codes "/usr/lib/libSystem.B.dylib";
  current_version = codes "1351";
  symbols = codes "_exit" ∷ codes "_write" ∷ [];
  weak_symbols = [];
}

pub system_answer : answer_of system_text ≡ Ok system_library
unfolding answer_opened
system_answer = refl

pub system_is : IsLibraryOf system_text system_library
system_is = library_of_answer system_text system_library system_answer

-- ---- texts that are refused

-- behind the documents of the first text one more, which the library doesn't reexport
abbrev pub with_stranger : List ℕ
with_stranger =
    main_text ++ codes "--- !tapi-tbd\n" ++ codes "tbd-version:     4\n"
    ++ codes "targets:         [ x86_64-macos, arm64e-macos ]\n" ++ codes "install-name:    '/usr/lib/libC.dylib'\n"
    ++ codes "current-version: 12\n"

pub stranger_answer : answer_of with_stranger ≡ broken 39 S9
unfolding answer_opened
stranger_answer = refl

pub stranger_is_told : IsToldOfText with_stranger (Rule 39 S9)
stranger_is_told = answer_told with_stranger 39 S9 stranger_answer

-- the second text, without the target in the document's own targets
abbrev pub other_targets : List ℕ
other_targets =
    codes "--- !tapi-tbd\n" ++ codes "tbd-version:     4\n" ++ codes "targets:         [ x86_64-macos, arm64-macos ]\n"
    ++ codes "install-name:    '/usr/lib/libSystem.B.dylib'\n" ++ codes "current-version: 1351\n" ++ codes "exports:\n"
    ++ codes "  - targets:         [ x86_64-macos, arm64-macos, arm64e-macos ]\n" ++ codes "    symbols:         [ _exit,\n"
    ++ codes "                       _write ]\n" ++ codes "    objc-classes:    [ Skipped ]\n" ++ codes "...\n"

pub other_targets_answer : answer_of other_targets ≡ broken 1 S5
unfolding answer_opened
other_targets_answer = refl

pub other_targets_are_told : IsToldOfText other_targets (Rule 1 S5)
other_targets_are_told = answer_told other_targets 1 S5 other_targets_answer

-- ---- the other rules, each broken alone

-- a document for the target, with this version and name; a current version; and a group of reexported libraries
abbrev document : List ℕ → List ℕ → List ℕ
document version name = codes "--- !tapi-tbd\ntbd-version: " ++ version ++ codes "\ntargets: [arm64e-macos]\n"
    ++ codes "install-name: " ++ name ++ codes "\n"

abbrev current : List ℕ
current = codes "current-version: 1\nreexported-libraries:\n"

abbrev group : List ℕ → List ℕ → List ℕ
group targets name = codes "- targets: [" ++ targets ++ codes "]\n  libraries: [" ++ name ++ codes "]\n"

-- the library `a` with one group, which has `b`
abbrev with_group : List ℕ → List ℕ
with_group targets = document (codes "4") (codes "a") ++ current ++ group targets (codes "b")

-- It keeps the rules, also with `b` as a second document.
pub with_group_is : answer_of (with_group (codes "arm64e-macos") ++ document (codes "4") (codes "b"))
    ≡ Ok (record { install_name = codes "a"; current_version = codes "1"; symbols = []; weak_symbols = [] })
unfolding answer_opened
with_group_is = refl

-- no document; no current version; two groups; a group that isn't for the target; and a second document of another version
pub are_told : IsToldOfText (codes "# a\n") (Rule 1 S2) × IsToldOfText (document (codes "4") (codes "a")) (Rule 1 S6)
    × IsToldOfText (with_group (codes "arm64e-macos") ++ group (codes "arm64e-macos") (codes "c")) (Rule 1 S7)
    × IsToldOfText (with_group (codes "x86_64-macos")) (Rule 1 S8)
    × IsToldOfText (with_group (codes "arm64e-macos") ++ document (codes "5") (codes "b")) (Rule 9 S4)
unfolding answer_opened
are_told = (answer_told _ 1 S2 refl, answer_told _ 1 S6 refl, answer_told _ 1 S7 refl, answer_told _ 1 S8 refl, answer_told _ 9 S4 refl)
