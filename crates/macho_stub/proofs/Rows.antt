-- A small text, taken apart by hand: its lines with their places, the tree of its one document, and what that says at places
-- that were counted in the text. The lines of the text are computed, and are those that the tree spells; each part of the
-- tree is sound, by the tests of `RowTests`. What the item and the document say is given by their entries: for each key there
-- is computed which entries have it, and that is one or none. So the text is in the
-- grammar (`small_in_grammar`). That each text which it says stands at its place is computed besides (`small_stands`).
use Rattle.std.proofs.Common.{◌≡◌, ℕ, List, [], ◌∷◌, Some, None, false, refl, arith, inr, ◌++◌}
use Rattle.std.specs.List.{AllByRecursion}
use Rattle.std.specs.Prelude.{codes}
use Rattle.macho_stub_lines.specs.declared.keys.ItemKind.TheVariants.{Exports}
use Rattle.macho_stub_lines.specs.Bytes.{is_plain_byte, is_mark, is_key_byte, has_barred, has_late_control_after, is_passed, is_blank_or_comment, is_tail, unspaced, indent}
use Rattle.macho_stub_lines.specs.Slices.{Slice, StandsIn, lines_of, content_of}
use Rattle.macho_stub_lines.specs.Spelling.{EntryTree, NoValue, Value, Plain, Single, IsScalarValue, IsNumberValue}
use Rattle.macho_stub_lines.specs.FlowLists.{IsFlowList}
use Rattle.macho_stub_lines.specs.steps.ListTrees.{Spaces, Turn}
use Rattle.macho_stub_lines.proofs.ListDerived.{list_of_tree}
use Rattle.macho_stub.specs.Documents.{ItemOf, DocumentOf}
use Rattle.macho_stub.specs.Grammar.{item_keys}
use Rattle.macho_stub.specs.Places.{document_keys, Entry, IsEntryOf, ItemTree, items_then, IsItem, DocumentTree, IsDocument, documents_then, IsStubText}
use Rattle.macho_stub_lines.proofs.Bind.{ne_at, other_bytes}
use Rattle.macho_stub.proofs.RowTests.{slice, line, plain, single, valued, bare}

-- ---- the text

-- It has a carriage return, a blank line, a list over two lines with a comment and a last comma, a quoted scalar, an item with
-- two keys, a key that is skipped with a line under it, and an end.
abbrev pub small : List ℕ
small =
    codes "--- !tapi-tbd\n" ++ codes "tbd-version: 04\r\n" ++ codes "\n" ++ codes "targets: [ arm64e-macos, # one\n"
    ++ codes "  x86_64-macos, ]\n" ++ codes "install-name: '/l'\n" ++ codes "current-version: 1\n" ++ codes "exports:\n"
    ++ codes "- targets: [arm64e-macos]\n" ++ codes "  symbols: [ _a ]\n" ++ codes "  other:\n" ++ codes "    - c\n" ++ codes "...\n"

-- its lines, with their numbers and places
pub has_lines : lines_of small
    ≡ line 1 0 (codes "--- !tapi-tbd") ∷ line 2 14 (codes "tbd-version: 04") ∷ line 3 31 []
    ∷ line 4 32 (codes "targets: [ arm64e-macos, # one") ∷ line 5 63 (codes "  x86_64-macos, ]")
    ∷ line 6 81 (codes "install-name: '/l'") ∷ line 7 100 (codes "current-version: 1") ∷ line 8 119 (codes "exports:")
    ∷ line 9 128 (codes "- targets: [arm64e-macos]") ∷ line 10 154 (codes "  symbols: [ _a ]") ∷ line 11 172 (codes "  other:")
    ∷ line 12 181 (codes "    - c") ∷ line 13 189 (codes "...") ∷ []
has_lines = refl

-- ---- its tree

abbrev pub entry : List ℕ → List ℕ → EntryTree
entry key value = record { key = key; behind = Value 1 value }

-- a key with nothing behind its colon
abbrev pub bare_entry : List ℕ → EntryTree
bare_entry key = record { key = key; behind = NoValue [] }

abbrev targets_line : Entry
targets_line = record { number = 9; at = 128; entry = entry (codes "targets") (codes "[arm64e-macos]"); more = [] }

abbrev symbols_line : Entry
symbols_line = record { number = 10; at = 154; entry = entry (codes "symbols") (codes "[ _a ]"); more = [] }

abbrev other_line : Entry
other_line = record { number = 11; at = 172; entry = bare_entry (codes "other"); more = line 12 181 (codes "    - c") ∷ [] }

abbrev item_tree : ItemTree
item_tree = record { gap = 1; first = targets_line; others = symbols_line ∷ other_line ∷ [] }

abbrev version_entry : Entry
version_entry = record { number = 2; at = 14; entry = entry (codes "tbd-version") (codes "04"); more = [] }

abbrev targets_entry : Entry
targets_entry = record {
  number = 4;
  at = 32;
  entry = entry (codes "targets") (codes "[ arm64e-macos, # one");
  more = line 5 63 (codes "  x86_64-macos, ]") ∷ [];
}

abbrev name_entry : Entry
name_entry = record { number = 6; at = 81; entry = entry (codes "install-name") (codes "'/l'"); more = [] }

abbrev current_entry : Entry
current_entry = record { number = 7; at = 100; entry = entry (codes "current-version") (codes "1"); more = [] }

abbrev exports_entry : Entry
exports_entry = record { number = 8; at = 119; entry = bare_entry (codes "exports"); more = items_then 0 (item_tree ∷ []) [] }

abbrev document_tree : DocumentTree
document_tree = record {
  number = 1;
  at = 0;
  entries = version_entry ∷ targets_entry ∷ name_entry ∷ current_entry ∷ exports_entry ∷ [];
  ended = Some (13, 189);
}

spelled : content_of (lines_of small) ≡ documents_then (document_tree ∷ [])
unfolding is_passed is_blank_or_comment unspaced indent
spelled = refl

-- ---- what it says

abbrev item_says : ItemOf Slice
item_says = record {
  targets = slice 140 (codes "arm64e-macos") ∷ [];
  names = slice 167 (codes "_a") ∷ [];
  weak_names = [];
}

-- what the document of the text says
abbrev pub small_says : DocumentOf Slice
small_says = record {
  line = 1;
  version = slice 28 (codes "4");
  targets = slice 43 (codes "arm64e-macos") ∷ slice 65 (codes "x86_64-macos") ∷ [];
  install_name = slice 96 (codes "/l");
  current_version = slice 117 (codes "1");
  libraries = [];
  exports = item_says ∷ [];
  reexports = [];
}

-- ---- each part is sound

-- the version is a number with a zero in front
version_value : IsNumberValue 27 (codes "04") (slice 28 (codes "4"))
unfolding is_tail
version_value = record {
  zeros = 1;
  tail = [];
  spelled = refl;
  some = omega arith;
  digits = (refl, tt);
  shortest = ne_at 52 48 refl;
  ends = refl;
  is = refl;
}

name_value : IsScalarValue 95 (codes "'/l'") (slice 96 (codes "/l"))
unfolding is_tail
name_value = record { scalar = Single (codes "/l"); tail = []; spelled = refl; sound = single (codes "/l") refl; ends = refl; is = refl }

current_value : IsScalarValue 117 (codes "1") (slice 117 (codes "1"))
unfolding is_tail is_plain_byte is_mark has_late_control_after
current_value = record {
  scalar = Plain (codes "1");
  tail = [];
  spelled = refl;
  sound = plain (codes "1") refl refl refl;
  ends = refl;
  is = refl;
}

-- the list over two lines
targets_list : IsFlowList 41 (codes "[ arm64e-macos, # one") (line 5 63 (codes "  x86_64-macos, ]") ∷ [])
    (slice 43 (codes "arm64e-macos") ∷ slice 65 (codes "x86_64-macos") ∷ [])
unfolding is_tail is_passed is_blank_or_comment unspaced indent is_plain_byte is_mark has_late_control_after
targets_list = list_of_tree _ _ _ _ (record {
  tree = record {
    opening = Spaces 1;
    followed =
        record { scalar = Plain (codes "arm64e-macos"); before = Spaces 0; behind = Turn (codes " # one") 5 63 (Spaces 2) }
        ∷ record { scalar = Plain (codes "x86_64-macos"); before = Spaces 0; behind = Spaces 1 } ∷ [];
    final = None;
  };
  tail = [];
  spelled = refl;
  sound = record {
    opening = tt;
    followed = (
      record { scalar = plain (codes "arm64e-macos") refl refl refl; before = tt; behind = (refl, tt) },
      (record { scalar = plain (codes "x86_64-macos") refl refl refl; before = tt; behind = tt }, tt),
    );
    final = tt;
  };
  inside = (other_bytes _ _ refl, tt);
  ends = refl;
  is = refl;
})

item_targets : IsFlowList 139 (codes "[arm64e-macos]") [] (slice 140 (codes "arm64e-macos") ∷ [])
unfolding is_tail is_plain_byte is_mark has_late_control_after
item_targets = list_of_tree _ _ _ _ (record {
  tree = record { opening = Spaces 0; followed = []; final = Some (record { scalar = Plain (codes "arm64e-macos"); behind = Spaces 0 }) };
  tail = [];
  spelled = refl;
  sound = record { opening = tt; followed = tt; final = record { scalar = plain (codes "arm64e-macos") refl refl refl; behind = tt } };
  inside = tt;
  ends = refl;
  is = refl;
})

item_symbols : IsFlowList 165 (codes "[ _a ]") [] (slice 167 (codes "_a") ∷ [])
unfolding is_tail is_plain_byte is_mark has_late_control_after
item_symbols = list_of_tree _ _ _ _ (record {
  tree = record { opening = Spaces 1; followed = []; final = Some (record { scalar = Plain (codes "_a"); behind = Spaces 1 }) };
  tail = [];
  spelled = refl;
  sound = record { opening = tt; followed = tt; final = record { scalar = plain (codes "_a") refl refl refl; behind = tt } };
  inside = tt;
  ends = refl;
  is = refl;
})

-- ---- the item

targets_are : IsEntryOf (item_keys Exports) 2 targets_line
unfolding is_key_byte
targets_are = record { entry = valued (codes "targets") 91 (codes "arm64e-macos]") refl refl refl refl; skipped = λ e. absurd cc }

symbols_are : IsEntryOf (item_keys Exports) 2 symbols_line
unfolding is_key_byte
symbols_are = record { entry = valued (codes "symbols") 91 (codes " _a ]") refl refl refl refl; skipped = λ e. absurd cc }

-- the value that is skipped is empty, and the line under it has more spaces than its key
other_is : IsEntryOf (item_keys Exports) 2 other_line
unfolding is_key_byte indent
other_is = record { entry = bare (codes "other") refl refl; skipped = λ e. inr (ne_at 0 91 refl, (refl, tt)) }

-- Its targets are those of the first entry, its names those of the second, and no entry has weak names.
item_is : IsItem Exports 0 item_tree item_says
item_is = record {
  spaced = omega arith;
  each = (targets_are, (symbols_are, (other_is, tt)));
  says = (item_targets, item_symbols, refl);
}

-- ---- the document

version_is : IsEntryOf document_keys 0 version_entry
unfolding is_key_byte
version_is = record { entry = valued (codes "tbd-version") 48 (codes "4") refl refl refl refl; skipped = λ e. absurd cc }

document_targets_are : IsEntryOf document_keys 0 targets_entry
unfolding is_key_byte
document_targets_are = record {
  entry = valued (codes "targets") 91 (codes " arm64e-macos, # one") refl refl refl refl;
  skipped = λ e. absurd cc;
}

name_is : IsEntryOf document_keys 0 name_entry
unfolding is_key_byte
name_is = record { entry = valued (codes "install-name") 39 (codes "/l'") refl refl refl refl; skipped = λ e. absurd cc }

current_is : IsEntryOf document_keys 0 current_entry
unfolding is_key_byte
current_is = record { entry = valued (codes "current-version") 49 [] refl refl refl refl; skipped = λ e. absurd cc }

exports_are : IsEntryOf document_keys 0 exports_entry
unfolding is_key_byte
exports_are = record { entry = bare (codes "exports") refl refl; skipped = λ e. absurd cc }

-- Each of its keys is that of one entry, and none has items of libraries or of reexports.
document_is : IsDocument document_tree small_says
document_is = record {
  line = refl;
  each = (version_is, (document_targets_are, (name_is, (current_is, (exports_are, tt)))));
  version = (refl, version_value);
  targets = targets_list;
  install_name = (refl, name_value);
  current_version = (refl, current_value);
  libraries = refl;
  exports = (refl, omega arith, 0, item_tree ∷ [], refl, (item_is, tt));
  reexports = refl;
}

-- ---- the text

has_no_barred : AllByRecursion (λ line. has_barred line.text ≡ false) (lines_of small)
unfolding has_barred
has_no_barred = (refl, (refl, (refl, (refl, (refl, (refl, (refl, (refl, (refl, (refl, (refl, (refl, (refl, tt)))))))))))))

-- The text is in the grammar, and says this.
pub small_in_grammar : IsStubText small (small_says ∷ [])
small_in_grammar = record {
  clean = has_no_barred;
  trees = document_tree ∷ [];
  lines = spelled;
  documents = (document_is, tt);
}

-- Each text stands in it at the place that was counted.
pub small_stands : StandsIn small (slice 28 (codes "4")) × StandsIn small (slice 43 (codes "arm64e-macos"))
    × StandsIn small (slice 65 (codes "x86_64-macos")) × StandsIn small (slice 96 (codes "/l")) × StandsIn small (slice 117 (codes "1"))
    × StandsIn small (slice 140 (codes "arm64e-macos")) × StandsIn small (slice 167 (codes "_a"))
small_stands = (refl, refl, refl, refl, refl, refl, refl)
