-- THE text is in the grammar: it is one document, which says the install name and, where there are some, an item with both lists.
--
-- The lines are those of the entries, in any of the four cases of lists with and without names: computed, since the names stand behind
-- fixed beginnings. No line is passed over, and none has a byte that may stand nowhere, since no name has a control character. The
-- rules on documents hold of this one by computing.
use Rattle.std.proofs.Common.{◌≡◌, ℕ, ◌+◌, ◌==◌, ◌||◌, Bool, true, false, not, List, [], ◌∷◌, ◌++◌, map, refl, ap, sym, ◌∙◌, arith, inl, inr, filter, subst, if◌then◌else◌}
use Rattle.std.specs.Prelude.{codes}
use Rattle.std.specs.List.{AllByRecursion, list_any, flat_map, enumerate_from}
use Rattle.std.specs.Str.{IsUtf8}
use Rattle.std.proofs.lemmas.List.{append-nil}
use Rattle.std.proofs.lemmas.List.Folds.{list_any-append}
use Rattle.std.proofs.lemmas.Bool.Decides.{nat_tests}
use Rattle.macho_stub_lines.specs.declared.keys.ItemKind.TheVariants.{Exports}
use Rattle.macho_stub_lines.specs.Bytes.{is_passed, is_blank_or_comment, unspaced, indent, has_barred}
use Rattle.macho_stub.specs.Documents.{ItemFields, DocumentFields}
use Rattle.macho_stub.specs.Grammar.{Entry, IsEntryOf, item_keys, IsItem, IsDocument, IsStubLines, entry_lines}
use Rattle.macho_stub.specs.Library.{has_target}
use Rattle.macho_stub.specs.Rules.{Breaks, rules_of}
use Rattle.macho_model.specs.Links.{StubReading}
use Rattle.macho_promise.specs.Inputs.{IsStubInput}
use Rattle.macho_tbd.specs.Writable.{is_control, has_single}
use Rattle.macho_tbd.specs.Text.{quoted, name_lines, stub_lines, text_of}
use Rattle.macho_tbd.proofs.Scalars.{IsQuotable, joined, none_passes}
use Rattle.macho_tbd.proofs.Lines.{IsClean, lines_are}
use Rattle.macho_tbd.proofs.Entries.{entry, list_entry, valued, bare, version_says, current_says, targets_say, install_name_says, names_say}
use Rattle.macho_bytes.proofs.Maps.{all_weaker}

-- what is said can be written
pub record IsSayable (says : StubReading) : Type 0 where
  pub install_name : IsQuotable says.install_name
  pub names : AllByRecursion IsQuotable says.names
  pub weak_names : AllByRecursion IsQuotable says.weak_names

-- ---- what the document says

-- the item of what is exported, if there is anything
abbrev items_of : List (List ℕ) → List (List ℕ) → List ItemFields
items_of [] [] = []
items_of names weak_names = record { targets = codes "arm64e-macos" ∷ []; names = names; weak_names = weak_names } ∷ []

abbrev pub document_of : StubReading → DocumentFields
document_of says = record {
  line = 1;
  version = codes "4";
  targets = codes "arm64e-macos" ∷ [];
  install_name = says.install_name;
  current_version = codes "1";
  libraries = [];
  exports = items_of says.names says.weak_names;
  reexports = [];
}

-- ---- its entries

abbrev document_keys : List (List ℕ)
document_keys = codes "tbd-version" ∷ codes "targets" ∷ codes "install-name" ∷ codes "current-version" ∷ codes "reexported-libraries"
    ∷ codes "exports" ∷ codes "reexports" ∷ []

-- the lines of the item
abbrev item_lines : List (List ℕ) → List (List ℕ) → List (List ℕ)
item_lines names weak_names =
    codes "  - targets: [ arm64e-macos ]" ∷ (name_lines (codes "symbols") names ++ name_lines (codes "weak-symbols") weak_names)

abbrev exports_entry : List (List ℕ) → Entry
exports_entry under = record { key = codes "exports"; behind = []; under = under }

abbrev exports_entries : List (List ℕ) → List (List ℕ) → List Entry
exports_entries [] [] = []
exports_entries names weak_names = exports_entry (item_lines names weak_names) ∷ []

abbrev version_entry : Entry
version_entry = entry (codes "tbd-version") (codes " 4")

abbrev targets_entry : Entry
targets_entry = entry (codes "targets") (codes " [ arm64e-macos ]")

abbrev install_name_entry : List ℕ → Entry
install_name_entry name = entry (codes "install-name") (codes " " ++ quoted name)

abbrev current_entry : Entry
current_entry = entry (codes "current-version") (codes " 1")

abbrev entries_of : StubReading → List Entry
entries_of says = version_entry ∷ targets_entry ∷ install_name_entry says.install_name ∷ current_entry
    ∷ exports_entries says.names says.weak_names

read_version : IsEntryOf document_keys 0 version_entry
read_version = record { is = valued (codes "tbd-version") (codes " 4") (omega arith) refl refl; skipped = λ e. absurd cc }

read_targets : IsEntryOf document_keys 0 targets_entry
read_targets = record { is = valued (codes "targets") (codes " [ arm64e-macos ]") (omega arith) refl refl; skipped = λ e. absurd cc }

read_install_name : (name : List ℕ) → IsEntryOf document_keys 0 (install_name_entry name)
read_install_name name =
    record { is = valued (codes "install-name") (codes " " ++ quoted name) (omega arith) refl refl; skipped = λ e. absurd cc }

read_current : IsEntryOf document_keys 0 current_entry
read_current = record { is = valued (codes "current-version") (codes " 1") (omega arith) refl refl; skipped = λ e. absurd cc }

read_exports : (under : List (List ℕ)) → IsEntryOf document_keys 0 (exports_entry under)
read_exports under = record { is = bare (codes "exports") (omega arith) refl; skipped = λ e. absurd cc }

-- ---- the item

item_target : IsEntryOf (item_keys Exports) 4 targets_entry
item_target = record { is = valued (codes "targets") (codes " [ arm64e-macos ]") (omega arith) refl refl; skipped = λ e. absurd cc }

item_symbols : (name : List ℕ) (names : List (List ℕ)) → IsEntryOf (item_keys Exports) 4 (list_entry (codes "symbols") name names)
item_symbols name names = record {
  is = valued (codes "symbols") (codes " [ " ++ (joined (name ∷ names) ++ codes " ]")) (omega arith) refl refl;
  skipped = λ e. absurd cc;
}

item_weaks : (name : List ℕ) (names : List (List ℕ)) → IsEntryOf (item_keys Exports) 4 (list_entry (codes "weak-symbols") name names)
item_weaks name names = record {
  is = valued (codes "weak-symbols") (codes " [ " ++ (joined (name ∷ names) ++ codes " ]")) (omega arith) refl refl;
  skipped = λ e. absurd cc;
}

abbrev item_of : List (List ℕ) → List (List ℕ) → ItemFields
item_of names weak_names = record { targets = codes "arm64e-macos" ∷ []; names = names; weak_names = weak_names }

strong_item : (name : List ℕ) (names : List (List ℕ)) → AllByRecursion IsQuotable (name ∷ names)
    → IsItem Exports 2 (item_lines (name ∷ names) []) (item_of (name ∷ names) [])
strong_item name names q = record {
  gap = 1;
  spaced = omega arith;
  first = targets_entry;
  others = list_entry (codes "symbols") name names ∷ [];
  spelled = refl;
  each = (item_target, (item_symbols name names, tt));
  targets = inr (targets_entry, refl, targets_say);
  names = (inr (list_entry (codes "symbols") name names, refl, names_say (codes "symbols") name names q.0 q.1), inl (refl, refl));
}

weak_item : (weak : List ℕ) (weaks : List (List ℕ)) → AllByRecursion IsQuotable (weak ∷ weaks)
    → IsItem Exports 2 (item_lines [] (weak ∷ weaks)) (item_of [] (weak ∷ weaks))
weak_item weak weaks q = record {
  gap = 1;
  spaced = omega arith;
  first = targets_entry;
  others = list_entry (codes "weak-symbols") weak weaks ∷ [];
  spelled = refl;
  each = (item_target, (item_weaks weak weaks, tt));
  targets = inr (targets_entry, refl, targets_say);
  names = (
    inl (refl, refl),
    inr (list_entry (codes "weak-symbols") weak weaks, refl, names_say (codes "weak-symbols") weak weaks q.0 q.1),
  );
}

both_item : (name : List ℕ) (names : List (List ℕ)) (weak : List ℕ) (weaks : List (List ℕ)) → AllByRecursion IsQuotable (name ∷ names)
    → AllByRecursion IsQuotable (weak ∷ weaks)
    → IsItem Exports 2 (item_lines (name ∷ names) (weak ∷ weaks)) (item_of (name ∷ names) (weak ∷ weaks))
both_item name names weak weaks q w = record {
  gap = 1;
  spaced = omega arith;
  first = targets_entry;
  others = list_entry (codes "symbols") name names ∷ list_entry (codes "weak-symbols") weak weaks ∷ [];
  spelled = refl;
  each = (item_target, (item_symbols name names, (item_weaks weak weaks, tt)));
  targets = inr (targets_entry, refl, targets_say);
  names = (
    inr (list_entry (codes "symbols") name names, refl, names_say (codes "symbols") name names q.0 q.1),
    inr (list_entry (codes "weak-symbols") weak weaks, refl, names_say (codes "weak-symbols") weak weaks w.0 w.1),
  );
}

-- ---- the document

-- lines without their numbers
without_numbers : {X : Type 0} (n : ℕ) (xs : List X) → map (λ x. x.1) (enumerate_from n xs) ≡ xs
without_numbers n [] = refl
without_numbers {X} n (x ∷ xs) = ap (λ (ys : List X). x ∷ ys) (without_numbers (n + 1) xs)

-- the lines of a document with an item
exporting : (says : StubReading) (under : List (List ℕ)) (item : ItemFields) → IsQuotable says.install_name → IsItem Exports 2 under item
    → (all : List (List ℕ)) → all ≡ flat_map (entry_lines [])
    (version_entry ∷ targets_entry ∷ install_name_entry says.install_name ∷ current_entry ∷ exports_entry under ∷ []) ++ codes "..." ∷ []
    → IsDocument (enumerate_from 1 (codes "--- !tapi-tbd" ∷ all)) (record (document_of says) { exports = item ∷ [] })
unfolding is_passed is_blank_or_comment unspaced indent
exporting says under item q is all spelled = record {
  begins = refl;
  entries = version_entry ∷ targets_entry ∷ install_name_entry says.install_name ∷ current_entry ∷ exports_entry under ∷ [];
  ended = true;
  spelled = without_numbers 2 all ∙ spelled;
  each = (read_version, (read_targets, (read_install_name says.install_name, (read_current, (read_exports under, tt)))));
  version = inr (version_entry, refl, version_says);
  targets = inr (targets_entry, refl, targets_say);
  install_name = inr (install_name_entry says.install_name, refl, install_name_says says.install_name q);
  current_version = inr (current_entry, refl, current_says);
  libraries = inl (refl, refl);
  exports = inr (exports_entry under, refl, (refl, omega arith, 2, under ∷ [], sym (append-nil under), (is, tt)));
  reexports = inl (refl, refl);
}

-- the lines of a document without one
plain_document : (says : StubReading) → IsQuotable says.install_name → (all : List (List ℕ)) → all ≡ flat_map (entry_lines [])
    (version_entry ∷ targets_entry ∷ install_name_entry says.install_name ∷ current_entry ∷ []) ++ codes "..." ∷ []
    → IsDocument (enumerate_from 1 (codes "--- !tapi-tbd" ∷ all)) (record (document_of says) { exports = [] })
plain_document says q all spelled = record {
  begins = refl;
  entries = version_entry ∷ targets_entry ∷ install_name_entry says.install_name ∷ current_entry ∷ [];
  ended = true;
  spelled = without_numbers 2 all ∙ spelled;
  each = (read_version, (read_targets, (read_install_name says.install_name, (read_current, tt))));
  version = inr (version_entry, refl, version_says);
  targets = inr (targets_entry, refl, targets_say);
  install_name = inr (install_name_entry says.install_name, refl, install_name_says says.install_name q);
  current_version = inr (current_entry, refl, current_says);
  libraries = inl (refl, refl);
  exports = inl (refl, refl);
  reexports = inl (refl, refl);
}

-- what is said, by its parts
abbrev said : List ℕ → List (List ℕ) → List (List ℕ) → StubReading
said name names weak_names = record { install_name = name; names = names; weak_names = weak_names }

-- the text as a document, in each of the four cases
saying : (name : List ℕ) (names weak_names : List (List ℕ)) → IsQuotable name → AllByRecursion IsQuotable names
    → AllByRecursion IsQuotable weak_names
    → IsDocument (enumerate_from 1 (stub_lines (said name names weak_names))) (document_of (said name names weak_names))
unfolding stub_lines
saying name [] [] q s w = plain_document (said name [] []) q _ refl
saying name (n ∷ ns) [] q s w =
    exporting (said name (n ∷ ns) []) (item_lines (n ∷ ns) []) (item_of (n ∷ ns) []) q
    (strong_item n ns s) _ refl
saying name [] (m ∷ ms) q s w =
    exporting (said name [] (m ∷ ms)) (item_lines [] (m ∷ ms)) (item_of [] (m ∷ ms)) q
    (weak_item m ms w) _ refl
saying name (n ∷ ns) (m ∷ ms) q s w =
    exporting (said name (n ∷ ns) (m ∷ ms)) (item_lines (n ∷ ns) (m ∷ ms))
    (item_of (n ∷ ns) (m ∷ ms)) q (both_item n ns m ms s w) _ refl

-- ---- no line is passed over

shown : (name : List ℕ) (names weak_names : List (List ℕ))
    → filter (λ line. not (is_passed line.1)) (enumerate_from 1 (stub_lines (said name names weak_names)))
    ≡ enumerate_from 1 (stub_lines (said name names weak_names)) ++ []
unfolding stub_lines is_passed is_blank_or_comment unspaced indent
shown name [] [] = refl
shown name (n ∷ ns) [] = refl
shown name [] (m ∷ ms) = refl
shown name (n ∷ ns) (m ∷ ms) = refl

-- ---- no line has a control character

clean_behind : (front bytes : List ℕ) → IsClean front → IsClean bytes → IsClean (front ++ bytes)
clean_behind front bytes f b =
    list_any-append is_control front bytes ∙ ap (λ (t : Bool). t || list_any is_control bytes) f ∙ b

clean_quoted : (name : List ℕ) → IsQuotable name → IsClean (quoted name)
unfolding quoted
clean_quoted name q = by (has_single name)
  where
    by : (t : Bool) → IsClean (if t then codes "\"" ++ (name ++ codes "\"") else codes "'" ++ (name ++ codes "'"))
    by true = clean_behind name (codes "\"") q.plain refl
    by false = clean_behind name (codes "'") q.plain refl

clean_others : (names : List (List ℕ)) → AllByRecursion IsQuotable names → IsClean (flat_map (λ y. codes ", " ++ quoted y) names)
clean_others [] q = refl
clean_others (name ∷ names) q =
    clean_behind (codes ", " ++ quoted name) (flat_map (λ y. codes ", " ++ quoted y) names) (clean_quoted name q.0)
    (clean_others names q.1)

clean_joined : (name : List ℕ) (names : List (List ℕ)) → AllByRecursion IsQuotable (name ∷ names)
    → IsClean (joined (name ∷ names) ++ codes " ]")
clean_joined name names q =
    clean_behind (joined (name ∷ names)) (codes " ]") (clean_behind (quoted name) (flat_map (λ y. codes ", " ++ quoted y) names)
    (clean_quoted name q.0) (clean_others names q.1)) refl

clean : (name : List ℕ) (names weak_names : List (List ℕ)) → IsQuotable name → AllByRecursion IsQuotable names
    → AllByRecursion IsQuotable weak_names
    → AllByRecursion IsClean (stub_lines (said name names weak_names))
unfolding stub_lines
clean name [] [] q s w = (refl, (refl, (refl, (clean_quoted name q, (refl, (refl, tt))))))
clean name (n ∷ ns) [] q s w =
    (refl, (refl, (refl, (clean_quoted name q, (refl, (refl, (refl, (clean_joined n ns s, (refl, tt)))))))))
clean name [] (m ∷ ms) q s w =
    (refl, (refl, (refl, (clean_quoted name q, (refl, (refl, (refl, (clean_joined m ms w, (refl, tt)))))))))
clean name (n ∷ ns) (m ∷ ms) q s w =
    (refl, (refl, (refl, (clean_quoted name q, (refl, (refl, (refl, (clean_joined n ns s, (clean_joined m ms w, (refl, tt))))))))))

-- what may stand nowhere is a control character
no_barred : (line : List ℕ) → IsClean line → has_barred line ≡ false
unfolding has_barred
no_barred [] e = refl
no_barred (b ∷ line) e =
    let h = none_passes is_control (b ∷ line) e in
    ap (λ (t : Bool). t || list_any (λ b. b == 0 || b == 9) line) (not_barred b h.0)
    ∙ no_barred line (or_right (is_control b) (list_any is_control line) e)
  where
    not_barred : (b : ℕ) → is_control b ≡ false → (b == 0 || b == 9) ≡ false
    not_barred b e = grind (arith, nat_tests)

    or_right : (s t : Bool) → (s || t) ≡ false → t ≡ false
    or_right true t e = absurd cc
    or_right false t e = e

-- ---- the whole

pub in_grammar : (says : StubReading) → IsSayable says → IsStubLines (stub_lines says) (document_of says ∷ [])
in_grammar says q = record {
  clean = all_weaker IsClean (λ line. has_barred line ≡ false) no_barred (stub_lines says)
      (clean says.install_name says.names says.weak_names q.install_name q.names q.weak_names);
  parts = enumerate_from 1 (stub_lines says) ∷ [];
  content = shown says.install_name says.names says.weak_names;
  documents = (saying says.install_name says.names says.weak_names q.install_name q.names q.weak_names, tt);
}

-- the rules hold of the document
sound : (says : StubReading)
    → AllByRecursion (λ rule. Breaks rule.0 (document_of says) rule.1 → ⊥) (rules_of (document_of says) (document_of says ∷ []))
unfolding has_target
sound says = (
  λ e. absurd cc,
  (λ e. absurd cc, (λ e. absurd (omega arith), (λ e. absurd (omega arith), (λ e. e refl, (λ e. e.0 refl, tt))))),
)

-- what is gathered of it
gathered_names : (names weak_names : List (List ℕ)) → names
    ≡ flat_map (λ item. item.names) (filter (λ item. has_target item.targets) (items_of names weak_names ++ [])) ++ []
unfolding has_target
gathered_names [] [] = refl
gathered_names (n ∷ ns) [] = sym (append-nil ((n ∷ ns) ++ []) ∙ append-nil (n ∷ ns))
gathered_names [] (m ∷ ms) = refl
gathered_names (n ∷ ns) (m ∷ ms) = sym (append-nil ((n ∷ ns) ++ []) ∙ append-nil (n ∷ ns))

gathered_weaks : (names weak_names : List (List ℕ)) → weak_names
    ≡ flat_map (λ item. item.weak_names) (filter (λ item. has_target item.targets) (items_of names weak_names ++ [])) ++ []
unfolding has_target
gathered_weaks [] [] = refl
gathered_weaks (n ∷ ns) [] = refl
gathered_weaks [] (m ∷ ms) = sym (append-nil ((m ∷ ms) ++ []) ∙ append-nil (m ∷ ms))
gathered_weaks (n ∷ ns) (m ∷ ms) = sym (append-nil ((m ∷ ms) ++ []) ∙ append-nil (m ∷ ms))

pub text_says : (says : StubReading) → IsSayable says → IsUtf8 (text_of says) → IsStubInput (text_of says) says
unfolding text_of
text_says says q utf8 = record {
  utf8 = utf8;
  main = document_of says;
  others = [];
  in_grammar = subst (λ (all : List (List ℕ)). IsStubLines all (document_of says ∷ []))
      (sym (lines_are (stub_lines says) (clean says.install_name says.names says.weak_names q.install_name q.names q.weak_names)))
      (in_grammar says q);
  sound = sound says;
  install_name = refl;
  names = gathered_names says.names says.weak_names;
  weak_names = gathered_weaks says.names says.weak_names;
}
