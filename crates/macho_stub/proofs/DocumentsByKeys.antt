-- Documents of the grammar key by key: each entry has what its key asks for, no two have the same key that is read, and one of them has
-- the key of each thing that is said, or none has it and it may be lacking.
-- Which key a text is, is a chain of tests, and each test answers yes where the chain ends at its key (`top_chain`).
use Rattle.std.proofs.Common.{◌≡◌, ◌⊎◌, ◌||◌, Bool, true, false, cond, List, [], Option, Some, None, refl, ap, inl, inr, subst}
use Rattle.std.specs.Prelude.{codes}
use Rattle.std.specs.List.{AllByRecursion, filter, list_any}
use Rattle.std.specs.Str.{bytes_eq}
use Rattle.macho_stub_lines.specs.declared.keys.ItemKind.TheVariants.{Libraries, Exports, Reexports}
use Rattle.macho_stub_lines.specs.declared.keys.TopKey.{TopKey}
use Rattle.macho_stub_lines.specs.declared.keys.TopKey.TheVariants as top
use Rattle.macho_stub_lines.specs.Slices.{Slice}
use Rattle.macho_stub_lines.specs.Spelling.{IsEntry, value_of, value_at}
use Rattle.macho_stub_lines.specs.Keys.{top_key}
use Rattle.macho_stub.specs.Documents.{ItemOf, DocumentOf}
use Rattle.macho_stub.specs.Places.{SaysAlone, document_keys, no_text}
use Rattle.macho_stub.specs.steps.Trees.{IsSkippedUnder, TopEntry, SaysNumber, SaysScalar, SaysList, SaysItems, DocumentTree}
use Rattle.macho_stub.specs.steps.Trees as grammar
use Rattle.macho_stub.proofs.MappingsFields.{Given, GivenOr, NoneTwice, every}
use Rattle.macho_stub.proofs.Alone.{Tested, Few, few, each_says, given, given_or, once, alone, alone_or, all_both, all_keys}
use Rattle.macho_stub.proofs.ItemsByKeys.{under}
use Rattle.macho_bytes.proofs.Comparing.{same_bytes}
use Rattle.macho_bytes.proofs.Maps.{all_weaker}

-- ---- documents

-- the key of an entry, among those that are read of documents
abbrev pub HasTopKey : TopKey → TopEntry → Type 0
HasTopKey key one = top_key one.entry.key ≡ key

-- The value of a key of a document: what the key asks for, or a value that is skipped.
abbrev pub IsTopValue : TopKey → TopEntry → Type 0
IsTopValue top.Version one = (number : Slice) × SaysNumber one number
IsTopValue top.Targets one = (names : List Slice) × SaysList one names
IsTopValue top.InstallName one = (text : Slice) × SaysScalar one text
IsTopValue top.CurrentVersion one = (text : Slice) × SaysScalar one text
IsTopValue (top.Items kind) one = (items : List (ItemOf Slice)) × SaysItems kind one items
IsTopValue top.Unread one = IsSkippedUnder (value_at one.at one.entry) (value_of one.entry) one.under

-- an entry of a document
pub record IsTopEntry (one : TopEntry) : Type 0 where
  pub entry : IsEntry one.entry
  pub value : IsTopValue (top_key one.entry.key) one

-- a document that says this
pub record IsDocument (tree : DocumentTree) (says : DocumentOf Slice) : Type 0 where
  pub line : says.line ≡ tree.number
  pub each : AllByRecursion IsTopEntry tree.entries
  pub once : NoneTwice top.Unread (λ one. top_key one.entry.key) tree.entries
  pub version : Given (HasTopKey top.Version) SaysNumber tree.entries says.version
  pub targets : Given (HasTopKey top.Targets) SaysList tree.entries says.targets
  pub install_name : Given (HasTopKey top.InstallName) SaysScalar tree.entries says.install_name
  pub current_version : GivenOr no_text (HasTopKey top.CurrentVersion) SaysScalar tree.entries says.current_version
  pub libraries : GivenOr [] (HasTopKey (top.Items Libraries)) (SaysItems Libraries) tree.entries says.libraries
  pub exports : GivenOr [] (HasTopKey (top.Items Exports)) (SaysItems Exports) tree.entries says.exports
  pub reexports : GivenOr [] (HasTopKey (top.Items Reexports)) (SaysItems Reexports) tree.entries says.reexports

-- which key of a document a text is
abbrev TopTests : (a b c d e f g : Bool) → TopKey → Type 0
TopTests a b c d e f g top.Version = a ≡ true
TopTests a b c d e f g top.Targets = b ≡ true
TopTests a b c d e f g top.InstallName = c ≡ true
TopTests a b c d e f g top.CurrentVersion = d ≡ true
TopTests a b c d e f g (top.Items Libraries) = e ≡ true
TopTests a b c d e f g (top.Items Exports) = f ≡ true
TopTests a b c d e f g (top.Items Reexports) = g ≡ true
TopTests a b c d e f g top.Unread = (a || (b || (c || (d || (e || (f || (g || false))))))) ≡ false

abbrev top_of : (a b c d e f g : Bool) → TopKey
top_of a b c d e f g =
    cond a top.Version (cond b top.Targets (cond c top.InstallName (cond d top.CurrentVersion
    (cond e (top.Items Libraries) (cond f (top.Items Exports) (cond g (top.Items Reexports) top.Unread))))))

top_chain : (a b c d e f g : Bool) → TopTests a b c d e f g (top_of a b c d e f g)
top_chain true b c d e f g = refl
top_chain false true c d e f g = refl
top_chain false false true d e f g = refl
top_chain false false false true e f g = refl
top_chain false false false false true f g = refl
top_chain false false false false false true g = refl
top_chain false false false false false false true = refl
top_chain false false false false false false false = refl

top_unread : (a b c d e f g : Bool) → (a || (b || (c || (d || (e || (f || (g || false))))))) ≡ false → top_of a b c d e f g ≡ top.Unread
top_unread true b c d e f g h = absurd cc
top_unread false true c d e f g h = absurd cc
top_unread false false true d e f g h = absurd cc
top_unread false false false true e f g h = absurd cc
top_unread false false false false true f g h = absurd cc
top_unread false false false false false true g h = absurd cc
top_unread false false false false false false true h = absurd cc
top_unread false false false false false false false h = refl

abbrev pub top_test : TopKey → TopEntry → Bool
top_test top.Version one = bytes_eq one.entry.key (codes "tbd-version")
top_test top.Targets one = bytes_eq one.entry.key (codes "targets")
top_test top.InstallName one = bytes_eq one.entry.key (codes "install-name")
top_test top.CurrentVersion one = bytes_eq one.entry.key (codes "current-version")
top_test (top.Items Libraries) one = bytes_eq one.entry.key (codes "reexported-libraries")
top_test (top.Items Exports) one = bytes_eq one.entry.key (codes "exports")
top_test (top.Items Reexports) one = bytes_eq one.entry.key (codes "reexports")
top_test top.Unread one = false

-- what the tests of an entry's key answer, where it is this one
abbrev TopTestsOf : TopEntry → TopKey → Type 0
TopTestsOf one key = TopTests (top_test top.Version one) (top_test top.Targets one) (top_test top.InstallName one)
    (top_test top.CurrentVersion one) (top_test (top.Items Libraries) one) (top_test (top.Items Exports) one)
    (top_test (top.Items Reexports) one) key

top_tests : (one : TopEntry) → TopTestsOf one (top_key one.entry.key)
unfolding top_key
top_tests one = top_chain (top_test top.Version one) (top_test top.Targets one) (top_test top.InstallName one)
    (top_test top.CurrentVersion one) (top_test (top.Items Libraries) one) (top_test (top.Items Exports) one)
    (top_test (top.Items Reexports) one)

pub top_forth : (key : TopKey) (one : TopEntry) → top_test key one ≡ true → top_key one.entry.key ≡ key
unfolding top_key
top_forth top.Version one h = ap top_key (same_bytes one.entry.key (codes "tbd-version") h)
top_forth top.Targets one h = ap top_key (same_bytes one.entry.key (codes "targets") h)
top_forth top.InstallName one h = ap top_key (same_bytes one.entry.key (codes "install-name") h)
top_forth top.CurrentVersion one h = ap top_key (same_bytes one.entry.key (codes "current-version") h)
top_forth (top.Items Libraries) one h = ap top_key (same_bytes one.entry.key (codes "reexported-libraries") h)
top_forth (top.Items Exports) one h = ap top_key (same_bytes one.entry.key (codes "exports") h)
top_forth (top.Items Reexports) one h = ap top_key (same_bytes one.entry.key (codes "reexports") h)
top_forth top.Unread one h = absurd cc

pub top_back : (key : TopKey) (one : TopEntry) → (key ≡ top.Unread → ⊥) → top_key one.entry.key ≡ key → top_test key one ≡ true
top_back key one read is = by key read (subst (TopTestsOf one) is (top_tests one))
  where
    by : (k : TopKey) → (k ≡ top.Unread → ⊥) → TopTestsOf one k → top_test k one ≡ true
    by top.Version read t = t
    by top.Targets read t = t
    by top.InstallName read t = t
    by top.CurrentVersion read t = t
    by (top.Items Libraries) read t = t
    by (top.Items Exports) read t = t
    by (top.Items Reexports) read t = t
    by top.Unread read t = absurd (read refl)

top_is_unread : (key : TopKey) → (key ≡ top.Unread) ⊎ (key ≡ top.Unread → ⊥)
top_is_unread top.Version = inr (λ e. cc)
top_is_unread top.Targets = inr (λ e. cc)
top_is_unread top.InstallName = inr (λ e. cc)
top_is_unread top.CurrentVersion = inr (λ e. cc)
top_is_unread (top.Items kind) = inr (λ e. cc)
top_is_unread top.Unread = inl refl

abbrev tested_top : Tested TopEntry TopKey
tested_top = record {
  key_of = λ one. top_key one.entry.key;
  unread = top.Unread;
  test = top_test;
  forth = top_forth;
  back = top_back;
  is_unread = top_is_unread;
}

-- an entry whose key isn't read
pub no_top_key : (one : TopEntry) → top_key one.entry.key ≡ top.Unread → list_any (bytes_eq one.entry.key) document_keys ≡ false
no_top_key one is = subst (TopTestsOf one) is (top_tests one)

pub no_top_key_back : (one : TopEntry) → list_any (bytes_eq one.entry.key) document_keys ≡ false → top_key one.entry.key ≡ top.Unread
unfolding top_key
no_top_key_back one h = top_unread (top_test top.Version one) (top_test top.Targets one) (top_test top.InstallName one)
    (top_test top.CurrentVersion one) (top_test (top.Items Libraries) one) (top_test (top.Items Exports) one)
    (top_test (top.Items Reexports) one) h

-- A document of the grammar is one key by key.
pub document_by_keys : (tree : DocumentTree) (says : DocumentOf Slice) → grammar.IsDocument tree says → IsDocument tree says
document_by_keys tree says d = record {
  line = d.line;
  each = all_weaker (λ one. grammar.IsTopEntry one × ((key : TopKey) → Value key one)) IsTopEntry entry entries
      (all_both grammar.IsTopEntry (λ one. (key : TopKey) → Value key one) entries d.each (all_keys Value entries values));
  once = once tested_top entries fews;
  version = given tested_top top.Version (λ e. cc) SaysNumber says.version entries d.version;
  targets = given tested_top top.Targets (λ e. cc) SaysList says.targets entries d.targets;
  install_name = given tested_top top.InstallName (λ e. cc) SaysScalar says.install_name entries d.install_name;
  current_version =
      given_or tested_top top.CurrentVersion (λ e. cc) no_text SaysScalar says.current_version entries d.current_version;
  libraries = given_or tested_top (top.Items Libraries) (λ e. cc) [] (SaysItems Libraries) says.libraries entries d.libraries;
  exports = given_or tested_top (top.Items Exports) (λ e. cc) [] (SaysItems Exports) says.exports entries d.exports;
  reexports = given_or tested_top (top.Items Reexports) (λ e. cc) [] (SaysItems Reexports) says.reexports entries d.reexports;
}
  where
    entries : List TopEntry
    entries = tree.entries

    Value : TopKey → TopEntry → Type 0
    Value key one = top_test key one ≡ true → IsTopValue key one

    said : {X : Type 0} (test : TopEntry → Bool) (otherwise : Option X) (Says : TopEntry → X → Type 0) (x : X)
        → SaysAlone otherwise Says (filter test entries) x
        → AllByRecursion (λ one. test one ≡ true → (y : X) × Says one y) entries
    said {X} test otherwise Says x s =
        all_weaker (λ one. test one ≡ true → Says one x) (λ one. test one ≡ true → (y : X) × Says one y) (λ one s h. (x, s h)) entries
        (each_says test otherwise Says x entries s)

    values : (key : TopKey) → AllByRecursion (Value key) entries
    values top.Version = said (top_test top.Version) None SaysNumber says.version d.version
    values top.Targets = said (top_test top.Targets) None SaysList says.targets d.targets
    values top.InstallName = said (top_test top.InstallName) None SaysScalar says.install_name d.install_name
    values top.CurrentVersion = said (top_test top.CurrentVersion) (Some no_text) SaysScalar says.current_version d.current_version
    values (top.Items Libraries) = said (top_test (top.Items Libraries)) (Some []) (SaysItems Libraries) says.libraries d.libraries
    values (top.Items Exports) = said (top_test (top.Items Exports)) (Some []) (SaysItems Exports) says.exports d.exports
    values (top.Items Reexports) = said (top_test (top.Items Reexports)) (Some []) (SaysItems Reexports) says.reexports d.reexports
    values top.Unread = every (Value top.Unread) (λ one h. absurd cc) entries

    fews : (key : TopKey) → (key ≡ top.Unread → ⊥) → Few (filter (top_test key) entries)
    fews top.Version read = few None SaysNumber (filter (top_test top.Version) entries) says.version d.version
    fews top.Targets read = few None SaysList (filter (top_test top.Targets) entries) says.targets d.targets
    fews top.InstallName read = few None SaysScalar (filter (top_test top.InstallName) entries) says.install_name d.install_name
    fews top.CurrentVersion read =
        few (Some no_text) SaysScalar (filter (top_test top.CurrentVersion) entries) says.current_version d.current_version
    fews (top.Items Libraries) read =
        few (Some []) (SaysItems Libraries) (filter (top_test (top.Items Libraries)) entries) says.libraries d.libraries
    fews (top.Items Exports) read = few (Some []) (SaysItems Exports) (filter (top_test (top.Items Exports)) entries) says.exports d.exports
    fews (top.Items Reexports) read =
        few (Some []) (SaysItems Reexports) (filter (top_test (top.Items Reexports)) entries) says.reexports d.reexports
    fews top.Unread read = absurd (read refl)

    entry : (one : TopEntry) → grammar.IsTopEntry one × ((key : TopKey) → Value key one) → IsTopEntry one
    entry one e = record { entry = e.0.entry; value = by (top_key one.entry.key) refl }
      where
        by : (key : TopKey) → top_key one.entry.key ≡ key → IsTopValue key one
        by top.Unread is = e.0.skipped (no_top_key one is)
        by top.Version is = e.1 top.Version (top_back top.Version one (λ e. cc) is)
        by top.Targets is = e.1 top.Targets (top_back top.Targets one (λ e. cc) is)
        by top.InstallName is = e.1 top.InstallName (top_back top.InstallName one (λ e. cc) is)
        by top.CurrentVersion is = e.1 top.CurrentVersion (top_back top.CurrentVersion one (λ e. cc) is)
        by (top.Items kind) is = e.1 (top.Items kind) (top_back (top.Items kind) one (λ e. cc) is)

-- And a document key by key is one of the grammar.
pub document_of_keys : (tree : DocumentTree) (says : DocumentOf Slice) → IsDocument tree says → grammar.IsDocument tree says
document_of_keys tree says d = record {
  line = d.line;
  each = all_weaker IsTopEntry grammar.IsTopEntry entry entries d.each;
  version = alone tested_top top.Version (λ e. cc) None SaysNumber says.version entries d.once d.version;
  targets = alone tested_top top.Targets (λ e. cc) None SaysList says.targets entries d.once d.targets;
  install_name = alone tested_top top.InstallName (λ e. cc) None SaysScalar says.install_name entries d.once d.install_name;
  current_version =
      alone_or tested_top top.CurrentVersion (λ e. cc) no_text SaysScalar says.current_version entries d.once d.current_version;
  libraries = alone_or tested_top (top.Items Libraries) (λ e. cc) [] (SaysItems Libraries) says.libraries entries d.once d.libraries;
  exports = alone_or tested_top (top.Items Exports) (λ e. cc) [] (SaysItems Exports) says.exports entries d.once d.exports;
  reexports = alone_or tested_top (top.Items Reexports) (λ e. cc) [] (SaysItems Reexports) says.reexports entries d.once d.reexports;
}
  where
    entries : List TopEntry
    entries = tree.entries

    entry : (one : TopEntry) → IsTopEntry one → grammar.IsTopEntry one
    entry one e = let V : TopKey → Type 0 = λ key. IsTopValue key one in record {
      entry = e.entry;
      skipped = λ h. subst V (no_top_key_back one h) e.value;
    }
