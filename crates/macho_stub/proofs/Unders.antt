-- The grammar's documents with what stands under their entries as trees: lines, or items.
-- The grammar has an entry with the lines under it, and what it says are items where these lines are spelled by items. The proofs have
-- these items in the entry (`specs/steps/Trees`). From the lines to the tree it goes by what the entry's key says (`old_of`).
use Rattle.std.proofs.Common.{◌≡◌, ℕ, ◌+◌, ◌<◌, Bool, true, false, cond, List, [], ◌∷◌, ◌++◌, length, Option, Some, None, refl, sym, ap, ◌∙◌, arith, subst}
use Rattle.std.specs.Prelude.{codes}
use Rattle.std.specs.List.{AllByRecursion, AllZip, filter}
use Rattle.std.specs.Str.{bytes_eq}
use Rattle.macho_stub_lines.specs.declared.keys.ItemKind.{ItemKind}
use Rattle.macho_stub_lines.specs.declared.keys.ItemKind.TheVariants.{Libraries, Exports, Reexports}
use Rattle.macho_stub_lines.specs.declared.keys.TopKey.{TopKey}
use Rattle.macho_stub_lines.specs.declared.keys.TopKey.TheVariants as top
use Rattle.macho_stub_lines.specs.Bytes.{head}
use Rattle.macho_stub_lines.specs.Slices.{Slice, Line}
use Rattle.macho_stub_lines.specs.Spelling.{IsEntry, entry_bytes, value_of, value_at, IsNumberValue, IsScalarValue}
use Rattle.macho_stub_lines.specs.FlowLists.{IsFlowList}
use Rattle.macho_stub_lines.specs.Keys.{top_key}
use Rattle.macho_stub.specs.Documents.{ItemOf, DocumentOf}
use Rattle.macho_stub.specs.Places.{SaysAlone, document_keys, Entry, entries_then, IsSkipped, IsEntryOf, SaysNames, ItemTree, IsItem, SaysNumber, SaysScalar, SaysItems, DocumentTree, end_then, documents_then, no_text, IsDocument}
use Rattle.macho_stub.specs.steps.Trees as trees
use Rattle.macho_stub.specs.steps.Trees.{Under, Lines, Listed, under_then, TopEntry, top_entries_then, IsSkippedUnder, AreItemsUnder, SaysList, IsTopEntry}
use Rattle.macho_stub.proofs.Alone.{few, few_behind, none_pass, none_left, each_says, all_both, all_keys, Fails}
use Rattle.macho_stub.proofs.DocumentsByKeys.{top_test, top_forth, top_back, no_top_key, no_top_key_back}
use Rattle.macho_stub.proofs.MappingsFields.{every}
use Rattle.macho_stub.proofs.UnderItems.{column_0, skipped_at_top, items_old, items_front}
use Rattle.macho_bytes.proofs.Maps.{all_weaker}

-- ---- entries of a document, from their lines

-- the entry with what stands under it
abbrev with_under : Entry → Under → TopEntry
with_under one under = record { number = one.number; at = one.at; entry = one.entry; under = under }

-- what an entry says under a key, in a document that says this
abbrev NewSays : DocumentOf Slice → TopKey → Entry → Type 0
NewSays says top.Version one = SaysNumber one says.version
NewSays says top.Targets one = SaysNames 0 one says.targets
NewSays says top.InstallName one = SaysScalar one says.install_name
NewSays says top.CurrentVersion one = SaysScalar one says.current_version
NewSays says (top.Items Libraries) one = SaysItems Libraries one says.libraries
NewSays says (top.Items Exports) one = SaysItems Exports one says.exports
NewSays says (top.Items Reexports) one = SaysItems Reexports one says.reexports
NewSays says top.Unread one = IsSkipped 0 one

abbrev OldSays : DocumentOf Slice → TopKey → TopEntry → Type 0
OldSays says top.Version one = trees.SaysNumber one says.version
OldSays says top.Targets one = SaysList one says.targets
OldSays says top.InstallName one = trees.SaysScalar one says.install_name
OldSays says top.CurrentVersion one = trees.SaysScalar one says.current_version
OldSays says (top.Items Libraries) one = trees.SaysItems Libraries one says.libraries
OldSays says (top.Items Exports) one = trees.SaysItems Exports one says.exports
OldSays says (top.Items Reexports) one = trees.SaysItems Reexports one says.reexports
OldSays says top.Unread one = IsSkippedUnder (value_at one.at one.entry) (value_of one.entry) one.under

record OldOf (says : DocumentOf Slice) (key : TopKey) (one : Entry) : Type 0 where
  under : Under
  lines : (rest : List Line) → under_then under rest ≡ one.more ++ rest
  old : OldSays says key (with_under one under)

are_under : (kind : ItemKind) (dash_column : ℕ) (all : List ItemTree) (items : List (ItemOf Slice)) → 0 < length items
    → AllZip (trees.IsItem kind dash_column) all items → AreItemsUnder kind (Listed dash_column all) items
are_under kind dash_column [] [] some z = omega (arith, some)
are_under kind dash_column [] (item ∷ items) some z = z
are_under kind dash_column (tree ∷ all) items some z = z

-- items under an entry
record OldItems (kind : ItemKind) (one : Entry) (items : List (ItemOf Slice)) : Type 0 where
  under : Under
  lines : (rest : List Line) → under_then under rest ≡ one.more ++ rest
  old : trees.SaysItems kind (with_under one under) items

items_of : (kind : ItemKind) (one : Entry) (items : List (ItemOf Slice)) → SaysItems kind one items → OldItems kind one items
items_of kind one items s = record {
  under = Listed s.2 s.3;
  lines = λ rest. items_front s.2 s.3 rest ∙ ap (λ (more : List Line). more ++ rest) (sym s.4);
  old = (s.0, are_under kind s.2 s.3 items s.1 (items_old kind s.2 s.3 items s.5));
}

number_at : (one : Entry) (says : Slice) → IsNumberValue (value_at (one.at + 0) one.entry) (value_of one.entry) says
    → IsNumberValue (value_at one.at one.entry) (value_of one.entry) says
number_at one says v =
    let V : ℕ → Type 0 = λ k. IsNumberValue (value_at k one.entry) (value_of one.entry) says in subst V (column_0 one.at) v

scalar_at : (one : Entry) (says : Slice) → IsScalarValue (value_at (one.at + 0) one.entry) (value_of one.entry) says
    → IsScalarValue (value_at one.at one.entry) (value_of one.entry) says
scalar_at one says v =
    let V : ℕ → Type 0 = λ k. IsScalarValue (value_at k one.entry) (value_of one.entry) says in subst V (column_0 one.at) v

old_of : (says : DocumentOf Slice) (key : TopKey) (one : Entry) → NewSays says key one → OldOf says key one
old_of says top.Version one s = record {
  under = Lines [];
  lines = λ rest. ap (λ (more : List Line). more ++ rest) (sym s.0);
  old = (refl, number_at one says.version s.1);
}
old_of says top.Targets one s =
    let L : ℕ → Type 0 = λ k. IsFlowList (value_at k one.entry) (value_of one.entry) one.more says.targets in
    record { under = Lines one.more; lines = λ rest. refl; old = subst L (column_0 one.at) s }
old_of says top.InstallName one s = record {
  under = Lines [];
  lines = λ rest. ap (λ (more : List Line). more ++ rest) (sym s.0);
  old = (refl, scalar_at one says.install_name s.1);
}
old_of says top.CurrentVersion one s = record {
  under = Lines [];
  lines = λ rest. ap (λ (more : List Line). more ++ rest) (sym s.0);
  old = (refl, scalar_at one says.current_version s.1);
}
old_of says (top.Items Libraries) one s =
    let i = items_of Libraries one says.libraries s in record { under = i.under; lines = i.lines; old = i.old }
old_of says (top.Items Exports) one s =
    let i = items_of Exports one says.exports s in record { under = i.under; lines = i.lines; old = i.old }
old_of says (top.Items Reexports) one s =
    let i = items_of Reexports one says.reexports s in record { under = i.under; lines = i.lines; old = i.old }
old_of says top.Unread one s = record { under = Lines one.more; lines = λ rest. refl; old = skipped_at_top one s }

-- an entry, and it with what stands under it
record Kin (says : DocumentOf Slice) (one : Entry) (old : TopEntry) : Type 0 where
  same : old.entry ≡ one.entry
  entry : IsEntry old.entry
  what : OldSays says (top_key old.entry.key) old

-- entries with what stands under them
record OldEntries (says : DocumentOf Slice) (entries : List Entry) : Type 0 where
  olds : List TopEntry
  lines : (rest : List Line) → top_entries_then olds rest ≡ entries_then 0 entries rest
  kin : AllZip (Kin says) entries olds

-- what an entry has
abbrev Here : DocumentOf Slice → Entry → Type 0
Here says one = IsEntry one.entry × NewSays says (top_key one.entry.key) one

old_entries : (says : DocumentOf Slice) (entries : List Entry) → AllByRecursion (Here says) entries → OldEntries says entries
old_entries says [] all = record { olds = []; lines = λ rest. refl; kin = tt }
old_entries says (one ∷ others) all =
    let o = old_of says (top_key one.entry.key) one all.0.1 in
    let r = old_entries says others all.1 in
    let line : Line = record { number = one.number; at = one.at; text = entry_bytes one.entry } in
    record {
      olds = with_under one o.under ∷ r.olds;
      lines = λ rest. ap (λ (more : List Line). line ∷ more) (o.lines (top_entries_then r.olds rest)
          ∙ ap (λ (more : List Line). one.more ++ more) (r.lines rest));
      kin = (record { same = refl; entry = all.0.0; what = o.old }, r.kin);
    }

-- the entries that a text is the key of
abbrev pub keyed : List ℕ → List Entry → List Entry
keyed key entries = filter (λ one. bytes_eq one.entry.key key) entries

abbrev pub keyed_old : List ℕ → List TopEntry → List TopEntry
keyed_old key olds = filter (λ one. bytes_eq one.entry.key key) olds

none_old : (says : DocumentOf Slice) (key : List ℕ) (entries : List Entry) (olds : List TopEntry) → AllZip (Kin says) entries olds
    → AllByRecursion (Fails (λ one. bytes_eq one.entry.key key)) entries
    → AllByRecursion (Fails (λ (one : TopEntry). bytes_eq one.entry.key key)) olds
none_old says key [] [] z all = tt
none_old says key [] (old ∷ olds) z all = absurd z
none_old says key (one ∷ others) [] z all = absurd z
none_old says key (one ∷ others) (old ∷ olds) z all =
    ((λ h. all.0 (ap (λ e. bytes_eq e.key key) (sym z.0.same) ∙ h)), none_old says key others olds z.1 all.1)

-- what the entries with a key say, the old ones say
alone_old : {X : Type 0} (says : DocumentOf Slice) (key : List ℕ) (otherwise : Option X) (P : Entry → X → Type 0)
    (Q : TopEntry → X → Type 0) (x : X)
    → ((old : TopEntry) → bytes_eq old.entry.key key ≡ true → OldSays says (top_key old.entry.key) old → Q old x)
    → (entries : List Entry) (olds : List TopEntry) → AllZip (Kin says) entries olds
    → SaysAlone otherwise P (keyed key entries) x → SaysAlone otherwise Q (keyed_old key olds) x
alone_old says key otherwise P Q x q [] [] z s = s
alone_old says key otherwise P Q x q [] (old ∷ olds) z s = absurd z
alone_old says key otherwise P Q x q (one ∷ others) [] z s = absurd z
alone_old {X} says key otherwise P Q x q (one ∷ others) (old ∷ olds) z s =
    let S : Bool → Type 0 = λ b. SaysAlone otherwise P (cond b (one ∷ keyed key others) (keyed key others)) x in
    by (bytes_eq old.entry.key key) refl (λ rest. alone_old says key otherwise P Q x q others olds z.1 rest)
    (subst S (ap (λ e. bytes_eq e.key key) (sym z.0.same)) s)
  where
    by : (b : Bool) → bytes_eq old.entry.key key ≡ b
        → (SaysAlone otherwise P (keyed key others) x → SaysAlone otherwise Q (keyed_old key olds) x)
        → SaysAlone otherwise P (cond b (one ∷ keyed key others) (keyed key others)) x
        → SaysAlone otherwise Q (cond b (old ∷ keyed_old key olds) (keyed_old key olds)) x
    by true h more s =
        let R : List TopEntry → Type 0 = λ rest. SaysAlone otherwise Q (old ∷ rest) x in
        let none = few_behind one (keyed key others) (few otherwise P (one ∷ keyed key others) x s) in
        let left = none_left (λ (t : TopEntry). bytes_eq t.entry.key key) olds
        (none_old says key others olds z.1 (none_pass (λ (e : Entry). bytes_eq e.entry.key key) others none)) in
        subst R (sym left) (q old h z.0.what)
    by false h more s = more s

each_old : (says : DocumentOf Slice) (entries : List Entry) (olds : List TopEntry) → AllZip (Kin says) entries olds
    → AllByRecursion IsTopEntry olds
each_old says [] [] z = tt
each_old says [] (old ∷ olds) z = absurd z
each_old says (one ∷ others) [] z = absurd z
each_old says (one ∷ others) (old ∷ olds) z =
    let O : TopKey → Type 0 = λ key. OldSays says key old in
    (record { entry = z.0.entry; skipped = λ h. subst O (no_top_key_back old h) z.0.what }, each_old says others olds z.1)

-- ---- a document

-- the entries of a document have what they say
here_all : (tree : DocumentTree) (says : DocumentOf Slice) → IsDocument tree says → AllByRecursion (Here says) tree.entries
here_all tree says d =
    all_weaker (λ one. IsEntryOf document_keys 0 one × ((key : TopKey) → Value key one)) (Here says) here entries
    (all_both (IsEntryOf document_keys 0) (λ one. (key : TopKey) → Value key one) entries d.each (all_keys Value entries values))
  where
    entries : List Entry
    entries = tree.entries

    Value : TopKey → Entry → Type 0
    Value key one = top_test key (with_under one (Lines [])) ≡ true → NewSays says key one

    values : (key : TopKey) → AllByRecursion (Value key) entries
    values top.Version = each_says (λ one. bytes_eq one.entry.key (codes "tbd-version")) None SaysNumber says.version entries d.version
    values top.Targets = each_says (λ one. bytes_eq one.entry.key (codes "targets")) None (SaysNames 0) says.targets entries d.targets
    values top.InstallName =
        each_says (λ one. bytes_eq one.entry.key (codes "install-name")) None SaysScalar says.install_name entries d.install_name
    values top.CurrentVersion =
        each_says (λ one. bytes_eq one.entry.key (codes "current-version")) (Some no_text) SaysScalar says.current_version entries
        d.current_version
    values (top.Items Libraries) =
        each_says (λ one. bytes_eq one.entry.key (codes "reexported-libraries")) (Some []) (SaysItems Libraries) says.libraries entries
        d.libraries
    values (top.Items Exports) =
        each_says (λ one. bytes_eq one.entry.key (codes "exports")) (Some []) (SaysItems Exports) says.exports entries d.exports
    values (top.Items Reexports) =
        each_says (λ one. bytes_eq one.entry.key (codes "reexports")) (Some []) (SaysItems Reexports) says.reexports entries d.reexports
    values top.Unread = every (Value top.Unread) (λ one h. absurd cc) entries

    here : (one : Entry) → IsEntryOf document_keys 0 one × ((key : TopKey) → Value key one) → Here says one
    here one e = (e.0.entry, by (top_key one.entry.key) refl)
      where
        old : TopEntry
        old = with_under one (Lines [])

        by : (key : TopKey) → top_key one.entry.key ≡ key → NewSays says key one
        by top.Unread is = e.0.skipped (no_top_key old is)
        by top.Version is = e.1 top.Version (top_back top.Version old (λ e. cc) is)
        by top.Targets is = e.1 top.Targets (top_back top.Targets old (λ e. cc) is)
        by top.InstallName is = e.1 top.InstallName (top_back top.InstallName old (λ e. cc) is)
        by top.CurrentVersion is = e.1 top.CurrentVersion (top_back top.CurrentVersion old (λ e. cc) is)
        by (top.Items kind) is = e.1 (top.Items kind) (top_back (top.Items kind) old (λ e. cc) is)

-- a document with what stands under its entries
record OldDocument (tree : DocumentTree) (says : DocumentOf Slice) : Type 0 where
  old : trees.DocumentTree
  lines : (rest : List Line) → top_entries_then old.entries rest ≡ entries_then 0 tree.entries rest
  number : old.number ≡ tree.number
  at : old.at ≡ tree.at
  ended : old.ended ≡ tree.ended
  is : trees.IsDocument old says

document_old : (tree : DocumentTree) (says : DocumentOf Slice) → IsDocument tree says → OldDocument tree says
document_old tree says d = record {
  old = record { number = tree.number; at = tree.at; entries = o.olds; ended = tree.ended };
  lines = o.lines;
  number = refl;
  at = refl;
  ended = refl;
  is = record {
    line = d.line;
    each = each_old says tree.entries o.olds o.kin;
    version = alone_old says (codes "tbd-version") None SaysNumber trees.SaysNumber says.version
        (λ old h w. said top.Version old h w) tree.entries o.olds o.kin d.version;
    targets = alone_old says (codes "targets") None (SaysNames 0) SaysList says.targets
        (λ old h w. said top.Targets old h w) tree.entries o.olds o.kin d.targets;
    install_name = alone_old says (codes "install-name") None SaysScalar trees.SaysScalar says.install_name
        (λ old h w. said top.InstallName old h w) tree.entries o.olds o.kin d.install_name;
    current_version = alone_old says (codes "current-version") (Some no_text) SaysScalar trees.SaysScalar says.current_version
        (λ old h w. said top.CurrentVersion old h w) tree.entries o.olds o.kin d.current_version;
    libraries = alone_old says (codes "reexported-libraries") (Some []) (SaysItems Libraries) (trees.SaysItems Libraries) says.libraries
        (λ old h w. said (top.Items Libraries) old h w) tree.entries o.olds o.kin d.libraries;
    exports = alone_old says (codes "exports") (Some []) (SaysItems Exports) (trees.SaysItems Exports) says.exports
        (λ old h w. said (top.Items Exports) old h w) tree.entries o.olds o.kin d.exports;
    reexports = alone_old says (codes "reexports") (Some []) (SaysItems Reexports) (trees.SaysItems Reexports) says.reexports
        (λ old h w. said (top.Items Reexports) old h w) tree.entries o.olds o.kin d.reexports;
  };
}
  where
    o : OldEntries says tree.entries
    o = old_entries says tree.entries (here_all tree says d)

    said : (key : TopKey) (old : TopEntry) → top_test key old ≡ true → OldSays says (top_key old.entry.key) old → OldSays says key old
    said key old h w = let O : TopKey → Type 0 = λ k. OldSays says k old in subst O (top_forth key old h) w

-- Documents of the grammar, with what stands under their entries.
pub record OldDocuments (all : List DocumentTree) (says : List (DocumentOf Slice)) : Type 0 where
  pub olds : List trees.DocumentTree
  pub lines : trees.documents_then olds ≡ documents_then all
  pub are : AllZip trees.IsDocument olds says

pub documents_old : (all : List DocumentTree) (says : List (DocumentOf Slice)) → AllZip IsDocument all says → OldDocuments all says
documents_old [] [] z = record { olds = []; lines = refl; are = tt }
documents_old [] (one ∷ says) z = absurd z
documents_old (tree ∷ all) [] z = absurd z
documents_old (tree ∷ all) (one ∷ says) z =
    let o = document_old tree one z.0 in
    let r = documents_old all says z.1 in
    let line : Line = record { number = tree.number; at = tree.at; text = head } in
    let old : trees.DocumentTree = record { number = tree.number; at = tree.at; entries = o.old.entries; ended = tree.ended } in
    let same : o.old ≡ old =
    ap (λ n. record o.old { number = n }) o.number ∙ ap (λ a. record o.old { number = tree.number; at = a }) o.at
    ∙ ap (λ e. record o.old { number = tree.number; at = tree.at; ended = e }) o.ended in
    let D : trees.DocumentTree → Type 0 = λ t. trees.IsDocument t one in
    record {
      olds = old ∷ r.olds;
      lines = ap (λ (more : List Line). line ∷ more) (o.lines (end_then tree.ended (trees.documents_then r.olds))
          ∙ ap (λ (more : List Line). entries_then 0 tree.entries (end_then tree.ended more)) r.lines);
      are = (subst D same o.is, r.are);
    }
