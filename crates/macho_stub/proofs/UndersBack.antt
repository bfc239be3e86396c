-- Documents with what stands under their entries as trees are documents of the grammar: an entry has the lines of what stands under it
-- (`new_entry`).
use Rattle.std.proofs.Common.{◌≡◌, ℕ, ◌+◌, ◌<◌, Bool, true, false, cond, List, [], ◌∷◌, ◌++◌, length, map, Option, Some, None, refl, sym, ap, ◌∙◌, arith, subst}
use Rattle.std.specs.Prelude.{codes}
use Rattle.std.specs.List.{AllByRecursion, AllZip}
use Rattle.std.specs.Str.{bytes_eq}
use Rattle.macho_stub_lines.specs.declared.keys.ItemKind.{ItemKind}
use Rattle.macho_stub_lines.specs.declared.keys.ItemKind.TheVariants.{Libraries, Exports, Reexports}
use Rattle.macho_stub_lines.specs.Bytes.{head}
use Rattle.macho_stub_lines.specs.Slices.{Slice, Line}
use Rattle.macho_stub_lines.specs.Spelling.{entry_bytes, value_of, value_at, IsNumberValue, IsScalarValue}
use Rattle.macho_stub_lines.specs.FlowLists.{IsFlowList}
use Rattle.macho_stub.specs.Documents.{ItemOf, DocumentOf}
use Rattle.macho_stub.specs.Places.{SaysAlone, document_keys, Entry, entries_then, IsSkipped, IsEntryOf, SaysNames, ItemTree, items_then, IsItem, SaysNumber, SaysScalar, SaysItems, DocumentTree, end_then, documents_then, no_text, IsDocument}
use Rattle.macho_stub.specs.steps.Trees as trees
use Rattle.macho_stub.specs.steps.Trees.{Under, Lines, Listed, under_then, TopEntry, top_entries_then, IsSkippedUnder, IsListUnder, AreItemsUnder, SaysList, IsTopEntry}
use Rattle.macho_stub.proofs.UnderItems.{column_0, skipped_of_top, items_new, items_front}
use Rattle.macho_stub.proofs.Unders.{keyed, keyed_old}

-- ---- and back

abbrev pub lines_under : Under → List Line
lines_under (Lines more) = more
lines_under (Listed dash_column all) = items_then dash_column all []

-- an entry with the lines under it
abbrev pub new_entry : TopEntry → Entry
new_entry old = record { number = old.number; at = old.at; entry = old.entry; more = lines_under old.under }

abbrev pub new_tree : trees.DocumentTree → DocumentTree
new_tree old = record { number = old.number; at = old.at; entries = map new_entry old.entries; ended = old.ended }

under_lines : (under : Under) (rest : List Line) → lines_under under ++ rest ≡ under_then under rest
under_lines (Lines more) rest = refl
under_lines (Listed dash_column all) rest = sym (items_front dash_column all rest)

entries_lines : (olds : List TopEntry) (rest : List Line) → entries_then 0 (map new_entry olds) rest ≡ top_entries_then olds rest
entries_lines [] rest = refl
entries_lines (old ∷ olds) rest =
    let line : Line = record { number = old.number; at = old.at; text = entry_bytes old.entry } in
    ap (λ (more : List Line). line ∷ more) (ap (λ (more : List Line). lines_under old.under ++ more) (entries_lines olds rest)
    ∙ under_lines old.under (top_entries_then olds rest))

pub documents_lines : (olds : List trees.DocumentTree) → documents_then (map new_tree olds) ≡ trees.documents_then olds
documents_lines [] = refl
documents_lines (old ∷ olds) =
    let line : Line = record { number = old.number; at = old.at; text = head } in
    ap (λ (more : List Line). line ∷ more) (entries_lines old.entries (end_then old.ended (documents_then (map new_tree olds)))
    ∙ ap (λ (more : List Line). top_entries_then old.entries (end_then old.ended more)) (documents_lines olds))

entry_new : (old : TopEntry) → IsTopEntry old → IsEntryOf document_keys 0 (new_entry old)
entry_new old e = record { entry = e.entry; skipped = λ h. by old.under (e.skipped h) }
  where
    by : (under : Under) → IsSkippedUnder (value_at old.at old.entry) (value_of old.entry) under
        → IsSkipped 0 (record { number = old.number; at = old.at; entry = old.entry; more = lines_under under })
    by (Lines more) s = skipped_of_top (record { number = old.number; at = old.at; entry = old.entry; more = more }) s
    by (Listed dash_column all) s = absurd s

entries_new : (olds : List TopEntry) → AllByRecursion IsTopEntry olds → AllByRecursion (IsEntryOf document_keys 0) (map new_entry olds)
entries_new [] all = tt
entries_new (old ∷ olds) all = (entry_new old all.0, entries_new olds all.1)

-- what the old entries with a key say, the new ones say
alone_new : {X : Type 0} (key : List ℕ) (otherwise : Option X) (P : Entry → X → Type 0) (Q : TopEntry → X → Type 0) (x : X)
    → ((old : TopEntry) → Q old x → P (new_entry old) x) → (olds : List TopEntry) → SaysAlone otherwise Q (keyed_old key olds) x
    → SaysAlone otherwise P (keyed key (map new_entry olds)) x
alone_new {X} key otherwise P Q x p olds s =
    let S : List Entry → Type 0 = λ entries. SaysAlone otherwise P entries x in
    subst S (sym (keyed_map olds)) (of_map (keyed_old key olds) s)
  where
    of_map : (found : List TopEntry) → SaysAlone otherwise Q found x → SaysAlone otherwise P (map new_entry found) x
    of_map [] s = s
    of_map (old ∷ []) s = p old s
    of_map (old ∷ other ∷ more) s = s

    by : (old : TopEntry) (b : Bool) (rest : List Entry) (found : List TopEntry) → rest ≡ map new_entry found
        → cond b (new_entry old ∷ rest) rest ≡ map new_entry (cond b (old ∷ found) found)
    by old true rest found e = ap (λ (more : List Entry). new_entry old ∷ more) e
    by old false rest found e = e

    keyed_map : (olds : List TopEntry) → keyed key (map new_entry olds) ≡ map new_entry (keyed_old key olds)
    keyed_map [] = refl
    keyed_map (old ∷ olds) =
        by old (bytes_eq old.entry.key key) (keyed key (map new_entry olds)) (keyed_old key olds) (keyed_map olds)

number_new : (old : TopEntry) (says : Slice) → trees.SaysNumber old says → SaysNumber (new_entry old) says
number_new old says s =
    let V : ℕ → Type 0 = λ k. IsNumberValue (value_at k old.entry) (value_of old.entry) says in
    (ap lines_under s.0, subst V (sym (column_0 old.at)) s.1)

scalar_new : (old : TopEntry) (says : Slice) → trees.SaysScalar old says → SaysScalar (new_entry old) says
scalar_new old says s =
    let V : ℕ → Type 0 = λ k. IsScalarValue (value_at k old.entry) (value_of old.entry) says in
    (ap lines_under s.0, subst V (sym (column_0 old.at)) s.1)

list_new : (old : TopEntry) (says : List Slice) → SaysList old says → SaysNames 0 (new_entry old) says
list_new old says s = by old.under s
  where
    by : (under : Under) → IsListUnder (value_at old.at old.entry) (value_of old.entry) under says
        → IsFlowList (value_at (old.at + 0) old.entry) (value_of old.entry) (lines_under under) says
    by (Lines more) s =
        let L : ℕ → Type 0 = λ k. IsFlowList (value_at k old.entry) (value_of old.entry) more says in subst L (sym (column_0 old.at)) s
    by (Listed dash_column all) s = absurd s

some_item : (kind : ItemKind) (dash_column : ℕ) (tree : ItemTree) (all : List ItemTree) (items : List (ItemOf Slice))
    → AllZip (trees.IsItem kind dash_column) (tree ∷ all) items → 0 < length items
some_item kind dash_column tree all [] z = absurd z
some_item kind dash_column tree all (item ∷ items) z = omega arith

items_under_new : (kind : ItemKind) (old : TopEntry) (says : List (ItemOf Slice)) → trees.SaysItems kind old says
    → SaysItems kind (new_entry old) says
items_under_new kind old says s = by old.under s.1
  where
    by : (under : Under) → AreItemsUnder kind under says
        → SaysItems kind (record { number = old.number; at = old.at; entry = old.entry; more = lines_under under }) says
    by (Lines more) a = absurd a
    by (Listed dash_column []) a = absurd a
    by (Listed dash_column (tree ∷ all)) a = (
      s.0,
      some_item kind dash_column tree all says a,
      dash_column,
      tree ∷ all,
      refl,
      items_new kind dash_column (tree ∷ all) says a,
    )

document_new : (old : trees.DocumentTree) (says : DocumentOf Slice) → trees.IsDocument old says → IsDocument (new_tree old) says
document_new old says d = record {
  line = d.line;
  each = entries_new old.entries d.each;
  version = alone_new (codes "tbd-version") None SaysNumber trees.SaysNumber says.version (λ one s. number_new one says.version s)
      old.entries d.version;
  targets = alone_new (codes "targets") None (SaysNames 0) SaysList says.targets (λ one s. list_new one says.targets s) old.entries
      d.targets;
  install_name = alone_new (codes "install-name") None SaysScalar trees.SaysScalar says.install_name
      (λ one s. scalar_new one says.install_name s) old.entries d.install_name;
  current_version = alone_new (codes "current-version") (Some no_text) SaysScalar trees.SaysScalar says.current_version
      (λ one s. scalar_new one says.current_version s) old.entries d.current_version;
  libraries = alone_new (codes "reexported-libraries") (Some []) (SaysItems Libraries) (trees.SaysItems Libraries) says.libraries
      (λ one s. items_under_new Libraries one says.libraries s) old.entries d.libraries;
  exports = alone_new (codes "exports") (Some []) (SaysItems Exports) (trees.SaysItems Exports) says.exports
      (λ one s. items_under_new Exports one says.exports s) old.entries d.exports;
  reexports = alone_new (codes "reexports") (Some []) (SaysItems Reexports) (trees.SaysItems Reexports) says.reexports
      (λ one s. items_under_new Reexports one says.reexports s) old.entries d.reexports;
}

pub documents_new : (olds : List trees.DocumentTree) (says : List (DocumentOf Slice)) → AllZip trees.IsDocument olds says
    → AllZip IsDocument (map new_tree olds) says
documents_new [] [] z = tt
documents_new [] (one ∷ says) z = z
documents_new (old ∷ olds) [] z = z
documents_new (old ∷ olds) (one ∷ says) z = (document_new old one z.0, documents_new olds says z.1)
