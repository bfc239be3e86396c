-- What the grammar says of a text are slices of it. The lines stand in the input at their places; what stands on a
-- line, at a place of the line, stands in the input at the sum; so the value of an entry does, and the scalars of a
-- value do. What is known of an item or a document keeps the property with each entry.
-- An item or a document is whole where what it must have is known; so what it says are slices too, and what it doesn't
-- say is the empty text, which stands everywhere.
use Rattle.std.proofs.Common.{◌≡◌, ℕ, ◌+◌, List, [], ◌∷◌, ◌++◌, replicate, Option, Some, None, refl, sym, ◌∙◌, subst, arith}
use Rattle.std.specs.Prelude.{unwrap_or}
use Rattle.std.specs.List.{AllByRecursion}
use Rattle.std.proofs.lemmas.List.{length-replicate}
use Rattle.macho_stub_lines.specs.declared.keys.ItemKind.{ItemKind}
use Rattle.macho_stub_lines.specs.declared.keys.ItemKind.TheVariants.{Libraries, Exports, Reexports}
use Rattle.macho_stub_lines.specs.declared.keys.ItemKey.{ItemKey}
use Rattle.macho_stub_lines.specs.declared.keys.ItemKey.TheVariants as item
use Rattle.macho_stub_lines.specs.declared.keys.TopKey.{TopKey}
use Rattle.macho_stub_lines.specs.declared.keys.TopKey.TheVariants as top
use Rattle.macho_stub_lines.specs.Bytes.{space, dash}
use Rattle.macho_stub_lines.specs.Slices.{Slice, Line, StandsIn}
use Rattle.macho_stub_lines.specs.Spelling.{entry_bytes, value_of, value_at}
use Rattle.macho_stub_lines.specs.Keys.{top_key, item_key}
use Rattle.macho_stub.specs.Documents.{ItemOf, DocumentOf}
use Rattle.macho_stub.specs.steps.Opened.{OpenItemOf, OpenDocumentOf, no_item, head_at, with_key, with_items}
use Rattle.macho_stub.specs.Answer.{ItemStands, DocumentStands}
use Rattle.macho_stub.specs.Places.{entries_then, ItemTree, column_of, item_then, items_then, end_then, no_text, IsStubText}
use Rattle.macho_stub.specs.steps.Trees.{ItemEntry, item_value_at, Under, Lines, Listed, under_then, TopEntry, top_entries_then, IsListUnder, DocumentTree, documents_then}
use Rattle.macho_stub.proofs.Folded.{GivesNames, ItemValue, ItemEntries, AreNamesOf, IsWholeItem, IsItem, AreItems, AreItemsUnder, TopValue, TopEntries, IsWholeDocument, AreDocuments}
use Rattle.macho_stub.proofs.Mappings.{documents_fold}
use Rattle.macho_stub.proofs.Unders.{documents_old}
use Rattle.macho_stub_lines.proofs.Places.{scalar_stands, number_stands, value_stands, list_stands, content_stand, behind_stands, LineStands}
use Rattle.macho_stub_lines.proofs.Runs.{all_front, all_behind}

abbrev LinesStand : List ℕ → List Line → Type 0
LinesStand input lines = AllByRecursion (LineStands input) lines

abbrev pub AllStand : List ℕ → List Slice → Type 0
AllStand input slices = AllByRecursion (StandsIn input) slices

-- ---- lines

-- the value of an entry of an item
entry_value_stands : (input : List ℕ) (column : ℕ) (one : ItemEntry)
    → StandsIn input (record { at = one.at; text = replicate column space ++ entry_bytes one.entry })
    → StandsIn input (record { at = item_value_at column one; text = value_of one.entry })
entry_value_stands input column one s = value_stands input (one.at + column) one.entry
    (behind_stands input (replicate column space) (entry_bytes one.entry) one.at column (length-replicate column space) s)

-- that of the first one, behind the dash
first_value_stands : (input : List ℕ) (dash_column gap : ℕ) (one : ItemEntry)
    → StandsIn input (record { at = one.at; text = replicate dash_column space ++ dash ∷ (replicate gap space ++ entry_bytes one.entry) })
    → StandsIn input (record { at = item_value_at (dash_column + 1 + gap) one; text = value_of one.entry })
first_value_stands input dash_column gap one s =
    let spaced = replicate gap space ++ entry_bytes one.entry in
    let a = behind_stands input (replicate dash_column space) (dash ∷ spaced) one.at dash_column (length-replicate dash_column space) s in
    let b = behind_stands input (dash ∷ []) spaced (one.at + dash_column) 1 refl a in
    let c = behind_stands input (replicate gap space) (entry_bytes one.entry) (one.at + dash_column + 1) gap
    (length-replicate gap space) b in
    let e : one.at + dash_column + 1 + gap ≡ one.at + (dash_column + 1 + gap) = omega arith in
    let T : ℕ → Type 0 = λ k. StandsIn input (record { at = k; text = entry_bytes one.entry }) in
    value_stands input (one.at + (dash_column + 1 + gap)) one.entry (subst T e c)

-- ---- items

abbrev StandIfAny : List ℕ → Option (List Slice) → Type 0
StandIfAny input None = Unit {0}
StandIfAny input (Some slices) = AllStand input slices

record OpenItemStands (input : List ℕ) (item : OpenItemOf Slice) : Type 0 where
  targets : StandIfAny input item.targets
  names : StandIfAny input item.names
  weak_names : StandIfAny input item.weak_names

with_key_stands : (input : List ℕ) (key : ItemKey) (names : List Slice) (item : OpenItemOf Slice) → AllStand input names
    → OpenItemStands input item → OpenItemStands input (with_key key names item)
with_key_stands input item.Targets names one n s = record { targets = n; names = s.names; weak_names = s.weak_names }
with_key_stands input item.Names names one n s = record { targets = s.targets; names = n; weak_names = s.weak_names }
with_key_stands input item.WeakNames names one n s = record { targets = s.targets; names = s.names; weak_names = n }
with_key_stands input item.Unread names one n s = s

names_stand : (input : List ℕ) (column : ℕ) (key : ItemKey) (one : ItemEntry) (old new : OpenItemOf Slice)
    → StandsIn input (record { at = item_value_at column one; text = value_of one.entry }) → LinesStand input one.more
    → GivesNames column key one old new → OpenItemStands input old → OpenItemStands input new
names_stand input column key one old new v more g s =
    let n = list_stands input (item_value_at column one) (value_of one.entry) one.more g.names v more g.list in
    subst (OpenItemStands input) (sym g.gives) (with_key_stands input key g.names old n s)

item_value_stands : (input : List ℕ) (column : ℕ) (key : ItemKey) (one : ItemEntry) (old new : OpenItemOf Slice)
    → StandsIn input (record { at = item_value_at column one; text = value_of one.entry }) → LinesStand input one.more
    → ItemValue column key one old new → OpenItemStands input old → OpenItemStands input new
item_value_stands input column item.Unread one old new v more e s = subst (OpenItemStands input) (sym e.1) s
item_value_stands input column item.Targets one old new v more e s = names_stand input column item.Targets one old new v more e s
item_value_stands input column item.Names one old new v more e s = names_stand input column item.Names one old new v more e s
item_value_stands input column item.WeakNames one old new v more e s = names_stand input column item.WeakNames one old new v more e s

entries_stand : (input : List ℕ) (kind : ItemKind) (column : ℕ) (entries : List ItemEntry) (old new : OpenItemOf Slice) (rest : List Line)
    → ItemEntries kind column entries old new → LinesStand input (entries_then column entries rest) → OpenItemStands input old
    → OpenItemStands input new × LinesStand input rest
entries_stand input kind column [] old new rest e l s = (subst (OpenItemStands input) (sym e) s, l)
entries_stand input kind column (one ∷ others) old new rest e l s =
    let behind = entries_then column others rest in
    let mid = item_value_stands input column (item_key kind one.entry.key) one old e.0 (entry_value_stands input column one l.0)
    (all_front (LineStands input) one.more behind l.1) e.1.value s in
    entries_stand input kind column others e.0 new rest e.2 (all_behind (LineStands input) one.more behind l.1) mid

unwrap_stands : (input : List ℕ) (names : Option (List Slice)) → StandIfAny input names → AllStand input (unwrap_or names [])
unwrap_stands input None s = tt
unwrap_stands input (Some names) s = s

whole_names_stand : (input : List ℕ) (kind : ItemKind) (read : Option (List Slice)) (names : List Slice) → AreNamesOf kind read names
    → StandIfAny input read → AllStand input names
whole_names_stand input Libraries read names e s = subst (StandIfAny input) e s
whole_names_stand input Exports read names e s = subst (AllStand input) (sym e) (unwrap_stands input read s)
whole_names_stand input Reexports read names e s = subst (AllStand input) (sym e) (unwrap_stands input read s)

whole_item_stands : (input : List ℕ) (kind : ItemKind) (read : OpenItemOf Slice) (says : ItemOf Slice) → IsWholeItem kind read says
    → OpenItemStands input read → ItemStands input says
whole_item_stands input kind read says w s = record {
  targets = subst (StandIfAny input) w.targets s.targets;
  names = whole_names_stand input kind read.names says.names w.names s.names;
  weak_names = subst (AllStand input) (sym w.weak_names) (unwrap_stands input read.weak_names s.weak_names);
}

no_item_stands : (input : List ℕ) → OpenItemStands input no_item
no_item_stands input = record { targets = tt; names = tt; weak_names = tt }

item_stands : (input : List ℕ) (kind : ItemKind) (dash_column : ℕ) (tree : ItemTree) (says : ItemOf Slice) (rest : List Line)
    → IsItem kind dash_column tree says → LinesStand input (item_then dash_column tree rest)
    → ItemStands input says × LinesStand input rest
item_stands input kind dash_column tree says rest i l =
    let column = dash_column + 1 + tree.gap in
    let behind = entries_then column tree.others rest in
    let e = i.entries in
    let mid = item_value_stands input column (item_key kind tree.first.entry.key) tree.first no_item e.0
    (first_value_stands input dash_column tree.gap tree.first l.0) (all_front (LineStands input) tree.first.more behind l.1) e.1.value
    (no_item_stands input) in
    let r = entries_stand input kind column tree.others e.0 i.read rest e.2
    (all_behind (LineStands input) tree.first.more behind l.1) mid in
    (whole_item_stands input kind i.read says i.whole r.0, r.1)

abbrev pub ItemsStand : List ℕ → List (ItemOf Slice) → Type 0
ItemsStand input items = AllByRecursion (ItemStands input) items

items_stand : (input : List ℕ) (kind : ItemKind) (dash_column : ℕ) (trees : List ItemTree) (says : List (ItemOf Slice)) (rest : List Line)
    → AreItems kind dash_column trees says → LinesStand input (items_then dash_column trees rest)
    → ItemsStand input says × LinesStand input rest
items_stand input kind dash_column [] [] rest a l = (tt, l)
items_stand input kind dash_column [] (one ∷ says) rest a l = absurd a
items_stand input kind dash_column (tree ∷ trees) [] rest a l = absurd a
items_stand input kind dash_column (tree ∷ trees) (one ∷ says) rest a l =
    let i = item_stands input kind dash_column tree one (items_then dash_column trees rest) a.0 l in
    let r = items_stand input kind dash_column trees says rest a.1 i.1 in
    ((i.0, r.0), r.1)

-- ---- documents

abbrev TextIfAny : List ℕ → Option Slice → Type 0
TextIfAny input None = Unit {0}
TextIfAny input (Some slice) = StandsIn input slice

abbrev ItemsIfAny : List ℕ → Option (List (ItemOf Slice)) → Type 0
ItemsIfAny input None = Unit {0}
ItemsIfAny input (Some items) = ItemsStand input items

record OpenStands (input : List ℕ) (document : OpenDocumentOf Slice) : Type 0 where
  version : TextIfAny input document.version
  targets : StandIfAny input document.targets
  install_name : TextIfAny input document.install_name
  current_version : TextIfAny input document.current_version
  libraries : ItemsIfAny input document.libraries
  exports : ItemsIfAny input document.exports
  reexports : ItemsIfAny input document.reexports

with_items_stand : (input : List ℕ) (kind : ItemKind) (items : List (ItemOf Slice)) (document : OpenDocumentOf Slice)
    → ItemsStand input items → OpenStands input document → OpenStands input (with_items kind items document)
with_items_stand input Libraries items document i s = record {
  version = s.version;
  targets = s.targets;
  install_name = s.install_name;
  current_version = s.current_version;
  libraries = i;
  exports = s.exports;
  reexports = s.reexports;
}
with_items_stand input Exports items document i s = record {
  version = s.version;
  targets = s.targets;
  install_name = s.install_name;
  current_version = s.current_version;
  libraries = s.libraries;
  exports = i;
  reexports = s.reexports;
}
with_items_stand input Reexports items document i s = record {
  version = s.version;
  targets = s.targets;
  install_name = s.install_name;
  current_version = s.current_version;
  libraries = s.libraries;
  exports = s.exports;
  reexports = i;
}

items_under_stand : (input : List ℕ) (kind : ItemKind) (under : Under) (says : List (ItemOf Slice)) (rest : List Line)
    → AreItemsUnder kind under says → LinesStand input (under_then under rest) → ItemsStand input says
items_under_stand input kind (Lines more) says rest a l = absurd a
items_under_stand input kind (Listed dash_column []) says rest a l = absurd a
items_under_stand input kind (Listed dash_column (tree ∷ trees)) says rest a l =
    (items_stand input kind dash_column (tree ∷ trees) says rest a l).0

top_value_stands : (input : List ℕ) (key : TopKey) (one : TopEntry) (old new : OpenDocumentOf Slice) (rest : List Line)
    → TopValue key one old new → StandsIn input (record { at = value_at one.at one.entry; text = value_of one.entry })
    → LinesStand input (under_then one.under rest) → OpenStands input old → OpenStands input new
top_value_stands input top.Version one old new rest v h l s = subst (OpenStands input) (sym v.4) (record {
  version = number_stands input (value_at one.at one.entry) (value_of one.entry) v.2 h v.3;
  targets = s.targets;
  install_name = s.install_name;
  current_version = s.current_version;
  libraries = s.libraries;
  exports = s.exports;
  reexports = s.reexports;
})
top_value_stands input top.Targets one old new rest v h l s = subst (OpenStands input) (sym v.3) (record {
  version = s.version;
  targets = targets_stand one.under v.1 v.2 l;
  install_name = s.install_name;
  current_version = s.current_version;
  libraries = s.libraries;
  exports = s.exports;
  reexports = s.reexports;
})
  where
    targets_stand : (under : Under) (names : List Slice) → IsListUnder (value_at one.at one.entry) (value_of one.entry) under names
        → LinesStand input (under_then under rest) → AllStand input names
    targets_stand (Lines more) names i l =
        list_stands input (value_at one.at one.entry) (value_of one.entry) more names h (all_front (LineStands input) more rest l) i
    targets_stand (Listed dash_column trees) names i l = absurd i
top_value_stands input top.InstallName one old new rest v h l s = subst (OpenStands input) (sym v.4) (record {
  version = s.version;
  targets = s.targets;
  install_name = scalar_stands input (value_at one.at one.entry) (value_of one.entry) v.2 h v.3;
  current_version = s.current_version;
  libraries = s.libraries;
  exports = s.exports;
  reexports = s.reexports;
})
top_value_stands input top.CurrentVersion one old new rest v h l s = subst (OpenStands input) (sym v.4) (record {
  version = s.version;
  targets = s.targets;
  install_name = s.install_name;
  current_version = scalar_stands input (value_at one.at one.entry) (value_of one.entry) v.2 h v.3;
  libraries = s.libraries;
  exports = s.exports;
  reexports = s.reexports;
})
top_value_stands input (top.Items kind) one old new rest v h l s = subst (OpenStands input) (sym v.4)
    (with_items_stand input kind v.2 old (items_under_stand input kind one.under v.2 rest v.3 l) s)
top_value_stands input top.Unread one old new rest v h l s = subst (OpenStands input) (sym v.1) s

-- what stands under a key, in front of other lines
under_rest : (input : List ℕ) (dash_column : ℕ) (trees : List ItemTree) (rest : List Line)
    → LinesStand input (items_then dash_column trees rest) → LinesStand input rest
under_rest input dash_column [] rest l = l
under_rest input dash_column (tree ∷ trees) rest l = under_rest input dash_column trees rest
    (entries_rest (column_of dash_column tree) tree.others (items_then dash_column trees rest)
    (all_behind (LineStands input) tree.first.more
    (entries_then (column_of dash_column tree) tree.others (items_then dash_column trees rest)) l.1))
  where
    entries_rest : (column : ℕ) (entries : List ItemEntry) (rest : List Line) → LinesStand input (entries_then column entries rest)
        → LinesStand input rest
    entries_rest column [] rest l = l
    entries_rest column (one ∷ others) rest l =
        entries_rest column others rest (all_behind (LineStands input) one.more (entries_then column others rest) l.1)

behind_under : (input : List ℕ) (under : Under) (rest : List Line) → LinesStand input (under_then under rest) → LinesStand input rest
behind_under input (Lines more) rest l = all_behind (LineStands input) more rest l
behind_under input (Listed dash_column trees) rest l = under_rest input dash_column trees rest l

top_entries_stand : (input : List ℕ) (entries : List TopEntry) (old new : OpenDocumentOf Slice) (rest : List Line)
    → TopEntries entries old new → LinesStand input (top_entries_then entries rest) → OpenStands input old
    → OpenStands input new × LinesStand input rest
top_entries_stand input [] old new rest e l s = (subst (OpenStands input) (sym e) s, l)
top_entries_stand input (one ∷ others) old new rest e l s =
    let behind = top_entries_then others rest in
    let mid = top_value_stands input (top_key one.entry.key) one old e.0 behind e.1.value (value_stands input one.at one.entry l.0) l.1 s in
    top_entries_stand input others e.0 new rest e.2 (behind_under input one.under behind l.1) mid

unwrap_text_stands : (input : List ℕ) (text : Option Slice) → TextIfAny input text → StandsIn input (unwrap_or text no_text)
unwrap_text_stands input None s = refl
unwrap_text_stands input (Some slice) s = s

unwrap_items_stand : (input : List ℕ) (items : Option (List (ItemOf Slice))) → ItemsIfAny input items
    → ItemsStand input (unwrap_or items [])
unwrap_items_stand input None s = tt
unwrap_items_stand input (Some items) s = s

whole_document_stands : (input : List ℕ) (read : OpenDocumentOf Slice) (says : DocumentOf Slice) → IsWholeDocument read says
    → OpenStands input read → DocumentStands input says
whole_document_stands input read says w s = record {
  version = subst (TextIfAny input) w.version s.version;
  targets = subst (StandIfAny input) w.targets s.targets;
  install_name = subst (TextIfAny input) w.install_name s.install_name;
  current_version = subst (StandsIn input) (sym w.current_version) (unwrap_text_stands input read.current_version s.current_version);
  libraries = subst (ItemsStand input) (sym w.libraries) (unwrap_items_stand input read.libraries s.libraries);
  exports = subst (ItemsStand input) (sym w.exports) (unwrap_items_stand input read.exports s.exports);
  reexports = subst (ItemsStand input) (sym w.reexports) (unwrap_items_stand input read.reexports s.reexports);
}

end_rest : (input : List ℕ) (ended : Option (ℕ × ℕ)) (rest : List Line) → LinesStand input (end_then ended rest) → LinesStand input rest
end_rest input None rest l = l
end_rest input (Some line) rest l = l.1

documents_stand : (input : List ℕ) (trees : List DocumentTree) (says : List (DocumentOf Slice)) → AreDocuments trees says
    → LinesStand input (documents_then trees) → AllByRecursion (DocumentStands input) says
documents_stand input [] [] a l = tt
documents_stand input [] (one ∷ says) a l = absurd a
documents_stand input (tree ∷ trees) [] a l = absurd a
documents_stand input (tree ∷ trees) (one ∷ says) a l =
    let nothing : OpenStands input (head_at tree.number) =
    record { version = tt; targets = tt; install_name = tt; current_version = tt; libraries = tt; exports = tt; reexports = tt } in
    let e = top_entries_stand input tree.entries (head_at tree.number) a.0.read (end_then tree.ended (documents_then trees)) a.0.entries
    l.1 nothing in (
      whole_document_stands input a.0.read one a.0.whole e.0,
      documents_stand input trees says a.1 (end_rest input tree.ended (documents_then trees) e.1),
    )

-- each text that the grammar has of a document is a slice of the input
pub text_stands : (input : List ℕ) (says : List (DocumentOf Slice)) → IsStubText input says → AllByRecursion (DocumentStands input) says
text_stands input says is =
    let o = documents_old is.trees says is.documents in
    documents_stand input o.olds says (documents_fold o.olds says o.are)
    (subst (LinesStand input) (is.lines ∙ sym o.lines) (content_stand input))
