-- What is read is in the grammar: entries of documents, and documents. As for items (`TreesFound`): from the front of the
-- lines on, each tree is built from the one that is read and from what stands on its lines.
-- What stands under a key is by the key: nothing under a number or a scalar, lines of a flow list or of a skipped value, or
-- items (`under_found`). Entry by entry, the lines that follow are left for the next; behind the entries stands the end of
-- the document, if there is one, and then the next document's head.
use Rattle.std.proofs.Common.{◌≡◌, ℕ, List, [], ◌∷◌, Option, Some, None, refl, sym, ap, ◌∙◌, subst}
use Rattle.std.proofs.lemmas.List.{nil_from_length}
use Rattle.macho_stub_lines.specs.declared.keys.TopKey.{TopKey}
use Rattle.macho_stub_lines.specs.declared.keys.TopKey.TheVariants as top
use Rattle.macho_stub_lines.specs.Slices.{Slice, Line, texts_of}
use Rattle.macho_stub_lines.specs.Spelling.{EntryTree, entry_bytes, value_of, value_at}
use Rattle.macho_stub_lines.specs.Keys.{top_key}
use Rattle.macho_stub_lines.specs.ReadLists.{ReadLine, IsReadList}
use Rattle.macho_stub.specs.Documents.{ItemOf, ItemFields, DocumentOf, DocumentFields, documents_texts}
use Rattle.macho_stub.specs.steps.Opened.{OpenDocumentOf, OpenDocumentFields, head_at, with_items}
use Rattle.macho_stub.specs.steps.Whole.{whole_document}
use Rattle.macho_stub_lines.specs.Bytes.{head, end, belongs_to_top}
use Rattle.macho_stub.specs.Places.{ItemTree, end_then}
use Rattle.macho_stub.specs.steps.Trees.{Under, Lines, Listed, under_then, TopEntry, top_entries_then, DocumentTree, documents_then}
use Rattle.macho_stub.proofs.Folded.{AreItems, AreItemsUnder, TopValue, TopEntries, AreDocuments}
use Rattle.macho_stub.proofs.Readings as read
use Rattle.macho_stub.proofs.TreeTexts.{items_texts, open_texts, is_some_texts, has_items_texts, with_items_texts, whole_document_found}
use Rattle.macho_stub.proofs.TreesRead.{read_lines}
use Rattle.macho_stub.proofs.TreesFound.{first_line, front_lines, skipped_found, items_found}
use Rattle.macho_stub_lines.proofs.ScalarTrees.{scalar_found}
use Rattle.macho_stub_lines.proofs.NumberTrees.{number_found}
use Rattle.macho_stub_lines.proofs.EntryTrees.{entry_found}
use Rattle.macho_stub_lines.proofs.ListTrees.{list_found}

-- ---- entries

-- the value of a key with what stands under it, in front of what is left
record FoundUnder (key : TopKey) (number at : ℕ) (tree : EntryTree) (lines : List Line) (rest : List ReadLine)
    (old : OpenDocumentOf Slice) (new : OpenDocumentFields) : Type 0 where
  under : Under
  left : List Line
  parts : lines ≡ under_then under left
  same : read_lines left ≡ rest
  after : OpenDocumentOf Slice
  is : TopValue key (record { number = number; at = at; entry = tree; under = under }) old after
  texts : open_texts after ≡ new

-- nothing stands under a key
nothing_under : (lines : List Line) (under : read.Under) (rest : List ReadLine) → under ≡ read.Plain []
    → read_lines lines ≡ read.under_then under rest → read_lines lines ≡ rest
nothing_under lines under rest e l = l ∙ ap (λ u. read.under_then u rest) e

under_found : (key : TopKey) (number at : ℕ) (tree : EntryTree) (under : read.Under) (lines : List Line) (rest : List ReadLine)
    (old : OpenDocumentOf Slice) (new : OpenDocumentFields)
    → read.TopValue key (value_of tree) (record { number = number; head = entry_bytes tree; under = under }) (open_texts old) new
    → read_lines lines ≡ read.under_then under rest → FoundUnder key number at tree lines rest old new
under_found top.Version number at tree under lines rest old new v l =
    let n = number_found number (value_at at tree) (value_of tree) v.2 v.3 in
    record {
      under = Lines [];
      left = lines;
      parts = refl;
      same = nothing_under lines under rest v.1 l;
      after = record old { version = Some n.0 };
      is = (sym (is_some_texts (λ s. s.text) old.version) ∙ v.0, refl, n.0, n.1, refl);
      texts = ap (λ t. record (open_texts old) { version = Some t }) n.2 ∙ sym v.4;
    }
under_found top.Targets number at tree (read.Plain more) lines rest old new v l =
    let m = front_lines lines more rest l in
    let L : List ReadLine → Type 0 = λ front. IsReadList number (value_of tree) front v.1 in
    let n = list_found number (value_at at tree) (value_of tree) m.more v.1 (subst L (sym m.are) v.2) in
    record {
      under = Lines m.more;
      left = m.left;
      parts = m.parts;
      same = m.same;
      after = record old { targets = Some n.0 };
      is = (sym (is_some_texts texts_of old.targets) ∙ v.0, n.0, n.1, refl);
      texts = ap (λ t. record (open_texts old) { targets = Some t }) n.2 ∙ sym v.3;
    }
under_found top.Targets number at tree (read.Listed dash_column trees) lines rest old new v l = absurd v.2
under_found top.InstallName number at tree under lines rest old new v l =
    let n = scalar_found number (value_at at tree) (value_of tree) v.2 v.3 in
    record {
      under = Lines [];
      left = lines;
      parts = refl;
      same = nothing_under lines under rest v.1 l;
      after = record old { install_name = Some n.0 };
      is = (sym (is_some_texts (λ s. s.text) old.install_name) ∙ v.0, refl, n.0, n.1, refl);
      texts = ap (λ t. record (open_texts old) { install_name = Some t }) n.2 ∙ sym v.4;
    }
under_found top.CurrentVersion number at tree under lines rest old new v l =
    let n = scalar_found number (value_at at tree) (value_of tree) v.2 v.3 in
    record {
      under = Lines [];
      left = lines;
      parts = refl;
      same = nothing_under lines under rest v.1 l;
      after = record old { current_version = Some n.0 };
      is = (sym (is_some_texts (λ s. s.text) old.current_version) ∙ v.0, refl, n.0, n.1, refl);
      texts = ap (λ t. record (open_texts old) { current_version = Some t }) n.2 ∙ sym v.4;
    }
under_found (top.Items kind) number at tree (read.Plain more) lines rest old new v l = absurd v.3
under_found (top.Items kind) number at tree (read.Listed dash_column []) lines rest old new v l = absurd v.3
under_found (top.Items kind) number at tree (read.Listed dash_column (one ∷ others)) lines rest old new v l =
    let i = items_found old.line kind dash_column (one ∷ others) v.2 lines rest v.3 l in
    record {
      under = Listed dash_column i.trees;
      left = i.left;
      parts = i.parts;
      same = i.same;
      after = with_items kind i.says old;
      is = (
        sym (has_items_texts kind old) ∙ v.0,
        nil_from_length (value_of tree) v.1,
        i.says,
        some_items i.trees i.says i.are_items i.are,
        refl,
      );
      texts = with_items_texts kind i.says old ∙ ap (λ items. with_items kind items (open_texts old)) i.are ∙ sym v.4;
    }
  where
    -- there is an item, since one is read
    some_items : (trees : List ItemTree) (says : List (ItemOf Slice)) → AreItems kind dash_column trees says → items_texts says ≡ v.2
        → AreItemsUnder kind (Listed dash_column trees) says
    some_items [] [] a e =
        let R : List ItemFields → Type 0 = λ texts. read.AreItems old.line kind dash_column (one ∷ others) texts in
        absurd (subst R (sym e) v.3)
    some_items [] (first ∷ says) a e = absurd a
    some_items (tree ∷ trees) says a e = a
under_found top.Unread number at tree (read.Plain more) lines rest old new v l =
    let m = front_lines lines more rest l in
    let S : List ReadLine → Type 0 = λ front. read.IsSkipped belongs_to_top number (value_of tree) front in
    record {
      under = Lines m.more;
      left = m.left;
      parts = m.parts;
      same = m.same;
      after = old;
      is = (skipped_found belongs_to_top number (value_at at tree) (value_of tree) m.more (subst S (sym m.are) v.0), refl);
      texts = sym v.1;
    }
under_found top.Unread number at tree (read.Listed dash_column trees) lines rest old new v l = absurd v.0

-- the entries of a document, in front of what is left
record FoundTopEntries (lines : List Line) (rest : List ReadLine) (old : OpenDocumentOf Slice) (new : OpenDocumentFields) : Type 0 where
  entries : List TopEntry
  left : List Line
  parts : lines ≡ top_entries_then entries left
  same : read_lines left ≡ rest
  after : OpenDocumentOf Slice
  are : TopEntries entries old after
  texts : open_texts after ≡ new

top_entries_found : (entries : List read.TopEntry) (from new : OpenDocumentFields) (old : OpenDocumentOf Slice) (lines : List Line)
    (rest : List ReadLine) → open_texts old ≡ from → read.TopEntries entries from new
    → read_lines lines ≡ read.top_entries_then entries rest → FoundTopEntries lines rest old new
top_entries_found [] from new old lines rest o e l =
    record { entries = []; left = lines; parts = refl; same = l; after = old; are = refl; texts = o ∙ sym e }
top_entries_found (one ∷ others) from new old lines rest o e l =
    let f = first_line lines (record { number = one.number; text = one.head })
    (read.under_then one.under (read.top_entries_then others rest)) l in
    let t = entry_found one.number one.head e.1.said e.1.key in
    let V : TopKey → List ℕ → ℕ → List ℕ → OpenDocumentFields → Type 0 = λ key value n h d. read.TopValue key value
    (record { number = n; head = h; under = one.under }) d e.0 in
    let by_key = subst (λ key. V (top_key key) e.1.said.value one.number one.head from) t.3 e.1.value in
    let by_value = subst (λ value. V (top_key t.0.key) value one.number one.head from) t.4 by_key in
    let by_number = subst (λ n. V (top_key t.0.key) (value_of t.0) n one.head from) (sym f.number) by_value in
    let by_head = subst (λ h. V (top_key t.0.key) (value_of t.0) f.line.number h from) t.2 by_number in
    let by_old = subst (λ d. V (top_key t.0.key) (value_of t.0) f.line.number (entry_bytes t.0) d) (sym o) by_head in
    let u = under_found (top_key t.0.key) f.line.number f.line.at t.0 one.under f.left (read.top_entries_then others rest) old e.0
    by_old f.same in
    let r = top_entries_found others e.0 new u.after u.left rest u.texts e.2 u.same in
    let entry : TopEntry = record { number = f.line.number; at = f.line.at; entry = t.0; under = u.under } in
    let L : List ℕ → List Line → List Line = λ text more. record { number = f.line.number; at = f.line.at; text = text } ∷ more in
    record {
      entries = entry ∷ r.entries;
      left = r.left;
      parts = f.parts ∙ ap (λ (left : List Line). f.line ∷ left) (u.parts ∙ ap (under_then u.under) r.parts)
          ∙ ap (λ text. L text (under_then u.under (top_entries_then r.entries r.left))) (f.text ∙ t.2);
      same = r.same;
      after = r.after;
      are = (u.after, record { entry = t.1; value = u.is }, r.are);
      texts = r.texts;
    }

-- ---- documents

-- the end of a document, in front of what is left
record FoundEnd (lines : List Line) (rest : List ReadLine) : Type 0 where
  ended : Option (ℕ × ℕ)
  left : List Line
  parts : lines ≡ end_then ended left
  same : read_lines left ≡ rest

end_found : (ended : Option ℕ) (lines : List Line) (rest : List ReadLine) → read_lines lines ≡ read.end_then ended rest
    → FoundEnd lines rest
end_found None lines rest l = record { ended = None; left = lines; parts = refl; same = l }
end_found (Some number) lines rest l =
    let f = first_line lines (record { number = number; text = end }) rest l in
    let L : List ℕ → List Line = λ text. record { number = f.line.number; at = f.line.at; text = text } ∷ f.left in
    record { ended = Some (f.line.number, f.line.at); left = f.left; parts = f.parts ∙ ap L f.text; same = f.same }

-- documents that are read
pub record FoundDocuments (lines : List Line) (texts : List DocumentFields) : Type 0 where
  pub trees : List DocumentTree
  pub parts : lines ≡ documents_then trees
  pub says : List (DocumentOf Slice)
  pub are_documents : AreDocuments trees says
  pub are : documents_texts says ≡ texts

-- Documents that are read are documents of the grammar.
pub documents_found : (trees : List read.DocumentTree) (texts : List DocumentFields) (lines : List Line)
    → read.AreDocuments trees texts → read_lines lines ≡ read.documents_then trees → FoundDocuments lines texts
documents_found [] [] lines a l = record { trees = []; parts = no_lines lines l; says = []; are_documents = tt; are = refl }
  where
    no_lines : (lines : List Line) → read_lines lines ≡ [] → lines ≡ []
    no_lines [] e = refl
    no_lines (line ∷ lines) e = absurd cc
documents_found [] (one ∷ texts) lines a l = absurd a
documents_found (tree ∷ trees) [] lines a l = absurd a
documents_found (tree ∷ trees) (one ∷ texts) lines a l =
    let f = first_line lines (record { number = tree.number; text = head })
    (read.top_entries_then tree.entries (read.end_then tree.ended_at (read.documents_then trees))) l in
    let E : ℕ → Type 0 = λ n. read.TopEntries tree.entries (head_at n) a.0.read in
    let e = top_entries_found tree.entries (head_at f.line.number) a.0.read (head_at f.line.number) f.left
    (read.end_then tree.ended_at (read.documents_then trees)) refl (subst E (sym f.number) a.0.entries) f.same in
    let d = end_found tree.ended_at e.left (read.documents_then trees) e.same in
    let r = documents_found trees texts d.left a.1 d.same in
    let w = whole_document_found e.after one (ap whole_document e.texts ∙ a.0.whole) in
    let L : List ℕ → List Line → List Line = λ text more. record { number = f.line.number; at = f.line.at; text = text } ∷ more in
    record {
      trees = record { number = f.line.number; at = f.line.at; entries = e.entries; ended = d.ended } ∷ r.trees;
      parts = f.parts ∙ ap (λ (left : List Line). f.line ∷ left)
          (e.parts ∙ ap (top_entries_then e.entries) (d.parts ∙ ap (end_then d.ended) r.parts))
          ∙ ap (λ text. L text (top_entries_then e.entries (end_then d.ended (documents_then r.trees)))) f.text;
      says = w.says ∷ r.says;
      are_documents = (record { read = e.after; entries = e.are; whole = w.whole }, r.are_documents);
      are = ap (λ (first : DocumentFields). first ∷ documents_texts r.says) w.are ∙ ap (λ (all : List DocumentFields). one ∷ all) r.are;
    }
