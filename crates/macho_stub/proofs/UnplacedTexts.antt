-- Documents by their lines alone, and with places: as for items (`UnplacedItems`), and so for all lines of a text.
-- The lines of documents are told with their numbers. So where numbered lines are spelled by documents without places, lines with these
-- numbers, wherever they stand, are spelled by documents with places.
use Rattle.std.proofs.Common.{◌≡◌, ℕ, ◌+◌, Bool, true, false, cond, not, List, [], ◌∷◌, ◌++◌, map, take, drop, Option, Some, None, refl, sym, ap, ◌∙◌, subst}
use Rattle.std.proofs.lemmas.List.{map-append}
use Rattle.std.specs.Prelude.{codes}
use Rattle.std.specs.List.{AllByRecursion, AllZip, filter, flat_map, enumerate_from}
use Rattle.macho_stub_lines.specs.declared.keys.ItemKind.{ItemKind}
use Rattle.macho_stub_lines.specs.declared.keys.ItemKind.TheVariants.{Libraries, Exports, Reexports}
use Rattle.macho_stub_lines.specs.Bytes.{is_passed, has_barred, head, end}
use Rattle.macho_stub_lines.specs.Slices.{Slice, Line, texts_of, content_of}
use Rattle.macho_stub_lines.specs.Values.{IsScalar, IsNumber}
use Rattle.macho_stub_lines.proofs.Unplaced.{line_texts}
use Rattle.macho_stub_lines.proofs.Runs.{all_made, all_made_of}
use Rattle.macho_stub.specs.Documents.{ItemOf, ItemFields, item_texts, DocumentOf, DocumentFields, document_texts, documents_texts}
use Rattle.macho_stub.specs.Grammar.{entry_lines, IsEntryOf, SaysUnder, IsFlowList, SaysText, SaysItems, IsDocument, IsStubLines}
use Rattle.macho_stub.specs.Places.{document_keys, DocumentTree, entries_then, end_then, documents_then, no_text}
use Rattle.macho_stub.specs.Places as old
use Rattle.macho_stub.proofs.UnderItems.{entries_front}
use Rattle.macho_stub.proofs.UnplacedEntries.{Cut, cut, forget, Sound, entries_lines, entries_placed, each_sound, each_forth, each_back, says_forth, says_back, must, some_none, list_forth, list_back}
use Rattle.macho_stub.proofs.UnplacedItems.{number_forth, number_back, scalar_forth, scalar_back, items_forth, items_back}

-- a line by its number and its text
abbrev pub numbered : Line → ℕ × List ℕ
numbered line = (line.number, line.text)

abbrev pub numbered_lines : List Line → List (ℕ × List ℕ)
numbered_lines lines = map numbered lines

their_texts : (lines : List Line) → map (λ (line : ℕ × List ℕ). line.1) (numbered_lines lines) ≡ line_texts lines
their_texts [] = refl
their_texts (line ∷ lines) = ap (λ (m : List (List ℕ)). line.text ∷ m) (their_texts lines)

-- ---- what a document says

no_items_forth : (x : List (ItemOf Slice)) → Some [] ≡ Some x → Some [] ≡ Some (map item_texts x)
no_items_forth x e = let is : [] ≡ x = cc in ap (λ (l : List (ItemOf Slice)). Some (map item_texts l)) is

no_items : (y : List ItemFields) → Some [] ≡ Some y → (x : List (ItemOf Slice)) × (Some [] ≡ Some x) × (map item_texts x ≡ y)
no_items y e = ([], refl, cc)

no_text_forth : (x : Slice) → Some no_text ≡ Some x → Some [] ≡ Some x.text
no_text_forth x e = let is : no_text ≡ x = cc in ap (λ (s : Slice). Some s.text) is

no_text_back : (y : List ℕ) → Some [] ≡ Some y → (x : Slice) × (Some no_text ≡ Some x) × (x.text ≡ y)
no_text_back y e = (no_text, refl, cc)

abbrev Items : Type 0
Items = List (ItemOf Slice)

under_forth : (key : List ℕ) (kind : ItemKind) (says : Items) (entries : List old.Entry) → AllByRecursion Sound entries
    → old.SaysUnder key (Some []) (old.SaysItems kind) entries says
    → SaysUnder key (Some []) (SaysItems kind) (map forget entries) (map item_texts says)
under_forth key kind says entries sound = says_forth key (Some []) (Some []) (old.SaysItems kind) (SaysItems kind) says
    (map item_texts says) (no_items_forth says) (items_forth kind says) entries sound

under_back : (key : List ℕ) (kind : ItemKind) (items : List ItemFields) (entries : List old.Entry) → AllByRecursion Sound entries
    → SaysUnder key (Some []) (SaysItems kind) (map forget entries) items
    → (says : Items) × old.SaysUnder key (Some []) (old.SaysItems kind) entries says × (map item_texts says ≡ items)
under_back key kind items entries sound =
    says_back key (Some []) (Some []) (old.SaysItems kind) (SaysItems kind) (λ says. map item_texts says)
    items (no_items items) (items_back kind items) entries sound

-- ---- lines of documents

abbrev head_line : DocumentTree → Line
head_line tree = record { number = tree.number; at = tree.at; text = head }

abbrev body_of : DocumentTree → List Line
body_of tree = entries_then 0 tree.entries (end_then tree.ended [])

end_front : (ended : Option (ℕ × ℕ)) (rest : List Line) → end_then ended rest ≡ end_then ended [] ++ rest
end_front None rest = refl
end_front (Some line) rest = refl

-- a document's lines in front of others
document_front : (tree : DocumentTree) (rest : List Line) → entries_then 0 tree.entries (end_then tree.ended rest) ≡ body_of tree ++ rest
document_front tree rest =
    ap (entries_then 0 tree.entries) (end_front tree.ended rest) ∙ entries_front 0 tree.entries (end_then tree.ended []) rest

abbrev document_lines : DocumentTree → List (ℕ × List ℕ)
document_lines tree = (tree.number, head) ∷ numbered_lines (body_of tree)

documents_lines : (trees : List DocumentTree)
    → numbered_lines (documents_then trees) ≡ flat_map (λ part. part) (map document_lines trees)
documents_lines [] = refl
documents_lines (tree ∷ trees) =
    ap (λ (m : List (ℕ × List ℕ)). (tree.number, head) ∷ m) (ap numbered_lines (document_front tree (documents_then trees))
    ∙ map-append numbered (body_of tree) (documents_then trees)
    ∙ ap (λ (m : List (ℕ × List ℕ)). numbered_lines (body_of tree) ++ m) (documents_lines trees))

abbrev has_end : Option (ℕ × ℕ) → Bool
has_end None = false
has_end (Some line) = true

end_texts : (ended : Option (ℕ × ℕ)) → line_texts (end_then ended []) ≡ cond (has_end ended) (end ∷ []) []
end_texts None = refl
end_texts (Some line) = refl

-- ---- documents without places

document_forth : (tree : DocumentTree) (says : DocumentOf Slice) → old.IsDocument tree says
    → IsDocument (document_lines tree) (document_texts says)
document_forth tree says d =
    let sound = each_sound document_keys 0 tree.entries d.each in
    let entries = map forget tree.entries in
    record {
      begins = ap (λ (n : ℕ). (n, head) ∷ []) (sym d.line);
      entries = entries;
      ended = has_end tree.ended;
      spelled = their_texts (body_of tree) ∙ entries_lines 0 tree.entries (end_then tree.ended [])
          ∙ ap (λ (m : List (List ℕ)). flat_map (entry_lines []) entries ++ m) (end_texts tree.ended);
      each = each_forth document_keys 0 tree.entries d.each;
      version = says_forth (codes "tbd-version") None None old.SaysNumber (SaysText IsNumber) says.version says.version.text
          (some_none says.version says.version.text) (number_forth says.version) tree.entries sound d.version;
      targets = says_forth (codes "targets") None None (old.SaysNames 0) IsFlowList says.targets (texts_of says.targets)
          (some_none says.targets (texts_of says.targets)) (list_forth 0 says.targets) tree.entries sound d.targets;
      install_name = says_forth (codes "install-name") None None old.SaysScalar (SaysText IsScalar) says.install_name
          says.install_name.text (some_none says.install_name says.install_name.text) (scalar_forth says.install_name) tree.entries
          sound d.install_name;
      current_version = says_forth (codes "current-version") (Some no_text) (Some []) old.SaysScalar (SaysText IsScalar)
          says.current_version says.current_version.text (no_text_forth says.current_version) (scalar_forth says.current_version)
          tree.entries sound d.current_version;
      libraries = under_forth (codes "reexported-libraries") Libraries says.libraries tree.entries sound d.libraries;
      exports = under_forth (codes "exports") Exports says.exports tree.entries sound d.exports;
      reexports = under_forth (codes "reexports") Reexports says.reexports tree.entries sound d.reexports;
    }

documents_forth : (trees : List DocumentTree) (says : List (DocumentOf Slice)) → AllZip old.IsDocument trees says
    → AllZip IsDocument (map document_lines trees) (documents_texts says)
documents_forth [] [] z = tt
documents_forth [] (one ∷ says) z = absurd z
documents_forth (tree ∷ trees) [] z = absurd z
documents_forth (tree ∷ trees) (one ∷ says) z = (document_forth tree one z.0, documents_forth trees says z.1)

-- ---- documents with places

record EndPlaced (lines : List Line) : Type 0 where
  ended : Option (ℕ × ℕ)
  is : lines ≡ end_then ended []

end_placed : (ended : Bool) (lines : List Line) → line_texts lines ≡ cond ended (end ∷ []) [] → EndPlaced lines
end_placed false [] e = record { ended = None; is = refl }
end_placed false (line ∷ lines) e = absurd cc
end_placed true [] e = absurd cc
end_placed true (line ∷ []) e =
    let text : line.text ≡ end = cc in
    record {
      ended = Some (line.number, line.at);
      is = ap (λ (t : List ℕ). (record { number = line.number; at = line.at; text = t }) ∷ []) text;
    }
end_placed true (line ∷ other ∷ lines) e = absurd cc

record DocumentPlaced (document : DocumentFields) (lines : List Line) (rest : List (ℕ × List ℕ)) : Type 0 where
  tree : DocumentTree
  left : List Line
  parts : lines ≡ head_line tree ∷ (body_of tree ++ left)
  same : numbered_lines left ≡ rest
  says : DocumentOf Slice
  is : old.IsDocument tree says
  are : document_texts says ≡ document

first_line : (part : List (ℕ × List ℕ)) (line : ℕ × List ℕ) → take 1 part ≡ line ∷ [] → part ≡ line ∷ drop 1 part
first_line [] line e = absurd cc
first_line (other ∷ part) line e = let same : other ≡ line = cc in ap (λ (l : ℕ × List ℕ). l ∷ part) same

document_placed : (part : List (ℕ × List ℕ)) (document : DocumentFields) → IsDocument part document → (lines : List Line)
    → (rest : List (ℕ × List ℕ)) → numbered_lines lines ≡ part ++ rest → DocumentPlaced document lines rest
document_placed part document d lines rest e =
    by_cut (cut numbered lines ((document.line, head) ∷ drop 1 part) rest
    (e ∙ ap (λ (p : List (ℕ × List ℕ)). p ++ rest) (first_line part (document.line, head) d.begins)))
  where
    says_of : (number at : ℕ) (entries : List old.Entry) (ended : Option (ℕ × ℕ)) → number ≡ document.line → AllByRecursion Sound entries
        → map forget entries ≡ d.entries → (says : DocumentOf Slice)
        × old.IsDocument (record { number = number; at = at; entries = entries; ended = ended }) says × (document_texts says ≡ document)
    says_of number at entries ended n sound are =
        let back = sym are in
        let v = says_back (codes "tbd-version") None None old.SaysNumber (SaysText IsNumber) (λ s. s.text) document.version
        (must (λ s. s.text) document.version) (number_back document.version) entries sound
        (subst (λ es. SaysUnder (codes "tbd-version") None (SaysText IsNumber) es document.version) back d.version) in
        let t = says_back (codes "targets") None None (old.SaysNames 0) IsFlowList texts_of document.targets
        (must texts_of document.targets) (list_back 0 document.targets) entries sound
        (subst (λ es. SaysUnder (codes "targets") None IsFlowList es document.targets) back d.targets) in
        let i = says_back (codes "install-name") None None old.SaysScalar (SaysText IsScalar) (λ s. s.text) document.install_name
        (must (λ s. s.text) document.install_name) (scalar_back document.install_name) entries sound
        (subst (λ es. SaysUnder (codes "install-name") None (SaysText IsScalar) es document.install_name) back d.install_name) in
        let c = says_back (codes "current-version") (Some no_text) (Some []) old.SaysScalar (SaysText IsScalar) (λ s. s.text)
        document.current_version (no_text_back document.current_version) (scalar_back document.current_version) entries sound
        (subst (λ es. SaysUnder (codes "current-version") (Some []) (SaysText IsScalar) es document.current_version) back
        d.current_version) in
        let l = under_back (codes "reexported-libraries") Libraries document.libraries entries sound
        (subst (λ es. SaysUnder (codes "reexported-libraries") (Some []) (SaysItems Libraries) es document.libraries) back d.libraries) in
        let x = under_back (codes "exports") Exports document.exports entries sound
        (subst (λ es. SaysUnder (codes "exports") (Some []) (SaysItems Exports) es document.exports) back d.exports) in
        let r = under_back (codes "reexports") Reexports document.reexports entries sound
        (subst (λ es. SaysUnder (codes "reexports") (Some []) (SaysItems Reexports) es document.reexports) back d.reexports) in (
          record {
            line = number;
            version = v.0;
            targets = t.0;
            install_name = i.0;
            current_version = c.0;
            libraries = l.0;
            exports = x.0;
            reexports = r.0;
          },
          record {
            line = refl;
            each = each_back document_keys 0 entries sound (subst (AllByRecursion (IsEntryOf document_keys 0)) back d.each);
            version = v.1;
            targets = t.1;
            install_name = i.1;
            current_version = c.1;
            libraries = l.1;
            exports = x.1;
            reexports = r.1;
          },
          made n v.2 t.2 i.2 c.2 l.2 x.2 r.2,
        )
      where
        made : {n : ℕ} {v i c : List ℕ} {t : List (List ℕ)} {l x r : List ItemFields} → n ≡ document.line → v ≡ document.version
            → t ≡ document.targets → i ≡ document.install_name → c ≡ document.current_version → l ≡ document.libraries
            → x ≡ document.exports → r ≡ document.reexports
            → (record {
              line = n;
              version = v;
              targets = t;
              install_name = i;
              current_version = c;
              libraries = l;
              exports = x;
              reexports = r;
            }) ≡ document
        made p1 p2 p3 p4 p5 p6 p7 p8 = rw (p1, p2, p3, p4, p5, p6, p7, p8) refl

    by_body : (line : Line) (others left : List Line) → lines ≡ line ∷ (others ++ left) → line.number ≡ document.line → line.text ≡ head
        → numbered_lines others ≡ drop 1 part → numbered_lines left ≡ rest → DocumentPlaced document lines rest
    by_body line others left parts n text body same =
        let b = entries_placed document_keys 0 d.entries d.each others (cond d.ended (end ∷ []) [])
        (sym (their_texts others) ∙ ap (λ (m : List (ℕ × List ℕ)). map (λ (l : ℕ × List ℕ). l.1) m) body ∙ d.spelled) in
        let f = end_placed d.ended b.left b.same in
        let s = says_of line.number line.at b.olds f.ended n b.sound b.are in
        let L : List ℕ → List Line → List Line = λ t more. record { number = line.number; at = line.at; text = t } ∷ more in
        record {
          tree = record { number = line.number; at = line.at; entries = b.olds; ended = f.ended };
          left = left;
          parts = parts ∙ ap (λ (m : List Line). line ∷ (m ++ left)) (b.parts ∙ ap (entries_then 0 b.olds) f.is)
              ∙ ap (λ t. L t (entries_then 0 b.olds (end_then f.ended []) ++ left)) text;
          same = same;
          says = s.0;
          is = s.1;
          are = s.2;
        }

    by_cut : Cut numbered lines ((document.line, head) ∷ drop 1 part) rest → DocumentPlaced document lines rest
    by_cut c = by c.more c.parts c.are
      where
        by : (more : List Line) → lines ≡ more ++ c.left → numbered_lines more ≡ (document.line, head) ∷ drop 1 part
            → DocumentPlaced document lines rest
        by [] parts are = absurd cc
        by (line ∷ others) parts are =
            let here : numbered line ≡ (document.line, head) = cc in
            by_body line others c.left parts (ap (λ (p : ℕ × List ℕ). p.0) here) (ap (λ (p : ℕ × List ℕ). p.1) here) (cc) c.same

record DocumentsPlaced (documents : List DocumentFields) (lines : List Line) : Type 0 where
  trees : List DocumentTree
  parts : lines ≡ documents_then trees
  says : List (DocumentOf Slice)
  is : AllZip old.IsDocument trees says
  are : documents_texts says ≡ documents

documents_placed : (parts : List (List (ℕ × List ℕ))) (documents : List DocumentFields) → AllZip IsDocument parts documents
    → (lines : List Line) → numbered_lines lines ≡ flat_map (λ part. part) parts → DocumentsPlaced documents lines
documents_placed [] [] z [] e = record { trees = []; parts = refl; says = []; is = tt; are = refl }
documents_placed [] [] z (line ∷ lines) e = absurd cc
documents_placed [] (document ∷ documents) z lines e = absurd z
documents_placed (part ∷ parts) [] z lines e = absurd z
documents_placed (part ∷ parts) (document ∷ documents) z lines e =
    let d = document_placed part document z.0 lines (flat_map (λ p. p) parts) e in
    let r = documents_placed parts documents z.1 d.left d.same in
    record {
      trees = d.tree ∷ r.trees;
      parts = d.parts ∙ ap (λ (m : List Line). head_line d.tree ∷ m)
          (sym (document_front d.tree d.left) ∙ ap (λ (m : List Line). entries_then 0 d.tree.entries (end_then d.tree.ended m)) r.parts);
      says = d.says ∷ r.says;
      is = (d.is, r.is);
      are = ap (λ (x : DocumentFields). x ∷ documents_texts r.says) d.are ∙ ap (λ (xs : List DocumentFields). document ∷ xs) r.are;
    }

-- ---- all lines

-- The lines, which have places, are documents with places that say this.
pub record IsPlaced (lines : List Line) (says : List (DocumentOf Slice)) : Type 0 where
  pub clean : AllByRecursion (λ line. has_barred line.text ≡ false) lines
  pub trees : List DocumentTree
  pub lines_of : content_of lines ≡ documents_then trees
  pub documents : AllZip old.IsDocument trees says

-- lines are numbered from this number on
abbrev pub AreNumbered : ℕ → List Line → Type 0
AreNumbered number [] = Unit {0}
AreNumbered number (line ∷ more) = (line.number ≡ number) × AreNumbered (number + 1) more

content_numbered : (number : ℕ) (lines : List Line) → AreNumbered number lines → numbered_lines (content_of lines)
    ≡ filter (λ (line : ℕ × List ℕ). not (is_passed line.1)) (enumerate_from number (line_texts lines))
content_numbered number [] n = refl
content_numbered number (line ∷ more) n = by (content_numbered (number + 1) more n.1) (is_passed line.text)
  where
    behind : List (ℕ × List ℕ)
    behind = filter (λ (line : ℕ × List ℕ). not (is_passed line.1)) (enumerate_from (number + 1) (line_texts more))

    by : numbered_lines (content_of more) ≡ behind → (t : Bool) → numbered_lines (cond t (content_of more) (line ∷ content_of more))
        ≡ cond (not t) ((number, line.text) ∷ behind) behind
    by e true = e
    by e false = ap (λ (k : ℕ). (k, line.text) ∷ numbered_lines (content_of more)) n.0
        ∙ ap (λ (m : List (ℕ × List ℕ)). (number, line.text) ∷ m) e

abbrev IsClean : List ℕ → Type 0
IsClean line = has_barred line ≡ false

-- what lines with places say, they say without
pub placed_forth : (lines : List Line) (says : List (DocumentOf Slice)) → AreNumbered 1 lines → IsPlaced lines says
    → IsStubLines (line_texts lines) (documents_texts says)
placed_forth lines says n p = record {
  clean = all_made IsClean (λ (line : Line). line.text) lines p.clean;
  parts = map document_lines p.trees;
  content = sym (content_numbered 1 lines n) ∙ ap numbered_lines p.lines_of ∙ documents_lines p.trees;
  documents = documents_forth p.trees says p.documents;
}

-- and what they say without, they say with them
pub placed_back : (lines : List Line) (texts : List DocumentFields) → AreNumbered 1 lines → IsStubLines (line_texts lines) texts
    → (says : List (DocumentOf Slice)) × IsPlaced lines says × (documents_texts says ≡ texts)
placed_back lines texts n s =
    let d = documents_placed s.parts texts s.documents (content_of lines) (content_numbered 1 lines n ∙ s.content) in (
      d.says,
      record {
        clean = all_made_of IsClean (λ (line : Line). line.text) lines s.clean;
        trees = d.trees;
        lines_of = d.parts;
        documents = d.is;
      },
      d.are,
    )
