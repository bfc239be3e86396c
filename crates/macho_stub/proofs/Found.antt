-- What is read is in the grammar. From the last line backwards: if the lines that follow a line finish the text
-- from where it leaves the reading (`Rest`), then the line and they finish it from where the line finds it.
-- At the end of the text nothing is left, and what is open there is whole. A line is one of an item, of a document or of a
-- flow list, or belongs to a skipped value; by the way that its tests went, it is put in front of the trees that follow. The
-- trees at the first line are those of the text (`lines_found`).
use Rattle.std.proofs.Common.{◌≡◌, ℕ, ◌+◌, ◌&&◌, Bool, false, cond, eqb, List, [], ◌∷◌, ◌++◌, replicate, Option, Some, None, Ok, refl, sym, ap, ◌∙◌, inl, inr, subst, append_assoc}
use Rattle.std.proofs.lemmas.Bool.{and_parts}
use Rattle.std.specs.List.{AllByRecursion}
use Rattle.std.specs.Str.{bytes_eq}
use Rattle.std.specs.Str.Lines.{lines}
use Rattle.std.proofs.lemmas.List.{append-nil}
use Rattle.macho_stub_lines.specs.declared.fault.StubRule.TheVariants.{S1}
use Rattle.macho_stub_lines.specs.Bytes.{space, indent, unspaced, is_passed, has_barred, has_dash, head, end}
use Rattle.macho_stub_lines.specs.Faults.{Reading, ◌>>=◌, outside}
use Rattle.macho_stub.specs.Documents.{ItemFields, DocumentFields}
use Rattle.macho_stub.specs.steps.Opened.{OpenDocumentFields, head_at, with_items}
use Rattle.macho_stub.specs.steps.Whole.{whole_item, whole_document}
use Rattle.macho_stub.specs.steps.Reader.{ItemListFields, ModeFields, Keys, Skipped, Names, NoItem, InsideFields, PlaceFields, Outside, Within, StateFields, stays, within, with_whole, items_with_last, item_line, item_key_line, first_line, names_line, key_line, belongs, inside_line, content_line, line_step, ended_document, ended_inside, ended, lines_from, start, documents_of}
use Rattle.macho_stub_lines.specs.ReadLists.{ReadLine}
use Rattle.macho_stub.proofs.Readings.{content_from, IsReadLines, IsReadText, items_then, AreItems, AreDocuments}
use Rattle.macho_stub_lines.proofs.Bind.{bind_ok, chosen, not_broken, not_broken_else, same_ok, no_ok, eq_at, other_bytes}
use Rattle.macho_stub.proofs.Rest.{run, RestTop, RestItem, RestKeys, RestMode, RestInside, Rest}
use Rattle.macho_stub.proofs.Spelled.{spelled_unspaced}
use Rattle.macho_stub.proofs.FoundEntries.{names_line_rest}
use Rattle.macho_stub.proofs.FoundItems.{item_key_line_rest, first_line_rest}
use Rattle.macho_stub.proofs.FoundTop.{top_line_rest, document_in_front}
use Rattle.macho_stub.proofs.Branches.{inside_of_document, then_first, then_top}
use Rattle.macho_bytes.proofs.Comparing.{same_bytes}

-- a reading inside a document that did not fail
within_ok : (before : List DocumentFields) (reading : Reading InsideFields) (next : StateFields) (rest : List ReadLine)
    (total : List DocumentFields)
    → within before reading ≡ Ok next → Rest next.documents next.place rest total → (inside : InsideFields) × (reading ≡ Ok inside)
    × RestInside before inside rest total
within_ok before reading next rest total e h =
    let H : StateFields → Type 0 = λ s. Rest s.documents s.place rest total in
    let b = bind_ok reading (inside_of_document before) next e in
    (b.0, b.1, subst H (sym (same_ok _ _ b.2)) h)

-- the last item of a list as a whole, and then other lines
record LastItem (before : List DocumentFields) (document : OpenDocumentFields) (list : ItemListFields) (items : List ItemFields) : Type 0
  where
    one : ItemFields
    is_whole : whole_item document.line list.kind list.item ≡ Ok one
    are : list.items ++ one ∷ [] ≡ items

last_item : (before : List DocumentFields) (document : OpenDocumentFields) (list : ItemListFields) (items : List ItemFields)
    → items_with_last document.line list ≡ Ok items → LastItem before document list items
unfolding items_with_last
last_item before document list items e =
    let b = bind_ok (whole_item document.line list.kind list.item) (λ item. Ok (list.items ++ item ∷ [])) items e in
    record { one = b.0; is_whole = b.1; are = same_ok _ _ b.2 }

-- a line behind the keys of an item
item_line_rest : (before : List DocumentFields) (document : OpenDocumentFields) (list : ItemListFields) (line : ℕ) (text : List ℕ)
    (next : StateFields) (rest : List ReadLine) (total : List DocumentFields)
    → item_line before document list line text ≡ Ok next → Rest next.documents next.place rest total
    → RestItem before document list (record { number = line; text = text } ∷ rest) total
unfolding item_line
item_line_rest before document list line text next rest total e h =
    let by_dash = items_with_last document.line list >>= then_first before document list.kind line text in
    let by_top = items_with_last document.line list >>= then_top before document list.kind line text in
    let by_key = cond (eqb (indent text) list.column) (within before (item_key_line document list line (unspaced text))) (outside line) in
    elim (chosen (has_dash text && eqb (indent text) list.dash) by_dash (cond (eqb (indent text) 0) by_top by_key) (Ok next) e) [
      | inl b ↦
          let i = bind_ok (items_with_last document.line list) (then_first before document list.kind line text) next b.1 in
          let last = last_item before document list i.0 i.1 in
          let w = within_ok before (first_line document list.kind i.0 line text) next rest total i.2 h in
          let r = first_line_rest before document list.kind i.0 line text w.0 rest total w.1 w.2 in
          let at : indent text ≡ list.dash = eq_at _ _ (and_parts _ _ b.0).1 in
          let R : ℕ → Type 0 = λ d. AreItems document.line list.kind d (r.tree ∷ r.trees) (r.one ∷ r.says) in
          let T : List ItemFields → Type 0 = λ items. RestTop before (with_items list.kind items document) r.tail total in
          record {
            entries = [];
            after = list.item;
            one = last.one;
            trees = r.tree ∷ r.trees;
            says = r.one ∷ r.says;
            tail = r.tail;
            lines_of = r.lines_of ∙ ap (λ d. items_then d (r.tree ∷ r.trees) r.tail) at;
            reads = refl;
            is_whole = last.is_whole;
            items = subst R at r.are_items;
            top = subst T (ap (λ (front : List ItemFields). front ++ r.one ∷ r.says) (sym last.are)
                ∙ append_assoc list.items (last.one ∷ []) (r.one ∷ r.says)) r.top;
          }
      | inr b ↦ elim (chosen (eqb (indent text) 0) by_top by_key (Ok next) b.1) [
        | inl d ↦
            let i = bind_ok (items_with_last document.line list) (then_top before document list.kind line text) next d.1 in
            let last = last_item before document list i.0 i.1 in
            let T : List ItemFields → Type 0 = λ items. RestTop before (with_items list.kind items document)
            (record { number = line; text = text } ∷ rest) total in
            record {
              entries = [];
              after = list.item;
              one = last.one;
              trees = [];
              says = [];
              tail = record { number = line; text = text } ∷ rest;
              lines_of = refl;
              reads = refl;
              is_whole = last.is_whole;
              items = tt;
              top = subst T (sym last.are) (top_line_rest before (with_items list.kind i.0 document) line text next rest total i.2 h);
            }
        | inr d ↦
            let k = not_broken_else (eqb (indent text) list.column) line S1
            (within before (item_key_line document list line (unspaced text))) next d.1 in
            let w = within_ok before (item_key_line document list line (unspaced text)) next rest total k.1 h in
            let r = item_key_line_rest before document list line (unspaced text) w.0 rest total w.1 w.2 in
            let column : indent text ≡ list.column = eq_at _ _ k.0 in
            let spelled : text ≡ replicate list.column space ++ unspaced text = spelled_unspaced text
            ∙ ap (λ c. replicate c space ++ unspaced text) column in
            record {
              entries = record { number = line; head = unspaced text; more = r.more } ∷ r.keys.entries;
              after = r.keys.after;
              one = r.keys.one;
              trees = r.keys.trees;
              says = r.keys.says;
              tail = r.keys.tail;
              lines_of = ap (λ t. record { number = line; text = t } ∷ rest) spelled
                  ∙ ap (λ (more : List ReadLine). record { number = line; text = replicate list.column space ++ unspaced text } ∷ more)
                  (r.lines_of ∙ ap (λ (tail : List ReadLine). r.more ++ tail) r.keys.lines_of);
              reads = (r.after, r.is_entry, r.keys.reads);
              is_whole = r.keys.is_whole;
              items = r.keys.items;
              top = r.keys.top;
            }
      ]
    ]

key_line_rest : (before : List DocumentFields) (document : OpenDocumentFields) (list : Option ItemListFields) (line : ℕ) (text : List ℕ)
    (next : StateFields) (rest : List ReadLine) (total : List DocumentFields)
    → key_line before document list line text ≡ Ok next → Rest next.documents next.place rest total
    → RestKeys before document list (record { number = line; text = text } ∷ rest) total
key_line_rest before document None line text next rest total e h = top_line_rest before document line text next rest total e h
key_line_rest before document (Some list) line text next rest total e h = item_line_rest before document list line text next rest total e
    h

-- a line inside a document
inside_line_rest : (before : List DocumentFields) (document : OpenDocumentFields) (list : Option ItemListFields) (mode : ModeFields)
    (line : ℕ) (text : List ℕ) (next : StateFields) (rest : List ReadLine) (total : List DocumentFields)
    → inside_line before document list mode line text ≡ Ok next → Rest next.documents next.place rest total
    → RestMode before document list mode (record { number = line; text = text } ∷ rest) total
inside_line_rest before document list Keys line text next rest total e h = key_line_rest before document list line text next rest total e
    h
inside_line_rest before document list Skipped line text next rest total e h =
    elim (chosen (belongs list text) (inside_of_document before (stays document list Skipped)) (key_line before document list line text)
    (Ok next) e) [
      | inl b ↦
          let H : StateFields → Type 0 = λ s. Rest s.documents s.place rest total in
          let r = subst H (sym (same_ok _ _ b.1)) h in
          record {
            more = record { number = line; text = text } ∷ r.more;
            tail = r.tail;
            lines_of = ap
                (λ (more : List ReadLine). record { number = line; text = text } ∷ more) r.lines_of;
            belong = (b.0, r.belong);
            keys = r.keys;
          }
      | inr b ↦ record {
        more = [];
        tail = record { number = line; text = text } ∷ rest;
        lines_of = refl;
        belong = tt;
        keys =
            key_line_rest before document list line text next rest total b.1 h;
      }
    ]
inside_line_rest before document list (Names names) line text next rest total e h = λ ne.
    let go = not_broken (bytes_eq text end) line S1 (within before (names_line document list line names text)) next e in
    let w = within_ok before (names_line document list line names text) next rest total go.1 h in
    let n = names_line_rest before document list line names text w.0 rest total w.1 w.2 in
    record {
      names = n.2.names;
      more = record { number = line; text = text } ∷ n.2.more;
      tail = n.2.tail;
      lines_of = ap (λ (more : List ReadLine). record { number = line; text = text } ∷ more) n.2.lines_of;
      goes_on = (ne, n.0, n.1, n.2.goes_on);
      inside = (other_bytes text end go.0, n.2.inside);
      keys = n.2.keys;
    }
inside_line_rest before document list (NoItem kind at) line text next rest total e h =
    let w = within_ok before (first_line document kind [] line text) next rest total e h in
    (indent text, first_line_rest before document kind [] line text w.0 rest total w.1 w.2)

-- a line with content
content_line_rest : (before : List DocumentFields) (place : PlaceFields) (line : ℕ) (text : List ℕ) (next : StateFields)
    (rest : List ReadLine) (total : List DocumentFields)
    → content_line before place line text ≡ Ok next → Rest next.documents next.place rest total
    → Rest before place (record { number = line; text = text } ∷ rest) total
content_line_rest before Outside line text next rest total e h =
    let b = not_broken_else (bytes_eq text head) line S1 (inside_of_document before (stays (head_at line) None Keys)) next e in
    let H : StateFields → Type 0 = λ s. Rest s.documents s.place rest total in
    document_in_front before line text rest total (same_bytes text head b.0) (subst H (sym (same_ok _ _ b.1)) h)
content_line_rest before (Within inside) line text next rest total e h = inside_line_rest before inside.document inside.list inside.mode
    line text next rest total e h

-- where the text ends
ended_top : (before : List DocumentFields) (document : OpenDocumentFields) (total : List DocumentFields) → with_whole before document
    ≡ Ok total → RestTop before document [] total
unfolding with_whole
ended_top before document total e =
    let b = bind_ok (whole_document document) (λ whole. Ok (before ++ whole ∷ [])) total e in
    record {
      entries = [];
      after = document;
      ended_at = None;
      trees = [];
      whole = b.0;
      says = [];
      lines_of = refl;
      reads = refl;
      is_whole
          = b.1;
      documents = tt;
      all = sym (same_ok _ _ b.2);
    }

ended_keys : (before : List DocumentFields) (document : OpenDocumentFields) (list : Option ItemListFields) (total : List DocumentFields)
    → ended_document before document list ≡ Ok total → RestKeys before document list [] total
ended_keys before document None total e = ended_top before document total e
ended_keys before document (Some list) total e =
    let b = bind_ok (items_with_last document.line list) (λ items. with_whole before (with_items list.kind items document)) total e in
    let last = last_item before document list b.0 b.1 in
    let T : List ItemFields → Type 0 = λ items. RestTop before (with_items list.kind items document) [] total in
    record {
      entries = [];
      after = list.item;
      one = last.one;
      trees = [];
      says = [];
      tail = [];
      lines_of = refl;
      reads = refl;
      is_whole =
          last.is_whole;
      items = tt;
      top = subst T (sym last.are) (ended_top before (with_items list.kind b.0 document) total b.2);
    }

ended_mode : (before : List DocumentFields) (document : OpenDocumentFields) (list : Option ItemListFields) (mode : ModeFields)
    (total : List DocumentFields) → ended_inside before document list mode ≡ Ok total → RestMode before document list mode [] total
ended_mode before document list Keys total e = ended_keys before document list total e
ended_mode before document list Skipped total e = record
    { more = []; tail = []; lines_of = refl; belong = tt; keys = ended_keys before document list total e }
ended_mode before document list (Names names) total e = absurd (no_ok _ _ total e)
ended_mode before document list (NoItem kind at) total e = absurd (no_ok _ _ total e)

ended_rest : (before : List DocumentFields) (place : PlaceFields) (total : List DocumentFields) → ended before place ≡ Ok total
    → Rest before place [] total
ended_rest before Outside total e = record
    { trees = []; says = []; lines_of = refl; documents = tt; all = sym (same_ok _ _ e) ∙ sym (append-nil before) }
ended_rest before (Within inside) total e = ended_mode before inside.document inside.list inside.mode total e

-- the lines that are left
run_rest : (before : List DocumentFields) (place : PlaceFields) (rest : List ReadLine) (total : List DocumentFields) → run before place rest
    ≡ Ok total → Rest before place rest total
run_rest before place [] total e = ended_rest before place total e
run_rest before place (line ∷ rest) total e =
    let b = bind_ok (content_line before place line.number line.text) (λ next. run next.documents next.place rest) total e in
    content_line_rest before place line.number line.text b.0 rest total b.1 (run_rest b.0.documents b.0.place rest total b.2)

-- the lines with content are what is read
lines_run : (state : StateFields) (line : ℕ) (texts : List (List ℕ)) (total : List DocumentFields) → lines_from state line texts
    ≡ Ok total
    → AllByRecursion (λ text. has_barred text ≡ false) texts × (run state.documents state.place (content_from line texts) ≡ Ok total)
unfolding lines_from line_step
lines_run state line [] total e = (tt, e)
lines_run state line (text ∷ texts) total e =
    let b = bind_ok (line_step state line text) (λ next. lines_from next (line + 1) texts) total e in
    let c = not_broken (has_barred text) line S1 (cond (is_passed text) (Ok state) (content_line state.documents state.place line text))
    b.0 b.1 in
    let rest = lines_run b.0 (line + 1) texts total b.2 in
    let R : Bool → Type 0 = λ p. run state.documents state.place
    (cond p (content_from (line + 1) texts) (record { number = line; text = text } ∷ content_from (line + 1) texts)) ≡ Ok total in (
      (c.0, rest.0),
      elim (chosen (is_passed text) (Ok state) (content_line state.documents state.place line text) (Ok b.0) c.1) [
        | inl p ↦
            let H : StateFields → Type 0 = λ s. run s.documents s.place (content_from (line + 1) texts) ≡ Ok total in
            subst R (sym p.0) (subst H (sym (same_ok _ _ p.1)) rest.1)
        | inr p ↦ subst R (sym p.0) (ap
            (λ (reading : Reading StateFields). reading >>= λ next. run next.documents next.place (content_from (line + 1) texts)) p.1
            ∙ rest.1)
      ],
    )

-- what is read is in the grammar
pub lines_found : (texts : List (List ℕ)) (says : List DocumentFields) → lines_from start 1 texts ≡ Ok says → IsReadLines texts says
lines_found texts says e =
    let l = lines_run start 1 texts says e in
    let r = run_rest [] Outside (content_from 1 texts) says l.1 in
    let A : List DocumentFields → Type 0 = λ s. AreDocuments r.trees s in
    record { clean = l.0; trees = r.trees; lines_of = r.lines_of; documents = subst A (sym r.all) r.documents }

-- A text whose reading gives documents is a text as it is read, and says them.
pub documents_found : (text : List ℕ) (says : List DocumentFields) → documents_of text ≡ Ok says → IsReadText text says
unfolding documents_of
documents_found text says e = lines_found (lines text) says e
