-- A line that ends an item or a document which lacks a key. Behind the lines that were read, no line at column 0 may
-- stand where the last item lacks one, and no head and no end where the document lacks one; with the keys put in that
-- the item lacks, the next item may begin in the column of the list's dashes.
-- An item or a document that can't be closed is refused at each such line, so no text of the grammar goes on with it.
-- The keys that an item lacks are put in one after the other (`targets` before `libraries`), and each leaves the list's
-- columns as they are (`completed`).
use Rattle.std.proofs.Common.{◌≡◌, ℕ, ◌+◌, ◌<◌, Bool, true, false, List, [], ◌∷◌, ◌++◌, length, map, Option, Some, None, Ok, refl, sym, ◌∙◌, arith, inl, inr, subst, append_assoc}
use Rattle.std.specs.List.{AllByRecursion}
use Rattle.std.proofs.lemmas.List.{append-nil}
use Rattle.macho_stub_lines.specs.declared.keys.ItemKind.{ItemKind}
use Rattle.macho_stub_lines.specs.declared.keys.ItemKind.TheVariants.{Libraries, Exports, Reexports}
use Rattle.macho_stub_lines.specs.declared.fault.StubRule.{StubRule}
use Rattle.macho_stub_lines.specs.declared.fault.StubRule.TheVariants.{S1}
use Rattle.macho_stub_lines.specs.Bytes.{indent, unspaced, is_passed, has_barred, is_blank_or_comment, is_key_byte, is_tail, head, end, has_dash}
use Rattle.macho_stub_lines.specs.Faults.{broken, outside}
use Rattle.macho_stub_lines.specs.Keys.{entry_at, item_key}
use Rattle.macho_stub.specs.Documents.{ItemFields, DocumentFields}
use Rattle.macho_stub.specs.steps.Opened.{OpenDocumentFields, no_item}
use Rattle.macho_stub.specs.steps.Reader.{ItemListFields, StateFields, skipped_value, item_key_line, first_line, within, with_whole, items_with_last, item_line, line_step}
use Rattle.macho_stub.proofs.PutIn.{IsNeeded, at_top, at_item, item_targets_step, item_libraries_step, item_with_targets, item_with_names, targets_line, libraries_line, item_text_barred, item_text_passed}
use Rattle.macho_stub.specs.Order.{MayStand, IsNextItem, in_column}
use Rattle.macho_stub.specs.steps.Order.{LacksInItem, LacksInDocument, unread_key, unread_item}
use Rattle.macho_stub_lines.proofs.Bind.{eq_true}
use Rattle.macho_stub.proofs.OnlyLines.{DashLine, dash_line}
use Rattle.macho_stub.proofs.Joined.{spaces_line}
use Rattle.macho_stub.proofs.Finish.{item_whole}
use Rattle.macho_stub.proofs.Reached.{Reached, reached_more, may_stand, refused}
use Rattle.macho_stub.proofs.Steps.{Closes, keys_state, lacking_steps, unread_key_at_top, head_at_top, end_at_top}
use Rattle.macho_bytes.proofs.Comparing.{not_less}

-- a line with a byte that may stand nowhere is refused
pub barred_steps : (state : StateFields) (line : ℕ) (text : List ℕ) → has_barred text ≡ true → line_step state line text ≡ outside line
unfolding line_step
barred_steps state line text h = rw h refl

-- An item that can't be closed lacks a key, in the words of what may stand.
pub lacks_item : (first : List (List ℕ)) (before : List DocumentFields) (document : OpenDocumentFields) (list : ItemListFields)
    (skipped : Bool) (at : ℕ) (rule : StubRule) → Reached first (at_item before document list skipped)
    → items_with_last document.line list ≡ broken at rule → LacksInItem first
lacks_item first before document list skipped at rule r e line some zero m = by_test (has_barred line) refl
  where
    by_test : (t : Bool) → has_barred line ≡ t → ⊥
    by_test true h = refused first (at_item before document list skipped) line (length first + 1) S1 r
        (barred_steps (at_item before document list skipped) (length first + 1) line h) m
    by_test false h = refused first (at_item before document list skipped) line at rule r
        (lacking_steps before document list skipped (length first + 1) line at rule e h some zero) m

-- And so does a document that can't be closed.
pub lacks_document : (first : List (List ℕ)) (before : List DocumentFields) (document whole : OpenDocumentFields)
    (list : Option ItemListFields) (skipped : Bool) (at : ℕ) (rule : StubRule) → Reached first (keys_state before document list skipped)
    → Closes list document whole → with_whole before whole ≡ broken at rule → LacksInDocument first
lacks_document first before document whole list skipped at rule r c e =
    let state = keys_state before document list skipped in
    let n = length first + 1 in (
      may_stand first state (at_top before whole true) unread_key r refl (unread_key_at_top before document whole list skipped n c),
      refused first state head at rule r (head_at_top before document whole list skipped n at rule c e),
      refused first state end at rule r (end_at_top before document whole list skipped n at rule c e),
    )

-- ---- the next item

-- the item with the keys that it lacked put in
record Completed (first : List (List ℕ)) (before : List DocumentFields) (document : OpenDocumentFields) (list : ItemListFields) : Type 0
  where
    keys : List (List ℕ)
    needed : AllByRecursion IsNeeded keys
    after : ItemListFields
    skipped : Bool
    items : List ItemFields
    is_whole : items_with_last document.line after ≡ Ok items
    same_dash : after.dash ≡ list.dash
    same_column : after.column ≡ list.column
    reached : Reached (first ++ map (in_column list.column) keys) (at_item before document after skipped)

nothing_put_in : (first : List (List ℕ)) (state : StateFields) → Reached first state → Reached (first ++ []) state
nothing_put_in first state r = let R : List (List ℕ) → Type 0 = λ f. Reached f state in subst R (sym (append-nil first)) r

-- one key more in front of the others
put_in_front : (first : List (List ℕ)) (before : List DocumentFields) (document : OpenDocumentFields) (list next : ItemListFields)
    (key : List ℕ) → IsNeeded key → next.dash ≡ list.dash → next.column ≡ list.column
    → Completed (first ++ in_column list.column key ∷ []) before document next → Completed first before document list
put_in_front first before document list next key needed d k c =
    let keys = map (in_column list.column) c.keys in
    let R : List (List ℕ) → Type 0 = λ f. Reached f (at_item before document c.after c.skipped) in
    let C : ℕ → Type 0 = λ n. Reached ((first ++ in_column list.column key ∷ []) ++ map (in_column n) c.keys)
    (at_item before document c.after c.skipped) in
    record {
      keys = key ∷ c.keys;
      needed = (needed, c.needed);
      after = c.after;
      skipped = c.skipped;
      items = c.items;
      is_whole = c.is_whole;
      same_dash = c.same_dash ∙ d;
      same_column = c.same_column ∙ k;
      reached = subst R (append_assoc first (in_column list.column key ∷ []) keys) (subst C k c.reached);
    }

names_put_in : (first : List (List ℕ)) (before : List DocumentFields) (document : OpenDocumentFields) (list : ItemListFields)
    (skipped : Bool) (t : List (List ℕ)) (n : Option (List (List ℕ))) (k : ItemKind) → Reached first (at_item before document list skipped)
    → list.dash < list.column → list.item.targets ≡ Some t → list.item.names ≡ n → list.kind ≡ k → Completed first before document list
names_put_in first before document list skipped t None Libraries r below et en ek =
    let next = item_with_names list in
    let w = item_whole document.line next t (Some []) Libraries et refl ek (λ e n. cc) in
    put_in_front first before document list next libraries_line (inr refl) refl refl (record {
      keys = [];
      needed = tt;
      after = next;
      skipped = false;
      items = w.0;
      is_whole = w.1;
      same_dash = refl;
      same_column = refl;
      reached = nothing_put_in _ _ (reached_more first (at_item before document list skipped) (at_item before document next false)
          (in_column list.column libraries_line) r (spaces_line list.column libraries_line refl)
          (item_libraries_step before document list skipped (length first + 1) ek en below));
    })
names_put_in first before document list skipped t (Some n) Libraries r below et en ek =
    let w = item_whole document.line list t (Some n) Libraries et en ek (λ e n. cc) in
    record {
      keys = [];
      needed = tt;
      after = list;
      skipped = skipped;
      items = w.0;
      is_whole = w.1;
      same_dash = refl;
      same_column = refl;
      reached = nothing_put_in first _ r;
    }
names_put_in first before document list skipped t n Exports r below et en ek =
    let w = item_whole document.line list t n Exports et en ek (λ e n. cc) in
    record {
      keys = [];
      needed = tt;
      after = list;
      skipped = skipped;
      items = w.0;
      is_whole = w.1;
      same_dash = refl;
      same_column = refl;
      reached = nothing_put_in first _ r;
    }
names_put_in first before document list skipped t n Reexports r below et en ek =
    let w = item_whole document.line list t n Reexports et en ek (λ e n. cc) in
    record {
      keys = [];
      needed = tt;
      after = list;
      skipped = skipped;
      items = w.0;
      is_whole = w.1;
      same_dash = refl;
      same_column = refl;
      reached = nothing_put_in first _ r;
    }

completed : (first : List (List ℕ)) (before : List DocumentFields) (document : OpenDocumentFields) (list : ItemListFields)
    (skipped : Bool) (t : Option (List (List ℕ))) → Reached first (at_item before document list skipped)
    → list.dash < list.column → list.item.targets ≡ t → Completed first before document list
completed first before document list skipped (Some t) r below et = names_put_in first before document list skipped t list.item.names
    list.kind r below et refl refl
completed first before document list skipped None r below et =
    let next = item_with_targets list in
    put_in_front first before document list next targets_line (inl refl) refl refl
    (names_put_in (first ++ in_column list.column targets_line ∷ []) before document next false [] list.item.names list.kind
    (reached_more first (at_item before document list skipped) (at_item before document next false)
    (in_column list.column targets_line) r (spaces_line list.column targets_line refl)
    (item_targets_step before document list skipped (length first + 1) et below)) below refl refl refl)

-- the first line of an item whose key isn't read
begins_item : (before : List DocumentFields) (document : OpenDocumentFields) (kind : ItemKind) (items : List ItemFields) (line at : ℕ)
    (text : List ℕ) → DashLine at 1 text unread_key
    → within before (first_line document kind items line text)
    ≡ Ok (at_item before document (record { kind = kind; items = items; dash = at; column = at + 1 + 1; item = no_item }) true)
unfolding first_line item_key_line entry_at is_key_byte is_tail item_key skipped_value unspaced indent is_passed is_blank_or_comment
begins_item before document Libraries items line at text d = rw (d.dashed, d.behind, d.column, d.indented) refl
begins_item before document Exports items line at text d = rw (d.dashed, d.behind, d.column, d.indented) refl
begins_item before document Reexports items line at text d = rw (d.dashed, d.behind, d.column, d.indented) refl

-- a dash in the column of the list's dashes, behind an item that lacks no key
next_steps : (before : List DocumentFields) (document : OpenDocumentFields) (list : ItemListFields) (skipped : Bool) (line : ℕ)
    (text : List ℕ) (items : List ItemFields) → items_with_last document.line list ≡ Ok items → list.dash < list.column
    → DashLine list.dash 1 text unread_key → has_barred text ≡ false → is_passed text ≡ false
    → line_step (at_item before document list skipped) line text ≡ within before (first_line document list.kind items line text)
unfolding line_step item_line
next_steps before document list true line text items e below d clean some =
    rw (clean, some, d.indented, d.dashed, not_less list.column list.dash (omega arith), eq_true list.dash list.dash refl, e) refl
next_steps before document list false line text items e below d clean some =
    rw (clean, some, d.indented, d.dashed, eq_true list.dash list.dash refl, e) refl

dash_stands : (first : List (List ℕ)) (before : List DocumentFields) (document : OpenDocumentFields) (list : ItemListFields)
    (skipped : Bool) (items : List ItemFields) → Reached first (at_item before document list skipped)
    → items_with_last document.line list ≡ Ok items → list.dash < list.column → MayStand first (in_column list.dash unread_item)
unfolding has_barred is_passed unspaced indent is_blank_or_comment
dash_stands first before document list skipped items r e below =
    let text = in_column list.dash unread_item in
    let d : DashLine list.dash 1 text unread_key = dash_line list.dash 1 unread_key (omega arith) refl in
    let n = length first + 1 in
    may_stand first (at_item before document list skipped) (at_item before document
    (record { kind = list.kind; items = items; dash = list.dash; column = list.dash + 1 + 1; item = no_item }) true) text r
    (spaces_line list.dash unread_item refl)
    (next_steps before document list skipped n text items e below d (item_text_barred list.dash unread_item)
    (item_text_passed list.dash unread_item refl) ∙ begins_item before document list.kind items n list.dash text d)

-- A line with a dash in the column of the list's dashes begins a next item, with the keys put in that lack.
pub next_item : (first : List (List ℕ)) (before : List DocumentFields) (document : OpenDocumentFields) (list : ItemListFields)
    (skipped : Bool) (line : List ℕ) → Reached first (at_item before document list skipped) → list.dash < list.column
    → has_dash line ≡ true → indent line ≡ list.dash → IsNextItem first line
next_item first before document list skipped line r below h at =
    let c = completed first before document list skipped list.item.targets r below refl in
    let M : ℕ → Type 0 = λ n. MayStand (first ++ map (in_column list.column) c.keys) (in_column n unread_item) in
    record {
      dash = h;
      column = list.column;
      keys = c.keys;
      needed = c.needed;
      begins = subst M (c.same_dash ∙ sym at) (dash_stands _ before document c.after c.skipped c.items c.reached c.is_whole
          (omega (arith, c.same_dash, c.same_column, below)));
    }
