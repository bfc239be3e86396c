-- Lines with the keys that are put in where they lack, and what each makes of the reading.
-- To finish a text that broke off, or to show that a line may stand, a line is put in: a key of a document or of an
-- item with a short value, a key that isn't read, the bracket that closes a list, a dash that begins an item. Each is a
-- text that is written out, so the step over it is computed, for any document and any items before (`name_steps` and the
-- like). A line in the column of an item's keys begins with as many spaces as the list says: those are counted by a
-- lemma (`item_text_steps`), and what stands behind them is again written out.
use Rattle.std.proofs.Common.{◌≡◌, ◌≢◌, ℕ, zero, suc, get_or, ◌<◌, ◌&&◌, Bool, true, false, eqb, List, [], ◌++◌, replicate, Option, Some, None, Ok, refl, ap, ◌∙◌, ◌⊎◌, arith}
use Rattle.std.specs.Prelude.{codes}
use Rattle.std.specs.List.{prefix_len}
use Rattle.std.proofs.lemmas.Bool.Decides.{nat_tests}
use Rattle.macho_stub_lines.proofs.Bind.{eq_true, eq_false}
use Rattle.macho_stub.proofs.OnlyLines.{top_indent, spelled_indent, spelled_rest, spelled_at}
use Rattle.macho_stub_lines.specs.declared.keys.ItemKind.{ItemKind}
use Rattle.macho_stub_lines.specs.declared.keys.ItemKind.TheVariants.{Libraries, Exports, Reexports}
use Rattle.macho_stub_lines.specs.declared.list.Expect.{Expect}
use Rattle.macho_stub_lines.specs.declared.list.Expect.TheVariants.{AfterOpen, AfterComma, AfterName, Closed}
use Rattle.macho_stub_lines.specs.Bytes.{space, dash, indent, unspaced, is_passed, has_barred, is_blank_or_comment, is_key_byte, is_tail, is_mark, is_plain_byte, has_late_control_after, has_dash, belongs_to_top}
use Rattle.macho_stub_lines.specs.steps.Bytes.{is_space}
use Rattle.macho_stub_lines.specs.Scalars.{scalar_front, plain_front}
use Rattle.macho_stub_lines.specs.Lists.{list_part, token_front, behind}
use Rattle.macho_stub_lines.specs.Keys.{entry_at, top_key, item_key, scalar_value, version_value, number_of}
use Rattle.macho_stub.specs.Documents.{ItemFields, DocumentFields}
use Rattle.macho_stub.specs.steps.Opened.{OpenDocumentFields, no_item, with_items}
use Rattle.macho_stub.specs.steps.Reader.{ItemListFields, NameListFields, ModeFields, Keys, Skipped, Names, NoItem, Within, StateFields, stays, with_names, names_line, names_value, skipped_value, item_key_line, key_column, first_line, within, top_line, items_with_last, item_line, line_step}
use Rattle.macho_stub.specs.steps.Order.{unread_key, unread_item}
use Rattle.macho_bytes.proofs.Comparing.{not_less}

-- ---- where keys may stand

-- where keys of a document may stand, or a skipped value goes on
abbrev pub mode_at : Bool → ModeFields
mode_at false = Keys
mode_at true = Skipped

-- in a document, behind its entries
abbrev pub at_top : List DocumentFields → OpenDocumentFields → Bool → StateFields
at_top before document skipped = record { documents = before; place = Within (stays document None (mode_at skipped)) }

-- in an item, behind its entries
abbrev pub at_item : List DocumentFields → OpenDocumentFields → ItemListFields → Bool → StateFields
at_item before document list skipped = record { documents = before; place = Within (stays document (Some list) (mode_at skipped)) }

-- ---- lines that are put in

-- a version
abbrev pub version_line : List ℕ
version_line = codes "tbd-version: 4"

-- targets, empty
abbrev pub targets_line : List ℕ
targets_line = codes "targets: []"

-- an install name
abbrev pub name_line : List ℕ
name_line = codes "install-name: a"

-- libraries, empty
abbrev pub libraries_line : List ℕ
libraries_line = codes "libraries: []"

-- a key that an item must have, with an empty list
abbrev pub IsNeeded : List ℕ → Type 0
IsNeeded key = (key ≡ codes "targets: []") ⊎ (key ≡ codes "libraries: []")

-- the end of a flow list
abbrev pub closing_bracket : List ℕ
closing_bracket = codes "]"

-- ---- keys of a document

-- the document with the name that was put in
abbrev pub with_name : OpenDocumentFields → OpenDocumentFields
with_name document = record document { install_name = Some (codes "a") }

-- with the targets that were put in
abbrev pub with_targets : OpenDocumentFields → OpenDocumentFields
with_targets document = record document { targets = Some [] }

-- with the version that was put in
abbrev pub with_version : OpenDocumentFields → OpenDocumentFields
with_version document = record document { version = Some (codes "4") }

-- a name that lacks is read where it is put in
pub name_steps : (before : List DocumentFields) (document : OpenDocumentFields) (skipped : Bool) (line : ℕ) → document.install_name ≡ None
    → line_step (at_top before document skipped) line name_line ≡ Ok (at_top before (with_name document) false)
unfolding line_step has_barred is_passed is_blank_or_comment unspaced indent top_line entry_at is_key_byte is_tail top_key scalar_value
    version_value number_of scalar_front plain_front is_plain_byte is_mark has_late_control_after names_value skipped_value names_line
    list_part token_front behind belongs_to_top has_dash
name_steps before document true line e = rw e refl
name_steps before document false line e = rw e refl

-- so are the targets
pub targets_steps : (before : List DocumentFields) (document : OpenDocumentFields) (skipped : Bool) (line : ℕ) → document.targets ≡ None
    → line_step (at_top before document skipped) line targets_line ≡ Ok (at_top before (with_targets document) false)
unfolding line_step has_barred is_passed is_blank_or_comment unspaced indent top_line entry_at is_key_byte is_tail top_key scalar_value
    version_value number_of scalar_front plain_front is_plain_byte is_mark has_late_control_after names_value skipped_value names_line
    list_part token_front behind belongs_to_top has_dash
targets_steps before document true line e = rw e refl
targets_steps before document false line e = rw e refl

-- and the version
pub version_steps : (before : List DocumentFields) (document : OpenDocumentFields) (skipped : Bool) (line : ℕ) → document.version ≡ None
    → line_step (at_top before document skipped) line version_line ≡ Ok (at_top before (with_version document) false)
unfolding line_step has_barred is_passed is_blank_or_comment unspaced indent top_line entry_at is_key_byte is_tail top_key scalar_value
    version_value number_of scalar_front plain_front is_plain_byte is_mark has_late_control_after names_value skipped_value names_line
    list_part token_front behind belongs_to_top has_dash
version_steps before document true line e = rw e refl
version_steps before document false line e = rw e refl

-- ---- a key that isn't read

-- a key that isn't read, at column 0, ends a list whose last item lacks none
pub unread_key_steps : (before : List DocumentFields) (document : OpenDocumentFields) (list : ItemListFields) (skipped : Bool) (line : ℕ)
    (items : List ItemFields) → items_with_last document.line list ≡ Ok items
    → line_step (at_item before document list skipped) line unread_key ≡ Ok (at_top before (with_items list.kind items document) true)
unfolding line_step has_barred is_passed is_blank_or_comment unspaced indent top_line entry_at is_key_byte is_tail top_key scalar_value
    version_value number_of scalar_front plain_front is_plain_byte is_mark has_late_control_after names_value skipped_value names_line
    list_part token_front behind belongs_to_top has_dash item_line
unread_key_steps before document list true line items e = rw (e, not_less list.column 0 (omega arith)) refl
unread_key_steps before document list false line items e = rw e refl

-- ---- keys of an item

-- a line in the column of the keys of an item
pub item_text_barred : (n : ℕ) (text : List ℕ) → has_barred (replicate n space ++ text) ≡ has_barred text
unfolding has_barred
item_text_barred zero text = refl
item_text_barred (suc n) text = item_text_barred n text

-- such a line is passed over exactly where what stands behind its spaces is nothing or a comment
pub item_text_passed : (n : ℕ) (text : List ℕ) → prefix_len is_space text ≡ 0
    → is_passed (replicate n space ++ text) ≡ is_blank_or_comment text
unfolding is_passed unspaced indent
item_text_passed n text h = rw (spelled_indent n text h, spelled_rest n text) refl

-- and has no dash, if what stands behind its spaces begins with none
pub no_dash_there : (n : ℕ) (text : List ℕ) → belongs_to_top text ≡ false → has_dash (replicate n space ++ text) ≡ false
unfolding has_dash indent belongs_to_top
no_dash_there n text out =
    let h : prefix_len is_space text ≡ 0 = top_indent text out in
    let at : get_or (replicate n space ++ text) n 0 ≡ get_or text 0 0 = ap (λ k. get_or (replicate n space ++ text) k 0) (omega arith)
    ∙ spelled_at n 0 text in
    rw (spelled_indent n text h, at, spelled_at n 1 text) (not_dash text out)
  where
    not_dash : (text : List ℕ) → belongs_to_top text ≡ false → (eqb (get_or text 0 0) dash && eqb (get_or text 1 0) space) ≡ false
    not_dash text out = grind (arith, nat_tests)

-- the line is refused for a byte, or it is the line of a key of the item
pub item_text_steps : (before : List DocumentFields) (document : OpenDocumentFields) (list : ItemListFields) (skipped : Bool) (line : ℕ)
    (text : List ℕ) → belongs_to_top text ≡ false → has_barred text ≡ false → is_blank_or_comment text ≡ false
    → list.dash < list.column
    → line_step (at_item before document list skipped) line (replicate list.column space ++ text)
    ≡ within before (item_key_line document list line text)
unfolding line_step item_line unspaced indent
item_text_steps before document list true line text out clean some below =
    let h : prefix_len is_space text ≡ 0 = top_indent text out in
    rw (item_text_barred list.column text, item_text_passed list.column text h, clean, some) (
    rw (spelled_indent list.column text h, spelled_rest list.column text, no_dash_there list.column text out) (
    rw (not_less list.column list.column (omega arith), eq_false list.column 0 (omega arith), eq_true list.column list.column refl) refl))
item_text_steps before document list false line text out clean some below =
    let h : prefix_len is_space text ≡ 0 = top_indent text out in
    rw (item_text_barred list.column text, item_text_passed list.column text h, clean, some) (
    rw (spelled_indent list.column text h, spelled_rest list.column text, no_dash_there list.column text out) (
    rw (eq_false list.column 0 (omega arith), eq_true list.column list.column refl) refl))

-- the item with the targets that were put in
abbrev pub item_with_targets : ItemListFields → ItemListFields
item_with_targets list = record list { item = record list.item { targets = Some [] } }

-- the item with the libraries that were put in
abbrev pub item_with_names : ItemListFields → ItemListFields
item_with_names list = record list { item = record list.item { names = Some [] } }

targets_key : (before : List DocumentFields) (document : OpenDocumentFields) (list : ItemListFields) (line : ℕ)
    → list.item.targets ≡ None
    → within before (item_key_line document list line targets_line) ≡ Ok (at_item before document (item_with_targets list) false)
unfolding line_step has_barred is_passed is_blank_or_comment unspaced indent top_line entry_at is_key_byte is_tail top_key item_key
    scalar_value version_value number_of scalar_front plain_front is_plain_byte is_mark has_late_control_after names_value skipped_value
    names_line list_part token_front behind belongs_to_top has_dash item_key_line first_line key_column item_line
targets_key before document list line e = rw e refl

libraries_key : (before : List DocumentFields) (document : OpenDocumentFields) (list : ItemListFields) (line : ℕ)
    → list.kind ≡ Libraries → list.item.names ≡ None
    → within before (item_key_line document list line libraries_line) ≡ Ok (at_item before document (item_with_names list) false)
unfolding line_step has_barred is_passed is_blank_or_comment unspaced indent top_line entry_at is_key_byte is_tail top_key item_key
    scalar_value version_value number_of scalar_front plain_front is_plain_byte is_mark has_late_control_after names_value skipped_value
    names_line list_part token_front behind belongs_to_top has_dash item_key_line first_line key_column item_line
libraries_key before document list line k e = rw (k, e) refl

-- the targets that lack are read where they are put in
pub item_targets_step : (before : List DocumentFields) (document : OpenDocumentFields) (list : ItemListFields) (skipped : Bool) (line : ℕ)
    → list.item.targets ≡ None → list.dash < list.column
    → line_step (at_item before document list skipped) line (replicate list.column space ++ targets_line)
    ≡ Ok (at_item before document (item_with_targets list) false)
unfolding has_barred is_blank_or_comment belongs_to_top
item_targets_step before document list skipped line e below =
    item_text_steps before document list skipped line targets_line refl refl refl below
    ∙ targets_key before document list line e

-- and so are the libraries of an item of libraries
pub item_libraries_step : (before : List DocumentFields) (document : OpenDocumentFields) (list : ItemListFields) (skipped : Bool)
    (line : ℕ) → list.kind ≡ Libraries → list.item.names ≡ None → list.dash < list.column
    → line_step (at_item before document list skipped) line (replicate list.column space ++ libraries_line)
    ≡ Ok (at_item before document (item_with_names list) false)
unfolding has_barred is_blank_or_comment belongs_to_top
item_libraries_step before document list skipped line k e below =
    item_text_steps before document list skipped line libraries_line refl refl refl below
    ∙ libraries_key before document list line k e

-- ---- the end of a flow list

-- inside a flow list
abbrev pub in_names : List DocumentFields → OpenDocumentFields → Option ItemListFields → NameListFields → StateFields
in_names before document list names = record { documents = before; place = Within (stays document list (Names names)) }

closing : (before : List DocumentFields) (document : OpenDocumentFields) (list : Option ItemListFields) (names : NameListFields)
    (expect : Expect) (line : ℕ) → names.part.expect ≡ expect → expect ≢ Closed
    → line_step (in_names before document list names) line closing_bracket
    ≡ Ok (record { documents = before; place = Within (with_names document list names.key (names.part.names ++ [])) })
unfolding line_step has_barred is_passed is_blank_or_comment unspaced indent top_line entry_at is_key_byte is_tail top_key item_key
    scalar_value version_value number_of scalar_front plain_front is_plain_byte is_mark has_late_control_after names_value skipped_value
    names_line list_part token_front behind belongs_to_top has_dash item_key_line first_line key_column item_line
closing before document list names Closed line e ne = absurd (ne refl)
closing before document list names AfterOpen line e ne = rw e refl
closing before document list names AfterComma line e ne = rw e refl
closing before document list names AfterName line e ne = rw e refl

-- a bracket closes an open list
pub close_steps : (before : List DocumentFields) (document : OpenDocumentFields) (list : Option ItemListFields) (names : NameListFields)
    (line : ℕ) → names.part.expect ≢ Closed
    → line_step (in_names before document list names) line closing_bracket
    ≡ Ok (record { documents = before; place = Within (with_names document list names.key (names.part.names ++ [])) })
close_steps before document list names line ne = closing before document list names names.part.expect line refl ne

-- ---- the first item of a list

-- the list of items that a dash at column 0 begins
abbrev pub begun : ItemKind → ItemListFields
begun kind = record { kind = kind; items = []; dash = 0; column = 2; item = no_item }

-- where an item must stand, a dash at column 0 begins one
pub dash_steps : (before : List DocumentFields) (document : OpenDocumentFields) (list : Option ItemListFields) (kind : ItemKind) (at line :
    ℕ)
    → line_step (record { documents = before; place = Within (stays document list (NoItem kind at)) }) line unread_item
    ≡ Ok (at_item before document (begun kind) true)
unfolding line_step has_barred is_passed is_blank_or_comment unspaced indent top_line entry_at is_key_byte is_tail top_key item_key
    scalar_value version_value number_of scalar_front plain_front is_plain_byte is_mark has_late_control_after names_value skipped_value
    names_line list_part token_front behind belongs_to_top has_dash item_key_line first_line key_column item_line
dash_steps before document list Libraries at line = refl
dash_steps before document list Exports at line = refl
dash_steps before document list Reexports at line = refl
