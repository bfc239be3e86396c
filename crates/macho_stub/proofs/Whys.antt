-- Why a line is refused, in the words of what may stand. By where the reading is: where a key may stand, by the cause
-- that the tests of the line have; inside a flow list and before a first item, the line is outside the grammar, since
-- nothing there may lack a key or have a second one.
-- A line that ends an item or a document which lacks a key is told so (`Lacking`), a key that stood before is told as a
-- second one (`Twice`), and any other cause is outside the grammar, where neither may hold (`Outsides`, `NoNext`).
use Rattle.std.proofs.Common.{◌≡◌, ◌≢◌, ℕ, zero, suc, ◌+◌, ◌<◌, Bool, true, false, cond, eqb, ltb, drop, List, [], ◌∷◌, length, Option, Some, None, Err, refl, sym, ap, ◌∙◌, arith, inl, inr, subst}
use Rattle.std.proofs.lemmas.Bool.{or_parts}
use Rattle.macho_stub_lines.specs.declared.keys.ItemKind.{ItemKind}
use Rattle.macho_stub_lines.specs.declared.keys.ItemKey.{ItemKey}
use Rattle.macho_stub_lines.specs.declared.keys.ItemKey.TheVariants as item
use Rattle.macho_stub_lines.specs.declared.fault.StubRule.{StubRule}
use Rattle.macho_stub_lines.specs.declared.fault.StubRule.TheVariants.{S1, S2, S3}
use Rattle.macho_stub_lines.specs.Bytes.{indent, unspaced, is_passed, has_barred, is_blank_or_comment, has_dash, belongs_to_top}
use Rattle.macho_stub_lines.specs.steps.Bytes.{is_barred}
use Rattle.macho_stub_lines.specs.Faults.{Fault, Reading, ◌>>=◌, broken, outside}
use Rattle.macho_stub_lines.specs.Keys.{Entry, entry_at, top_key, item_key}
use Rattle.macho_stub.specs.Documents.{ItemFields, DocumentFields}
use Rattle.macho_stub.specs.steps.Opened.{OpenDocumentFields, with_items, has_key, no_item}
use Rattle.macho_stub.specs.steps.Reader.{ItemListFields, InsideFields, StateFields, names_value, top_entry, item_entry, item_key_line, key_column, first_line, with_whole, items_with_last, key_line, belongs}
use Rattle.macho_stub.specs.Order.{MayStand, EndsWithout, IsLastLine, IsWhy, in_column}
use Rattle.macho_stub.specs.steps.Order.{unread_key}
use Rattle.macho_stub_lines.proofs.Bind.{eq_false, chosen}
use Rattle.macho_stub.proofs.Ruling.{bind_err, same_err}
use Rattle.macho_stub.proofs.OnlyLines.{top_indent}
use Rattle.macho_stub.proofs.FineLines.{AnyOf, outside_at, here_at, lacking_at, entry_fine}
use Rattle.macho_stub.proofs.Fine.{GoodInside, with_whole_fine, items_with_last_fine, top_entry_fine, item_entry_fine, names_value_fine, skipped_value_fine, dash_before_key}
use Rattle.macho_stub.proofs.Causes.{TopCause, Ends, NoKey, Refused, ItemCause, Next, AtTop, InColumn, Nowhere, at_line, same_parts, top_cause, item_cause, EndsItem as EndsLacking, fault_at}
use Rattle.macho_stub.proofs.Joined.{IsLine, has_line_feed}
use Rattle.macho_stub.proofs.PutIn.{at_item}
use Rattle.macho_stub.proofs.Reached.{Reached, refused}
use Rattle.macho_stub.proofs.Steps.{Closes, keys_state}
use Rattle.macho_stub.proofs.Lacking.{lacks_item, lacks_document, next_item}
use Rattle.macho_stub.proofs.Twice.{twice_at_top, twice_in_item}
use Rattle.macho_stub.proofs.Outsides.{no_item_lacks, ends_nothing, no_key_twice, flush, value_at_top, value_in_column, dash_no_key, dash_no_end, deep_no_end, no_deeper_key}
use Rattle.macho_stub.proofs.NoNext.{no_next, column_steps}
use Rattle.macho_stub.proofs.Kept.{items_line}
use Rattle.macho_stub.proofs.Lasts.{IsHead}
use Rattle.macho_stub.proofs.Since.{Known}

-- the reason for one fault is that for another that is the same
pub same_why : (at : ℕ) (rule : StubRule) (first : List (List ℕ)) (text : List ℕ) (fault : Fault)
    → record { line = at; rule = rule } ≡ fault → IsWhy fault.rule fault.line first text → IsWhy rule at first text
same_why at rule first text fault e w = let P : Fault → Type 0 = λ f. IsWhy f.rule f.line first text in subst P (sym e) w

-- ---- where a key may stand at column 0

top_why : (first : List (List ℕ)) (before : List DocumentFields) (document whole : OpenDocumentFields) (list : Option ItemListFields)
    (skipped : Bool) (text : List ℕ) (at : ℕ) (rule : StubRule) → Known first (keys_state before document list skipped)
    → Closes list document whole → has_barred text ≡ false → IsLine text → whole.line ≡ document.line
    → (MayStand first (in_column (indent text) unread_key) → indent text ≡ 0) → TopCause before whole (length first + 1) text at rule
    → IsWhy rule at first text
top_why first before document whole list skipped text at rule k c clean l same deep (Ends ends w) =
    let q = at_line AnyOf (lacking_at whole.line) (with_whole before whole) at rule (with_whole_fine before whole) w in
    let H : ℕ → Type 0 = λ n. IsLastLine IsHead n first in
    same_why at rule first text (record { line = whole.line; rule = S2 }) q (
      subst H (sym same) k.heads,
      record { clean = clean; lacks = inr (lacks_document first before document whole list skipped at rule k.reached c w, ends) },
    )
top_why first before document whole list skipped text at rule k c clean l same deep (NoKey h e w) =
    let n = length first + 1 in
    let q = at_line AnyOf (outside_at n) (entry_at n text) at rule (entry_fine n text) w in
    same_why at rule first text (record { line = n; rule = S1 }) q (
      refl,
      ends_nothing first before document whole list skipped text k.reached c h e,
      λ t. no_key_twice first text at rule (ap (entry_at n) (flush text (deep t.another)) ∙ w) t,
    )
top_why first before document whole list skipped text at rule k c clean l same deep (Refused said h e key w) =
    let n = length first + 1 in
    elim (at_line GoodInside (here_at n) (top_entry whole n (top_key said.key) said.value) at rule
    (top_entry_fine whole n (top_key said.key) said.value) w) [
      | inl q ↦ same_why at rule first text (record { line = n; rule = S1 }) q (
        refl,
        ends_nothing first before document whole list skipped text k.reached c h e,
        value_at_top first before document whole list skipped text said k.reached c clean l key (w ∙ ap Err q),
      )
      | inr q ↦ same_why at rule first text (record { line = n; rule = S3 }) q (
        refl,
        twice_at_top first before document whole list skipped text said k.reached c clean key (w ∙ ap Err q),
      )
    ]

-- ---- behind the keys of an item

-- a line at another column than 0 and the next dash's ends nothing that lacks a key
deep_ends_nothing : (first : List (List ℕ)) (before : List DocumentFields) (document : OpenDocumentFields) (list : ItemListFields)
    (skipped : Bool) (text : List ℕ) → Reached first (at_item before document list skipped) → indent text ≢ 0
    → (has_dash text ≡ true → indent text ≢ list.dash) → (skipped ≡ true → ltb list.column (indent text) ≡ false)
    → EndsWithout first text → ⊥
deep_ends_nothing first before document list skipped text r nz nd s w =
    elim w.lacks [
      | inl i ↦ elim i.1 [ inl z ↦ nz z.1 | inr n ↦ no_next first before document list skipped text r nz nd s i.0 n ]
      | inr d ↦ deep_no_end text nz d.1
    ]

-- no key stands twice in an item of which nothing was read
first_never : (document : OpenDocumentFields) (list : ItemListFields) (line : ℕ) (key : ItemKey) (value : List ℕ)
    → list.item ≡ no_item → list.dash < list.column → item_entry document list line key value ≡ broken line S3 → ⊥
first_never document list line item.Unread value i g e = absurd (let h = (same_parts line line S3 S1
    (at_line GoodInside (outside_at line) _ line S3 (skipped_value_fine document (Some list) line value g) e)).1 in cc)
first_never document list line item.Targets value i g e = absurd (let h = (same_parts line line S3 S1
    (at_line GoodInside (outside_at line) (names_value document (Some list) line item.Targets value) line S3
    (names_value_fine document (Some list) line item.Targets value g)
    (ap (λ x. cond (has_key item.Targets x) (broken line S3) (names_value document (Some list) line item.Targets value)) (sym i)
    ∙ e))).1 in cc)
first_never document list line item.Names value i g e = absurd (let h = (same_parts line line S3 S1
    (at_line GoodInside (outside_at line) (names_value document (Some list) line item.Names value) line S3
    (names_value_fine document (Some list) line item.Names value g)
    (ap (λ x. cond (has_key item.Names x) (broken line S3) (names_value document (Some list) line item.Names value)) (sym i) ∙ e))).1 in cc)
first_never document list line item.WeakNames value i g e = absurd (let h = (same_parts line line S3 S1
    (at_line GoodInside (outside_at line) (names_value document (Some list) line item.WeakNames value) line S3
    (names_value_fine document (Some list) line item.WeakNames value g)
    (ap (λ x. cond (has_key item.WeakNames x) (broken line S3) (names_value document (Some list) line item.WeakNames value)) (sym i)
    ∙ e))).1 in
    cc)

-- the fault of a line outside the grammar
abbrev pub outside_fault : ℕ → Fault
outside_fault line = record { line = line; rule = S1 }

-- the first line of an item is refused as outside the grammar
pub first_outside : (document : OpenDocumentFields) (kind : ItemKind) (items : List ItemFields) (line : ℕ) (text : List ℕ) (at : ℕ)
    (rule : StubRule) → first_line document kind items line text ≡ broken at rule → fault_at at rule ≡ outside_fault line
unfolding first_line item_key_line
first_outside document kind items line text at rule e =
    let list : ItemListFields = record { kind = kind; items = items; dash = indent text; column = key_column text; item = no_item } in
    let rest = drop (key_column text) text in
    let then_entry : Entry → Reading InsideFields = λ entry. item_entry document list line (item_key kind entry.key) entry.value in
    elim (chosen (has_dash text) (entry_at line rest >>= then_entry) (outside line) (broken at rule) e) [
      | inr b ↦ same_err {A = InsideFields} (fault_at at rule) (outside_fault line) (sym b.1)
      | inl b ↦ elim (bind_err (entry_at line rest) then_entry at rule b.1) [
        | inl k ↦ at_line AnyOf (outside_at line) (entry_at line rest) at rule (entry_fine line rest) k
        | inr k ↦ elim (at_line GoodInside (here_at line) (then_entry k.0) at rule
            (item_entry_fine document list line (item_key kind k.0.key) k.0.value (dash_before_key text)) k.2) [
              | inl q ↦ q
              | inr q ↦ absurd (first_never document list line (item_key kind k.0.key) k.0.value refl (dash_before_key text) (k.2
                  ∙ ap Err q))
            ]
      ]
    ]

drop_clean : (n : ℕ) (text : List ℕ) → has_barred text ≡ false → has_barred (drop n text) ≡ false
unfolding has_barred
drop_clean zero text h = h
drop_clean (suc n) [] h = refl
drop_clean (suc n) (b ∷ text) h = drop_clean n text (or_parts (is_barred b) (has_barred text) h).1

drop_line : (n : ℕ) (text : List ℕ) → IsLine text → IsLine (drop n text)
drop_line zero text h = h
drop_line (suc n) [] h = refl
drop_line (suc n) (b ∷ text) h = drop_line n text (or_parts (eqb b 10) (has_line_feed text) h).1

-- no key stands in a column that the item's keys don't stand in
no_key_elsewhere : (first : List (List ℕ)) (before : List DocumentFields) (document : OpenDocumentFields) (list : ItemListFields)
    (skipped : Bool) (n : ℕ) → Reached first (at_item before document list skipped) → n ≢ 0 → n ≢ list.column
    → (skipped ≡ true → ltb list.column n ≡ false) → MayStand first (in_column n unread_key) → ⊥
unfolding belongs_to_top has_barred is_blank_or_comment
no_key_elsewhere first before document list true n r nz nc s m =
    refused first (at_item before document list true) (in_column n unread_key) (length first + 1) S1 r
    (column_steps before document list true (length first + 1) n unread_key refl refl refl nz
    ∙ rw (s refl, eq_false n list.column nc) refl) m
no_key_elsewhere first before document list false n r nz nc s m =
    refused first (at_item before document list false) (in_column n unread_key) (length first + 1) S1 r
    (column_steps before document list false (length first + 1) n unread_key refl refl refl nz ∙ rw (eq_false n list.column nc) refl) m

item_why : (first : List (List ℕ)) (before : List DocumentFields) (document : OpenDocumentFields) (list : ItemListFields)
    (skipped : Bool) (text : List ℕ) (at : ℕ) (rule : StubRule) → Known first (at_item before document list skipped)
    → has_barred text ≡ false → is_passed text ≡ false → IsLine text → (skipped ≡ true → ltb list.column (indent text) ≡ false)
    → ItemCause before document list (length first + 1) text at rule → IsWhy rule at first text
unfolding unspaced item_key_line
item_why first before document list skipped text at rule k clean some l s (EndsLacking ends w) =
    let q = at_line AnyOf (lacking_at document.line) (items_with_last document.line list) at rule
    (items_with_last_fine document.line list) w in
    same_why at rule first text (record { line = document.line; rule = S2 }) q (
      k.heads,
      record {
        clean = clean;
        lacks = inl (
          lacks_item first before document list skipped at rule k.reached w,
          elim ends [
            | inl d ↦ inr (next_item first before document list skipped text k.reached k.reached.good.0 d.0 d.1)
            | inr z ↦ inl (some, z)
          ],
        );
      },
    )
item_why first before document list skipped text at rule k clean some l s (Next items dash i w) =
    let n = length first + 1 in
    same_why at rule first text (outside_fault n) (first_outside document list.kind items n text at rule w) (
      refl,
      (λ e. elim e.lacks [
        | inl x ↦ no_item_lacks first before document (with_items list.kind items document) (Some list) skipped k.reached (items, i, refl)
            x.0
        | inr x ↦ dash_no_end text dash x.1
      ]),
      dash_no_key first text dash,
    )
item_why first before document list skipped text at rule k clean some l s (AtTop items flat i w) =
    top_why first before document (with_items list.kind items document) (Some list) skipped text at rule k (items, i, refl) clean l
    (items_line list.kind items document) (λ m. flat)
    (top_cause before (with_items list.kind items document) (length first + 1) text at rule w)
item_why first before document list skipped text at rule k clean some l s (InColumn nz column w) =
    let n = length first + 1 in
    let rest = unspaced text in
    let nd : has_dash text ≡ true → indent text ≢ list.dash = λ d h. absurd (omega (arith, h, column, k.reached.good.0)) in
    let ends = deep_ends_nothing first before document list skipped text k.reached nz nd s in
    let then_entry : Entry → Reading InsideFields = λ entry. item_entry document list n (item_key list.kind entry.key) entry.value in
    elim (bind_err (entry_at n rest) then_entry at rule w) [
      | inl e ↦ same_why at rule first text (outside_fault n) (at_line AnyOf (outside_at n) (entry_at n rest) at rule (entry_fine n rest) e)
          (refl, ends, no_key_twice first text at rule e)
      | inr e ↦ elim (at_line GoodInside (here_at n) (then_entry e.0) at rule
          (item_entry_fine document list n (item_key list.kind e.0.key) e.0.value k.reached.good.0) e.2) [
            | inl q ↦ same_why at rule first text (outside_fault n) q (
              refl,
              ends,
              value_in_column first before document list skipped text e.0 k.reached k.reached.good.0 column
                  (drop_clean (indent text) text clean) (drop_line (indent text) text l) e.1 (e.2 ∙ ap Err q),
            )
            | inr q ↦ same_why at rule first text (record { line = n; rule = S3 }) q (
              refl,
              twice_in_item first before document list skipped text e.0 k.reached k.reached.good.0 clean column e.1 (e.2 ∙ ap Err q),
            )
          ]
    ]
item_why first before document list skipped text at rule k clean some l s (Nowhere nz nc nd w) =
    let n = length first + 1 in
    same_why at rule first text (outside_fault n) (same_err {A = StateFields} (fault_at at rule) (outside_fault n) (sym w)) (
      refl,
      deep_ends_nothing first before document list skipped text k.reached nz nd s,
      λ t. no_key_elsewhere first before document list skipped (indent text) k.reached nz nc s t.another,
    )

-- ---- where a key may stand

-- A line that is refused where a key may stand is refused for the reason that is told.
pub keys_why : (first : List (List ℕ)) (before : List DocumentFields) (document : OpenDocumentFields) (list : Option ItemListFields)
    (skipped : Bool) (text : List ℕ) (at : ℕ) (rule : StubRule) → Known first (keys_state before document list skipped)
    → has_barred text ≡ false → is_passed text ≡ false → IsLine text → (skipped ≡ true → belongs list text ≡ false)
    → key_line before document list (length first + 1) text ≡ broken at rule → IsWhy rule at first text
keys_why first before document None skipped text at rule k clean some l s e =
    top_why first before document document None skipped text at rule k refl clean l refl
    (no_deeper_key first before document skipped (indent text) k.reached (λ h. top_indent text (s h)))
    (top_cause before document (length first + 1) text at rule e)
keys_why first before document (Some list) skipped text at rule k clean some l s e =
    item_why first before document list skipped text at rule k clean some l s
    (item_cause before document list (length first + 1) text at rule e)
