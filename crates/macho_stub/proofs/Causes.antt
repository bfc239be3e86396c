-- Why a line where a key may stand is refused. The tests are made in the order of the line: whether it ends an item, a
-- document, and then its key and its value; so the first that fails tells what the line breaks.
-- The reading of a line is a chain of choices and steps. Where the whole fails, each choice went one way, and the step that
-- failed is known (`top_cause` behind the keys of a document, `item_cause` behind those of an item). A key that is refused
-- because it stood before is refused with any other value too, since that test is made before the value is read
-- (`top_again`, `item_again`).
use Rattle.std.proofs.Common.{◌≡◌, ◌≢◌, ℕ, ◌<◌, ◌&&◌, Bool, true, false, cond, eqb, List, length, Some, None, Ok, Err, is_some, refl, ap, ◌⊎◌, inl, inr}
use Rattle.std.proofs.lemmas.Bool.{and_parts}
use Rattle.std.specs.Str.{bytes_eq}
use Rattle.macho_stub_lines.specs.declared.keys.ItemKey.{ItemKey}
use Rattle.macho_stub_lines.specs.declared.keys.ItemKey.TheVariants as item
use Rattle.macho_stub_lines.specs.declared.keys.TopKey.{TopKey}
use Rattle.macho_stub_lines.specs.declared.keys.TopKey.TheVariants as top
use Rattle.macho_stub_lines.specs.declared.fault.StubRule.{StubRule}
use Rattle.macho_stub_lines.specs.declared.fault.StubRule.TheVariants.{S1, S3}
use Rattle.macho_stub_lines.specs.Bytes.{indent, unspaced, head, end, has_dash}
use Rattle.macho_stub_lines.specs.Faults.{Fault, Reading, ◌>>=◌, broken, outside}
use Rattle.macho_stub_lines.specs.Keys.{Entry, entry_at, scalar_value, version_value, top_key}
use Rattle.macho_stub.specs.Documents.{ItemFields, DocumentFields}
use Rattle.macho_stub.specs.steps.Opened.{OpenDocumentFields, with_items, has_items, has_key}
use Rattle.macho_stub.specs.steps.Reader.{ItemListFields, InsideFields, NoItem, StateFields, stays, skipped_value, item_entry, item_key_line, first_line, top_entry, within, with_whole, top_line, items_with_last, item_line}
use Rattle.macho_stub_lines.proofs.Bind.{chosen, eq_at, ne_at, other_bytes}
use Rattle.macho_stub.proofs.Ruling.{bind_err, same_err, ok_not_told}
use Rattle.macho_stub.proofs.FineLines.{Fine, AnyOf, outside_at, version_fine, scalar_fine, fine_ok, fine_bind, fine_if, fine_here}
use Rattle.macho_stub.proofs.Fine.{GoodInside, names_value_fine, skipped_value_fine}
use Rattle.macho_stub.proofs.Branches.{at_head, at_end, at_entry, then_first, then_top}
use Rattle.macho_bytes.proofs.Comparing.{same_bytes}

-- a document ends at its end, or where the next one begins
abbrev pub EndsDocument : List ℕ → Type 0
EndsDocument line = (line ≡ head) ⊎ (line ≡ end)

-- ---- faults

-- one fault is told by its line and its rule
pub at_line : {A : Type 0} (P : A → Type 0) (Q : Fault → Type 0) (r : Reading A) (line : ℕ) (rule : StubRule) → Fine P Q r
    → r ≡ broken line rule → Q (record { line = line; rule = rule })
at_line P Q r line rule f e = f.err (record { line = line; rule = rule }) e

-- a fault by its line and its rule
abbrev pub fault_at : ℕ → StubRule → Fault
fault_at line rule = record { line = line; rule = rule }

-- faults that are one have one line and one rule
pub same_parts : (l m : ℕ) (r s : StubRule) → fault_at l r ≡ fault_at m s → (l ≡ m) × (r ≡ s)
same_parts l m r s e = (ap (λ (f : Fault). f.line) e, ap (λ (f : Fault). f.rule) e)

-- ---- a second key

-- the value of a key that stood before doesn't matter
once_again : {A : Type 0} (P : A → Type 0) (line : ℕ) (had : Bool) (r s : Reading A) → Fine P (outside_at line) r
    → cond had (broken line S3) r ≡ broken line S3 → cond had (broken line S3) s ≡ broken line S3
once_again P line true r s f e = refl
once_again P line false r s f e = absurd (let h = (same_parts line line S3 S1 (at_line P (outside_at line) r line S3 f e)).1 in cc)

-- a key of a document that is refused as a second one is refused so with any value
pub top_again : (document : OpenDocumentFields) (line : ℕ) (key : TopKey) (value other : List ℕ)
    → top_entry document line key value ≡ broken line S3 → top_entry document line key other ≡ broken line S3
top_again document line top.Version value other e = once_again GoodInside line (is_some document.version) _ _
    (fine_bind AnyOf GoodInside (outside_at line) (version_value line value) _ (version_fine line value) (λ x _. fine_ok _ (tt, tt))) e
top_again document line top.Targets value other e = once_again GoodInside line (is_some document.targets) _ _
    (names_value_fine document None line item.Targets value tt) e
top_again document line top.InstallName value other e = once_again GoodInside line (is_some document.install_name) _ _
    (fine_bind AnyOf GoodInside (outside_at line) (scalar_value line value) _ (scalar_fine line value) (λ x _. fine_ok _ (tt, tt))) e
top_again document line top.CurrentVersion value other e = once_again GoodInside line (is_some document.current_version) _ _
    (fine_bind AnyOf GoodInside (outside_at line) (scalar_value line value) _ (scalar_fine line value) (λ x _. fine_ok _ (tt, tt))) e
top_again document line (top.Items kind) value other e = once_again GoodInside line (has_items kind document) _ _
    (fine_if GoodInside (outside_at line) (eqb (length value) 0) (Ok (stays document None (NoItem kind line))) (outside line)
    (fine_ok _ (tt, tt)) fine_here) e
top_again document line top.Unread value other e = absurd (let h = (same_parts line line S3 S1
    (at_line GoodInside (outside_at line) (skipped_value document None line value) line S3 (skipped_value_fine document None line value tt)
    e)).1 in
    cc)

-- and so is a key of an item
pub item_again : (document : OpenDocumentFields) (list : ItemListFields) (line : ℕ) (key : ItemKey) (value other : List ℕ)
    → list.dash < list.column → item_entry document list line key value ≡ broken line S3
    → item_entry document list line key other ≡ broken line S3
item_again document list line item.Unread value other g e = absurd (let h = (same_parts line line S3 S1
    (at_line GoodInside (outside_at line) (skipped_value document (Some list) line value) line S3
    (skipped_value_fine document (Some list) line value g) e)).1 in cc)
item_again document list line item.Targets value other g e = once_again GoodInside line (has_key item.Targets list.item) _ _
    (names_value_fine document (Some list) line item.Targets value g) e
item_again document list line item.Names value other g e = once_again GoodInside line (has_key item.Names list.item) _ _
    (names_value_fine document (Some list) line item.Names value g) e
item_again document list line item.WeakNames value other g e = once_again GoodInside line (has_key item.WeakNames list.item) _ _
    (names_value_fine document (Some list) line item.WeakNames value g) e

-- ---- a line behind the keys of a document

-- Why the line is refused behind the keys of a document: the document lacks a key and the line ends it, or the line
-- has no key, or one that is refused.
pub data TopCause (before : List DocumentFields) (document : OpenDocumentFields) (line : ℕ) (text : List ℕ) (at : ℕ) (rule : StubRule)
    : Type 0 where
  Ends : EndsDocument text → with_whole before document ≡ broken at rule → TopCause before document line text at rule
  NoKey : text ≢ head → text ≢ end → entry_at line text ≡ broken at rule → TopCause before document line text at rule
  Refused : (said : Entry) → text ≢ head → text ≢ end → entry_at line text ≡ Ok said
      → top_entry document line (top_key said.key) said.value ≡ broken at rule
      → TopCause before document line text at rule

-- what leads inside a document is refused where the reading inside is
pub within_refused : (before : List DocumentFields) (reading : Reading InsideFields) (at : ℕ) (rule : StubRule)
    → within before reading ≡ broken at rule → reading ≡ broken at rule
within_refused before (Ok inside) at rule e = absurd (ok_not_told _ at rule e)
within_refused before (Err fault) at rule e = ap Err (same_err {A = StateFields} fault (record { line = at; rule = rule }) e)

-- a line that is refused behind the keys of a document has such a cause
pub top_cause : (before : List DocumentFields) (document : OpenDocumentFields) (line : ℕ) (text : List ℕ) (at : ℕ) (rule : StubRule)
    → top_line before document line text ≡ broken at rule → TopCause before document line text at rule
unfolding top_line
top_cause before document line text at rule e =
    let by_end = cond (bytes_eq text end) (with_whole before document >>= at_end) (entry_at line text >>= at_entry before document line) in
    elim (chosen (bytes_eq text head) (with_whole before document >>= at_head line) by_end (broken at rule) e) [
      | inl b ↦ elim (bind_err (with_whole before document) (at_head line) at rule b.1) [
        | inl w ↦ Ends (inl (same_bytes text head b.0)) w
        | inr w ↦ absurd (ok_not_told _ at rule w.2)
      ]
      | inr b ↦ elim (chosen (bytes_eq text end) (with_whole before document >>= at_end) (entry_at line text >>= at_entry before document
          line)
          (broken at rule) b.1) [
            | inl d ↦ elim (bind_err (with_whole before document) at_end at rule d.1) [
              | inl w ↦ Ends (inr (same_bytes text end d.0)) w
              | inr w ↦ absurd (ok_not_told _ at rule w.2)
            ]
            | inr d ↦ elim (bind_err (entry_at line text) (at_entry before document line) at rule d.1) [
              | inl k ↦ NoKey (other_bytes text head b.0) (other_bytes text end d.0) k
              | inr k ↦ Refused k.0 (other_bytes text head b.0) (other_bytes text end d.0) k.1 (within_refused before _ at rule k.2)
            ]
          ]
    ]

-- ---- a line behind the keys of an item

-- Why the line is refused behind the keys of an item: the item lacks a key, and the line ends it; the line begins the
-- next item, which is refused, or stands at column 0 and is refused there; or it has no key, or one that is refused.
pub data ItemCause (before : List DocumentFields) (document : OpenDocumentFields) (list : ItemListFields) (line : ℕ) (text : List ℕ)
    (at : ℕ) (rule : StubRule) : Type 0 where
  EndsItem : ((has_dash text ≡ true) × (indent text ≡ list.dash)) ⊎ (indent text ≡ 0) → items_with_last document.line list ≡ broken at rule
      → ItemCause before document list line text at rule
  Next : (items : List ItemFields) → has_dash text ≡ true → items_with_last document.line list ≡ Ok items
      → first_line document list.kind items line text ≡ broken at rule → ItemCause before document list line text at rule
  AtTop : (items : List ItemFields) → indent text ≡ 0 → items_with_last document.line list ≡ Ok items
      → top_line before (with_items list.kind items document) line text ≡ broken at rule → ItemCause before document list line text at rule
  InColumn : indent text ≢ 0 → indent text ≡ list.column → item_key_line document list line (unspaced text) ≡ broken at rule
      → ItemCause before document list line text at rule
  Nowhere : indent text ≢ 0 → indent text ≢ list.column → (has_dash text ≡ true → indent text ≢ list.dash)
      → outside {A = StateFields} line ≡ broken at rule → ItemCause before document list line text at rule

not_both : (a b : Bool) → (a && b) ≡ false → a ≡ true → b ≡ false
not_both true b h e = h
not_both false b h e = absurd cc

-- a line that is refused behind the keys of an item has such a cause
pub item_cause : (before : List DocumentFields) (document : OpenDocumentFields) (list : ItemListFields) (line : ℕ) (text : List ℕ)
    (at : ℕ) (rule : StubRule) → item_line before document list line text ≡ broken at rule
    → ItemCause before document list line text at rule
unfolding item_line
item_cause before document list line text at rule e =
    let first = then_first before document list.kind line text in
    let top = then_top before document list.kind line text in
    let by_key = cond (eqb (indent text) list.column) (within before (item_key_line document list line (unspaced text))) (outside line) in
    let by_top = cond (eqb (indent text) 0) (items_with_last document.line list >>= top) by_key in
    elim (chosen (has_dash text && eqb (indent text) list.dash) (items_with_last document.line list >>= first) by_top (broken at rule) e) [
      | inl b ↦
          let both = and_parts (has_dash text) (eqb (indent text) list.dash) b.0 in
          elim (bind_err (items_with_last document.line list) first at rule b.1) [
            | inl w ↦ EndsItem (inl (both.0, eq_at _ _ both.1)) w
            | inr w ↦ Next w.0 both.0 w.1 (within_refused before _ at rule w.2)
          ]
      | inr b ↦ elim (chosen (eqb (indent text) 0) (items_with_last document.line list >>= top) by_key (broken at rule) b.1) [
        | inl d ↦ elim (bind_err (items_with_last document.line list) top at rule d.1) [
          | inl w ↦ EndsItem (inr (eq_at _ _ d.0)) w
          | inr w ↦ AtTop w.0 (eq_at _ _ d.0) w.1 w.2
        ]
        | inr d ↦ elim (chosen (eqb (indent text) list.column) (within before (item_key_line document list line (unspaced text))) (outside
            line)
            (broken at rule) d.1) [
              | inl k ↦ InColumn (ne_at _ _ d.0) (eq_at _ _ k.0) (within_refused before _ at rule k.1)
              | inr k ↦ Nowhere (ne_at _ _ d.0) (ne_at _ _ k.0)
                  (λ dash. ne_at _ _ (not_both (has_dash text) (eqb (indent text) list.dash) b.0 dash)) k.1
            ]
      ]
    ]
