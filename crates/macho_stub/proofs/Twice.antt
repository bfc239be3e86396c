-- A second key. Behind the lines that were read another key may stand in its column, one that isn't read; but a line
-- with this key is refused, whatever follows the key's colon: either that is no value, or the key had come before.
-- A line with the key reads as the same key with another value (`Keyed`). If there is a value at all, the key is
-- refused before it is looked at (`Causes`), since it stood before; if there is none, the line is outside the grammar.
-- So no text of the grammar goes on with it, while a key that isn't read is skipped there. This is done at column 0
-- (`twice_at_top`) and in the column of an item's keys (`twice_in_item`).
use Rattle.std.proofs.Common.{◌≡◌, ℕ, ◌+◌, ◌<◌, Bool, true, false, List, ◌∷◌, ◌++◌, length, drop, Option, Ok, refl, sym, ap, ◌∙◌, inl, inr, subst}
use Rattle.macho_stub_lines.specs.declared.keys.ItemKind.{ItemKind}
use Rattle.macho_stub_lines.specs.declared.keys.ItemKind.TheVariants.{Libraries, Exports, Reexports}
use Rattle.macho_stub_lines.specs.declared.fault.StubRule.{StubRule}
use Rattle.macho_stub_lines.specs.declared.fault.StubRule.TheVariants.{S1, S3}
use Rattle.macho_stub_lines.specs.Bytes.{colon, indent, unspaced, is_passed, has_barred, is_blank_or_comment, is_key_byte, is_tail, belongs_to_top}
use Rattle.macho_stub_lines.specs.Faults.{Reading, ◌>>=◌, broken}
use Rattle.macho_stub_lines.specs.Keys.{Entry, entry_at, entry_behind, top_key, item_key}
use Rattle.macho_stub.specs.Documents.{DocumentFields}
use Rattle.macho_stub.specs.steps.Opened.{OpenDocumentFields}
use Rattle.macho_stub.specs.steps.Reader.{ItemListFields, InsideFields, StateFields, skipped_value, top_entry, item_entry, item_key_line, within, top_line, line_step}
use Rattle.macho_stub.specs.Order.{MayStand, StandsTwice, in_column}
use Rattle.macho_stub.specs.steps.Order.{unread_key}
use Rattle.macho_stub.proofs.OnlyLines.{entry_unspaced}
use Rattle.macho_stub.proofs.Joined.{spaces_line}
use Rattle.macho_stub.proofs.PutIn.{at_top, at_item, item_text_barred, item_text_steps}
use Rattle.macho_stub.proofs.Reached.{Reached, may_stand, refused}
use Rattle.macho_stub.proofs.Steps.{Closes, keys_state, top_steps, unread_key_at_top}
use Rattle.macho_stub.proofs.Keyed.{HasKey, same_key, key_reads, key_or_outside, key_at_top, key_has_content, key_not_passed, key_no_head, key_no_end}
use Rattle.macho_stub.proofs.Causes.{top_again, item_again}
use Rattle.macho_stub.proofs.Lacking.{barred_steps}
use Rattle.macho_stub.proofs.TwiceKeys.{stands_twice}

-- a text that begins with a key has no spaces in front
pub no_spaces : (line : ℕ) (text : List ℕ) (said : Entry) → entry_at line text ≡ Ok said → (indent text ≡ 0) × (unspaced text ≡ text)
unfolding indent unspaced
no_spaces line text said e = let z = entry_unspaced line text said e in (z, ap (λ n. drop n text) z)

-- ---- at column 0

-- what a line with a key goes on with in a document
unfoldable pub then_top : List DocumentFields → OpenDocumentFields → ℕ → Entry → Reading StateFields
then_top before document line entry = within before (top_entry document line (top_key entry.key) entry.value)

-- a line of a document that begins with a key, by what stands behind the colon
pub top_reads : (before : List DocumentFields) (document : OpenDocumentFields) (line : ℕ) (text key rest : List ℕ) → HasKey text key rest
    → top_line before document line text ≡ (entry_behind line key rest >>= then_top before document line)
unfolding top_line then_top
top_reads before document line text key rest h = rw (
  key_no_head text key rest h,
  key_no_end text key rest h,
  key_reads line text key rest
      h,
) refl

top_refuses : (before : List DocumentFields) (document : OpenDocumentFields) (line : ℕ) (key value rest : List ℕ)
    → top_entry document line (top_key key) value ≡ broken line S3
    → (rule : StubRule) × ((entry_behind line key rest >>= then_top before document line) ≡ broken line rule)
unfolding then_top
top_refuses before document line key value rest e =
    elim (key_or_outside line key rest) [
      | inl k ↦
          let again : top_entry document line (top_key k.0.key) k.0.value
          ≡ broken line S3 = ap (λ x. top_entry document line (top_key x) k.0.value) k.2
          ∙ top_again document line (top_key key) value k.0.value e in
          (S3, ap (λ reading. reading >>= then_top before document line) k.1 ∙ ap (within before) again)
      | inr o ↦ (S1, ap (λ reading. reading >>= then_top before document line) o)
    ]

-- A key of a document that is refused as a second one stands twice.
pub twice_at_top : (first : List (List ℕ)) (before : List DocumentFields) (document whole : OpenDocumentFields)
    (list : Option ItemListFields) (skipped : Bool) (text : List ℕ) (said : Entry) → Reached first (keys_state before document list skipped)
    → Closes list document whole → has_barred text ≡ false → entry_at (length first + 1) text ≡ Ok said
    → top_entry whole (length first + 1) (top_key said.key) said.value ≡ broken (length first + 1) S3 → StandsTwice first text
twice_at_top first before document whole list skipped text said r c clean e twice =
    let n = length first + 1 in
    let state = keys_state before document list skipped in
    let z = no_spaces n text said e in
    let M : ℕ → Type 0 = λ k. MayStand first (in_column k unread_key) in
    stands_twice first text said clean (ap (entry_at n) z.1 ∙ e)
    (subst M (sym z.0) (may_stand first state (at_top before whole true) unread_key r refl
    (unread_key_at_top before document whole list skipped n c)))
    (λ rest m.
    let again = said.key ++ colon ∷ rest in
    let N : ℕ → Type 0 = λ k. MayStand first (in_column k again) in
    by_test rest (subst N z.0 m) (has_barred again) refl)
  where
    by_test : (rest : List ℕ) → MayStand first (said.key ++ colon ∷ rest) → (t : Bool) → has_barred (said.key ++ colon ∷ rest) ≡ t → ⊥
    by_test rest m true h = refused first (keys_state before document list skipped) (said.key ++ colon ∷ rest) (length first + 1) S1 r
        (barred_steps (keys_state before document list skipped) (length first + 1) (said.key ++ colon ∷ rest) h) m
    by_test rest m false h =
        let n = length first + 1 in
        let again = said.key ++ colon ∷ rest in
        let k = same_key n text said rest e in
        let t = top_refuses before whole n said.key said.value rest twice in
        refused first (keys_state before document list skipped) again n t.0 r
        (top_steps before document whole list skipped n again c h (key_not_passed again said.key rest k) (key_at_top again said.key rest k)
        ∙ top_reads before whole n again said.key rest k ∙ t.1) m

-- ---- in the column of an item's keys

-- a key that isn't read
unread_key_said : (before : List DocumentFields) (document : OpenDocumentFields) (list : ItemListFields) (line : ℕ) (kind : ItemKind)
    → list.kind ≡ kind → within before (item_key_line document list line unread_key) ≡ Ok (at_item before document list true)
unfolding item_key_line entry_at is_key_byte is_tail item_key skipped_value unspaced indent is_passed is_blank_or_comment
unread_key_said before document list line Libraries k = rw k refl
unread_key_said before document list line Exports k = rw k refl
unread_key_said before document list line Reexports k = rw k refl

pub unread_key_in_column : (first : List (List ℕ)) (before : List DocumentFields) (document : OpenDocumentFields) (list : ItemListFields)
    (skipped : Bool) → Reached first (at_item before document list skipped) → list.dash < list.column
    → MayStand first (in_column list.column unread_key)
unfolding has_barred is_blank_or_comment belongs_to_top
unread_key_in_column first before document list skipped r below =
    let n = length first + 1 in
    may_stand first (at_item before document list skipped) (at_item before document list true) (in_column list.column unread_key) r
    (spaces_line list.column unread_key refl)
    (item_text_steps before document list skipped n unread_key refl refl refl below ∙ unread_key_said before document list n list.kind refl)

-- and in an item
abbrev pub then_item : OpenDocumentFields → ItemListFields → ℕ → Entry → Reading InsideFields
then_item document list line entry = item_entry document list line (item_key list.kind entry.key) entry.value

item_refuses : (before : List DocumentFields) (document : OpenDocumentFields) (list : ItemListFields) (line : ℕ)
    (text key value rest : List ℕ) → HasKey text key rest → list.dash < list.column
    → item_entry document list line (item_key list.kind key) value ≡ broken line S3
    → (rule : StubRule) × (within before (item_key_line document list line text) ≡ broken line rule)
unfolding item_key_line
item_refuses before document list line text key value rest h below e =
    elim (key_or_outside line key rest) [
      | inl k ↦
          let again : item_entry document list line (item_key list.kind k.0.key) k.0.value
          ≡ broken line S3 = ap (λ x. item_entry document list line (item_key list.kind x) k.0.value) k.2
          ∙ item_again document list line (item_key list.kind key) value k.0.value below e in (
            S3,
            ap (λ reading. within before (reading >>= then_item document list line)) (key_reads line text key rest h ∙ k.1)
                ∙ ap (within before) again,
          )
      | inr o ↦ (S1, ap (λ reading. within before (reading >>= then_item document list line)) (key_reads line text key rest h ∙ o))
    ]

-- A key of an item that is refused as a second one stands twice.
pub twice_in_item : (first : List (List ℕ)) (before : List DocumentFields) (document : OpenDocumentFields) (list : ItemListFields)
    (skipped : Bool) (text : List ℕ) (said : Entry) → Reached first (at_item before document list skipped)
    → list.dash < list.column → has_barred text ≡ false → indent text ≡ list.column
    → entry_at (length first + 1) (unspaced text) ≡ Ok said
    → item_entry document list (length first + 1) (item_key list.kind said.key) said.value ≡ broken (length first + 1) S3
    → StandsTwice first text
twice_in_item first before document list skipped text said r below clean at e twice =
    let n = length first + 1 in
    let M : ℕ → Type 0 = λ k. MayStand first (in_column k unread_key) in
    stands_twice first text said clean e (subst M (sym at) (unread_key_in_column first before document list skipped r below))
    (λ rest m.
    let again = said.key ++ colon ∷ rest in
    let N : ℕ → Type 0 = λ k. MayStand first (in_column k again) in
    by_test rest (subst N at m) (has_barred again) refl)
  where
    by_test : (rest : List ℕ) → MayStand first (in_column list.column (said.key ++ colon ∷ rest)) → (t : Bool)
        → has_barred (said.key ++ colon ∷ rest) ≡ t → ⊥
    by_test rest m true h =
        let n = length first + 1 in
        let again = said.key ++ colon ∷ rest in
        refused first (at_item before document list skipped) (in_column list.column again) n S1 r
        (barred_steps (at_item before document list skipped) n (in_column list.column again) (item_text_barred list.column again ∙ h)) m
    by_test rest m false h =
        let n = length first + 1 in
        let again = said.key ++ colon ∷ rest in
        let k = same_key n (unspaced text) said rest e in
        let t = item_refuses before document list n again said.key said.value rest k below twice in
        refused first (at_item before document list skipped) (in_column list.column again) n t.0 r
        (item_text_steps before document list skipped n again (key_at_top again said.key rest k) h (key_has_content again said.key rest k)
        below
        ∙ t.1) m
