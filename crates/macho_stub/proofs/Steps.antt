-- Steps over lines that are known in part: a line at column 0 behind the keys of an item or a document, and a line in
-- the column of an item's keys.
-- A line at column 0 that has content and belongs to no skipped value closes the item that is read, if there is one;
-- where this lacks no key, the line is one of the document with the item in it (`Closes`, `top_steps`), and where it
-- does, the line is refused for it. So a key that isn't read is passed there, and a head or an end is refused exactly
-- as the document that it closes is.
use Rattle.std.proofs.Common.{◌≡◌, ℕ, ◌&&◌, Bool, true, false, eqb, List, Option, Some, None, Ok, refl, ◌∙◌, arith}
use Rattle.macho_stub_lines.specs.declared.fault.StubRule.{StubRule}
use Rattle.macho_stub_lines.specs.Bytes.{indent, unspaced, is_passed, has_barred, is_blank_or_comment, is_key_byte, is_tail, head, end, has_dash, belongs_to_top}
use Rattle.macho_stub_lines.specs.Faults.{broken}
use Rattle.macho_stub_lines.specs.Keys.{entry_at, top_key}
use Rattle.macho_stub.specs.Documents.{ItemFields, DocumentFields}
use Rattle.macho_stub.specs.steps.Opened.{OpenDocumentFields, with_items}
use Rattle.macho_stub.specs.steps.Reader.{ItemListFields, Within, StateFields, stays, skipped_value, with_whole, top_line, items_with_last, item_line, line_step}
use Rattle.macho_stub.specs.steps.Order.{unread_key}
use Rattle.macho_stub_lines.proofs.Bind.{one_way}
use Rattle.macho_stub.proofs.OnlyLines.{top_indent, top_no_dash}
use Rattle.macho_stub.proofs.PutIn.{mode_at, at_top, at_item}
use Rattle.macho_bytes.proofs.Comparing.{not_less}

-- the item that is read, if one is, lacks no key, and the document is this with it
abbrev pub Closes : Option ItemListFields → OpenDocumentFields → OpenDocumentFields → Type 0
Closes None document whole = document ≡ whole
Closes (Some list) document whole = (items : List ItemFields) × (items_with_last document.line list ≡ Ok items)
    × (with_items list.kind items document ≡ whole)

-- where a key may stand
abbrev pub keys_state : List DocumentFields → OpenDocumentFields → Option ItemListFields → Bool → StateFields
keys_state before document list skipped = record { documents = before; place = Within (stays document list (mode_at skipped)) }

-- a line at column 0 is read as one of the document with its last item in it
pub top_steps : (before : List DocumentFields) (document whole : OpenDocumentFields) (list : Option ItemListFields) (skipped : Bool)
    (line : ℕ) (text : List ℕ) → Closes list document whole → has_barred text ≡ false → is_passed text ≡ false
    → belongs_to_top text ≡ false
    → line_step (keys_state before document list skipped) line text ≡ top_line before whole line text
unfolding line_step item_line
top_steps before document whole None true line text c clean some out = rw (clean, some, out, c) refl
top_steps before document whole None false line text c clean some out = rw (clean, some, c) refl
top_steps before document whole (Some list) true line text c clean some out =
    rw (clean, some, top_indent text out, top_no_dash text out, not_less list.column 0 (omega arith), c.1, c.2) refl
top_steps before document whole (Some list) false line text c clean some out =
    rw (clean, some, top_indent text out, top_no_dash text out, c.1, c.2) refl

-- a line at column 0 behind an item that lacks a key
pub lacking_steps : (before : List DocumentFields) (document : OpenDocumentFields) (list : ItemListFields) (skipped : Bool)
    (line : ℕ) (text : List ℕ) (at : ℕ) (rule : StubRule) → items_with_last document.line list ≡ broken at rule
    → has_barred text ≡ false → is_passed text ≡ false → indent text ≡ 0
    → line_step (at_item before document list skipped) line text ≡ broken at rule
unfolding line_step item_line
lacking_steps before document list true line text at rule e clean some zero =
    rw (clean, some, zero, not_less list.column 0 (omega arith), e)
    (one_way (has_dash text && eqb 0 list.dash) (broken {A = StateFields} at rule))
lacking_steps before document list false line text at rule e clean some zero =
    rw (clean, some, zero, e) (one_way (has_dash text && eqb 0 list.dash) (broken {A = StateFields} at rule))

-- ---- a key that isn't read, a head and an end

-- a key that isn't read is read there, and its value is skipped
pub unread_key_at_top : (before : List DocumentFields) (document whole : OpenDocumentFields) (list : Option ItemListFields) (skipped : Bool)
    (line : ℕ) → Closes list document whole
    → line_step (keys_state before document list skipped) line unread_key ≡ Ok (at_top before whole true)
unfolding has_barred is_passed is_blank_or_comment unspaced indent belongs_to_top top_line entry_at is_key_byte is_tail top_key
    skipped_value
unread_key_at_top before document whole list skipped line c = top_steps before document whole list skipped line unread_key c refl refl refl

-- a head is refused where the document lacks a key
pub head_at_top : (before : List DocumentFields) (document whole : OpenDocumentFields) (list : Option ItemListFields) (skipped : Bool)
    (line at : ℕ) (rule : StubRule) → Closes list document whole → with_whole before whole ≡ broken at rule
    → line_step (keys_state before document list skipped) line head ≡ broken at rule
unfolding has_barred is_passed is_blank_or_comment unspaced indent belongs_to_top top_line
head_at_top before document whole list skipped line at rule c e =
    top_steps before document whole list skipped line head c refl refl refl ∙ rw e refl

-- and so is an end
pub end_at_top : (before : List DocumentFields) (document whole : OpenDocumentFields) (list : Option ItemListFields) (skipped : Bool)
    (line at : ℕ) (rule : StubRule) → Closes list document whole → with_whole before whole ≡ broken at rule
    → line_step (keys_state before document list skipped) line end ≡ broken at rule
unfolding has_barred is_passed is_blank_or_comment unspaced indent belongs_to_top top_line
end_at_top before document whole list skipped line at rule c e =
    top_steps before document whole list skipped line end c refl refl refl ∙ rw e refl
