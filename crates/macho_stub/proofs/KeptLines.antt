-- What a line leaves: the document's first line, and the line where a flow list or a key of items began.
-- A head alone begins another document, with its own line for the first; any other line leaves the reading outside, or
-- in the document as before (`Behind`). Inside a flow list the list keeps where it began, until it is closed; elsewhere
-- what is open behind a line began at that line (`began_of`). By the tests of the line, each way that it can go is one
-- of an entry (`Kept`), of an item's end, or of a document's. A line inside a flow list leaves no key of items open,
-- and one that is passed over leaves all as it is.
use Rattle.std.proofs.Common.{◌≡◌, ◌≢◌, ℕ, ◌&&◌, true, false, cond, eqb, List, [], Option, Some, None, Ok, refl, sym, ap, ◌∙◌, arith, ◌⊎◌, inl, inr, subst}
use Rattle.std.specs.Str.{bytes_eq}
use Rattle.std.proofs.lemmas.Bool.Decides.{nat_tests}
use Rattle.macho_stub_lines.specs.declared.keys.ItemKey.{ItemKey}
use Rattle.macho_stub_lines.specs.declared.list.Expect.{Expect}
use Rattle.macho_stub_lines.specs.declared.list.Expect.TheVariants.{AfterOpen, AfterComma, AfterName, Closed}
use Rattle.macho_stub_lines.specs.declared.fault.StubRule.TheVariants.{S1}
use Rattle.macho_stub_lines.specs.Bytes.{indent, unspaced, is_passed, has_barred, is_mark, is_plain_byte, has_late_control_after, head, end, has_dash, belongs_to_top}
use Rattle.macho_stub_lines.specs.Scalars.{scalar_front, plain_front}
use Rattle.macho_stub_lines.specs.Faults.{Reading, ◌>>=◌, outside}
use Rattle.macho_stub_lines.specs.Lists.{ListPart, list_part, token_front, behind, with_front}
use Rattle.macho_stub_lines.specs.Keys.{Entry, entry_at, top_key}
use Rattle.macho_stub.specs.Documents.{ItemFields, DocumentFields}
use Rattle.macho_stub.specs.steps.Opened.{OpenDocumentFields, head_at, with_items}
use Rattle.macho_stub.specs.steps.Reader.{ItemListFields, NameListFields, ModeFields, Keys, Skipped, Names, NoItem, InsideFields, PlaceFields, Outside, Within, StateFields, stays, with_names, behind_expect, behind_part, names_line, item_key_line, first_line, top_entry, within, with_whole, top_line, items_with_last, item_line, key_line, belongs, inside_line, content_line, line_step}
use Rattle.macho_stub_lines.proofs.Bind.{chosen, not_broken, not_broken_else, same_ok, no_ok, ne_at, other_bytes}
use Rattle.macho_stub.proofs.Kept.{Kept, kept_ok, kept_bind, Of, FirstLine, items_line, names_line_kept, item_key_line_kept, first_line_kept, top_entry_kept}
use Rattle.macho_bytes.proofs.Comparing.{same_bytes}

-- Behind a line with this number: outside documents, or in the document as before, or in one that the line begins.
abbrev pub Behind : ℕ → ℕ → ℕ → List ℕ → PlaceFields → Type 0
Behind first began line text Outside = Unit {0}
Behind first began line text (Within inside) =
    ((text ≢ head) × Of first began inside) ⊎ ((text ≡ head) × (inside ≡ stays (head_at line) None Keys))

-- the same of a state
abbrev pub BehindState : ℕ → ℕ → ℕ → List ℕ → StateFields → Type 0
BehindState first began line text state = Behind first began line text state.place

within_kept : (first began line : ℕ) (text : List ℕ) (before : List DocumentFields) (reading : Reading InsideFields) → text ≢ head
    → Kept (Of first began) reading → Kept (BehindState first began line text) (within before reading)
within_kept first began line text before reading other h =
    kept_bind (BehindState first began line text) reading (λ inside. Ok (record { documents = before; place = Within inside }))
    (λ inside e. kept_ok (BehindState first began line text) (record { documents = before; place = Within inside }) (inl (
      other,
      h inside
          e,
    )))

first_kept : (first line : ℕ) (text : List ℕ) (before : List DocumentFields) (reading : Reading InsideFields)
    → Kept (FirstLine first line text) reading → Kept (BehindState first line line text) (within before reading)
first_kept first line text before reading h =
    kept_bind (BehindState first line line text) reading (λ inside. Ok (record { documents = before; place = Within inside }))
    (λ inside e. kept_ok (BehindState first line line text) (record { documents = before; place = Within inside }) (inl (h inside e)))

top_line_kept : (before : List DocumentFields) (document : OpenDocumentFields) (line : ℕ) (text : List ℕ)
    → Kept (BehindState document.line line line text) (top_line before document line text)
unfolding top_line
top_line_kept before document line text next e =
    let P = BehindState document.line line line text in
    let then_head : List DocumentFields → Reading StateFields = λ whole. Ok
    (record { documents = whole; place = Within (stays (head_at line) None Keys) }) in
    let then_end : List DocumentFields → Reading StateFields = λ whole. Ok (record { documents = whole; place = Outside }) in
    let then_entry : Entry → Reading StateFields = λ entry. within before (top_entry document line (top_key entry.key) entry.value) in
    let other = cond (bytes_eq text end) (with_whole before document >>= then_end) (entry_at line text >>= then_entry) in
    elim (chosen (bytes_eq text head) (with_whole before document >>= then_head) other (Ok next) e) [
      | inl b ↦ kept_bind P (with_whole before document) then_head
          (λ whole _. kept_ok P _ (inr (same_bytes text head b.0, refl))) next b.1
      | inr b ↦ elim (chosen (bytes_eq text end) (with_whole before document >>= then_end) (entry_at line text >>= then_entry) (Ok next)
          b.1) [
            | inl d ↦ kept_bind P (with_whole before document) then_end (λ whole _. kept_ok P _ tt) next d.1
            | inr d ↦ kept_bind P (entry_at line text) then_entry
                (λ entry _. within_kept document.line line line text before _ (other_bytes text head b.0)
                (top_entry_kept document line (top_key entry.key) entry.value)) next d.1
          ]
    ]

indent_no_head : (text : List ℕ) → indent text ≢ 0 → text ≢ head
unfolding indent
indent_no_head text h = λ is. h (ap (λ t. indent t) is)

item_line_kept : (before : List DocumentFields) (document : OpenDocumentFields) (list : ItemListFields) (line : ℕ) (text : List ℕ)
    → Kept (BehindState document.line line line text) (item_line before document list line text)
unfolding item_line
item_line_kept before document list line text next e =
    let P = BehindState document.line line line text in
    let first : List ItemFields → Reading StateFields = λ items. within before (first_line document list.kind items line text) in
    let top : List ItemFields → Reading StateFields = λ items. top_line before (with_items list.kind items document) line text in
    let by_key = cond (eqb (indent text) list.column) (within before (item_key_line document list line (unspaced text))) (outside line) in
    let by_top = cond (eqb (indent text) 0) (items_with_last document.line list >>= top) by_key in
    elim (chosen (has_dash text && eqb (indent text) list.dash) (items_with_last document.line list >>= first) by_top (Ok next) e) [
      | inl b ↦ kept_bind P (items_with_last document.line list) first
          (λ items _. first_kept document.line line text before _ (first_line_kept document list.kind items line text)) next b.1
      | inr b ↦ elim (chosen (eqb (indent text) 0) (items_with_last document.line list >>= top) by_key (Ok next) b.1) [
        | inl d ↦ kept_bind P (items_with_last document.line list) top
            (λ items _. let K : ℕ → Type 0 = λ n. Kept (BehindState n line line text) (top_line before (with_items list.kind items
            document) line text)
            in subst K (items_line list.kind items document) (top_line_kept before (with_items list.kind items document) line text)) next
            d.1
        | inr d ↦
            let k = not_broken_else (eqb (indent text) list.column) line S1 (within before (item_key_line document list line (unspaced
            text))) next d.1 in
            within_kept document.line line line text before _ (indent_no_head text (ne_at _ _ d.0))
            (item_key_line_kept document list line (unspaced text)) next k.1
      ]
    ]

key_line_kept : (before : List DocumentFields) (document : OpenDocumentFields) (list : Option ItemListFields) (line : ℕ) (text : List ℕ)
    → Kept (BehindState document.line line line text) (key_line before document list line text)
key_line_kept before document None line text = top_line_kept before document line text
key_line_kept before document (Some list) line text = item_line_kept before document list line text

-- a skipped value has no head
belongs_no_head : (list : Option ItemListFields) (text : List ℕ) → belongs list text ≡ true → text ≢ head
unfolding belongs_to_top indent
belongs_no_head None text h = λ is. absurd (let k = sym (ap belongs_to_top is) ∙ h in cc)
belongs_no_head (Some list) text h = λ is. absurd (let z = ap (λ t. indent t) is in grind (arith, nat_tests))

-- and a flow list has none
no_head_in_list : (document : OpenDocumentFields) (list : Option ItemListFields) (line : ℕ) (names : NameListFields) (expect : Expect)
    (inside : InsideFields) → names.part.expect ≡ expect → names_line document list line names head ≡ Ok inside → ⊥
unfolding names_line list_part token_front behind scalar_front plain_front is_plain_byte is_mark has_late_control_after
no_head_in_list document list line names AfterOpen inside x e = no_ok line S1 inside (sym (ap (λ (y : Expect). with_front names.part.names
    (list_part line y 0 head) >>= λ part. Ok (behind_part document list names.began names.key part)) x) ∙ e)
no_head_in_list document list line names AfterComma inside x e = no_ok line S1 inside (sym (ap (λ (y : Expect). with_front names.part.names
    (list_part line y 0 head) >>= λ part. Ok (behind_part document list names.began names.key part)) x) ∙ e)
no_head_in_list document list line names AfterName inside x e = no_ok line S1 inside (sym (ap (λ (y : Expect). with_front names.part.names
    (list_part line y 0 head) >>= λ part. Ok (behind_part document list names.began names.key part)) x) ∙ e)
no_head_in_list document list line names Closed inside x e = no_ok line S1 inside (sym (ap (λ (y : Expect). with_front names.part.names
    (list_part line y 0 head) >>= λ part. Ok (behind_part document list names.began names.key part)) x) ∙ e)

names_no_head : (document : OpenDocumentFields) (list : Option ItemListFields) (line : ℕ) (names : NameListFields) (text : List ℕ)
    (inside : InsideFields) → names_line document list line names text ≡ Ok inside → text ≢ head
names_no_head document list line names text inside e = λ is. no_head_in_list document list line names names.part.expect inside refl
    (sym (ap (names_line document list line names) is) ∙ e)

-- where the list that is open behind a line began
abbrev pub began_of : ModeFields → ℕ → ℕ
began_of Keys line = line
began_of Skipped line = line
began_of (Names names) line = names.began
began_of (NoItem kind at) line = line

-- Behind a line inside a document stands what was before the line, or a document that the line begins.
pub inside_line_kept : (before : List DocumentFields) (document : OpenDocumentFields) (list : Option ItemListFields) (mode : ModeFields)
    (line : ℕ) (text : List ℕ) → Kept (BehindState document.line (began_of mode line) line text) (inside_line before document list mode
    line text)
inside_line_kept before document list Keys line text next e = key_line_kept before document list line text next e
inside_line_kept before document list Skipped line text next e =
    let P = BehindState document.line line line text in
    elim (chosen (belongs list text) (Ok (record { documents = before; place = Within (stays document list Skipped) }))
    (key_line before document list line text) (Ok next) e) [
      | inl b ↦ kept_ok P _ (inl (belongs_no_head list text b.0, (refl, tt))) next b.1
      | inr b ↦ key_line_kept before document list line text next b.1
    ]
inside_line_kept before document list (Names names) line text next e =
    let go = not_broken (bytes_eq text end) line S1 (within before (names_line document list line names text)) next e in
    kept_bind (BehindState document.line names.began line text) (names_line document list line names text)
    (λ inside. Ok (record { documents = before; place = Within inside }))
    (λ inside e. kept_ok (BehindState document.line names.began line text) _
    (inl (names_no_head document list line names text inside e, names_line_kept document list line names text inside e))) next go.1
inside_line_kept before document list (NoItem kind at) line text next e = first_kept document.line line text before _
    (first_line_kept document kind [] line text) next e

-- a list that goes on or is closed leaves no key of items
abbrev pub NoBare : ModeFields → Type 0
NoBare Keys = Unit {0}
NoBare Skipped = Unit {0}
NoBare (Names names) = Unit {0}
NoBare (NoItem kind at) = ⊥

abbrev NoBareInside : InsideFields → Type 0
NoBareInside inside = NoBare inside.mode

names_no_bare : (document : OpenDocumentFields) (list : Option ItemListFields) (key : ItemKey) (names : List (List ℕ))
    → NoBareInside (with_names document list key names)
names_no_bare document None key names = tt
names_no_bare document (Some list) key names = tt

expect_no_bare : (document : OpenDocumentFields) (list : Option ItemListFields) (began : ℕ) (key : ItemKey) (part : ListPart)
    (expect : Expect) → NoBareInside (behind_expect document list began key part expect)
expect_no_bare document list began key part Closed = names_no_bare document list key part.names
expect_no_bare document list began key part AfterOpen = tt
expect_no_bare document list began key part AfterComma = tt
expect_no_bare document list began key part AfterName = tt

-- no key of items is open there
abbrev pub NoBarePlace : PlaceFields → Type 0
NoBarePlace Outside = Unit {0}
NoBarePlace (Within inside) = NoBare inside.mode

-- a line of a flow list leaves no key of items open
pub names_line_no_bare : (before : List DocumentFields) (document : OpenDocumentFields) (list : Option ItemListFields) (line : ℕ)
    (names : NameListFields) (text : List ℕ)
    → Kept (λ (next : StateFields). NoBarePlace next.place) (within before (names_line document list line names text))
unfolding names_line
names_line_no_bare before document list line names text =
    let P : StateFields → Type 0 = λ next. NoBarePlace next.place in
    kept_bind P (with_front names.part.names (list_part line names.part.expect 0 text) >>= λ part. Ok
    (behind_part document list names.began names.key part)) (λ inside. Ok (record { documents = before; place = Within inside }))
    (λ inside e. kept_ok P (record { documents = before; place = Within inside })
    (kept_bind NoBareInside (with_front names.part.names (list_part line names.part.expect 0 text))
    (λ part. Ok (behind_part document list names.began names.key part))
    (λ part _. kept_ok NoBareInside _ (expect_no_bare document list names.began names.key part part.expect)) inside e))

-- outside documents only a head may stand, and it begins a document
pub outside_kept : (before : List DocumentFields) (line : ℕ) (text : List ℕ) (next : StateFields)
    → content_line before Outside line text ≡ Ok next
    → (text ≡ head) × (record { documents = before; place = Within (stays (head_at line) None Keys) } ≡ next)
outside_kept before line text next e =
    let b = not_broken_else (bytes_eq text head) line S1 (Ok (record {
      documents = before;
      place = Within (stays (head_at line) None Keys);
    }))
    next e in
    (same_bytes text head b.0, same_ok _ _ b.1)

-- a step over a line that is passed over stays, and any other is over one with content
pub step_kinds : (state next : StateFields) (line : ℕ) (text : List ℕ) → line_step state line text ≡ Ok next
    → ((is_passed text ≡ true) × (state ≡ next)) ⊎ ((is_passed text ≡ false)
    × (content_line state.documents state.place line text ≡ Ok next))
unfolding line_step
step_kinds state next line text e =
    let c = not_broken (has_barred text) line S1 (cond (is_passed text) (Ok state) (content_line state.documents state.place line text))
    next e in
    elim (chosen (is_passed text) (Ok state) (content_line state.documents state.place line text) (Ok next) c.1) [
      | inl b ↦ inl (b.0, same_ok _ _ b.1)
      | inr b ↦ inr (b.0, b.1)
    ]
