-- Why a line is refused inside a flow list, where an item must stand, and outside documents: it is outside the grammar.
-- In each of these places some line at column 0 may stand, and none with a key: a bracket inside a list, a dash with an item
-- where one must stand, a head outside documents. So no item lacks a key there, since then no such line could stand; and
-- no document does, and no key stands twice, since then another key could stand (`no_key_why`). What the step tells is the
-- line itself, as outside the grammar. With the places where a key may stand (`Whys`) this is all (`line_why`).
use Rattle.std.proofs.Common.{◌≡◌, ℕ, zero, suc, ◌+◌, true, false, cond, eqb, List, [], ◌∷◌, length, Option, None, Ok, refl, sym, ◌∙◌, inl, inr}
use Rattle.std.specs.Str.{bytes_eq}
use Rattle.macho_stub_lines.specs.declared.keys.ItemKind.{ItemKind}
use Rattle.macho_stub_lines.specs.declared.list.Expect.{Expect}
use Rattle.macho_stub_lines.specs.declared.list.Expect.TheVariants.{AfterOpen, AfterComma, AfterName, Closed}
use Rattle.macho_stub_lines.specs.declared.fault.StubRule.{StubRule}
use Rattle.macho_stub_lines.specs.declared.fault.StubRule.TheVariants.{S1}
use Rattle.macho_stub_lines.specs.Bytes.{space, indent, unspaced, is_passed, has_barred, is_blank_or_comment, is_mark, is_plain_byte, has_late_control_after, head, belongs_to_top, end}
use Rattle.macho_stub_lines.specs.Scalars.{scalar_front, plain_front}
use Rattle.macho_stub_lines.specs.Faults.{broken, outside}
use Rattle.macho_stub_lines.specs.Lists.{list_part, token_front, behind}
use Rattle.macho_stub.specs.Documents.{DocumentFields}
use Rattle.macho_stub.specs.steps.Opened.{OpenDocumentFields, head_at}
use Rattle.macho_stub.specs.steps.Reader.{ItemListFields, NameListFields, ModeFields, PlaceFields, Outside, Within, Keys, Skipped, Names, NoItem, StateFields, stays, names_line, first_line, key_line, belongs, inside_line, content_line, line_step, within}
use Rattle.macho_stub.proofs.PutIn.{closing_bracket, item_text_barred, item_text_passed, no_dash_there}
use Rattle.macho_stub.specs.Order.{MayStand, IsWhy, in_column}
use Rattle.macho_stub.specs.steps.Order.{unread_key, unread_item}
use Rattle.macho_stub_lines.proofs.Bind.{chosen}
use Rattle.macho_stub.proofs.Ruling.{same_err, ok_not_told}
use Rattle.macho_stub.proofs.FineLines.{outside_at}
use Rattle.macho_stub.proofs.Fine.{GoodInside, names_line_fine}
use Rattle.macho_stub.proofs.Causes.{at_line, within_refused, fault_at}
use Rattle.macho_stub.proofs.Joined.{IsLine}
use Rattle.macho_stub.proofs.Reached.{Reached, may_stand, refused}
use Rattle.macho_stub.proofs.Since.{Known, closing_stands, item_stands}
use Rattle.macho_stub.proofs.Whys.{same_why, outside_fault, first_outside, keys_why}

-- ---- inside a flow list

unread_key_in_list : (line : ℕ) (expect : Expect) → list_part line expect 0 unread_key ≡ outside line
unfolding list_part token_front behind scalar_front plain_front is_plain_byte is_mark has_late_control_after
unread_key_in_list line AfterOpen = refl
unread_key_in_list line AfterComma = refl
unread_key_in_list line AfterName = refl
unread_key_in_list line Closed = refl

-- a space is passed
space_in_list : (line : ℕ) (expect : Expect) (b : ℕ) (rest : List ℕ) → eqb b 35 ≡ false → list_part line expect 0 (b ∷ rest) ≡ outside line
    → list_part line expect 0 (space ∷ b ∷ rest) ≡ outside line
unfolding list_part token_front behind
space_in_list line AfterOpen b rest n h = rw (n, h) refl
space_in_list line AfterComma b rest n h = rw (n, h) refl
space_in_list line AfterName b rest n h = rw (n, h) refl
space_in_list line Closed b rest n h = rw (n, h) refl

spaced_in_list : (line : ℕ) (expect : Expect) (n : ℕ) → list_part line expect 0 (in_column n unread_key) ≡ outside line
spaced_in_list line expect zero = unread_key_in_list line expect
spaced_in_list line expect (suc zero) = space_in_list line expect 97 _ refl (unread_key_in_list line expect)
spaced_in_list line expect (suc (suc n)) = space_in_list line expect space _ refl (spaced_in_list line expect (suc n))

unread_key_no_end : (n : ℕ) → bytes_eq (in_column n unread_key) end ≡ false
unread_key_no_end zero = refl
unread_key_no_end (suc n) = refl

-- so no key stands in a flow list
names_refuse : (before : List DocumentFields) (document : OpenDocumentFields) (list : Option ItemListFields) (names : NameListFields)
    (line n : ℕ)
    → line_step (record { documents = before; place = Within (stays document list (Names names)) }) line (in_column n unread_key)
    ≡ outside line
unfolding line_step names_line has_barred is_blank_or_comment
names_refuse before document list names line n =
    rw (
      item_text_barred n unread_key,
      item_text_passed n unread_key refl,
      unread_key_no_end n,
      spaced_in_list line names.part.expect n,
    ) refl

-- inside a flow list a key that isn't read may stand in no column
pub no_key_in_list : (first : List (List ℕ)) (before : List DocumentFields) (document : OpenDocumentFields) (list : Option ItemListFields)
    (names : NameListFields) (n : ℕ) → Reached first (record { documents = before; place = Within (stays document list (Names names)) })
    → MayStand first (in_column n unread_key) → ⊥
no_key_in_list first before document list names n r m = refused first _ (in_column n unread_key) (length first + 1) S1 r
    (names_refuse before document list names (length first + 1) n) m

-- a line in a place where some line at column 0 may stand, and no key
no_key_why : (first : List (List ℕ)) (text other : List ℕ) → is_passed other ≡ false → indent other ≡ 0 → MayStand first other
    → ((n : ℕ) → MayStand first (in_column n unread_key) → ⊥) → IsWhy S1 (length first + 1) first text
no_key_why first text other some flush stands none = (
  refl,
  (λ w. elim w.lacks [ inl i ↦ i.0 other some flush stands | inr d ↦ none 0 d.0.0 ]),
  λ t. none (indent text) t.another,
)

names_why : (first : List (List ℕ)) (before : List DocumentFields) (document : OpenDocumentFields) (list : Option ItemListFields)
    (names : NameListFields) (text : List ℕ) (at : ℕ) (rule : StubRule)
    → Known first (record { documents = before; place = Within (stays document list (Names names)) })
    → fault_at at rule ≡ outside_fault (length first + 1) → IsWhy rule at first text
unfolding is_passed unspaced indent is_blank_or_comment
names_why first before document list names text at rule k e =
    same_why at rule first text (outside_fault (length first + 1)) e
    (no_key_why first text closing_bracket refl refl (closing_stands first before document list names k.reached)
    (λ c. no_key_in_list first before document list names c k.reached))

-- ---- where an item must stand

item_refuses : (before : List DocumentFields) (document : OpenDocumentFields) (list : Option ItemListFields) (kind : ItemKind)
    (at line n : ℕ)
    → line_step (record { documents = before; place = Within (stays document list (NoItem kind at)) }) line (in_column n unread_key)
    ≡ outside line
unfolding line_step first_line has_barred is_blank_or_comment belongs_to_top
item_refuses before document list kind at line n =
    rw (item_text_barred n unread_key, item_text_passed n unread_key refl, no_dash_there n unread_key refl) refl

item_place_why : (first : List (List ℕ)) (before : List DocumentFields) (document : OpenDocumentFields) (list : Option ItemListFields)
    (kind : ItemKind) (key : ℕ) (text : List ℕ) (at : ℕ) (rule : StubRule)
    → Known first (record { documents = before; place = Within (stays document list (NoItem kind key)) })
    → first_line document kind [] (length first + 1) text ≡ broken at rule → IsWhy rule at first text
unfolding is_passed unspaced indent is_blank_or_comment
item_place_why first before document list kind key text at rule k e =
    let n = length first + 1 in
    same_why at rule first text (outside_fault n) (first_outside document kind [] n text at rule e)
    (no_key_why first text unread_item refl refl (item_stands first before document list kind key k.reached)
    (λ c m. refused first _ (in_column c unread_key) n S1 k.reached (item_refuses before document list kind key n c) m))

-- ---- outside documents

pub outside_refuses : (before : List DocumentFields) (line n : ℕ)
    → line_step (record { documents = before; place = Outside }) line (in_column n unread_key) ≡ outside line
unfolding line_step has_barred is_blank_or_comment
outside_refuses before line zero = rw (item_text_passed 0 unread_key refl) refl
outside_refuses before line (suc n) = rw (item_text_barred n unread_key, item_text_passed (suc n) unread_key refl) refl

head_stands : (first : List (List ℕ)) (before : List DocumentFields) → Reached first (record { documents = before; place = Outside })
    → MayStand first head
unfolding line_step has_barred is_passed unspaced indent is_blank_or_comment
head_stands first before r = may_stand first _
    (record { documents = before; place = Within (stays (head_at (length first + 1)) None Keys) }) head r refl refl

outside_why : (first : List (List ℕ)) (before : List DocumentFields) (text : List ℕ) (at : ℕ) (rule : StubRule)
    → Known first (record { documents = before; place = Outside })
    → content_line before Outside (length first + 1) text ≡ broken at rule → IsWhy rule at first text
unfolding is_passed unspaced indent is_blank_or_comment
outside_why first before text at rule k e =
    let n = length first + 1 in
    elim (chosen (bytes_eq text head) (Ok (record { documents = before; place = Within (stays (head_at n) None Keys) })) (outside n)
    (broken at rule) e) [
      | inl b ↦ absurd (ok_not_told _ at rule b.1)
      | inr b ↦ same_why at rule first text (outside_fault n) (same_err {A = StateFields} (fault_at at rule) (outside_fault n) (sym b.1))
          (no_key_why first text head refl refl (head_stands first before k.reached)
          (λ c m. refused first _ (in_column c unread_key) n S1 k.reached (outside_refuses before n c) m))
    ]

-- ---- any place

inside_why : (first : List (List ℕ)) (before : List DocumentFields) (document : OpenDocumentFields) (list : Option ItemListFields)
    (mode : ModeFields) (text : List ℕ) (at : ℕ) (rule : StubRule)
    → Known first (record { documents = before; place = Within (stays document list mode) })
    → has_barred text ≡ false → is_passed text ≡ false → IsLine text
    → inside_line before document list mode (length first + 1) text ≡ broken at rule → IsWhy rule at first text
inside_why first before document list Keys text at rule k clean some l e = keys_why first before document list false text at rule k clean
    some l (λ h. absurd cc) e
inside_why first before document list Skipped text at rule k clean some l e =
    elim (chosen (belongs list text) (Ok (record { documents = before; place = Within (stays document list Skipped) }))
    (key_line before document list (length first + 1) text) (broken at rule) e) [
      | inl b ↦ absurd (ok_not_told _ at rule b.1)
      | inr b ↦ keys_why first before document list true text at rule k clean some l (λ h. b.0) b.1
    ]
inside_why first before document list (Names names) text at rule k clean some l e =
    let n = length first + 1 in
    names_why first before document list names text at rule k
    (elim (chosen (bytes_eq text end) (outside n) (within before (names_line document list n names text)) (broken at rule) e) [
      | inl b ↦ same_err {A = StateFields} (fault_at at rule) (outside_fault n) (sym b.1)
      | inr b ↦ at_line GoodInside (outside_at n) (names_line document list n names text) at rule
          (names_line_fine document list n names text k.reached.good.0)
          (within_refused before (names_line document list n names text) at rule b.1)
    ])
inside_why first before document list (NoItem kind key) text at rule k clean some l e = item_place_why first before document list kind key
    text at rule k (within_refused before (first_line document kind [] (length first + 1) text) at rule e)

place_why : (first : List (List ℕ)) (before : List DocumentFields) (place : PlaceFields) (text : List ℕ) (at : ℕ) (rule : StubRule)
    → Known first (record { documents = before; place = place }) → has_barred text ≡ false → is_passed text ≡ false → IsLine text
    → content_line before place (length first + 1) text ≡ broken at rule → IsWhy rule at first text
place_why first before Outside text at rule k clean some l e = outside_why first before text at rule k e
place_why first before (Within inside) text at rule k clean some l e = inside_why first before inside.document inside.list inside.mode text
    at rule k clean some l e

-- a line with a byte that may stand nowhere
barred_why : (first : List (List ℕ)) (text : List ℕ) → has_barred text ≡ true → IsWhy S1 (length first + 1) first text
barred_why first text h =
    (refl, (λ w. absurd (let k = sym h ∙ w.clean in cc)), λ t. absurd (let k = sym h ∙ t.clean in cc))

-- A line that is refused is refused for the reason that is told.
pub line_why : (first : List (List ℕ)) (state : StateFields) (text : List ℕ) (at : ℕ) (rule : StubRule) → Known first state → IsLine text
    → line_step state (length first + 1) text ≡ broken at rule → IsWhy rule at first text
unfolding line_step
line_why first state text at rule k l e =
    let n = length first + 1 in
    let content = content_line state.documents state.place n text in
    elim (chosen (has_barred text) (outside n) (cond (is_passed text) (Ok state) content) (broken at rule) e) [
      | inl b ↦ same_why at rule first text (outside_fault n) (same_err {A = StateFields} (fault_at at rule) (outside_fault n) (sym b.1))
          (barred_why first text b.0)
      | inr b ↦ elim (chosen (is_passed text) (Ok state) content (broken at rule) b.1) [
        | inl p ↦ absurd (ok_not_told _ at rule p.1)
        | inr p ↦ place_why first state.documents state.place text at rule k b.0 p.0 l p.1
      ]
    ]
