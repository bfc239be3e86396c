-- A line that is told to be outside the grammar ends nothing that lacks a key, and has no second key: else that would
-- have been told, since a line ends items and documents before its key is read, and its key stands before its value.
-- Where the reading of the line came past the end of the item, the item lacks no key, so a line at column 0 may stand
-- (`no_item_lacks`), and a line that is no head and no end ends no document (`ends_nothing`). A key that is refused for its
-- value may stand with another (`Goods`), so it doesn't stand twice; a line with no key has none that could.
use Rattle.std.proofs.Common.{◌≡◌, ◌≢◌, ℕ, zero, suc, ◌+◌, ◌<◌, ◌&&◌, ◌||◌, Bool, true, false, eqb, get_or, drop, List, ◌∷◌, ◌++◌, length, Option, Ok, refl, sym, ap, ◌∙◌, arith, inl, inr, subst}
use Rattle.std.proofs.lemmas.Bool.Decides.{nat_tests}
use Rattle.std.proofs.lemmas.List.{get_or-drop}
use Rattle.macho_stub_lines.specs.declared.fault.StubRule.{StubRule}
use Rattle.macho_stub_lines.specs.declared.fault.StubRule.TheVariants.{S1}
use Rattle.macho_stub_lines.specs.Bytes.{space, dash, colon, indent, unspaced, is_passed, has_barred, is_blank_or_comment, is_key_byte, head, end, has_dash, belongs_to_top}
use Rattle.macho_stub_lines.specs.Faults.{broken, outside}
use Rattle.macho_stub_lines.specs.Keys.{Entry, entry_at, top_key, item_key}
use Rattle.macho_stub.specs.Documents.{DocumentFields}
use Rattle.macho_stub.specs.steps.Opened.{OpenDocumentFields}
use Rattle.macho_stub.specs.steps.Reader.{ItemListFields, top_entry, item_entry, top_line, line_step}
use Rattle.macho_stub.specs.Order.{MayStand, EndsWithout, StandsTwice, in_column}
use Rattle.macho_stub.specs.steps.Order.{LacksInItem, unread_key}
use Rattle.macho_stub_lines.proofs.Bind.{no_ok, same_ok}
use Rattle.macho_stub.proofs.OnlyLines.{entry_at_top}
use Rattle.macho_stub.proofs.Joined.{IsLine}
use Rattle.macho_stub.proofs.PutIn.{at_top, at_item, item_text_barred, item_text_passed}
use Rattle.macho_stub.proofs.Reached.{Reached, may_stand, refused}
use Rattle.macho_stub.proofs.Steps.{Closes, keys_state, unread_key_at_top}
use Rattle.macho_stub.proofs.Twice.{no_spaces}
use Rattle.macho_stub.proofs.Causes.{EndsDocument}
use Rattle.macho_stub.proofs.Goods.{good_at_top, good_in_column}
use Rattle.macho_stub.proofs.TwiceKeys.{said_of, second_key}

-- ---- where a key may stand at column 0

-- where a key of a document may stand, no item lacks one
pub no_item_lacks : (first : List (List ℕ)) (before : List DocumentFields) (document whole : OpenDocumentFields)
    (list : Option ItemListFields) (skipped : Bool) → Reached first (keys_state before document list skipped)
    → Closes list document whole → LacksInItem first → ⊥
unfolding is_passed unspaced indent is_blank_or_comment
no_item_lacks first before document whole list skipped r c lacks =
    lacks unread_key refl refl (may_stand first (keys_state before document list skipped) (at_top before whole true) unread_key r refl
    (unread_key_at_top before document whole list skipped (length first + 1) c))

no_ends : (text : List ℕ) → text ≢ head → text ≢ end → EndsDocument text → ⊥
no_ends text h e d = elim d [ inl is ↦ h is | inr is ↦ e is ]

-- and a line that is no head and no end ends nothing there that lacks a key
pub ends_nothing : (first : List (List ℕ)) (before : List DocumentFields) (document whole : OpenDocumentFields)
    (list : Option ItemListFields) (skipped : Bool) (text : List ℕ) → Reached first (keys_state before document list skipped)
    → Closes list document whole → text ≢ head → text ≢ end → EndsWithout first text → ⊥
ends_nothing first before document whole list skipped text r c h e w =
    elim w.lacks [
      | inl i ↦ no_item_lacks first before document whole list skipped r c i.0
      | inr d ↦ no_ends text h e d.1
    ]

-- a text with no key has no second one
pub no_key_twice : (first : List (List ℕ)) (text : List ℕ) (at : ℕ) (rule : StubRule)
    → entry_at (length first + 1) (unspaced text) ≡ broken at rule → StandsTwice first text → ⊥
no_key_twice first text at rule e t = no_ok at rule (said_of first text t) (sym e ∙ second_key first text t)

-- a line at column 0 has no spaces in front
pub flush : (text : List ℕ) → indent text ≡ 0 → unspaced text ≡ text
unfolding unspaced
flush text z = ap (λ n. drop n text) z

-- a key of a document that is refused for its value doesn't stand twice
pub value_at_top : (first : List (List ℕ)) (before : List DocumentFields) (document whole : OpenDocumentFields)
    (list : Option ItemListFields) (skipped : Bool) (text : List ℕ) (said : Entry) → Reached first (keys_state before document list skipped)
    → Closes list document whole → has_barred text ≡ false → IsLine text → entry_at (length first + 1) text ≡ Ok said
    → top_entry whole (length first + 1) (top_key said.key) said.value ≡ outside (length first + 1) → StandsTwice first text → ⊥
value_at_top first before document whole list skipped text said r c clean l e refused t =
    let n = length first + 1 in
    let z = no_spaces n text said e in
    let is : said_of first text t ≡ said = same_ok _ _ (sym (second_key first text t) ∙ ap (entry_at n) z.1 ∙ e) in
    let g = good_at_top first before document whole list skipped text said r c clean l e refused in
    let M : ℕ → List ℕ → Type 0 = λ k key. MayStand first (in_column k (key ++ colon ∷ g.0)) in
    let K : ℕ → Type 0 = λ k. M k said.key in
    let E : Entry → Type 0 = λ x. M (indent text) x.key in
    t.not_again g.0 (subst E (sym is) (subst K (sym z.0) g.1))

-- and neither does a key of an item
pub value_in_column : (first : List (List ℕ)) (before : List DocumentFields) (document : OpenDocumentFields) (list : ItemListFields)
    (skipped : Bool) (text : List ℕ) (said : Entry) → Reached first (at_item before document list skipped) → list.dash < list.column
    → indent text ≡ list.column → has_barred (unspaced text) ≡ false → IsLine (unspaced text)
    → entry_at (length first + 1) (unspaced text) ≡ Ok said
    → item_entry document list (length first + 1) (item_key list.kind said.key) said.value ≡ outside (length first + 1)
    → StandsTwice first text → ⊥
value_in_column first before document list skipped text said r below at clean l e refused t =
    let n = length first + 1 in
    let is : said_of first text t ≡ said = same_ok _ _ (sym (second_key first text t) ∙ e) in
    let g = good_in_column first before document list skipped (unspaced text) said r below clean l e refused in
    let K : ℕ → Type 0 = λ k. MayStand first (in_column k (said.key ++ colon ∷ g.0)) in
    let E : Entry → Type 0 = λ x. MayStand first (in_column (indent text) (x.key ++ colon ∷ g.0)) in
    t.not_again g.0 (subst E (sym is) (subst K (sym at) g.1))

-- a line with a dash has no key
pub dash_no_key : (first : List (List ℕ)) (text : List ℕ) → has_dash text ≡ true → StandsTwice first text → ⊥
unfolding has_dash belongs_to_top unspaced
dash_no_key first text h t =
    let out = entry_at_top (length first + 1) (unspaced text) (said_of first text t) (second_key first text t) in
    let zero : get_or (drop (indent text) text) 0 0 ≡ get_or text (indent text) 0 = get_or-drop (indent text) text 0 0
    ∙ ap (λ k. get_or text k 0) (omega arith) in
    let one : get_or (drop (indent text) text) 1 0 ≡ get_or text (indent text + 1) 0 = get_or-drop (indent text) text 1 0 in
    absurd (both (get_or (drop (indent text) text) 0 0) (get_or (drop (indent text) text) 1 0) (get_or text (indent text) 0)
    (get_or text (indent text + 1) 0) zero one out h)
  where
    both : (a b c d : ℕ) → a ≡ c → b ≡ d → (eqb a space || (eqb a dash && eqb b space)) ≡ false → (eqb c dash && eqb d space) ≡ true → ⊥
    both a b c d e f h k = grind (arith, nat_tests)

-- and ends no document
pub dash_no_end : (text : List ℕ) → has_dash text ≡ true → EndsDocument text → ⊥
unfolding has_dash indent
dash_no_end text h d = elim d [
  | inl is ↦ absurd (let k = sym (ap has_dash is) ∙ h in cc)
  | inr is ↦ absurd (let k = sym (ap has_dash is) ∙ h in cc)
]

-- a line behind spaces is no head and no end
pub deep_no_end : (text : List ℕ) → indent text ≢ 0 → EndsDocument text → ⊥
unfolding indent
deep_no_end text h d = elim d [ inl is ↦ h (ap (λ t. indent t) is) | inr is ↦ h (ap (λ t. indent t) is) ]

-- ---- a key that isn't read, in a column

-- where a document's own keys stand, none stands deeper
spaced_unread_key : (before : List DocumentFields) (document : OpenDocumentFields) (line n : ℕ)
    → line_step (at_top before document false) line (in_column (suc n) unread_key) ≡ outside line
unfolding line_step top_line entry_at is_key_byte is_blank_or_comment has_barred
spaced_unread_key before document line n = rw (item_text_barred (suc n) unread_key, item_text_passed (suc n) unread_key refl) refl

-- in a document where no value is skipped, a key that isn't read may stand at column 0 alone
pub no_deeper_key : (first : List (List ℕ)) (before : List DocumentFields) (document : OpenDocumentFields) (skipped : Bool) (n : ℕ)
    → Reached first (at_top before document skipped) → (skipped ≡ true → n ≡ 0) → MayStand first (in_column n unread_key) → n ≡ 0
no_deeper_key first before document skipped zero r h m = refl
no_deeper_key first before document true (suc n) r h m = h refl
no_deeper_key first before document false (suc n) r h m =
    absurd (refused first (at_top before document false) (in_column (suc n) unread_key) (length first + 1) S1 r
    (spaced_unread_key before document (length first + 1) n) m)
