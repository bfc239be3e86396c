-- No next item begins at a dash in another column than that of the list's dashes, also with keys put in: each key is
-- read in the column of the item's keys, or belongs to a value that is skipped, and so leaves the columns as they are;
-- and behind it such a dash is refused.
-- The line in question stands behind spaces, and no skipped value takes it: so a dash in its column is outside the
-- grammar, before any key is put in (`other_dash`) and behind each (`no_dash`). Keys that are put in at column 0 may
-- not stand at all, since the last item lacks one (`first_column`).
use Rattle.std.proofs.Common.{◌≡◌, ◌≢◌, ℕ, zero, suc, ◌+◌, Bool, true, false, cond, eqb, ltb, drop, List, [], ◌∷◌, ◌++◌, length, map, Some, Ok, refl, sym, ap, ◌∙◌, arith, inl, inr, subst, append_assoc}
use Rattle.std.specs.List.{prefix_len, AllByRecursion}
use Rattle.std.proofs.lemmas.List.{append-nil}
use Rattle.macho_stub_lines.specs.declared.keys.ItemKind.{ItemKind}
use Rattle.macho_stub_lines.specs.declared.keys.ItemKind.TheVariants.{Libraries, Exports, Reexports}
use Rattle.macho_stub_lines.specs.declared.keys.ItemKey.TheVariants as item
use Rattle.macho_stub_lines.specs.declared.fault.StubRule.TheVariants.{S1, S3}
use Rattle.macho_stub_lines.specs.Bytes.{indent, unspaced, is_passed, has_barred, is_blank_or_comment, is_key_byte, is_tail, has_dash, belongs_to_top}
use Rattle.macho_stub_lines.specs.steps.Bytes.{is_space}
use Rattle.macho_stub_lines.specs.Faults.{Reading, broken, outside}
use Rattle.macho_stub_lines.specs.Lists.{list_part, token_front, behind}
use Rattle.macho_stub_lines.specs.Keys.{entry_at, item_key}
use Rattle.macho_stub.specs.Documents.{DocumentFields}
use Rattle.macho_stub.specs.steps.Opened.{OpenDocumentFields, OpenItemFields, has_key, with_key}
use Rattle.macho_stub.specs.steps.Reader.{ItemListFields, Keys, StateFields, stays, names_line, names_value, skipped_value, item_key_line, within, item_line, line_step}
use Rattle.macho_stub.proofs.PutIn.{IsNeeded, at_item, item_text_barred, item_text_passed, no_dash_there, targets_line, libraries_line}
use Rattle.macho_stub.specs.Grammar.{IsStubLines}
use Rattle.macho_stub.specs.Order.{MayStand, IsNextItem, in_column}
use Rattle.macho_stub.specs.steps.Order.{LacksInItem, unread_key, unread_item}
use Rattle.macho_stub_lines.proofs.Bind.{not_broken_else, no_ok, same_ok, eq_false, chosen, one_way}
use Rattle.macho_stub.proofs.OnlyLines.{top_indent, spelled_indent, spelled_rest, DashLine, dash_line}
use Rattle.macho_stub.proofs.Joined.{IsLine, spaces_line}
use Rattle.macho_stub.proofs.Reached.{Reached, reached_more, stands, refused}

-- ---- lines in a column

-- the line of a key in any column but the first
abbrev in_other_column : List DocumentFields → OpenDocumentFields → ItemListFields → ℕ → ℕ → List ℕ → Reading StateFields
in_other_column before document list line n text = cond (eqb n list.column) (within before (item_key_line document list line text))
    (outside line)

abbrev by_skipped : List DocumentFields → OpenDocumentFields → ItemListFields → Bool → ℕ → Reading StateFields → Reading StateFields
by_skipped before document list false n reading = reading
by_skipped before document list true n reading = cond (ltb list.column n) (Ok (at_item before document list true)) reading

-- A line behind spaces belongs to a skipped value, is a key in the column of the keys, or is refused.
pub column_steps : (before : List DocumentFields) (document : OpenDocumentFields) (list : ItemListFields) (skipped : Bool) (line n : ℕ)
    (text : List ℕ) → belongs_to_top text ≡ false → has_barred text ≡ false → is_blank_or_comment text ≡ false → n ≢ 0
    → line_step (at_item before document list skipped) line (in_column n text)
    ≡ by_skipped before document list skipped n (in_other_column before document list line n text)
unfolding line_step item_line unspaced indent
column_steps before document list true line n text out clean some nz =
    let h : prefix_len is_space text ≡ 0 = top_indent text out in
    rw (item_text_barred n text, item_text_passed n text h, clean, some) (
    rw (spelled_indent n text h, spelled_rest n text, no_dash_there n text out) (rw (eq_false n 0 nz) refl))
column_steps before document list false line n text out clean some nz =
    let h : prefix_len is_space text ≡ 0 = top_indent text out in
    rw (item_text_barred n text, item_text_passed n text h, clean, some) (
    rw (spelled_indent n text h, spelled_rest n text, no_dash_there n text out) (rw (eq_false n 0 nz) refl))

-- a dash in another column is refused
other_dash : (before : List DocumentFields) (document : OpenDocumentFields) (list : ItemListFields) (skipped : Bool) (line n : ℕ)
    → n ≢ 0 → n ≢ list.dash → (skipped ≡ true → ltb list.column n ≡ false)
    → line_step (at_item before document list skipped) line (in_column n unread_item) ≡ outside line
unfolding line_step item_line item_key_line entry_at is_key_byte has_barred is_blank_or_comment unspaced indent
other_dash before document list true line n nz nd s =
    let d : DashLine n 1 (in_column n unread_item) unread_key = dash_line n 1 unread_key (omega arith) refl in
    rw (
      item_text_barred n unread_item,
      item_text_passed n unread_item refl,
      d.indented,
      d.dashed,
      spelled_rest n unread_item,
      s refl,
      eq_false n list.dash nd,
      eq_false n 0 nz,
    ) (one_way (eqb n list.column) (outside {A = StateFields} line))
other_dash before document list false line n nz nd s =
    let d : DashLine n 1 (in_column n unread_item) unread_key = dash_line n 1 unread_key (omega arith) refl in
    rw (
      item_text_barred n unread_item,
      item_text_passed n unread_item refl,
      d.indented,
      d.dashed,
      spelled_rest n unread_item,
      eq_false n list.dash nd,
      eq_false n 0 nz,
    ) (one_way (eqb n list.column) (outside {A = StateFields} line))

-- ---- a key that is put in

-- where a key leaves the reading: in the same item, with its columns
record SameItem (before : List DocumentFields) (document : OpenDocumentFields) (list : ItemListFields) (skipped : Bool) (next : StateFields)
    : Type 0 where
  after : ItemListFields
  left : Bool
  is : at_item before document after left ≡ next
  same_dash : after.dash ≡ list.dash
  same_column : after.column ≡ list.column
  still : left ≡ true → skipped ≡ true

with_item : (before : List DocumentFields) (document : OpenDocumentFields) (list : ItemListFields) (skipped : Bool) (item : OpenItemFields)
    (next : StateFields) → at_item before document (record list { item = item }) false ≡ next → SameItem before document list skipped next
with_item before document list skipped item next e = record {
  after = record list { item = item };
  left = false;
  is = e;
  same_dash = refl;
  same_column = refl;
  still = λ h. absurd cc;
}

targets_read : (before : List DocumentFields) (document : OpenDocumentFields) (list : ItemListFields) (skipped : Bool) (line : ℕ)
    (next : StateFields) → within before (item_key_line document list line targets_line) ≡ Ok next
    → SameItem before document list skipped next
unfolding item_key_line entry_at is_key_byte is_tail item_key names_value names_line list_part token_front behind unspaced indent is_passed
    is_blank_or_comment
targets_read before document list skipped line next e = by_had (has_key item.Targets list.item) e
  where
    by_had : (had : Bool) → within before (cond had (broken line S3)
        (Ok (stays document (Some (record list { item = with_key item.Targets [] list.item })) Keys))) ≡ Ok next
        → SameItem before document list skipped next
    by_had true h = absurd (no_ok line S3 next h)
    by_had false h = with_item before document list skipped (with_key item.Targets [] list.item) next (same_ok _ _ h)

abbrev list_with : ItemListFields → ItemKind → ItemListFields
list_with list kind = record list { kind = kind }

libraries_read : (before : List DocumentFields) (document : OpenDocumentFields) (list : ItemListFields) (skipped : Bool) (line : ℕ)
    (next : StateFields) (kind : ItemKind) → within before (item_key_line document (list_with list kind) line libraries_line) ≡ Ok next
    → SameItem before document (list_with list kind) skipped next
unfolding item_key_line entry_at is_key_byte is_tail item_key names_value names_line skipped_value list_part token_front behind unspaced
    indent is_passed is_blank_or_comment
libraries_read before document list skipped line next Libraries e = by_had (has_key item.Names list.item) e
  where
    by_had : (had : Bool) → within before (cond had (broken line S3)
        (Ok (stays document (Some (record (list_with list Libraries) { item = with_key item.Names [] list.item })) Keys))) ≡ Ok next
        → SameItem before document (list_with list Libraries) skipped next
    by_had true h = absurd (no_ok line S3 next h)
    by_had false h = with_item before document (list_with list Libraries) skipped (with_key item.Names [] list.item) next (same_ok _ _ h)
libraries_read before document list skipped line next Exports e = with_item before document (list_with list Exports) skipped list.item next
    (same_ok _ _ e)
libraries_read before document list skipped line next Reexports e = with_item before document (list_with list Reexports) skipped list.item
    next
    (same_ok _ _ e)

-- a key that is put in has these
record IsKeyText (key : List ℕ) : Type 0 where
  out : belongs_to_top key ≡ false
  clean : has_barred key ≡ false
  some : is_blank_or_comment key ≡ false
  line : IsLine key

targets_text : IsKeyText targets_line
unfolding belongs_to_top has_barred is_blank_or_comment
targets_text = record { out = refl; clean = refl; some = refl; line = refl }

libraries_text : IsKeyText libraries_line
unfolding belongs_to_top has_barred is_blank_or_comment
libraries_text = record { out = refl; clean = refl; some = refl; line = refl }

needed_text : (key : List ℕ) → IsNeeded key → IsKeyText key
needed_text key n = elim n [ inl is ↦ subst IsKeyText (sym is) targets_text | inr is ↦ subst IsKeyText (sym is) libraries_text ]

needed_read : (before : List DocumentFields) (document : OpenDocumentFields) (list : ItemListFields) (skipped : Bool) (line : ℕ)
    (next : StateFields) (key : List ℕ) → IsNeeded key → within before (item_key_line document list line key) ≡ Ok next
    → SameItem before document list skipped next
needed_read before document list skipped line next key n e =
    let K : List ℕ → Type 0 = λ k. within before (item_key_line document list line k) ≡ Ok next in
    elim n [
      | inl is ↦ targets_read before document list skipped line next (subst K is e)
      | inr is ↦ libraries_read before document list skipped line next list.kind (subst K is e)
    ]

key_steps : (before : List DocumentFields) (document : OpenDocumentFields) (list : ItemListFields) (skipped : Bool) (line n : ℕ)
    (next : StateFields) (key : List ℕ) → IsNeeded key → n ≢ 0
    → line_step (at_item before document list skipped) line (in_column n key) ≡ Ok next → SameItem before document list skipped next
key_steps before document list skipped line n next key needed nz e =
    let t = needed_text key needed in
    by_left skipped (sym (column_steps before document list skipped line n key t.out t.clean t.some nz) ∙ e)
  where
    in_keys : (left : Bool) → in_other_column before document list line n key ≡ Ok next → SameItem before document list left next
    in_keys left h =
        let b = not_broken_else (eqb n list.column) line S1 (within before (item_key_line document list line key)) next h in
        needed_read before document list left line next key needed b.1

    by_left : (left : Bool) → by_skipped before document list left n (in_other_column before document list line n key) ≡ Ok next
        → SameItem before document list left next
    by_left false h = in_keys false h
    by_left true h =
        elim (chosen (ltb list.column n) (Ok (at_item before document list true)) (in_other_column before document list line n key) (Ok
        next) h) [
          | inl b ↦ record
              { after = list; left = true; is = same_ok _ _ b.1; same_dash = refl; same_column = refl; still = λ x. refl }
          | inr b ↦ in_keys true b.1
        ]

-- ---- the next item

-- what may stand behind a line shows that the line may
line_stands : (first more : List (List ℕ)) (line other : List ℕ) → MayStand (first ++ line ∷ more) other → MayStand first line
line_stands first more line other m =
    let S : List (List ℕ) → Type 0 = λ t. IsStubLines t m.says in
    record {
      more = more ++ other ∷ m.more;
      says = m.says;
      in_grammar = subst S (append_assoc (first ++ line ∷ more) (other ∷ []) m.more ∙ append_assoc first (line ∷ more) (other ∷ m.more)
          ∙ sym (append_assoc first (line ∷ []) (more ++ other ∷ m.more))) m.in_grammar;
    }

no_dash : (first : List (List ℕ)) (before : List DocumentFields) (document : OpenDocumentFields) (list : ItemListFields) (skipped : Bool)
    (n column : ℕ) (keys : List (List ℕ)) → Reached first (at_item before document list skipped) → n ≢ 0 → n ≢ list.dash
    → (skipped ≡ true → ltb list.column n ≡ false) → column ≢ 0 → AllByRecursion IsNeeded keys
    → MayStand (first ++ map (in_column column) keys) (in_column n unread_item) → ⊥
no_dash first before document list skipped n column [] r nz nd s cz a m =
    let M : List (List ℕ) → Type 0 = λ f. MayStand f (in_column n unread_item) in
    refused first (at_item before document list skipped) (in_column n unread_item) (length first + 1) S1 r
    (other_dash before document list skipped (length first + 1) n nz nd s) (subst M (append-nil first) m)
no_dash first before document list skipped n column (key ∷ keys) r nz nd s cz a m =
    let line = in_column column key in
    let more = map (in_column column) keys in
    let t = needed_text key a.0 in
    let next = stands first (at_item before document list skipped) line r (line_stands first more line (in_column n unread_item) m) in
    let same = key_steps before document list skipped (length first + 1) column next.0 key a.0 cz next.1 in
    let R : StateFields → Type 0 = λ state. Reached (first ++ line ∷ []) state in
    let there = subst R (sym same.is) (reached_more first (at_item before document list skipped) next.0 line r
    (spaces_line column key t.line) next.1) in
    let M : List (List ℕ) → Type 0 = λ f. MayStand f (in_column n unread_item) in
    no_dash (first ++ line ∷ []) before document same.after same.left n column keys there nz (λ h. nd (h ∙ same.same_dash))
    (λ h. ap (λ c. ltb c n) same.same_column ∙ s (same.still h)) cz a.1 (subst M (sym (append_assoc first (line ∷ []) more)) m)

-- a key that is put in stands at column 0 itself
first_column : (first : List (List ℕ)) (line : List ℕ) (key : List ℕ) (keys : List (List ℕ)) → IsNeeded key → LacksInItem first
    → MayStand (first ++ map (in_column 0) (key ∷ keys)) line → ⊥
unfolding is_passed unspaced indent
first_column first line key keys needed lacks m =
    let t = needed_text key needed in
    let z : indent key ≡ 0 = top_indent key t.out in
    lacks key (ap (λ n. is_blank_or_comment (drop n key)) z ∙ t.some) z (line_stands first (map (in_column 0) keys) key line m)

-- Where the last item lacks a key, a line behind spaces that no skipped value takes, and that has no dash in the column of
-- the list's, begins no next item.
pub no_next : (first : List (List ℕ)) (before : List DocumentFields) (document : OpenDocumentFields) (list : ItemListFields)
    (skipped : Bool) (text : List ℕ) → Reached first (at_item before document list skipped) → indent text ≢ 0
    → (has_dash text ≡ true → indent text ≢ list.dash) → (skipped ≡ true → ltb list.column (indent text) ≡ false)
    → LacksInItem first → IsNextItem first text → ⊥
no_next first before document list skipped text r nz nd s lacks i = by_column i.column i.keys i.needed i.begins
  where
    by_column : (column : ℕ) (keys : List (List ℕ)) → AllByRecursion IsNeeded keys
        → MayStand (first ++ map (in_column column) keys) (in_column (indent text) unread_item) → ⊥
    by_column zero [] a m = no_dash first before document list skipped (indent text) 1 [] r nz (nd i.dash) s (λ h. absurd (omega (
      arith,
      h,
    ))) a m
    by_column zero (key ∷ keys) a m = first_column first (in_column (indent text) unread_item) key keys a.0 lacks m
    by_column (suc column) keys a m = no_dash first before document list skipped (indent text) (suc column) keys r nz (nd i.dash) s
        (λ h. absurd (omega (arith, h))) a m
