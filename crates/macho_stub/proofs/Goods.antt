-- A key that is refused where it didn't come before is refused for its value: with another value it may stand.
-- For each key that is read a value is written out with which it is read: a number, a scalar, an empty list, or none for a
-- key of items. The test whether the key stood before answered no, else the line would have been told as a second key; so
-- with that value the step doesn't fail, and the line may stand. That the line is clean and has no line feed, it has from
-- the key, which is a front of a line that is so, and from the value, which is written out.
use Rattle.std.proofs.Common.{◌≡◌, ℕ, zero, suc, ◌+◌, ◌<◌, Bool, true, false, cond, eqb, List, [], ◌∷◌, ◌++◌, length, take, Option, Some, None, Ok, Err, is_some, refl, sym, ap, ◌∙◌, subst}
use Rattle.std.proofs.lemmas.Bool.{or_parts, or_from}
use Rattle.std.specs.Prelude.{codes}
use Rattle.std.specs.List.{prefix_len}
use Rattle.macho_stub_lines.specs.declared.keys.ItemKey.{ItemKey}
use Rattle.macho_stub_lines.specs.declared.keys.ItemKey.TheVariants as item
use Rattle.macho_stub_lines.specs.declared.keys.TopKey.{TopKey}
use Rattle.macho_stub_lines.specs.declared.keys.TopKey.TheVariants as top
use Rattle.macho_stub_lines.specs.declared.fault.StubRule.TheVariants.{S1, S3}
use Rattle.macho_stub_lines.specs.Bytes.{colon, is_key_byte, is_tail, is_passed, is_blank_or_comment, unspaced, indent, has_barred, is_mark, is_plain_byte, has_late_control_after}
use Rattle.macho_stub_lines.specs.steps.Bytes.{is_barred}
use Rattle.macho_stub_lines.specs.Scalars.{scalar_front, plain_front}
use Rattle.macho_stub_lines.specs.Lists.{list_part, token_front, behind}
use Rattle.macho_stub_lines.specs.Faults.{Reading, ◌>>=◌, broken, outside}
use Rattle.macho_stub_lines.specs.Keys.{Entry, entry_at, entry_behind, top_key, item_key, scalar_value, version_value, number_of}
use Rattle.macho_stub.specs.Documents.{DocumentFields}
use Rattle.macho_stub.specs.steps.Opened.{OpenDocumentFields, has_items, has_key, with_key}
use Rattle.macho_stub.specs.steps.Reader.{ItemListFields, InsideFields, Within, Keys, Skipped, NoItem, StateFields, stays, names_value, names_line, skipped_value, top_entry, item_entry, item_key_line, within}
use Rattle.macho_stub.specs.Order.{MayStand, in_column}
use Rattle.macho_stub.proofs.Joined.{IsLine, has_line_feed, take_line, spaces_line}
use Rattle.macho_stub.proofs.PutIn.{at_item, item_text_steps}
use Rattle.macho_stub.proofs.Reached.{Reached, may_stand}
use Rattle.macho_stub.proofs.Steps.{Closes, keys_state, top_steps}
use Rattle.macho_stub.proofs.Keyed.{key_front, same_key, key_reads, key_at_top, key_has_content, key_not_passed}
use Rattle.macho_stub.proofs.Causes.{same_parts}
use Rattle.macho_stub.proofs.Twice.{then_top, top_reads, then_item}
use Rattle.macho_stub.proofs.Ruling.{same_err}

-- a value with which the key may stand
record Good {A : Type 0} (line : ℕ) (key : List ℕ) (read : Entry → Reading A) : Type 0 where
  rest : List ℕ
  gives : A
  reads : (entry_behind line key rest >>= read) ≡ Ok gives
  is_line : IsLine rest
  clean : has_barred rest ≡ false

-- a refusal for the value isn't one for the key
not_had : {A : Type 0} (line : ℕ) (had : Bool) (r : Reading A) → cond had (broken line S3) r ≡ outside line → had ≡ false
not_had {A} line true r e = absurd (let h = (same_parts line line S3 S1
    (same_err {A = A} (record { line = line; rule = S3 }) (record { line = line; rule = S1 }) e)).1 in cc)
not_had line false r e = refl

pub top_of : OpenDocumentFields → ℕ → Entry → Reading InsideFields
top_of document line entry = top_entry document line (top_key entry.key) entry.value

good_top : (document : OpenDocumentFields) (line : ℕ) (name : List ℕ) (key : TopKey) (value : List ℕ) → top_key name ≡ key
    → top_entry document line key value ≡ outside line → Good line name (top_of document line)
unfolding top_of is_tail is_passed is_blank_or_comment unspaced indent version_value number_of scalar_value scalar_front plain_front
    is_plain_byte is_mark has_late_control_after names_value names_line skipped_value list_part token_front behind has_barred
good_top document line name top.Version value k e = record {
  rest = codes " 4";
  gives = stays (record document { version = Some (codes "4") }) None Keys;
  reads = rw (k, not_had line (is_some document.version) _ e) refl;
  is_line = refl;
  clean = refl;
}
good_top document line name top.Targets value k e = record {
  rest = codes " []";
  gives = stays (record document { targets = Some [] }) None Keys;
  reads = rw (k, not_had line (is_some document.targets) _ e) refl;
  is_line = refl;
  clean = refl;
}
good_top document line name top.InstallName value k e = record {
  rest = codes " a";
  gives = stays (record document { install_name = Some (codes "a") }) None Keys;
  reads = rw (k, not_had line (is_some document.install_name) _ e) refl;
  is_line = refl;
  clean = refl;
}
good_top document line name top.CurrentVersion value k e = record {
  rest = codes " a";
  gives = stays (record document { current_version = Some (codes "a") }) None Keys;
  reads = rw (k, not_had line (is_some document.current_version) _ e) refl;
  is_line = refl;
  clean = refl;
}
good_top document line name (top.Items kind) value k e = record {
  rest = [];
  gives = stays document None (NoItem kind line);
  reads = rw (
    k,
    not_had line (has_items kind document)
        (cond (eqb (length value) 0) (Ok (stays document None (NoItem kind line))) (outside line)) e,
  ) refl;
  is_line = refl;
  clean = refl;
}
good_top document line name top.Unread value k e = record {
  rest = codes " a";
  gives = stays document None Skipped;
  reads = rw k refl;
  is_line = refl;
  clean = refl;
}

good_item : (document : OpenDocumentFields) (list : ItemListFields) (line : ℕ) (name : List ℕ) (key : ItemKey) (value : List ℕ)
    → item_key list.kind name ≡ key → item_entry document list line key value ≡ outside line → Good line name (then_item document list line)
unfolding is_tail is_passed is_blank_or_comment unspaced indent names_value names_line skipped_value list_part token_front behind has_barred
good_item document list line name item.Targets value k e = record {
  rest = codes " []";
  gives = stays document (Some (record list { item = with_key item.Targets [] list.item })) Keys;
  reads = rw (k, not_had line (has_key item.Targets list.item) _ e) refl;
  is_line = refl;
  clean = refl;
}
good_item document list line name item.Names value k e = record {
  rest = codes " []";
  gives = stays document (Some (record list { item = with_key item.Names [] list.item })) Keys;
  reads = rw (k, not_had line (has_key item.Names list.item) _ e) refl;
  is_line = refl;
  clean = refl;
}
good_item document list line name item.WeakNames value k e = record {
  rest = codes " []";
  gives = stays document (Some (record list { item = with_key item.WeakNames [] list.item })) Keys;
  reads = rw (k, not_had line (has_key item.WeakNames list.item) _ e) refl;
  is_line = refl;
  clean = refl;
}
good_item document list line name item.Unread value k e = record {
  rest = codes " a";
  gives = stays document (Some list) Skipped;
  reads = rw k refl;
  is_line = refl;
  clean = refl;
}

-- ---- the line

line_after : (front rest : List ℕ) → IsLine front → IsLine rest → IsLine (front ++ rest)
line_after [] rest h k = k
line_after (b ∷ front) rest h k =
    let e = or_parts (eqb b 10) (has_line_feed front) h in or_from (eqb b 10) (has_line_feed (front ++ rest)) e.0
    (line_after front rest e.1 k)

barred_after : (front rest : List ℕ) → has_barred front ≡ false → has_barred rest ≡ false → has_barred (front ++ rest) ≡ false
unfolding has_barred
barred_after [] rest h k = k
barred_after (b ∷ front) rest h k =
    let e = or_parts (is_barred b) (has_barred front) h in or_from (is_barred b) (has_barred (front ++ rest)) e.0
    (barred_after front rest e.1 k)

take_clean : (n : ℕ) (text : List ℕ) → has_barred text ≡ false → has_barred (take n text) ≡ false
unfolding has_barred
take_clean zero text h = refl
take_clean (suc n) [] h = refl
take_clean (suc n) (b ∷ text) h =
    let e = or_parts (is_barred b) (has_barred text) h in or_from (is_barred b) (has_barred (take n text)) e.0 (take_clean n text
    e.1)

-- the key with the value is a line
key_line_is : (line : ℕ) (text : List ℕ) (said : Entry) (rest : List ℕ) → entry_at line text ≡ Ok said → IsLine text → IsLine rest
    → IsLine (said.key ++ colon ∷ rest)
key_line_is line text said rest e l r =
    let front : IsLine said.key = let F : List ℕ → Type 0 = λ k. IsLine k in subst F (sym (key_front line text said e))
    (take_line (prefix_len is_key_byte text) text l) in
    line_after said.key (colon ∷ rest) front r

key_line_clean : (line : ℕ) (text : List ℕ) (said : Entry) (rest : List ℕ) → entry_at line text ≡ Ok said → has_barred text ≡ false
    → has_barred rest ≡ false → has_barred (said.key ++ colon ∷ rest) ≡ false
unfolding has_barred
key_line_clean line text said rest e l r =
    let front : has_barred said.key ≡ false = ap has_barred (key_front line text said e)
    ∙ take_clean (prefix_len is_key_byte text) text l in
    barred_after said.key (colon ∷ rest) front r

-- A key of a document that is refused for its value may stand there with another value.
pub good_at_top : (first : List (List ℕ)) (before : List DocumentFields) (document whole : OpenDocumentFields)
    (list : Option ItemListFields) (skipped : Bool) (text : List ℕ) (said : Entry) → Reached first (keys_state before document list skipped)
    → Closes list document whole → has_barred text ≡ false → IsLine text → entry_at (length first + 1) text ≡ Ok said
    → top_entry whole (length first + 1) (top_key said.key) said.value ≡ outside (length first + 1)
    → (rest : List ℕ) × MayStand first (said.key ++ colon ∷ rest)
unfolding then_top top_of
good_at_top first before document whole list skipped text said r c clean l e refused =
    let n = length first + 1 in
    let g = good_top whole n said.key (top_key said.key) said.value refl refused in
    let again = said.key ++ colon ∷ g.rest in
    let k = same_key n text said g.rest e in
    let next : StateFields = record { documents = before; place = Within g.gives } in (
      g.rest,
      may_stand first (keys_state before document list skipped) next again r (key_line_is n text said g.rest e l g.is_line)
          (top_steps before document whole list skipped n again c (key_line_clean n text said g.rest e clean g.clean)
          (key_not_passed again said.key g.rest k) (key_at_top again said.key g.rest k)
          ∙ top_reads before whole n again said.key g.rest k
          ∙ by_reading (entry_behind n said.key g.rest) g.gives g.reads),
    )
  where
    by_reading : (reading : Reading Entry) (gives : InsideFields) → (reading >>= top_of whole (length first + 1)) ≡ Ok gives
        → (reading >>= then_top before whole (length first + 1)) ≡ Ok (record { documents = before; place = Within gives })
    by_reading (Ok entry) gives h = ap (within before) h
    by_reading (Err fault) gives h = absurd cc

-- A key of an item that is refused for its value may stand in its column with another value.
pub good_in_column : (first : List (List ℕ)) (before : List DocumentFields) (document : OpenDocumentFields) (list : ItemListFields)
    (skipped : Bool) (text : List ℕ) (said : Entry) → Reached first (at_item before document list skipped) → list.dash < list.column
    → has_barred text ≡ false → IsLine text → entry_at (length first + 1) text ≡ Ok said
    → item_entry document list (length first + 1) (item_key list.kind said.key) said.value ≡ outside (length first + 1)
    → (rest : List ℕ) × MayStand first (in_column list.column (said.key ++ colon ∷ rest))
unfolding item_key_line
good_in_column first before document list skipped text said r below clean l e refused =
    let n = length first + 1 in
    let g = good_item document list n said.key (item_key list.kind said.key) said.value refl refused in
    let again = said.key ++ colon ∷ g.rest in
    let k = same_key n text said g.rest e in
    let next : StateFields = record { documents = before; place = Within g.gives } in (
      g.rest,
      may_stand first (at_item before document list skipped) next (in_column list.column again) r
          (spaces_line list.column again (key_line_is n text said g.rest e l g.is_line))
          (item_text_steps before document list skipped n again (key_at_top again said.key g.rest k)
          (key_line_clean n text said g.rest e clean g.clean) (key_has_content again said.key g.rest k) below
          ∙ ap (λ reading. within before (reading >>= then_item document list n)) (key_reads n again said.key g.rest k)
          ∙ ap (within before) g.reads),
    )
