-- From the reading of an entry to its tree: if what follows the entry's line finishes the text from where the entry
-- leaves the reading, then the entry with the lines under it is one of the grammar, and what is left finishes the text
-- from behind it.
-- The lines under a value are those of its flow list, up to the bracket that closes it (`names_line_rest`), or those
-- that belong to a skipped value; which of the two, the value's first byte tells (`skipped_value_rest`).
use Rattle.std.proofs.Common.{◌≡◌, ◌≢◌, ℕ, eqb, List, [], ◌++◌, drop, Option, Some, None, Ok, refl, sym, ◌⊎◌, inl, inr, get_or, subst}
use Rattle.macho_stub_lines.specs.declared.keys.ItemKey.{ItemKey}
use Rattle.macho_stub_lines.specs.declared.keys.ItemKey.TheVariants as item
use Rattle.macho_stub_lines.specs.declared.list.Expect.{Expect}
use Rattle.macho_stub_lines.specs.declared.list.Expect.TheVariants.{AfterOpen, AfterComma, AfterName, Closed}
use Rattle.macho_stub_lines.specs.declared.fault.StubRule.TheVariants.{S1}
use Rattle.macho_stub_lines.specs.Bytes.{open_bracket}
use Rattle.macho_stub_lines.specs.Lists.{ListPart, list_part, with_front}
use Rattle.macho_stub.specs.Documents.{DocumentFields}
use Rattle.macho_stub.specs.steps.Opened.{OpenDocumentFields}
use Rattle.macho_stub.specs.steps.Reader.{ItemListFields, NameListFields, Skipped, InsideFields, stays, with_names, behind_expect, behind_part, names_line, opened, names_value, skipped_value}
use Rattle.macho_stub_lines.specs.ReadLists.{ReadLine, IsReadList}
use Rattle.macho_stub_lines.proofs.Bind.{bind_ok, chosen, not_broken_else, same_ok, eq_at, ne_at}
use Rattle.macho_stub.proofs.Rest.{RestBehind, RestSkipped, RestNames, RestInside}

-- behind a line of a flow list, whether it closes the list or not
behind_part_rest : (before : List DocumentFields) (document : OpenDocumentFields) (list : Option ItemListFields) (began : ℕ)
    (key : ItemKey) (names : List (List ℕ)) (expect : Expect) (rest : List ReadLine) (total : List DocumentFields)
    → RestInside before (behind_expect document list began key (record { names = names; expect = expect }) expect) rest total
    → RestNames before document list key (record { names = names; expect = expect }) rest total
behind_part_rest before document None began key names Closed rest total h = record
    { names = names; more = []; tail = rest; lines_of = refl; goes_on = (refl, refl); inside = tt; keys = h }
behind_part_rest before document (Some list) began key names Closed rest total h = record
    { names = names; more = []; tail = rest; lines_of = refl; goes_on = (refl, refl); inside = tt; keys = h }
behind_part_rest before document list began key names AfterOpen rest total h = h (λ e. cc)
behind_part_rest before document list began key names AfterComma rest total h = h (λ e. cc)
behind_part_rest before document list began key names AfterName rest total h = h (λ e. cc)

-- a line of a flow list
pub names_line_rest : (before : List DocumentFields) (document : OpenDocumentFields) (list : Option ItemListFields) (line : ℕ)
    (names : NameListFields) (text : List ℕ) (inside : InsideFields) (rest : List ReadLine) (total : List DocumentFields)
    → names_line document list line names text ≡ Ok inside → RestInside before inside rest total
    → (part : ListPart) × (with_front names.part.names (list_part line names.part.expect 0 text) ≡ Ok part)
    × RestNames before document list names.key part rest total
unfolding names_line
names_line_rest before document list line names text inside rest total e h =
    let b = bind_ok (with_front names.part.names (list_part line names.part.expect 0 text))
    (λ part. Ok (behind_part document list names.began names.key part)) inside e in
    let is : behind_part document list names.began names.key b.0 ≡ inside = same_ok _ _ b.2 in
    let H : InsideFields → Type 0 = λ i. RestInside before i rest total in
    (b.0, b.1, behind_part_rest before document list names.began names.key b.0.names b.0.expect rest total (subst H (sym is) h))

-- a value that is read as a flow list
pub record RestList (before : List DocumentFields) (document : OpenDocumentFields) (list : Option ItemListFields) (line : ℕ)
    (key : ItemKey) (value : List ℕ) (rest : List ReadLine) (total : List DocumentFields) : Type 0 where
  pub names : List (List ℕ)
  pub more : List ReadLine
  pub tail : List ReadLine
  pub lines_of : rest ≡ more ++ tail
  pub is_list : IsReadList line value more names
  pub keys : RestBehind before (with_names document list key names) tail total

opened_rest : (before : List DocumentFields) (document : OpenDocumentFields) (list : Option ItemListFields) (line : ℕ) (key : ItemKey)
    (value : List ℕ) (inside : InsideFields) (rest : List ReadLine) (total : List DocumentFields)
    → get_or value 0 0 ≡ open_bracket → names_line document list line (opened line key) (drop 1 value) ≡ Ok inside
    → RestInside before inside rest total → RestList before document list line key value rest total
opened_rest before document list line key value inside rest total bracket e h =
    let n = names_line_rest before document list line (opened line key) (drop 1 value) inside rest total e h in
    record {
      names = n.2.names;
      more = n.2.more;
      tail = n.2.tail;
      lines_of = n.2.lines_of;
      is_list = record { bracket = bracket; first = n.0; begins = n.1; goes_on = n.2.goes_on; inside = n.2.inside };
      keys = n.2.keys;
    }

-- a value that begins a flow list is one with the lines under it, and what is left finishes the text behind it
pub names_value_rest : (before : List DocumentFields) (document : OpenDocumentFields) (list : Option ItemListFields) (line : ℕ)
    (key : ItemKey) (value : List ℕ) (inside : InsideFields) (rest : List ReadLine) (total : List DocumentFields)
    → names_value document list line key value ≡ Ok inside → RestInside before inside rest total
    → RestList before document list line key value rest total
unfolding names_value
names_value_rest before document list line key value inside rest total e h =
    let b = not_broken_else (eqb (get_or value 0 0) open_bracket) line S1 (names_line document list line (opened line key) (drop 1 value))
    inside e in
    opened_rest before document list line key value inside rest total (eq_at _ _ b.0) b.1 h

-- a value that is skipped
pub skipped_value_rest : (before : List DocumentFields) (document : OpenDocumentFields) (list : Option ItemListFields) (line : ℕ)
    (value : List ℕ) (inside : InsideFields) (rest : List ReadLine) (total : List DocumentFields)
    → skipped_value document list line value ≡ Ok inside → RestInside before inside rest total
    → RestList before document list line item.Unread value rest total
    ⊎ ((get_or value 0 0 ≢ open_bracket) × RestSkipped before document list rest total)
unfolding skipped_value
skipped_value_rest before document list line value inside rest total e h =
    elim (chosen (eqb (get_or value 0 0) open_bracket) (names_line document list line (opened line item.Unread) (drop 1 value))
    (Ok (stays document list Skipped)) (Ok inside) e) [
      | inl b ↦ inl (opened_rest before document list line item.Unread value inside rest total (eq_at _ _ b.0) b.1 h)
      | inr b ↦
          let is : stays document list Skipped ≡ inside = same_ok _ _ b.1 in
          let H : InsideFields → Type 0 = λ i. RestInside before i rest total in
          inr (ne_at _ _ b.0, subst H (sym is) h)
    ]
