-- From the reading of a document's lines to its tree.
-- A line behind the keys of a document is a head, an end or an entry. A head begins a document whose trees are those of
-- the lines behind it, in front of the others (`document_in_front`); an end or a head closes the document before it,
-- which lacks no key, since else the step would have failed. An entry goes in front of those that follow, by what its
-- key is: a number, a scalar, a flow list, items under the key, or a skipped value.
use Rattle.std.proofs.Common.{◌≡◌, ℕ, cond, eqb, List, [], ◌∷◌, ◌++◌, length, Option, Some, None, Ok, is_some, refl, sym, ap, ◌∙◌, inl, inr, subst, append_assoc}
use Rattle.std.specs.Str.{bytes_eq}
use Rattle.macho_stub_lines.specs.declared.keys.ItemKey.TheVariants as item
use Rattle.macho_stub_lines.specs.declared.keys.TopKey.{TopKey}
use Rattle.macho_stub_lines.specs.declared.keys.TopKey.TheVariants as top
use Rattle.macho_stub_lines.specs.declared.fault.StubRule.TheVariants.{S1, S3}
use Rattle.macho_stub_lines.specs.Faults.{◌>>=◌, outside}
use Rattle.macho_stub_lines.specs.Keys.{Entry, entry_at, scalar_value, version_value, top_key}
use Rattle.macho_stub.specs.Documents.{DocumentFields}
use Rattle.macho_stub.specs.steps.Opened.{OpenDocumentFields, head_at, has_items, with_items}
use Rattle.macho_stub.specs.steps.Whole.{whole_document}
use Rattle.macho_stub.specs.steps.Reader.{Keys, NoItem, InsideFields, StateFields, stays, names_value, top_entry, with_whole, top_line}
use Rattle.macho_stub_lines.specs.Bytes.{head, end}
use Rattle.macho_stub_lines.specs.ReadLists.{ReadLine}
use Rattle.macho_stub.proofs.Readings.{Under, Plain, Listed, under_then, TopValue, end_then}
use Rattle.macho_stub_lines.proofs.Bind.{bind_ok, chosen, not_broken, not_broken_else, same_ok, eq_at}
use Rattle.macho_stub.proofs.Rest.{RestOutside, RestTop, RestInside, Rest}
use Rattle.macho_stub.proofs.FoundEntries.{names_value_rest, skipped_value_rest}
use Rattle.macho_stub.proofs.Branches.{at_head, at_end, at_entry, inside_of_document}
use Rattle.macho_bytes.proofs.Comparing.{same_bytes}

-- a key line of a document, and the lines behind it
record RestTopValue (before : List DocumentFields) (document : OpenDocumentFields) (line : ℕ) (text : List ℕ) (key : TopKey)
    (value : List ℕ) (rest : List ReadLine) (total : List DocumentFields) : Type 0 where
  under : Under
  after : OpenDocumentFields
  tail : List ReadLine
  lines_of : rest ≡ under_then under tail
  is_value : TopValue key value (record { number = line; head = text; under = under }) document after
  keys : RestTop before after tail total

top_entry_rest : (before : List DocumentFields) (document : OpenDocumentFields) (line : ℕ) (text : List ℕ) (key : TopKey) (value : List ℕ)
    (inside : InsideFields) (rest : List ReadLine) (total : List DocumentFields)
    → top_entry document line key value ≡ Ok inside → RestInside before inside rest total
    → RestTopValue before document line text key value rest total
top_entry_rest before document line text top.Version value inside rest total e h =
    let b = not_broken (is_some document.version) line S3
    (version_value line value >>= λ version. Ok (stays (record document { version = Some version }) None Keys)) inside e in
    let v = bind_ok (version_value line value) (λ version. Ok (stays (record document { version = Some version }) None Keys)) inside b.1
    in
    let H : InsideFields → Type 0 = λ i. RestInside before i rest total in
    record {
      under = Plain [];
      after = record document { version = Some v.0 };
      tail = rest;
      lines_of = refl;
      is_value =
          (b.0, refl, v.0, v.1, refl);
      keys = subst H (sym (same_ok _ _ v.2)) h;
    }
top_entry_rest before document line text top.Targets value inside rest total e h =
    let b = not_broken (is_some document.targets) line S3 (names_value document None line item.Targets value) inside e in
    let r = names_value_rest before document None line item.Targets value inside rest total b.1 h in
    record {
      under = Plain r.more;
      after = record document { targets = Some r.names };
      tail = r.tail;
      lines_of = r.lines_of;
      is_value =
          (b.0, r.names, r.is_list, refl);
      keys = r.keys;
    }
top_entry_rest before document line text top.InstallName value inside rest total e h =
    let b = not_broken (is_some document.install_name) line S3
    (scalar_value line value >>= λ text. Ok (stays (record document { install_name = Some text }) None Keys)) inside e in
    let v = bind_ok (scalar_value line value) (λ text. Ok (stays (record document { install_name = Some text }) None Keys)) inside b.1 in
    let H : InsideFields → Type 0 = λ i. RestInside before i rest total in
    record {
      under = Plain [];
      after = record document { install_name = Some v.0 };
      tail = rest;
      lines_of = refl;
      is_value =
          (b.0, refl, v.0, v.1, refl);
      keys = subst H (sym (same_ok _ _ v.2)) h;
    }
top_entry_rest before document line text top.CurrentVersion value inside rest total e h =
    let b = not_broken (is_some document.current_version) line S3
    (scalar_value line value >>= λ text. Ok (stays (record document { current_version = Some text }) None Keys)) inside e in
    let v = bind_ok (scalar_value line value) (λ text. Ok (stays (record document { current_version = Some text }) None Keys)) inside b.1
    in
    let H : InsideFields → Type 0 = λ i. RestInside before i rest total in
    record {
      under = Plain [];
      after = record document { current_version = Some v.0 };
      tail = rest;
      lines_of = refl;
      is_value =
          (b.0, refl, v.0, v.1, refl);
      keys = subst H (sym (same_ok _ _ v.2)) h;
    }
top_entry_rest before document line text (top.Items kind) value inside rest total e h =
    let b = not_broken (has_items kind document) line S3
    (cond (eqb (length value) 0) (Ok (stays document None (NoItem kind line))) (outside line)) inside e in
    let v = not_broken_else (eqb (length value) 0) line S1 (Ok (stays document None (NoItem kind line))) inside b.1 in
    let H : InsideFields → Type 0 = λ i. RestInside before i rest total in
    let r = subst H (sym (same_ok _ _ v.1)) h in
    record {
      under = Listed r.0 (r.1.tree ∷ r.1.trees);
      after = with_items kind (r.1.one ∷ r.1.says) document;
      tail = r.1.tail;
      lines_of = r.1.lines_of;
      is_value = (b.0, eq_at _ _ v.0, r.1.one ∷ r.1.says, r.1.are_items, refl);
      keys = r.1.top;
    }
top_entry_rest before document line text top.Unread value inside rest total e h =
    elim (skipped_value_rest before document None line value inside rest total e h) [
      | inl r ↦ record {
        under = Plain r.more;
        after = document;
        tail = r.tail;
        lines_of = r.lines_of;
        is_value =
            (inl (r.names, r.is_list), refl);
        keys = r.keys;
      }
      | inr r ↦ record {
        under = Plain r.1.more;
        after = document;
        tail = r.1.tail;
        lines_of = r.1.lines_of;
        is_value =
            (inr (r.0, r.1.belong), refl);
        keys = r.1.keys;
      }
    ]

-- an entry more in front
entry_in_front : (before : List DocumentFields) (document : OpenDocumentFields) (line : ℕ) (text : List ℕ) (said : Entry)
    (rest : List ReadLine) (total : List DocumentFields)
    → entry_at line text ≡ Ok said → RestTopValue before document line text (top_key said.key) said.value rest total
    → RestTop before document (record { number = line; text = text } ∷ rest) total
entry_in_front before document line text said rest total e r = record {
  entries = record { number = line; head = text; under = r.under } ∷ r.keys.entries;
  after = r.keys.after;
  ended_at = r.keys.ended_at;
  trees = r.keys.trees;
  whole = r.keys.whole;
  says = r.keys.says;
  lines_of = ap (λ (more : List ReadLine). record { number = line; text = text } ∷ more)
      (r.lines_of ∙ ap (under_then r.under) r.keys.lines_of);
  reads = (r.after, record { said = said; key = e; value = r.is_value }, r.keys.reads);
  is_whole = r.keys.is_whole;
  documents = r.keys.documents;
  all = r.keys.all;
}

-- a document whose head stands at the line, in front of others
pub document_in_front : (before : List DocumentFields) (line : ℕ) (text : List ℕ) (rest : List ReadLine) (total : List DocumentFields)
    → text ≡ head → RestTop before (head_at line) rest total → RestOutside before (record { number = line; text = text } ∷ rest) total
document_in_front before line text rest total is r = record {
  trees = record { number = line; entries = r.entries; ended_at = r.ended_at } ∷ r.trees;
  says = r.whole ∷ r.says;
  lines_of = ap (λ t. record { number = line; text = t } ∷ rest) is
      ∙ ap (λ (more : List ReadLine). record { number = line; text = head } ∷ more) r.lines_of;
  documents = (record { read = r.after; entries = r.reads; whole = r.is_whole }, r.documents);
  all = r.all;
}

-- the end of a document, in front of others
document_ends : (before : List DocumentFields) (document : OpenDocumentFields) (all : List DocumentFields) (ended_at : Option ℕ)
    (rest lines : List ReadLine) (total : List DocumentFields)
    → with_whole before document ≡ Ok all → lines ≡ end_then ended_at rest → RestOutside all rest total
    → RestTop before document lines total
unfolding with_whole
document_ends before document all ended_at rest lines total e is r =
    let b = bind_ok (whole_document document) (λ whole. Ok (before ++ whole ∷ [])) all e in
    record {
      entries = [];
      after = document;
      ended_at = ended_at;
      trees = r.trees;
      whole = b.0;
      says = r.says;
      lines_of = is ∙ ap (end_then ended_at) r.lines_of;
      reads = refl;
      is_whole = b.1;
      documents = r.documents;
      all = r.all ∙ ap (λ (front : List DocumentFields). front ++ r.says) (sym (same_ok _ _ b.2)) ∙ append_assoc before (b.0 ∷ []) r.says;
    }

-- a line behind the keys of a document
pub top_line_rest : (before : List DocumentFields) (document : OpenDocumentFields) (line : ℕ) (text : List ℕ) (next : StateFields)
    (rest : List ReadLine) (total : List DocumentFields)
    → top_line before document line text ≡ Ok next → Rest next.documents next.place rest total
    → RestTop before document (record { number = line; text = text } ∷ rest) total
unfolding top_line
top_line_rest before document line text next rest total e h =
    let H : StateFields → Type 0 = λ s. Rest s.documents s.place rest total in
    elim (chosen (bytes_eq text head) (with_whole before document >>= at_head line)
    (cond (bytes_eq text end) (with_whole before document >>= at_end) (entry_at line text >>= at_entry before document line))
    (Ok next) e) [
      | inl b ↦
          let w = bind_ok (with_whole before document) (at_head line) next b.1 in
          document_ends before document w.0 None (record { number = line; text = text } ∷ rest) _ total w.1 refl
          (document_in_front w.0 line text rest total (same_bytes text head b.0) (subst H (sym (same_ok _ _ w.2)) h))
      | inr b ↦ elim (chosen (bytes_eq text end) (with_whole before document >>= at_end)
          (entry_at line text >>= at_entry before document line) (Ok next) b.1) [
            | inl d ↦
                let w = bind_ok (with_whole before document) at_end next d.1 in
                document_ends before document w.0 (Some line) rest _ total w.1
                (ap (λ t. record { number = line; text = t } ∷ rest) (same_bytes text end d.0)) (subst H (sym (same_ok _ _ w.2)) h)
            | inr d ↦
                let k = bind_ok (entry_at line text) (at_entry before document line) next d.1 in
                let i = bind_ok (top_entry document line (top_key k.0.key) k.0.value) (inside_of_document before) next k.2 in
                entry_in_front before document line text k.0 rest total k.1
                (top_entry_rest before document line text (top_key k.0.key) k.0.value i.0 rest total i.1
                (subst H (sym (same_ok _ _ i.2)) h))
          ]
    ]
