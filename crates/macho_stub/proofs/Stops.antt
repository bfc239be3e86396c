-- Where the reading of a text breaks off. What was read before a line leads to where the reading is, and each refusal
-- of the next line has its reason there; where all lines are read, the text is refused only inside a flow list, under a
-- key of items, and in an item or a document that lacks a key.
-- The lines are read one after the other (`stop_of`): as long as each step gives a state, what is known of it grows
-- (`Since`), and the first step that doesn't is where the text breaks off (`Elsewhere`, `Whys`).
use Rattle.std.proofs.Common.{◌≡◌, ℕ, ◌+◌, Bool, true, false, List, [], ◌∷◌, ◌++◌, length, Option, Some, None, refl, sym, ap, ◌∙◌, ◌⊎◌, inl, inr, subst, append_assoc}
use Rattle.std.specs.Str.Lines.{lines}
use Rattle.std.proofs.lemmas.List.{append-nil}
use Rattle.macho_stub_lines.specs.declared.fault.StubRule.{StubRule}
use Rattle.macho_stub_lines.specs.declared.fault.StubRule.TheVariants.{S1, S2}
use Rattle.macho_stub_lines.specs.Bytes.{indent, unspaced, is_passed, has_barred, is_blank_or_comment, end}
use Rattle.macho_stub_lines.specs.Faults.{Fault, broken}
use Rattle.macho_stub.specs.Documents.{DocumentFields}
use Rattle.macho_stub.specs.steps.Opened.{OpenDocumentFields, with_items}
use Rattle.macho_stub.specs.steps.Reader.{ItemListFields, ModeFields, Keys, Skipped, Names, NoItem, PlaceFields, Outside, Within, StateFields, stays, with_whole, items_with_last, line_step, ended, ended_document, ended_inside, lines_from, start, documents_of}
use Rattle.macho_stub.specs.Order.{EndsWithout, IsLastLine, IsWhyAtEnd, StopsAt}
use Rattle.macho_stub.specs.steps.Order.{LacksInItem, LacksInDocument, BreaksOff}
use Rattle.macho_stub_lines.proofs.Bind.{no_ok}
use Rattle.macho_stub.proofs.Ruling.{bind_err, same_err, ok_not_told}
use Rattle.macho_stub.proofs.FineLines.{AnyOf, lacking_at}
use Rattle.macho_stub.proofs.Fine.{with_whole_fine, items_with_last_fine}
use Rattle.macho_stub.proofs.Causes.{at_line}
use Rattle.macho_stub.proofs.Kept.{items_line}
use Rattle.macho_stub.proofs.Joined.{AreLines, lines_are_lines}
use Rattle.macho_stub.proofs.Trees.{to_read}
use Rattle.macho_stub.proofs.Reached.{goes_on, refused, length_more}
use Rattle.macho_stub.proofs.Steps.{Closes, keys_state}
use Rattle.macho_stub.proofs.Lacking.{lacks_item, lacks_document}
use Rattle.macho_stub.proofs.Lasts.{IsHead}
use Rattle.macho_stub.proofs.Since.{Known, known_start, known_more}
use Rattle.macho_stub.proofs.Elsewhere.{line_why}
use Rattle.macho_stub.proofs.Only.{documents_read}

-- ---- at the end

-- the reason for one fault is that for another that is the same
same_why : (at : ℕ) (rule : StubRule) (texts : List (List ℕ)) (fault : Fault) → record { line = at; rule = rule } ≡ fault
    → IsWhyAtEnd fault.rule fault.line texts → IsWhyAtEnd rule at texts
same_why at rule texts fault e w = let P : Fault → Type 0 = λ f. IsWhyAtEnd f.rule f.line texts in subst P (sym e) w

-- a line that ends the document would end what lacks a key
lacking_item : (texts : List (List ℕ)) → LacksInItem texts → EndsWithout texts end
unfolding has_barred is_passed is_blank_or_comment unspaced indent
lacking_item texts l = record { clean = refl; lacks = inl (l, inl (refl, refl)) }

lacking_document : (texts : List (List ℕ)) → LacksInDocument texts → EndsWithout texts end
unfolding has_barred
lacking_document texts l = record { clean = refl; lacks = inr (l, inr refl) }

document_why : (texts : List (List ℕ)) (before : List DocumentFields) (document whole : OpenDocumentFields) (list : Option ItemListFields)
    (skipped : Bool) (at : ℕ) (rule : StubRule) → Known texts (keys_state before document list skipped) → Closes list document whole
    → whole.line ≡ document.line → with_whole before whole ≡ broken at rule → IsWhyAtEnd rule at texts
document_why texts before document whole list skipped at rule k c same e =
    let q = at_line AnyOf (lacking_at whole.line) (with_whole before whole) at rule (with_whole_fine before whole) e in
    let H : ℕ → Type 0 = λ n. IsLastLine IsHead n texts in
    same_why at rule texts (record { line = whole.line; rule = S2 }) q
    (subst H (sym same) k.heads, lacking_document texts (lacks_document texts before document whole list skipped at rule k.reached c e))

keys_why : (texts : List (List ℕ)) (before : List DocumentFields) (document : OpenDocumentFields) (list : Option ItemListFields)
    (skipped : Bool) (at : ℕ) (rule : StubRule) → Known texts (keys_state before document list skipped)
    → ended_document before document list ≡ broken at rule → IsWhyAtEnd rule at texts
keys_why texts before document None skipped at rule k e = document_why texts before document document None skipped at rule k refl refl e
keys_why texts before document (Some list) skipped at rule k e =
    elim (bind_err (items_with_last document.line list) (λ items. with_whole before (with_items list.kind items document)) at rule e) [
      | inl b ↦ same_why at rule texts (record { line = document.line; rule = S2 })
          (at_line AnyOf (lacking_at document.line) (items_with_last document.line list) at rule (items_with_last_fine document.line list)
          b)
          (k.heads, lacking_item texts (lacks_item texts before document list skipped at rule k.reached b))
      | inr b ↦ document_why texts before document (with_items list.kind b.0 document) (Some list) skipped at rule k (b.0, b.1, refl)
          (items_line list.kind b.0 document) b.2
    ]

mode_why : (texts : List (List ℕ)) (before : List DocumentFields) (document : OpenDocumentFields) (list : Option ItemListFields)
    (mode : ModeFields) (at : ℕ) (rule : StubRule)
    → Known texts (record { documents = before; place = Within (stays document list mode) })
    → ended_inside before document list mode ≡ broken at rule → IsWhyAtEnd rule at texts
mode_why texts before document list Keys at rule k e = keys_why texts before document list false at rule k e
mode_why texts before document list Skipped at rule k e = keys_why texts before document list true at rule k e
mode_why texts before document list (Names names) at rule k e =
    let here : Fault = record { line = names.began; rule = S1 } in
    same_why at rule texts here (same_err {A = List DocumentFields} (record { line = at; rule = rule }) here (sym e)) (inl k.lists)
mode_why texts before document list (NoItem kind key) at rule k e =
    let here : Fault = record { line = key; rule = S1 } in
    same_why at rule texts here (same_err {A = List DocumentFields} (record { line = at; rule = rule }) here (sym e)) (inr k.lists)

end_why : (texts : List (List ℕ)) (before : List DocumentFields) (place : PlaceFields) (at : ℕ) (rule : StubRule)
    → Known texts (record { documents = before; place = place }) → ended before place ≡ broken at rule → IsWhyAtEnd rule at texts
end_why texts before Outside at rule k e = absurd (ok_not_told before at rule e)
end_why texts before (Within inside) at rule k e = mode_why texts before inside.document inside.list inside.mode at rule k e

-- ---- where it stops

-- what was told at the end of these lines
record AtEnd (texts : List (List ℕ)) (at : ℕ) (rule : StubRule) : Type 0 where
  state : StateFields
  known : Known texts state
  fails : ended state.documents state.place ≡ broken at rule

stop_of : (first : List (List ℕ)) (state : StateFields) (texts : List (List ℕ)) (at : ℕ) (rule : StubRule) → Known first state
    → AreLines texts → lines_from state (length first + 1) texts ≡ broken at rule
    → StopsAt (first ++ texts) at rule ⊎ AtEnd (first ++ texts) at rule
unfolding lines_from
stop_of first state [] at rule k l e =
    let K : List (List ℕ) → Type 0 = λ f. Known f state in
    inr (record { state = state; known = subst K (sym (append-nil first)) k; fails = e })
stop_of first state (text ∷ texts) at rule k l e =
    let n = length first + 1 in
    elim (bind_err (line_step state n text) (λ next. lines_from next (n + 1) texts) at rule e) [
      | inl b ↦ inl (record {
        first = first;
        line = text;
        rest = texts;
        parts = refl;
        go_on = goes_on first state k.reached;
        stuck = refused first state text at rule k.reached b;
        why = line_why first state text at rule k l.0 b;
      })
      | inr b ↦
          let more = first ++ text ∷ [] in
          let next = known_more first state b.0 text k l.0 b.1 in
          let count : n + 1 ≡ length more + 1 = ap (λ m. m + 1) (sym (length_more first text)) in
          let S : List (List ℕ) → Type 0 = λ all. StopsAt all at rule ⊎ AtEnd all at rule in
          subst S (append_assoc first (text ∷ []) texts)
          (stop_of more b.0 texts at rule next l.1 (ap (λ m. lines_from b.0 m texts) (sym count) ∙ b.2))
    ]

-- A rule that is told of the documents of a text is where the text breaks off.
pub breaks_off : (text : List ℕ) (line : ℕ) (rule : StubRule) → documents_of text ≡ broken line rule → BreaksOff text line rule
unfolding documents_of
breaks_off text line rule e =
    elim (stop_of [] start (lines text) line rule known_start (lines_are_lines text) e) [
      | inl s ↦ inl s
      | inr s ↦ inr (record {
        go_on = goes_on (lines text) s.state s.known.reached;
        stuck = λ says is. no_ok line rule says (sym e ∙ documents_read text says (to_read (lines text) says is));
        why = end_why (lines text) s.state.documents s.state.place line rule s.known s.fails;
      })
    ]
