-- The answer is the one that the grammar and the rules have: reading finds what is there, and nothing else.
-- The reading of a text gives the documents that the grammar has of it (`Trees`, `Found`, `Only`), and the library that is
-- computed of documents is the one that they make by the rules (`Ruling`, `Gathered`); so the answer is a library exactly
-- where the text makes it. A fault is that of a rule, told of the documents (`Ruling`), or the text breaks off
-- (`Stops`), and only one thing is told of a text (`OneEnd`). Last, all this is said of a result that gives the answer.
use Rattle.std.proofs.Common.{◌≡◌, ℕ, List, [], ◌∷◌, Result, Ok, Err, refl, sym, ap, ◌∙◌, inl, inr, subst}
use Rattle.std.specs.Prelude.{IfOk, IfErr}
use Rattle.macho_stub_lines.specs.declared.fault.StubFault.{StubFault}
use Rattle.macho_stub_lines.specs.declared.fault.StubFault.TheVariants.{Rule, OutOfMemory}
use Rattle.macho_stub_lines.specs.Faults.{Fault, Reading, broken, Gives, ◌>>=◌}
use Rattle.macho_stub.specs.steps.Reader.{documents_of}
use Rattle.macho_stub.specs.Library.{LibraryFields, gathered}
use Rattle.macho_stub.specs.steps.Checks.{library_of}
use Rattle.macho_stub.specs.Answer.{IsStub, IsToldOfText}
use Rattle.macho_stub.specs.steps.Answer.{answer_of}
use Rattle.macho_stub_lines.specs.declared.fault.StubRule.{StubRule}
use Rattle.macho_stub_lines.proofs.Bind.{bind_ok, no_ok, same_ok}
use Rattle.macho_stub.proofs.Ruling.{bind_err, library_made, library_back, library_told, told_back}
use Rattle.macho_stub.proofs.One.{no_break}
use Rattle.macho_stub.proofs.OneEnd.{one_break}
use Rattle.macho_stub.specs.steps.Rules as step
use Rattle.macho_stub.specs.steps.Rules.{MakesLibrary, KeepsAll}
use Rattle.macho_stub.specs.Rules.{rules_of, IsTold}
use Rattle.macho_stub.specs.Documents.{DocumentFields}
use Rattle.std.specs.Str.Lines.{lines}
use Rattle.macho_stub.specs.Grammar.{IsStubLines}
use Rattle.macho_stub.proofs.Trees.{to_read, of_read}
use Rattle.macho_stub.proofs.Stops.{breaks_off}
use Rattle.macho_stub.proofs.Found.{documents_found}
use Rattle.macho_stub.proofs.Only.{documents_read}

-- what is in the grammar is read
pub in_grammar_read : (text : List ℕ) (says : List DocumentFields) → IsStubLines (lines text) says → documents_of text ≡ Ok says
in_grammar_read text says is = documents_read text says (to_read (lines text) says is)

-- documents of the text make the library
made : (text : List ℕ) (says : List DocumentFields) (library : LibraryFields) → IsStubLines (lines text) says → MakesLibrary says library
    → IsStub text library
made text says library is m =
    record {
      main = m.main;
      others = m.others;
      in_grammar = subst (IsStubLines (lines text)) m.first is;
      sound = subst (λ (d : List DocumentFields). KeepsAll m.main (rules_of m.main d)) m.first m.sound;
      install_name = m.install_name;
      current_version = m.current_version;
      symbols = m.symbols ∙ ap (gathered (λ item. item.names)) m.first;
      weak_symbols = m.weak_symbols ∙ ap (gathered (λ item. item.weak_names)) m.first;
    }

makes : (text : List ℕ) (library : LibraryFields) (is : IsStub text library) → MakesLibrary (is.main ∷ is.others) library
makes text library is = record {
  main = is.main;
  others = is.others;
  first = refl;
  sound = is.sound;
  install_name = is.install_name;
  current_version = is.current_version;
  symbols = is.symbols;
  weak_symbols = is.weak_symbols;
}

-- A library that is answered of a text is one that the text makes.
pub answer_found : (text : List ℕ) (library : LibraryFields) → answer_of text ≡ Ok library → IsStub text library
unfolding answer_of
answer_found text library e =
    let b = bind_ok (documents_of text) library_of library e in
    made text b.0 library (of_read (lines text) b.0 (documents_found text b.0 b.1)) (library_made b.0 library b.2)

-- and the library that a text makes is answered
pub answer_only : (text : List ℕ) (library : LibraryFields) → IsStub text library → answer_of text ≡ Ok library
unfolding answer_of
answer_only text library is = ap (λ reading. reading >>= library_of) (in_grammar_read text (is.main ∷ is.others) is.in_grammar)
    ∙ library_back (is.main ∷ is.others) library (makes text library is)

-- the rule that is told of the documents, by its parts
told_of : (rule : StubRule) (line : ℕ) (documents : List DocumentFields) → step.IsTold rule line documents → IsTold rule line documents
told_of rule line [] t = t
told_of rule line (main ∷ others) t = (t.before, t.document, t.behind, t.parts, t.kept, t.breaks, t.here)

told_in : (rule : StubRule) (line : ℕ) (documents : List DocumentFields) → IsTold rule line documents → step.IsTold rule line documents
told_in rule line [] t = t
told_in rule line (main ∷ others) t =
    record { before = t.0; document = t.1; behind = t.2; parts = t.3; kept = t.4; breaks = t.5; here = t.6 }

-- A rule that is answered is the one that is told of the text.
pub answer_told : (text : List ℕ) (line : ℕ) (rule : StubRule) → answer_of text ≡ broken line rule → IsToldOfText text (Rule line rule)
unfolding answer_of
answer_told text line rule e =
    elim (bind_err (documents_of text) library_of line rule e) [
      | inl b ↦ inr (breaks_off text line rule b)
      | inr b ↦
          inl (b.0, of_read (lines text) b.0 (documents_found text b.0 b.1), told_of rule line b.0 (library_told b.0 line rule b.2))
    ]

-- what is told of the text is what is answered
answer_back : (text : List ℕ) (line : ℕ) (rule : StubRule) → IsToldOfText text (Rule line rule) → answer_of text ≡ broken line rule
unfolding answer_of
answer_back text line rule t = by_documents (documents_of text) refl t
  where
    of_text : (says : List DocumentFields) → documents_of text ≡ Ok says → IsToldOfText text (Rule line rule)
        → library_of says ≡ broken line rule
    of_text says e (inl i) =
        let same : i.0 ≡ says = same_ok _ _ (sym (in_grammar_read text i.0 i.1) ∙ e) in
        let T : List DocumentFields → Type 0 = λ d. IsTold rule line d in
        told_back says rule line (told_in rule line says (subst T same i.2))
    of_text says e (inr b) = absurd
        (no_break text line rule b says (of_read (lines text) says (documents_found text says e)))

    of_fault : (fault : Fault) → documents_of text ≡ Err fault → IsToldOfText text (Rule line rule)
        → broken {A = LibraryFields} fault.line fault.rule ≡ broken line rule
    of_fault fault e (inl i) = absurd
        (no_ok fault.line fault.rule i.0 (sym e ∙ in_grammar_read text i.0 i.1))
    of_fault fault e (inr b) =
        let o = one_break text fault.line line fault.rule rule (breaks_off text fault.line fault.rule e) b in
        ap (λ n. broken n fault.rule) o.0 ∙ ap (broken line) o.1

    by_documents : (reading : Reading (List DocumentFields)) → documents_of text ≡ reading → IsToldOfText text (Rule line rule)
        → (documents_of text >>= library_of) ≡ broken line rule
    by_documents (Ok says) e t = ap (λ reading. reading >>= library_of) e ∙ of_text says e t
    by_documents (Err fault) e t = ap (λ reading. reading >>= library_of) e ∙ of_fault fault e t

-- A result that gives what is answered: it gives the rule that is told of the text.
pub told : {X : Type 0} (view : X → LibraryFields) (text : List ℕ) (result : Result X StubFault) (line : ℕ) (rule : StubRule)
    → Gives view result (answer_of text) → IsToldOfText text (Rule line rule) → Gives view result (broken line rule)
told view text (Ok library) line rule h t = sym (answer_back text line rule t) ∙ h
told view text (Err (Rule at other)) line rule h t = sym (answer_back text line rule t) ∙ h
told view text (Err OutOfMemory) line rule h t = tt

-- its library is one that the text makes
pub found : {X : Type 0} (view : X → LibraryFields) (text : List ℕ) (result : Result X StubFault) → Gives view result (answer_of text)
    → IfOk result (λ library. IsStub text (view library))
found view text (Ok library) h = answer_found text (view library) h
found view text (Err e) h = tt

-- it gives the library that the text makes
pub only : {X : Type 0} (view : X → LibraryFields) (text : List ℕ) (result : Result X StubFault) (says : LibraryFields)
    → Gives view result (answer_of text) → IsStub text says → Gives view result (Ok says)
only view text (Ok library) says h is = sym (answer_only text says is) ∙ h
only view text (Err (Rule line rule)) says h is = sym (answer_only text says is) ∙ h
only view text (Err OutOfMemory) says h is = tt

-- and its fault is one that is told of the text
pub fault : {X : Type 0} (view : X → LibraryFields) (text : List ℕ) (result : Result X StubFault) → Gives view result (answer_of text)
    → IfErr result (IsToldOfText text)
fault view text (Ok library) h = tt
fault view text (Err (Rule line rule)) h = answer_told text line rule h
fault view text (Err OutOfMemory) h = tt
