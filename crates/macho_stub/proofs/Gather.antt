-- Loops over documents and items. What was gathered stands in front of what the rest gives, and each document that
-- is sound leaves the judgement of all to the rest.
-- Each loop is at some place i in its list. Its invariant says that what was found so far, with what the elements from i on
-- give, is the whole; the lemmas here are the step from i to the next place, and the end, where no element is left. They are
-- by recursion on the list and the place together.
use Rattle.std.proofs.Common.{◌≡◌, ℕ, zero, suc, ◌<◌, ◌≤◌, List, [], ◌∷◌, ◌++◌, length, get_or, drop, map, Ok, sym, ap, ◌∙◌, append_assoc, arith}
use Rattle.std.specs.List.{flat_map}
use Rattle.macho_stub_lines.specs.declared.fault.StubFault.{StubFault}
use Rattle.macho_stub_lines.specs.declared.fault.StubFault.TheVariants.{Rule, OutOfMemory}
use Rattle.macho_stub.specs.declared.document.Document.{Document}
use Rattle.macho_stub_lines.specs.Faults.{Reading, ◌>>=◌, Fails, broken}
use Rattle.macho_stub.specs.Documents.{DocumentFields}
use Rattle.macho_stub.specs.steps.Opened.{document_of}
use Rattle.macho_stub.specs.steps.Checks.{checked_document, checked_documents}

-- one element more is gathered
pub flat_more : {A X Y : Type 0} (f : X → List Y) (view : A → X) (front all : List Y) (xs : List A) (i : ℕ) (x : A) → i < length xs → x
    ≡ get_or xs i x
    → front ++ flat_map f (drop i (map view xs)) ≡ all → (front ++ f (view x)) ++ flat_map f (drop (suc i) (map view xs)) ≡ all
flat_more f view front all [] i x lt is so_far = absurd (omega arith)
flat_more f view front all (y ∷ xs) zero x lt is so_far = append_assoc front (f (view x)) (flat_map f (map view xs))
    ∙ ap (λ z. front ++ (f (view z) ++ flat_map f (map view xs))) is ∙ so_far
flat_more f view front all (y ∷ xs) (suc i) x lt is so_far = flat_more f view front all xs i x (omega arith) is so_far

-- the next document is sound
pub next_is_sound : (main : DocumentFields) (documents : List Document) (i : ℕ) (document : Document) (u : Unit {0})
    (total : Reading (Unit {0})) → i < length documents → document ≡ get_or documents i document
    → checked_document main (document_of document) ≡ Ok u → checked_documents main (drop i (map document_of documents)) ≡ total
    → checked_documents main (drop (suc i) (map document_of documents)) ≡ total
unfolding checked_documents
next_is_sound main [] i document u total lt is h so_far = absurd (omega arith)
next_is_sound main (d ∷ documents) zero document u total lt is h so_far =
    let k : checked_document main (document_of d) ≡ Ok u = ap (λ z. checked_document main (document_of z)) (sym is) ∙ h in
    sym (ap (λ (reading : Reading (Unit {0})). reading >>= λ _. checked_documents main (map document_of documents)) k) ∙ so_far
next_is_sound main (d ∷ documents) (suc i) document u total lt is h so_far = next_is_sound main documents i document u total (omega arith)
    is h so_far

-- the next document isn't
pub next_is_broken : (e : StubFault) (main : DocumentFields) (documents : List Document) (i : ℕ) (document : Document)
    (total : Reading (Unit {0})) → i < length documents → document ≡ get_or documents i document
    → Fails e (checked_document main (document_of document)) → checked_documents main (drop i (map document_of documents)) ≡ total
    → Fails e total
unfolding checked_documents
next_is_broken e main [] i document total lt is h so_far = absurd (omega arith)
next_is_broken OutOfMemory main (d ∷ documents) i document total lt is h so_far = tt
next_is_broken (Rule line rule) main (d ∷ documents) zero document total lt is h so_far =
    let k : checked_document main (document_of d) ≡ broken line rule = ap (λ z. checked_document main (document_of z)) (sym is) ∙ h in
    sym so_far ∙ ap (λ (reading : Reading (Unit {0})). reading >>= λ _. checked_documents main (map document_of documents)) k
next_is_broken (Rule line rule) main (d ∷ documents) (suc i) document total lt is h so_far = next_is_broken (Rule line rule) main
    documents i document total (omega arith) is h so_far

-- no document is left
pub all_are_sound : (main : DocumentFields) (documents : List Document) (i : ℕ) (total : Reading (Unit {0})) → length documents ≤ i
    → checked_documents main (drop i (map document_of documents)) ≡ total → total ≡ Ok tt
unfolding checked_documents
all_are_sound main [] zero total past so_far = sym so_far
all_are_sound main [] (suc i) total past so_far = sym so_far
all_are_sound main (d ∷ documents) zero total past so_far = absurd (omega arith)
all_are_sound main (d ∷ documents) (suc i) total past so_far = all_are_sound main documents i total (omega arith) so_far
