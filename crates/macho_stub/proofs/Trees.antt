-- The grammar and the lines as they are read say the same of lines. Lines with places are numbered from 1 on (`numbered`), and those with
-- content the same; so the trees of the grammar with places lead to trees that are read (`TreesRead`, `TreesFound`), and what they say are
-- the same texts. The grammar says the same by the lines alone (`UnplacedTexts`), wherever they lie: so lines in the grammar are
-- lines as they are read (`to_read`), and those are in the grammar (`of_read`).
-- Of a text it says the same with the places of its lines (`in_places`, `in_grammar`).
use Rattle.std.proofs.Common.{◌≡◌, ℕ, ◌+◌, Bool, true, false, cond, eqb, List, [], ◌∷◌, length, map, refl, sym, ap, ◌∙◌, subst}
use Rattle.std.specs.List.{slice_split}
use Rattle.std.specs.Str.Lines.{lines}
use Rattle.macho_stub_lines.specs.Bytes.{is_passed, has_barred, line_feed}
use Rattle.macho_stub_lines.specs.Slices.{Slice, Line, lines_of, lines_of_parts, content_of}
use Rattle.macho_stub_lines.specs.ReadLists.{ReadLine}
use Rattle.macho_stub.specs.Documents.{DocumentOf, DocumentFields, documents_texts}
use Rattle.macho_stub.specs.Places.{IsStubText}
use Rattle.macho_stub.specs.Grammar.{IsStubLines}
use Rattle.macho_stub.proofs.Readings.{IsReadLines, content_from}
use Rattle.macho_stub.proofs.Mappings.{documents_fold, documents_unfold}
use Rattle.macho_stub.proofs.TreesRead.{read_lines, read_document, documents_lines, documents_read}
use Rattle.macho_stub.proofs.TreesFoundTop.{documents_found}
use Rattle.macho_stub.proofs.Unders.{documents_old}
use Rattle.macho_stub.proofs.UndersBack.{new_tree, documents_lines as new_lines, documents_new}
use Rattle.macho_stub.proofs.UnplacedTexts.{IsPlaced, AreNumbered, placed_forth, placed_back}
use Rattle.macho_stub_lines.proofs.Unplaced.{line_texts}
use Rattle.macho_stub_lines.proofs.Places.{same_lines}
use Rattle.macho_stub_lines.proofs.Runs.{all_made, all_made_of}

-- ---- lines

numbered : (number at : ℕ) (parts : List (List ℕ)) → AreNumbered number (lines_of_parts number at parts)
numbered number at [] = tt
numbered number at (part ∷ []) = by_test (eqb (length part) 0)
  where
    by_test : (t : Bool) → AreNumbered number (cond t [] (record { number = number; at = at; text = part } ∷ []))
    by_test true = tt
    by_test false = (refl, tt)
numbered number at (part ∷ next ∷ parts) = (refl, numbered (number + 1) (at + length part + 1) (next ∷ parts))

-- those with content
same_content : (number : ℕ) (all : List Line) → AreNumbered number all
    → read_lines (content_of all) ≡ content_from number (line_texts all)
same_content number [] n = refl
same_content number (line ∷ more) n = by_test (same_content (number + 1) more n.1) (is_passed line.text)
  where
    there : ReadLine
    there = record { number = number; text = line.text }

    by_test : read_lines (content_of more) ≡ content_from (number + 1) (line_texts more) → (t : Bool)
        → read_lines (cond t (content_of more) (line ∷ content_of more))
        ≡ cond t (content_from (number + 1) (line_texts more)) (there ∷ content_from (number + 1) (line_texts more))
    by_test ih true = ih
    by_test ih false = ap (λ (k : ℕ). record { number = k; text = line.text } ∷ read_lines (content_of more)) n.0
        ∙ ap (λ (rest : List ReadLine). there ∷ rest) ih

-- no byte of the line is one that may stand nowhere
abbrev IsClean : List ℕ → Type 0
IsClean line = has_barred line ≡ false

abbrev line_text : Line → List ℕ
line_text line = line.text

-- ---- lines with places

placed_read : (all : List Line) (says : List (DocumentOf Slice)) → AreNumbered 1 all → IsPlaced all says
    → IsReadLines (line_texts all) (documents_texts says)
placed_read all says n is =
    let o = documents_old is.trees says is.documents in record {
      clean = all_made IsClean line_text all is.clean;
      trees = map read_document o.olds;
      lines_of = sym (same_content 1 all n) ∙ ap read_lines (is.lines_of ∙ sym o.lines) ∙ documents_lines o.olds;
      documents = documents_read o.olds says (documents_fold o.olds says o.are);
    }

read_placed : (all : List Line) (says : List DocumentFields) → AreNumbered 1 all → IsReadLines (line_texts all) says
    → (slices : List (DocumentOf Slice)) × IsPlaced all slices × (documents_texts slices ≡ says)
read_placed all says n is =
    let d = documents_found is.trees says (content_of all) is.documents (same_content 1 all n ∙ is.lines_of) in (
      d.says,
      record {
        clean = all_made_of IsClean line_text all is.clean;
        trees = map new_tree d.trees;
        lines_of = d.parts ∙ sym (new_lines d.trees);
        documents = documents_new d.trees d.says (documents_unfold d.trees d.says d.are_documents);
      },
      d.are,
    )

-- ---- lines alone

-- lines with these texts, from this number on, all at one place
abbrev lay : ℕ → List (List ℕ) → List Line
lay number [] = []
lay number (text ∷ texts) = record { number = number; at = 0; text = text } ∷ lay (number + 1) texts

laid_numbered : (number : ℕ) (texts : List (List ℕ)) → AreNumbered number (lay number texts)
laid_numbered number [] = tt
laid_numbered number (text ∷ texts) = (refl, laid_numbered (number + 1) texts)

laid_texts : (number : ℕ) (texts : List (List ℕ)) → line_texts (lay number texts) ≡ texts
laid_texts number [] = refl
laid_texts number (text ∷ texts) = ap (λ (all : List (List ℕ)). text ∷ all) (laid_texts (number + 1) texts)

-- lines in the grammar are lines as they are read
pub to_read : (texts : List (List ℕ)) (says : List DocumentFields) → IsStubLines texts says → IsReadLines texts says
to_read texts says is =
    let all = lay 1 texts in
    let there : line_texts all ≡ texts = laid_texts 1 texts in
    let S : List (List ℕ) → Type 0 = λ t. IsStubLines t says in
    let p = placed_back all says (laid_numbered 1 texts) (subst S (sym there) is) in
    let r : IsReadLines (line_texts all) (documents_texts p.0) = placed_read all p.0 (laid_numbered 1 texts) p.1 in
    let R : List (List ℕ) → Type 0 = λ t. IsReadLines t says in
    subst R there (subst (IsReadLines (line_texts all)) p.2 r)

-- and lines as they are read are in the grammar
pub of_read : (texts : List (List ℕ)) (says : List DocumentFields) → IsReadLines texts says → IsStubLines texts says
of_read texts says is =
    let all = lay 1 texts in
    let there : line_texts all ≡ texts = laid_texts 1 texts in
    let R : List (List ℕ) → Type 0 = λ t. IsReadLines t says in
    let p = read_placed all says (laid_numbered 1 texts) (subst R (sym there) is) in
    let s : IsStubLines (line_texts all) (documents_texts p.0) = placed_forth all p.0 (laid_numbered 1 texts) p.1 in
    let S : List (List ℕ) → Type 0 = λ t. IsStubLines t says in
    subst S there (subst (IsStubLines (line_texts all)) p.2 s)

-- ---- texts

text_numbered : (text : List ℕ) → AreNumbered 1 (lines_of text)
text_numbered text = numbered 1 0 (slice_split (λ b. eqb b line_feed) text)

-- what the grammar says of a text has places there
pub in_places : (text : List ℕ) (says : List DocumentFields) → IsStubLines (lines text) says
    → (slices : List (DocumentOf Slice)) × IsStubText text slices × (documents_texts slices ≡ says)
in_places text says is =
    let S : List (List ℕ) → Type 0 = λ t. IsStubLines t says in
    let p = placed_back (lines_of text) says (text_numbered text) (subst S (sym (same_lines text)) is) in
    (p.0, record { clean = p.1.clean; trees = p.1.trees; lines = p.1.lines_of; documents = p.1.documents }, p.2)

-- and what has places is in the grammar
pub in_grammar : (text : List ℕ) (says : List (DocumentOf Slice)) → IsStubText text says → IsStubLines (lines text) (documents_texts says)
in_grammar text says is =
    let S : List (List ℕ) → Type 0 = λ t. IsStubLines t (documents_texts says) in
    subst S (same_lines text) (placed_forth (lines_of text) says (text_numbered text)
    (record { clean = is.clean; trees = is.trees; lines_of = is.lines; documents = is.documents }))
