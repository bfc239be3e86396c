-- What is in the grammar is read: flow lists and skipped values. The lines of a tree, in front of others, take the
-- reading to where it stands behind the tree.
-- Each line that belongs to a skipped value leaves the reading as it is, and the first that doesn't is read as where a key
-- may stand (`skip_goes_on`, `skip_ends`). A flow list that isn't closed goes on with the next line, which is no end of a
-- document, and the part that closes it gives its names to the key (`list_goes_on`). A value that begins with a bracket is
-- such a list, and any other one is skipped.
use Rattle.std.proofs.Common.{◌≡◌, ◌≢◌, ℕ, true, false, cond, List, [], ◌∷◌, ◌++◌, drop, Option, Ok, refl, ap, ◌∙◌, inl, inr}
use Rattle.std.specs.List.{AllByRecursion}
use Rattle.macho_stub_lines.specs.declared.keys.ItemKey.{ItemKey}
use Rattle.macho_stub_lines.specs.declared.keys.ItemKey.TheVariants as item
use Rattle.macho_stub_lines.specs.declared.list.Expect.{Expect}
use Rattle.macho_stub_lines.specs.declared.list.Expect.TheVariants.{AfterOpen, AfterComma, AfterName, Closed}
use Rattle.macho_stub_lines.specs.Faults.{Reading, ◌>>=◌, outside}
use Rattle.macho_stub_lines.specs.Lists.{ListPart, list_part, with_front}
use Rattle.macho_stub.specs.Documents.{DocumentFields}
use Rattle.macho_stub.specs.steps.Opened.{OpenDocumentFields}
use Rattle.macho_stub.specs.steps.Reader.{ItemListFields, Keys, Skipped, Names, InsideFields, Within, stays, with_names, behind_expect, behind_part, names_line, opened, names_value, skipped_value, within, belongs, key_line}
use Rattle.macho_stub_lines.specs.ReadLists.{ReadLine, GoesOn, IsReadList}
use Rattle.macho_stub.proofs.Readings.{IsSkipped}
use Rattle.macho_stub_lines.proofs.Bind.{eq_true, eq_false, bytes_differ}
use Rattle.macho_stub.proofs.Rest.{run}
use Rattle.macho_stub_lines.specs.Bytes.{end}

-- the reading inside a document, of these lines
abbrev pub run_in : List DocumentFields → InsideFields → List ReadLine → Reading (List DocumentFields)
run_in before inside rest = run before (Within inside) rest

-- the same, where a key may stand
abbrev pub run_keys : List DocumentFields → OpenDocumentFields → Option ItemListFields → List ReadLine → Reading (List DocumentFields)
run_keys before document list rest = run_in before (stays document list Keys) rest

abbrev pub run_skipped : List DocumentFields → OpenDocumentFields → Option ItemListFields → List ReadLine → Reading (List DocumentFields)
run_skipped before document list rest = run_in before (stays document list Skipped) rest

-- the lines begin with none that belongs to a skipped value
abbrev pub Starts : Option ItemListFields → List ReadLine → Type 0
Starts list [] = Unit {0}
Starts list (line ∷ rest) = belongs list line.text ≡ false

-- ---- skipped values

pub skip_ends : (before : List DocumentFields) (document : OpenDocumentFields) (list : Option ItemListFields) (rest : List ReadLine)
    → Starts list rest → run_skipped before document list rest ≡ run_keys before document list rest
skip_ends before document list [] s = refl
skip_ends before document list (line ∷ rest) s =
    ap (λ b. cond b (Ok (record { documents = before; place = Within (stays document list Skipped) }))
    (key_line before document list line.number line.text) >>= λ next. run next.documents next.place rest) s

pub skip_goes_on : (before : List DocumentFields) (document : OpenDocumentFields) (list : Option ItemListFields) (more rest : List ReadLine)
    → AllByRecursion (λ line. belongs list line.text ≡ true) more
    → run_skipped before document list (more ++ rest) ≡ run_skipped before document list rest
skip_goes_on before document list [] rest all = refl
skip_goes_on before document list (line ∷ more) rest all =
    ap (λ b. cond b (Ok (record { documents = before; place = Within (stays document list Skipped) }))
    (key_line before document list line.number line.text) >>= λ next. run next.documents next.place (more ++ rest)) all.0
    ∙ skip_goes_on before document list more rest all.1

-- ---- flow lists

-- what follows a part that doesn't close the list
still_open : (document : OpenDocumentFields) (list : Option ItemListFields) (began : ℕ) (key : ItemKey) (names : List (List ℕ))
    (expect : Expect) → expect ≢ Closed
    → behind_expect document list began key (record { names = names; expect = expect }) expect
    ≡ stays document list (Names (record { began = began; key = key; part = record { names = names; expect = expect } }))
still_open document list began key names AfterOpen ne = refl
still_open document list began key names AfterComma ne = refl
still_open document list began key names AfterName ne = refl
still_open document list began key names Closed ne = absurd (ne refl)

closes : (document : OpenDocumentFields) (list : Option ItemListFields) (began : ℕ) (key : ItemKey) (names all : List (List ℕ))
    (expect : Expect) → expect ≡ Closed → names ≡ all
    → behind_expect document list began key (record { names = names; expect = expect }) expect ≡ with_names document list key all
closes document list began key names all expect is same =
    ap (λ e. behind_expect document list began key (record { names = names; expect = e }) e) is ∙ ap (with_names document list key) same

pub list_goes_on : (before : List DocumentFields) (document : OpenDocumentFields) (list : Option ItemListFields) (began : ℕ)
    (key : ItemKey) (part : ListPart) (more rest : List ReadLine) (names : List (List ℕ))
    → AllByRecursion (λ line. line.text ≢ end) more → GoesOn part more names
    → run_in before (behind_part document list began key part) (more ++ rest)
    ≡ run_in before (with_names document list key names) rest
unfolding names_line
list_goes_on before document list began key part [] rest names n g = ap (λ inside. run_in before inside rest)
    (closes document list began key part.names names part.expect g.0 g.1)
list_goes_on before document list began key part (line ∷ more) rest names n g =
    ap (λ inside. run_in before inside (line ∷ (more ++ rest))) (still_open document list began key part.names part.expect g.0)
    ∙ step g.1 g.2 ∙ list_goes_on before document list began key g.1 more rest names n.1 g.3
  where
    step : (next : ListPart) → with_front part.names (list_part line.number part.expect 0 line.text) ≡ Ok next
        → run_in before (stays document list (Names (record { began = began; key = key; part = part }))) (line ∷ (more ++ rest))
        ≡ run_in before (behind_part document list began key next) (more ++ rest)
    step next h = ap (λ b. cond b (outside line.number) (within before (names_line document list line.number
        (record { began = began; key = key; part = part }) line.text)) >>= λ state. run state.documents state.place (more ++ rest))
        (bytes_differ line.text end n.0)
        ∙ ap (λ reading. within before (reading >>= λ p. Ok (behind_part document list began key p)) >>= λ state. run
        state.documents state.place (more ++ rest)) h

-- a value that is a flow list
pub list_is_read : (before : List DocumentFields) (document : OpenDocumentFields) (list : Option ItemListFields) (line : ℕ)
    (key : ItemKey) (value : List ℕ) (more rest : List ReadLine) (names : List (List ℕ))
    → IsReadList line value more names
    → (names_line document list line (opened line key) (drop 1 value) >>= λ inside. run_in before inside (more ++ rest))
    ≡ run_in before (with_names document list key names) rest
unfolding names_line
list_is_read before document list line key value more rest names l =
    ap (λ reading. (reading >>= λ part. Ok (behind_part document list line key part)) >>= λ inside. run_in before inside (more ++ rest))
    l.begins
    ∙ list_goes_on before document list line key l.first more rest names l.inside l.goes_on

-- a key that is read with its flow list
pub names_value_is_read : (before : List DocumentFields) (document : OpenDocumentFields) (list : Option ItemListFields) (line : ℕ)
    (key : ItemKey) (value : List ℕ) (more rest : List ReadLine) (names : List (List ℕ))
    → IsReadList line value more names → (names_value document list line key value >>= λ inside. run_in before inside (more ++ rest))
    ≡ run_in before (with_names document list key names) rest
unfolding names_value
names_value_is_read before document list line key value more rest names l =
    ap (λ b. cond b (names_line document list line (opened line key) (drop 1 value)) (outside line) >>= λ inside. run_in before inside
    (more ++ rest)) (eq_true _ _ l.bracket)
    ∙ list_is_read before document list line key value more rest names l

-- a key that is skipped
pub skipped_value_is_read : (before : List DocumentFields) (document : OpenDocumentFields) (list : Option ItemListFields) (line : ℕ)
    (value : List ℕ) (more rest : List ReadLine) → Starts list rest
    → ((names : List (List ℕ)) → run_in before (with_names document list item.Unread names) rest ≡ run_keys before document list rest)
    → IsSkipped (belongs list) line value more
    → (skipped_value document list line value >>= λ inside. run_in before inside (more ++ rest)) ≡ run_keys before document list rest
unfolding skipped_value
skipped_value_is_read before document list line value more rest s same (inl (names, l)) =
    ap (λ b. cond b (names_line document list line (opened line item.Unread) (drop 1 value)) (Ok (stays document list Skipped)) >>= λ
    inside. run_in before inside (more ++ rest)) (eq_true _ _ l.bracket)
    ∙ list_is_read before document list line item.Unread value more rest names l ∙ same names
skipped_value_is_read before document list line value more rest s same (inr (no_list, all)) =
    ap (λ b. cond b (names_line document list line (opened line item.Unread) (drop 1 value)) (Ok (stays document list Skipped)) >>= λ
    inside. run_in before inside (more ++ rest)) (eq_false _ _ no_list)
    ∙ skip_goes_on before document list more rest all ∙ skip_ends before document list rest s
