-- What is in the grammar is read: documents, and the whole text.
-- The reading runs over the lines with content (`run`). In front of other lines, the lines of an entry of a document take it
-- to where what is known has what the entry adds; so the entries of a document take it to all that is known of it, and its
-- end, the next head or the end of the text closes it, since no key is lacking. So documents are read one after the other,
-- and lines that are passed over change nothing (`run_lines`).
use Rattle.std.proofs.Common.{◌≡◌, ℕ, ◌+◌, Bool, true, false, cond, eqb, List, [], ◌∷◌, ◌++◌, length, replicate, Option, Some, None, Ok, Err, is_some, refl, sym, ap, ◌∙◌, append_assoc}
use Rattle.std.specs.List.{AllByRecursion}
use Rattle.std.specs.Str.{bytes_eq}
use Rattle.std.specs.Str.Lines.{lines}
use Rattle.std.proofs.lemmas.List.{append-nil}
use Rattle.macho_stub_lines.specs.declared.keys.ItemKind.{ItemKind}
use Rattle.macho_stub_lines.specs.declared.keys.ItemKey.{ItemKey}
use Rattle.macho_stub_lines.specs.declared.keys.ItemKey.TheVariants as item
use Rattle.macho_stub_lines.specs.declared.keys.TopKey.{TopKey}
use Rattle.macho_stub_lines.specs.declared.keys.TopKey.TheVariants as top
use Rattle.macho_stub_lines.specs.declared.fault.StubRule.TheVariants.{S3}
use Rattle.macho_stub_lines.specs.Bytes.{space, dash, is_passed, has_barred, end, belongs_to_top}
use Rattle.macho_stub_lines.specs.Faults.{Reading, ◌>>=◌, outside, broken}
use Rattle.macho_stub_lines.specs.Keys.{Entry, entry_at, scalar_value, version_value, top_key}
use Rattle.macho_stub.specs.Documents.{ItemFields, DocumentFields}
use Rattle.macho_stub.specs.steps.Opened.{OpenDocumentFields, head_at, with_items}
use Rattle.macho_stub.specs.steps.Whole.{whole_document}
use Rattle.macho_stub.specs.steps.Reader.{Keys, NoItem, Outside, Within, StateFields, stays, with_names, names_value, skipped_value, top_entry, first_line, within, with_whole, top_line, content_line, line_step, lines_from, start, documents_of}
use Rattle.macho_stub_lines.specs.ReadLists.{ReadLine}
use Rattle.macho_stub.proofs.Readings.{content_from, Under, Plain, Listed, under_then, TopEntry, IsListUnder, IsSkippedUnder, AreItemsUnder, TopValue, IsTopEntry, TopEntries, top_entries_then, DocumentTree, end_then, documents_then, AreDocuments, IsReadText, IsReadLines, items_then, entries_then, column_of}
use Rattle.macho_stub_lines.proofs.Bind.{eq_true}
use Rattle.macho_stub.proofs.Rest.{run}
use Rattle.macho_stub.proofs.OnlyLines.{entry_at_top, entry_no_head, entry_no_end}
use Rattle.macho_stub.proofs.OnlyLists.{run_in, run_keys, names_value_is_read, skipped_value_is_read}
use Rattle.macho_stub.proofs.OnlyItems.{within_run}
use Rattle.macho_stub.proofs.OnlyLast.{TopStarts, items_are_read}

-- ---- what stands under a key

list_under_is_read : (before : List DocumentFields) (document : OpenDocumentFields) (line : ℕ) (key : ItemKey) (value : List ℕ)
    (under : Under) (names : List (List ℕ)) (rest : List ReadLine) → IsListUnder line value under names
    → (names_value document None line key value >>= λ inside. run_in before inside (under_then under rest))
    ≡ run_in before (with_names document None key names) rest
list_under_is_read before document line key value (Plain more) names rest l = names_value_is_read before document None line key value more
    rest names l
list_under_is_read before document line key value (Listed at trees) names rest l = absurd l

skipped_under_is_read : (before : List DocumentFields) (document : OpenDocumentFields) (line : ℕ) (value : List ℕ) (under : Under)
    (rest : List ReadLine) → TopStarts rest → IsSkippedUnder line value under
    → (skipped_value document None line value >>= λ inside. run_in before inside (under_then under rest))
    ≡ run_keys before document None rest
skipped_under_is_read before document line value (Plain more) rest s k = skipped_value_is_read before document None line value more rest s
    (λ names. refl) k
skipped_under_is_read before document line value (Listed at trees) rest s k = absurd k

items_under_are_read : (before : List DocumentFields) (document : OpenDocumentFields) (line : ℕ) (kind : ItemKind) (under : Under)
    (says : List ItemFields) (rest : List ReadLine) → TopStarts rest → AreItemsUnder document.line kind under says
    → run_in before (stays document None (NoItem kind line)) (under_then under rest)
    ≡ run_keys before (with_items kind says document) None rest
items_under_are_read before document line kind (Plain more) says rest s a = absurd a
items_under_are_read before document line kind (Listed at []) says rest s a = absurd a
items_under_are_read before document line kind (Listed at (tree ∷ trees)) [] rest s a = absurd a
items_under_are_read before document line kind (Listed at (tree ∷ trees)) (one ∷ says) rest s a =
    within_run before (first_line document kind [] tree.first.number
    (replicate at space ++ dash ∷ (replicate tree.gap space ++ tree.first.head)))
    (tree.first.more ++ entries_then (column_of at tree) tree.others (items_then at trees rest))
    ∙ items_are_read before document kind at tree trees one says rest s a

-- ---- entries of a document

-- a scalar under a key that must not have come before
scalar_is_read : (before : List DocumentFields) (had : Bool) (line : ℕ) (reading : Reading (List ℕ)) (gives : List ℕ → OpenDocumentFields)
    (under : Under) (text : List ℕ) (new : OpenDocumentFields) (rest : List ReadLine)
    → had ≡ false → under ≡ Plain [] → reading ≡ Ok text → new ≡ gives text
    → (cond had (broken line S3) (reading >>= λ text. Ok (stays (gives text) None Keys)) >>= λ inside. run_in before inside
    (under_then under rest)) ≡ run_keys before new None rest
scalar_is_read before had line reading gives under text new rest h u r n =
    ap (λ b. cond b (broken line S3) (reading >>= λ text. Ok (stays (gives text) None Keys)) >>= λ inside. run_in before inside
    (under_then under rest)) h
    ∙ ap (λ x. (x >>= λ text. Ok (stays (gives text) None Keys)) >>= λ inside. run_in before inside (under_then under rest)) r
    ∙ ap (λ x. run_keys before (gives text) None (under_then x rest)) u
    ∙ ap (λ d. run_keys before d None rest) (sym n)

top_value_is_read : (before : List DocumentFields) (old new : OpenDocumentFields) (key : TopKey) (value : List ℕ) (entry : TopEntry)
    (rest : List ReadLine) → TopStarts rest → TopValue key value entry old new
    → (top_entry old entry.number key value >>= λ inside. run_in before inside (under_then entry.under rest))
    ≡ run_keys before new None rest
top_value_is_read before old new top.Version value entry rest s v =
    scalar_is_read before (is_some old.version) entry.number (version_value entry.number value)
    (λ text. record old { version = Some text }) entry.under v.2 new rest v.0 v.1 v.3 v.4
top_value_is_read before old new top.Targets value entry rest s v =
    ap (λ b. cond b (broken entry.number S3) (names_value old None entry.number item.Targets value) >>= λ inside. run_in before inside
    (under_then entry.under rest)) v.0
    ∙ list_under_is_read before old entry.number item.Targets value entry.under v.1 rest v.2
    ∙ ap (λ d. run_keys before d None rest) (sym v.3)
top_value_is_read before old new top.InstallName value entry rest s v =
    scalar_is_read before (is_some old.install_name) entry.number (scalar_value entry.number value)
    (λ text. record old { install_name = Some text }) entry.under v.2 new rest v.0 v.1 v.3 v.4
top_value_is_read before old new top.CurrentVersion value entry rest s v =
    scalar_is_read before (is_some old.current_version) entry.number (scalar_value entry.number value)
    (λ text. record old { current_version = Some text }) entry.under v.2 new rest v.0 v.1 v.3 v.4
top_value_is_read before old new (top.Items kind) value entry rest s v =
    ap (λ b. cond b (broken entry.number S3)
    (cond (eqb (length value) 0) (Ok (stays old None (NoItem kind entry.number))) (outside entry.number)) >>= λ inside. run_in before
    inside (under_then entry.under rest)) v.0
    ∙ ap (λ b. cond b (Ok (stays old None (NoItem kind entry.number))) (outside entry.number) >>= λ inside. run_in before inside
    (under_then entry.under rest)) (eq_true _ _ v.1)
    ∙ items_under_are_read before old entry.number kind entry.under v.2 rest s v.3
    ∙ ap (λ d. run_keys before d None rest) (sym v.4)
top_value_is_read before old new top.Unread value entry rest s v =
    skipped_under_is_read before old entry.number value entry.under rest s v.0 ∙ ap (λ d. run_keys before d None rest) (sym v.1)

-- The reading of a line behind the keys of a document, by its two tests and its entry.
top_by : List DocumentFields → OpenDocumentFields → ℕ → List ReadLine → Bool → Bool → Reading Entry → Reading (List DocumentFields)
top_by before document line rest is_head is_end reading =
    cond is_head (with_whole before document >>= λ whole. Ok
    (record { documents = whole; place = Within (stays (head_at line) None Keys) }))
    (cond is_end (with_whole before document >>= λ whole. Ok (record { documents = whole; place = Outside }))
    (reading >>= λ entry. within before (top_entry document line (top_key entry.key) entry.value)))
    >>= λ next. run next.documents next.place rest

top_entry_is_read : (before : List DocumentFields) (old new : OpenDocumentFields) (entry : TopEntry) (rest : List ReadLine) → TopStarts rest
    → IsTopEntry entry old new
    → run_keys before old None (record { number = entry.number; text = entry.head } ∷ under_then entry.under rest)
    ≡ run_keys before new None rest
unfolding top_line top_by
top_entry_is_read before old new entry rest s e =
    let by = top_by before old entry.number (under_then entry.under rest) in
    ap (λ b. by b (bytes_eq entry.head end) (entry_at entry.number entry.head)) (entry_no_head entry.number entry.head e.said e.key)
    ∙ ap (λ b. by false b (entry_at entry.number entry.head)) (entry_no_end entry.number entry.head e.said e.key)
    ∙ ap (λ r. by false false r) e.key
    ∙ within_run before (top_entry old entry.number (top_key e.said.key) e.said.value) (under_then entry.under rest)
    ∙ top_value_is_read before old new (top_key e.said.key) e.said.value entry rest s e.value

top_entries_start : (entries : List TopEntry) (old new : OpenDocumentFields) (rest : List ReadLine) → TopStarts rest
    → TopEntries entries old new → TopStarts (top_entries_then entries rest)
top_entries_start [] old new rest s e = s
top_entries_start (entry ∷ entries) old new rest s e = entry_at_top entry.number entry.head e.1.said e.1.key

top_entries_are_read : (before : List DocumentFields) (entries : List TopEntry) (old new : OpenDocumentFields) (rest : List ReadLine)
    → TopStarts rest → TopEntries entries old new
    → run_keys before old None (top_entries_then entries rest) ≡ run_keys before new None rest
top_entries_are_read before [] old new rest s e = ap (λ d. run_keys before d None rest) (sym e)
top_entries_are_read before (entry ∷ entries) old new rest s e =
    top_entry_is_read before old e.0 entry (top_entries_then entries rest) (top_entries_start entries e.0 new rest s e.2) e.1
    ∙ top_entries_are_read before entries e.0 new rest s e.2

-- ---- documents

-- what follows the entries of a document belongs to none of them
end_starts : (ended_at : Option ℕ) (trees : List DocumentTree) → TopStarts (end_then ended_at (documents_then trees))
unfolding belongs_to_top
end_starts None [] = tt
end_starts None (tree ∷ trees) = refl
end_starts (Some line) trees = refl

-- a document ends at its end, at the next head, or with the text
document_ends : (before : List DocumentFields) (document : OpenDocumentFields) (whole : DocumentFields) (ended_at : Option ℕ)
    (trees : List DocumentTree) → whole_document document ≡ Ok whole
    → run_keys before document None (end_then ended_at (documents_then trees)) ≡ run (before ++ whole ∷ []) Outside (documents_then trees)
unfolding with_whole top_line
document_ends before document whole None [] e = ap (λ reading. reading >>= λ w. Ok (before ++ w ∷ [])) e
document_ends before document whole None (tree ∷ trees) e =
    ap (λ reading. ((reading >>= λ w. Ok (before ++ w ∷ [])) >>= λ all. Ok
    (record { documents = all; place = Within (stays (head_at tree.number) None Keys) })) >>= λ (next : StateFields). run
    next.documents next.place (top_entries_then tree.entries (end_then tree.ended_at (documents_then trees)))) e
document_ends before document whole (Some line) trees e =
    ap (λ reading. ((reading >>= λ w. Ok (before ++ w ∷ [])) >>= λ all. Ok (record { documents = all; place = Outside })) >>= λ
    (next : StateFields). run next.documents next.place (documents_then trees)) e

documents_are_read : (before : List DocumentFields) (trees : List DocumentTree) (says : List DocumentFields) → AreDocuments trees says
    → run before Outside (documents_then trees) ≡ Ok (before ++ says)
documents_are_read before [] [] a = ap (λ (all : List DocumentFields). Ok all) (sym (append-nil before))
documents_are_read before [] (one ∷ says) a = absurd a
documents_are_read before (tree ∷ trees) [] a = absurd a
documents_are_read before (tree ∷ trees) (one ∷ says) a =
    top_entries_are_read before tree.entries (head_at tree.number) a.0.read (end_then tree.ended_at (documents_then trees))
    (end_starts tree.ended_at trees) a.0.entries
    ∙ document_ends before a.0.read one tree.ended_at trees a.0.whole
    ∙ documents_are_read (before ++ one ∷ []) trees says a.1
    ∙ ap (λ (all : List DocumentFields). Ok all) (append_assoc before (one ∷ []) says)

-- ---- the text

-- the lines with content are what is read
run_lines : (state : StateFields) (line : ℕ) (texts : List (List ℕ)) → AllByRecursion (λ text. has_barred text ≡ false) texts
    → lines_from state line texts ≡ run state.documents state.place (content_from line texts)
unfolding lines_from line_step
run_lines state line [] all = refl
run_lines state line (text ∷ texts) all =
    ap (λ b. cond b (outside line) (cond (is_passed text) (Ok state) (content_line state.documents state.place line text)) >>= λ next.
    lines_from next (line + 1) texts) all.0
    ∙ by_test (λ next. run_lines next (line + 1) texts all.1) (is_passed text)
  where
    behind : ((next : StateFields) → lines_from next (line + 1) texts ≡ run next.documents next.place (content_from (line + 1) texts))
        → (reading : Reading StateFields)
        → (reading >>= λ next. lines_from next (line + 1) texts)
        ≡ (reading >>= λ next. run next.documents next.place (content_from (line + 1) texts))
    behind ih (Ok next) = ih next
    behind ih (Err fault) = refl

    by_test : ((next : StateFields) → lines_from next (line + 1) texts ≡ run next.documents next.place (content_from (line + 1) texts))
        → (passed : Bool)
        → (cond passed (Ok state) (content_line state.documents state.place line text) >>= λ next. lines_from next (line + 1) texts)
        ≡ run state.documents state.place
        (cond passed (content_from (line + 1) texts) (record { number = line; text = text } ∷ content_from (line + 1) texts))
    by_test ih true = ih state
    by_test ih false = behind ih (content_line state.documents state.place line text)

-- what is in the grammar is read
pub lines_read : (texts : List (List ℕ)) (says : List DocumentFields) → IsReadLines texts says → lines_from start 1 texts ≡ Ok says
lines_read texts says is = run_lines start 1 texts is.clean ∙ ap (run [] Outside) is.lines_of
    ∙ documents_are_read [] is.trees says is.documents

-- What is a text as it is read, is read as what it says.
pub documents_read : (text : List ℕ) (says : List DocumentFields) → IsReadText text says → documents_of text ≡ Ok says
unfolding documents_of
documents_read text says is = lines_read (lines text) says is
