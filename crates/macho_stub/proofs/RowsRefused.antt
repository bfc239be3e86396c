-- What isn't a scalar, a number, a key with its value or a flow list, though it is near one, and texts that aren't in the
-- grammar. Whatever is in the grammar is read as what it says (`scalar_reads`, `number_reads`, `entry_reads`, `list_reads`
-- and `in_grammar_read`); so where reading fails there is no tree. That it fails is computed for each row, and a short
-- lemma of each kind draws the conclusion, for a value at any place, and for a list over any lines. The texts differ from
-- one that is in the grammar (`whole_is`) in one thing each.
-- Of two rows the definition itself has the reason: a list over a line that ends the document (`no_list_over_end`), and an
-- item with a key twice (`targets_twice`).
use Rattle.std.proofs.Common.{◌≡◌, ◌≢◌, ℕ, List, [], ◌∷◌, drop, slice_index, Some, Ok, refl, sym, ap, ◌∙◌, ◌++◌}
use Rattle.std.specs.Prelude.{codes}
use Rattle.macho_stub_lines.specs.declared.fault.StubRule.{StubRule}
use Rattle.macho_stub_lines.specs.declared.fault.StubRule.TheVariants.{S1, S3, S2}
use Rattle.macho_stub_lines.specs.declared.keys.ItemKind.{ItemKind}
use Rattle.macho_stub_lines.specs.declared.keys.ItemKind.TheVariants.{Libraries, Exports, Reexports}
use Rattle.macho_stub_lines.specs.declared.list.Expect.{Expect}
use Rattle.macho_stub_lines.specs.declared.list.Expect.TheVariants.{AfterOpen, AfterComma, AfterName, Closed}
use Rattle.macho_stub_lines.specs.Bytes.{open_bracket, is_key_byte, is_mark, is_plain_byte, has_late_control_after, indent, unspaced, is_blank_or_comment, is_passed, is_tail}
use Rattle.macho_stub_lines.specs.Faults.{broken}
use Rattle.macho_stub_lines.specs.Scalars.{scalar_front, quoted_front, plain_front}
use Rattle.macho_stub_lines.specs.Lists.{ListPart, list_part, token_front, behind, with_front}
use Rattle.macho_stub_lines.specs.Keys.{entry_at, scalar_value, version_value}
use Rattle.macho_stub_lines.specs.Slices.{Slice, Line}
use Rattle.macho_stub_lines.specs.Spelling.{EntryTree, Value, IsScalarValue, IsNumberValue, IsEntry, entry_bytes, value_of}
use Rattle.macho_stub_lines.specs.FlowLists.{IsFlowList}
use Rattle.macho_stub_lines.proofs.Bind.{no_ok, same_ok, ne_at}
use Rattle.macho_stub_lines.proofs.ScalarTrees.{scalar_reads}
use Rattle.macho_stub_lines.proofs.NumberTrees.{number_reads}
use Rattle.macho_stub_lines.proofs.EntryTrees.{entry_reads}
use Rattle.macho_stub_lines.proofs.ListTrees.{list_reads}
use Rattle.macho_stub.specs.Documents.{ItemOf, DocumentFields, ItemFields}
use Rattle.macho_stub.specs.steps.Reader.{documents_of}
use Rattle.std.specs.Str.Lines.{lines}
use Rattle.macho_stub.specs.Grammar.{IsStubLines}
use Rattle.macho_stub.specs.Places.{Entry, SaysUnder, SaysNames, ItemTree, IsItem, entries_of}
use Rattle.macho_stub.proofs.Answered.{in_grammar_read}
use Rattle.macho_stub.proofs.RowTests.{line}
use Rattle.macho_stub.proofs.RowsOpened.{documents_opened}
use Rattle.macho_stub.proofs.Trees.{of_read}
use Rattle.macho_stub.proofs.Found.{documents_found}

-- ---- scalars

abbrev pub IsNoScalar : List ℕ → Type 0
IsNoScalar value = (at : ℕ) (says : Slice) → IsScalarValue at value says → ⊥

no_scalar : (value : List ℕ) → scalar_value 1 value ≡ broken 1 S1 → IsNoScalar value
no_scalar value e at says is = no_ok 1 S1 says.text (sym e ∙ scalar_reads 1 at value says is)

-- a quote inside quotes of its kind, and a backslash in double quotes
pub quote_in_quotes : IsNoScalar (codes "'it''s'") × IsNoScalar (codes "\"a\"b\"") × IsNoScalar (codes "\"a\\b\"")
unfolding scalar_value scalar_front quoted_front is_tail
quote_in_quotes = (no_scalar _ refl, no_scalar _ refl, no_scalar _ refl)

-- a number sign with no space before it, a space, a comma, and a quote that isn't closed
pub more_behind : IsNoScalar (codes "a#b") × IsNoScalar (codes "'a'#b") × IsNoScalar (codes "a b") × IsNoScalar (codes "a,b")
    × IsNoScalar (codes "'a")
unfolding scalar_value scalar_front quoted_front plain_front is_plain_byte is_mark has_late_control_after is_tail is_passed
    is_blank_or_comment unspaced indent
more_behind = (no_scalar _ refl, no_scalar _ refl, no_scalar _ refl, no_scalar _ refl, no_scalar _ refl)

-- nothing, and control characters: one of ASCII, and U+0085
pub no_bytes : IsNoScalar [] × IsNoScalar (97 ∷ 1 ∷ []) × IsNoScalar (97 ∷ 0xC2 ∷ 0x85 ∷ [])
unfolding scalar_value scalar_front plain_front is_plain_byte is_mark has_late_control_after is_tail
no_bytes = (no_scalar _ refl, no_scalar _ refl, no_scalar _ refl)

-- ---- numbers

abbrev pub IsNoNumber : List ℕ → Type 0
IsNoNumber value = (at : ℕ) (says : Slice) → IsNumberValue at value says → ⊥

no_number : (value : List ℕ) → version_value 1 value ≡ broken 1 S1 → IsNoNumber value
no_number value e at says is = no_ok 1 S1 says.text (sym e ∙ number_reads 1 at value says is)

pub no_numbers : IsNoNumber [] × IsNoNumber (codes "4a") × IsNoNumber (codes "4.0") × IsNoNumber (codes "'4'")
unfolding version_value is_tail
no_numbers = (no_number _ refl, no_number _ refl, no_number _ refl, no_number _ refl)

-- ---- keys

abbrev pub IsNoEntry : List ℕ → Type 0
IsNoEntry bytes = (tree : EntryTree) → IsEntry tree → bytes ≡ entry_bytes tree → ⊥

no_entry : (bytes : List ℕ) → entry_at 1 bytes ≡ broken 1 S1 → IsNoEntry bytes
no_entry bytes e tree sound is = no_ok 1 S1 (record { key = tree.key; value = value_of tree })
    (sym e ∙ ap (entry_at 1) is ∙ entry_reads 1 tree sound)

-- no space behind the colon, no colon, no key, and a key of other bytes
pub no_entries : IsNoEntry (codes "a:b") × IsNoEntry (codes "a b") × IsNoEntry (codes ": a") × IsNoEntry (codes "a_b: c")
    × IsNoEntry (codes "'a': b")
unfolding entry_at is_key_byte is_tail
no_entries = (no_entry _ refl, no_entry _ refl, no_entry _ refl, no_entry _ refl, no_entry _ refl)

-- ---- flow lists

-- whatever lines stand under the value
abbrev pub IsNoList : List ℕ → Type 0
IsNoList value = (at : ℕ) (more : List Line) (says : List Slice) → IsFlowList at value more says → ⊥

no_list : (value : List ℕ) → with_front [] (list_part 1 AfterOpen 0 (drop 1 value)) ≡ broken 1 S1 → IsNoList value
no_list value e at more says is =
    let read = list_reads 1 at value more says is in no_ok 1 S1 read.first (sym e ∙ read.begins)

no_bracket : (value : List ℕ) → slice_index value 0 ≢ open_bracket → IsNoList value
no_bracket value other at more says is = other (list_reads 1 at value more says is).bracket

-- a comma with no scalar before it, and scalars with no comma between them
pub no_lists : IsNoList (codes "[ , ]") × IsNoList (codes "[ a b ]") × IsNoList (codes "[ a,, b ]") × IsNoList (codes "['a''b']")
unfolding list_part token_front behind scalar_front quoted_front plain_front is_plain_byte is_mark has_late_control_after
no_lists = (no_list _ refl, no_list _ refl, no_list _ refl, no_list _ refl)

-- more behind the bracket, a list in a list, a number sign with no space before it, and no bracket
pub no_lists_either : IsNoList (codes "[ a ] b") × IsNoList (codes "[ a ] ]") × IsNoList (codes "[ [ a ] ]") × IsNoList (codes "[ a#b ]")
    × IsNoList (codes "a, b ]")
unfolding list_part token_front behind scalar_front quoted_front plain_front is_plain_byte is_mark has_late_control_after
no_lists_either = (no_list _ refl, no_list _ refl, no_list _ refl, no_list _ refl, no_bracket _ (ne_at 97 91 refl))

-- with these lines under the value
abbrev pub IsNoListOver : List ℕ → List Line → Type 0
IsNoListOver value more = (at : ℕ) (says : List Slice) → IsFlowList at value more says → ⊥

-- the reading of the value alone
abbrev IsReadTo : List ℕ → ListPart → Type 0
IsReadTo value part = with_front [] (list_part 1 AfterOpen 0 (drop 1 value)) ≡ Ok part

-- it isn't closed, and nothing follows
no_end : (value : List ℕ) (part : ListPart) → IsReadTo value part → part.expect ≢ Closed → IsNoListOver value []
no_end value part e unclosed at says is =
    let read = list_reads 1 at value [] says is in
    let same : part ≡ read.first = same_ok part read.first (sym e ∙ read.begins) in
    unclosed (ap (λ (p : ListPart). p.expect) same ∙ read.goes_on.0)

-- it is closed, and a line follows
no_line_behind : (value : List ℕ) (part : ListPart) (next : Line) (more : List Line) → IsReadTo value part → part.expect ≡ Closed
    → IsNoListOver value (next ∷ more)
no_line_behind value part next more e closed at says is =
    let read = list_reads 1 at value (next ∷ more) says is in
    let same : read.first ≡ part = same_ok read.first part (sym read.begins ∙ e) in
    read.goes_on.0 (ap (λ (p : ListPart). p.expect) same ∙ closed)

-- the next line doesn't go on with it
no_next : (value : List ℕ) (part : ListPart) (next : Line) (more : List Line) → IsReadTo value part
    → with_front part.names (list_part next.number part.expect 0 next.text) ≡ broken next.number S1 → IsNoListOver value (next ∷ more)
no_next value part next more e fails at says is =
    let read = list_reads 1 at value (next ∷ more) says is in
    let same : part ≡ read.first = same_ok part read.first (sym e ∙ read.begins) in
    no_ok next.number S1 read.goes_on.1 (sym fails
    ∙ ap (λ (p : ListPart). with_front p.names (list_part next.number p.expect 0 next.text)) same ∙ read.goes_on.2)

abbrev one_name : Expect → ListPart
one_name expect = record { names = codes "a" ∷ []; expect = expect }

-- a list that isn't closed, a line behind one that is, and a line with no comma before its scalar
pub no_lists_over_lines : IsNoListOver (codes "[ a,") [] × IsNoListOver (codes "[ a ]") (line 2 6 (codes "]") ∷ [])
    × IsNoListOver (codes "[ a") (line 2 4 (codes "b ]") ∷ [])
unfolding list_part token_front behind scalar_front plain_front is_plain_byte is_mark has_late_control_after
no_lists_over_lines = (
  no_end _ (one_name AfterComma) refl (λ e. absurd cc),
  no_line_behind _ (one_name Closed) _ _ refl refl,
  no_next _ (one_name AfterName) _ _ refl refl,
)

-- a line that ends the document, where the list is closed behind it
pub no_list_over_end : IsNoListOver (codes "[ a,") (line 2 5 (codes "...") ∷ line 3 9 (codes "]") ∷ [])
no_list_over_end at says is = is.inside.0 refl

-- ---- items

-- an entry of this key with an empty list, and an item that has it twice
abbrev empty_list : List ℕ → Entry
empty_list key = record { number = 1; at = 0; entry = record { key = key; behind = Value 1 (codes "[]") }; more = [] }

abbrev pub with_twice : List ℕ → ItemTree
with_twice key = record { gap = 1; first = empty_list key; others = empty_list key ∷ [] }

-- With targets twice it is no item of any list, whatever it says. An item with another key twice has no symbols.
pub targets_twice : (kind : ItemKind) (column : ℕ) (says : ItemOf Slice) → IsItem kind column (with_twice (codes "targets")) says → ⊥
targets_twice Libraries column says is = is.says.0
targets_twice Exports column says is = is.says.0
targets_twice Reexports column says is = is.says.0

pub other_twice : SaysUnder (codes "symbols") (Some []) (SaysNames 2) (entries_of (with_twice (codes "other"))) []
other_twice = refl

-- ---- texts

pub record IsNoText (text : List ℕ) : Type 0 where
  pub none : (says : List DocumentFields) → IsStubLines (lines text) says → ⊥

no_text : (text : List ℕ) (number : ℕ) (rule : StubRule) → documents_of text ≡ broken number rule → IsNoText text
no_text text number rule e = record { none = λ says is. no_ok number rule says (sym e ∙ in_grammar_read text says is) }

-- a text with what a document must have
abbrev pub front : List ℕ
front = codes "--- !tapi-tbd\n" ++ codes "tbd-version: 4\n" ++ codes "install-name: a\n"

abbrev pub whole : List ℕ
whole = front ++ codes "targets: []\n"

-- The text is in the grammar, and says this.
pub record IsTextOf (text : List ℕ) (document : DocumentFields) : Type 0 where
  pub is : IsStubLines (lines text) (document ∷ [])

is_text : (text : List ℕ) (document : DocumentFields) → documents_of text ≡ Ok (document ∷ []) → IsTextOf text document
is_text text document e = record { is = of_read (lines text) (document ∷ []) (documents_found text (document ∷ []) e) }

abbrev pub whole_says : DocumentFields
whole_says = record {
  line = 1;
  version = codes "4";
  targets = [];
  install_name = codes "a";
  current_version = [];
  libraries = [];
  exports = [];
  reexports = [];
}

abbrev item_says : ItemFields
item_says = record { targets = []; names = []; weak_names = [] }

-- This text is in the grammar, also with an item.
pub whole_is : IsTextOf whole whole_says
    × IsTextOf (whole ++ codes "exports:\n- targets: []\n") (record whole_says { exports = item_says ∷ [] })
unfolding documents_opened
whole_is = (is_text _ whole_says refl, is_text _ (record whole_says { exports = item_says ∷ [] }) refl)

-- a key that must be there is lacking, in a document or in an item
pub lacking : IsNoText front × IsNoText (whole ++ codes "exports:\n- symbols: []\n")
    × IsNoText (whole ++ codes "reexported-libraries:\n- targets: []\n")
unfolding documents_opened
lacking = (no_text _ 1 S2 refl, no_text _ 1 S2 refl, no_text _ 1 S2 refl)

-- a key stands twice, in a document or in an item
pub twice : IsNoText (whole ++ codes "targets: []\n") × IsNoText (whole ++ codes "exports:\n- targets: []\n  targets: []\n")
unfolding documents_opened
twice = (no_text _ 5 S3 refl, no_text _ 7 S3 refl)

-- no item under a key of items, a value behind it, and a key of an item in another column
pub no_items : IsNoText (whole ++ codes "exports:\n") × IsNoText (whole ++ codes "exports: []\n")
    × IsNoText (whole ++ codes "exports:\n- targets: []\n symbols: []\n")
unfolding documents_opened
no_items = (no_text _ 5 S1 refl, no_text _ 5 S1 refl, no_text _ 7 S1 refl)

-- a line before the head, a line behind the end, a tab in a comment, a list that isn't closed, and one over an end
pub no_place : IsNoText (codes "a: b\n" ++ whole) × IsNoText (whole ++ codes "...\na: b\n") × IsNoText (whole ++ codes "#\t\n")
    × IsNoText (whole ++ codes "a: [\n") × IsNoText (whole ++ codes "a: [ b,\n...\n]\n")
unfolding documents_opened
no_place = (no_text _ 1 S1 refl, no_text _ 6 S1 refl, no_text _ 5 S1 refl, no_text _ 5 S1 refl, no_text _ 6 S1 refl)
