-- What is told at the end of a text is told of it alone. A list that is open is open since one line; a key of items
-- with none under it is the last line with content; and where a closing bracket may stand, no key and no item may.
-- Each of these is the last line that is so, and has one number (`one_last`). A list and a bare key, or one of these and a
-- lacking key, differ in which of a bracket, an item and a key may stand behind the text: that is known from where its reading
-- ends (`alone`).
use Rattle.std.proofs.Common.{◌≡◌, ℕ, ◌+◌, true, false, List, [], ◌∷◌, ◌++◌, length, Option, Ok, refl, sym, ap, ◌∙◌, ◌⊎◌, inl, inr, subst, append_assoc}
use Rattle.std.specs.Str.Lines.{lines}
use Rattle.std.proofs.lemmas.List.{append-nil}
use Rattle.macho_stub_lines.specs.declared.list.Expect.{Expect}
use Rattle.macho_stub_lines.specs.declared.list.Expect.TheVariants.{AfterOpen, AfterComma, AfterName, Closed}
use Rattle.macho_stub_lines.specs.declared.fault.StubRule.{StubRule}
use Rattle.macho_stub_lines.specs.declared.fault.StubRule.TheVariants.{S1, S2}
use Rattle.macho_stub_lines.specs.Bytes.{indent, unspaced, is_passed, has_barred, is_blank_or_comment, end, is_mark, is_plain_byte, has_late_control_after}
use Rattle.macho_stub_lines.specs.Scalars.{scalar_front, plain_front}
use Rattle.macho_stub_lines.specs.Faults.{outside}
use Rattle.macho_stub_lines.specs.Lists.{list_part, token_front, behind}
use Rattle.macho_stub.specs.Documents.{DocumentFields}
use Rattle.macho_stub.specs.steps.Opened.{OpenDocumentFields}
use Rattle.macho_stub.specs.steps.Reader.{ItemListFields, NameListFields, ModeFields, Keys, Skipped, Names, NoItem, PlaceFields, Outside, Within, StateFields, stays, names_line, line_step, lines_from, start}
use Rattle.macho_stub.specs.Order.{MayBegin, MayStand, EndsWithout, IsLastLine, IsWhyAtEnd}
use Rattle.macho_stub.specs.steps.Order.{BreaksOff, unread_key, unread_item}
use Rattle.macho_stub_lines.proofs.Bind.{bind_ok}
use Rattle.macho_stub.proofs.Joined.{AreLines, lines_are_lines}
use Rattle.macho_stub.proofs.Trees.{to_read}
use Rattle.macho_stub.proofs.Reached.{Reached, refused, length_more}
use Rattle.macho_stub.proofs.PutIn.{closing_bracket}
use Rattle.macho_stub.proofs.Lasts.{IsHead, one_last}
use Rattle.macho_stub.proofs.Since.{IsOutsideList, IsCutList, HasContent, IsBareKey, Known, known_start, known_more, no_bracket_at_keys, no_bracket_at_item}
use Rattle.macho_stub.proofs.Elsewhere.{no_key_in_list}
use Rattle.macho_stub.proofs.Only.{lines_read}
use Rattle.macho_stub.proofs.One.{one_stop, no_stop_and_end}

-- ---- where a closing bracket may stand

dash_in_list : (line : ℕ) (expect : Expect) → list_part line expect 0 unread_item ≡ outside line
unfolding list_part token_front behind scalar_front plain_front is_plain_byte is_mark has_late_control_after
dash_in_list line AfterOpen = refl
dash_in_list line AfterComma = refl
dash_in_list line AfterName = refl
dash_in_list line Closed = refl

no_item_in_list : (first : List (List ℕ)) (before : List DocumentFields) (document : OpenDocumentFields) (list : Option ItemListFields)
    (names : NameListFields) → Reached first (record { documents = before; place = Within (stays document list (Names names)) })
    → MayStand first unread_item → ⊥
unfolding line_step names_line has_barred is_passed unspaced indent is_blank_or_comment
no_item_in_list first before document list names r m = refused first _ unread_item (length first + 1) S1 r
    (rw (dash_in_list (length first + 1) names.part.expect) refl) m

no_bracket_outside : (first : List (List ℕ)) (before : List DocumentFields) → Reached first (record { documents = before; place = Outside })
    → MayStand first closing_bracket → ⊥
unfolding line_step has_barred is_passed unspaced indent is_blank_or_comment
no_bracket_outside first before r m = refused first _ closing_bracket (length first + 1) S1 r refl m

-- no item, and no key
abbrev Alone : List (List ℕ) → Type 0
Alone first = (MayStand first unread_item → ⊥) × (MayStand first unread_key → ⊥)

mode_alone : (first : List (List ℕ)) (before : List DocumentFields) (document : OpenDocumentFields) (list : Option ItemListFields)
    (mode : ModeFields) → Reached first (record { documents = before; place = Within (stays document list mode) })
    → MayStand first closing_bracket → Alone first
mode_alone first before document list Keys r m = absurd (no_bracket_at_keys first before document list false r m)
mode_alone first before document list Skipped r m = absurd (no_bracket_at_keys first before document list true r m)
mode_alone first before document list (Names names) r m =
    (no_item_in_list first before document list names r, no_key_in_list first before document list names 0 r)
mode_alone first before document list (NoItem kind at) r m = absurd (no_bracket_at_item first before document list kind at r m)

place_alone : (first : List (List ℕ)) (before : List DocumentFields) (place : PlaceFields)
    → Reached first (record { documents = before; place = place }) → MayStand first closing_bracket → Alone first
place_alone first before Outside r m = absurd (no_bracket_outside first before r m)
place_alone first before (Within inside) r m = mode_alone first before inside.document inside.list inside.mode r m

-- lines that go on lead to where the reading is
walk : (first : List (List ℕ)) (state : StateFields) (texts more : List (List ℕ)) (says : List DocumentFields) → Known first state
    → AreLines texts → lines_from state (length first + 1) (texts ++ more) ≡ Ok says → (s : StateFields) × Known (first ++ texts) s
unfolding lines_from
walk first state [] more says k l e =
    let K : List (List ℕ) → Type 0 = λ f. Known f state in (state, subst K (sym (append-nil first)) k)
walk first state (text ∷ texts) more says k l e =
    let n = length first + 1 in
    let b = bind_ok (line_step state n text) (λ next. lines_from next (n + 1) (texts ++ more)) says e in
    let next = known_more first state b.0 text k l.0 b.1 in
    let count : n + 1 ≡ length (first ++ text ∷ []) + 1 = ap (λ m. m + 1) (sym (length_more first text)) in
    let w = walk (first ++ text ∷ []) b.0 texts more says next l.1 (ap (λ m. lines_from b.0 m (texts ++ more)) (sym count) ∙ b.2) in
    let K : List (List ℕ) → Type 0 = λ f. Known f w.0 in
    (w.0, subst K (append_assoc first (text ∷ []) texts) w.1)

alone : (text : List ℕ) → MayBegin (lines text) → MayStand (lines text) closing_bracket → Alone (lines text)
alone text g m =
    let e : lines_from start 1 (lines text ++ g.more) ≡ Ok g.says = lines_read (lines text ++ g.more) g.says
    (to_read (lines text ++ g.more) g.says g.in_grammar) in
    let w = walk [] start (lines text) g.more g.says known_start (lines_are_lines text) e in
    place_alone (lines text) w.0.documents w.0.place w.1.reached m

-- ---- one reason

data Why (rule : StubRule) (number : ℕ) (texts : List (List ℕ)) : Type 0 where
  Cut : rule ≡ S1 → IsCutList number texts → Why rule number texts
  Bare : rule ≡ S1 → IsBareKey number texts → Why rule number texts
  Lacks : rule ≡ S2 → IsLastLine IsHead number texts → EndsWithout texts end → Why rule number texts

outside_why : (number : ℕ) (texts : List (List ℕ)) → IsCutList number texts ⊎ IsBareKey number texts → Why S1 number texts
outside_why number texts (inl c) = Cut refl c
outside_why number texts (inr b) = Bare refl b

why_of : (rule : StubRule) (number : ℕ) (texts : List (List ℕ)) → IsWhyAtEnd rule number texts → Why rule number texts
why_of S1 number texts w = outside_why number texts w
why_of S2 number texts w = Lacks refl w.0 w.1
why_of rule number texts w = absurd w

cut_and_lack : (text : List ℕ) (number : ℕ) → MayBegin (lines text) → IsCutList number (lines text) → EndsWithout (lines text) end → ⊥
unfolding is_passed unspaced indent is_blank_or_comment
cut_and_lack text number g c w =
    elim w.lacks [ inl i ↦ i.0 closing_bracket refl refl c.0 | inr d ↦ (alone text g c.0).1 d.0.0 ]

bare_and_lack : (number : ℕ) (texts : List (List ℕ)) → IsBareKey number texts → EndsWithout texts end → ⊥
unfolding is_passed unspaced indent is_blank_or_comment
bare_and_lack number texts b w = elim w.lacks [ inl i ↦ i.0 unread_item refl refl b.0 | inr d ↦ b.1 d.0.0 ]

one_why : (text : List ℕ) (r s : StubRule) (l m : ℕ) → MayBegin (lines text) → Why r l (lines text) → Why s m (lines text)
    → (l ≡ m) × (r ≡ s)
one_why text r s l m g (Cut a b) (Cut c d) = (one_last IsOutsideList l m (lines text) b.1 d.1, a ∙ sym c)
one_why text r s l m g (Cut a b) (Bare c d) = absurd ((alone text g b.0).0 d.0)
one_why text r s l m g (Cut a b) (Lacks c d e) = absurd (cut_and_lack text l g b e)
one_why text r s l m g (Bare a b) (Cut c d) = absurd ((alone text g d.0).0 b.0)
one_why text r s l m g (Bare a b) (Bare c d) = (one_last HasContent l m (lines text) b.2 d.2, a ∙ sym c)
one_why text r s l m g (Bare a b) (Lacks c d e) = absurd (bare_and_lack l (lines text) b e)
one_why text r s l m g (Lacks a b c) (Cut d e) = absurd (cut_and_lack text m g e c)
one_why text r s l m g (Lacks a b c) (Bare d e) = absurd (bare_and_lack m (lines text) e c)
one_why text r s l m g (Lacks a b c) (Lacks d e f) = (one_last IsHead l m (lines text) b e, a ∙ sym d)

-- where a text breaks off, and for which rule, is one answer
pub one_break : (text : List ℕ) (l m : ℕ) (r s : StubRule) → BreaksOff text l r → BreaksOff text m s → (l ≡ m) × (r ≡ s)
one_break text l m r s (inl a) (inl b) = one_stop (lines text) l m r s a b
one_break text l m r s (inl a) (inr b) = absurd (no_stop_and_end text l m r s a b)
one_break text l m r s (inr a) (inl b) = absurd (no_stop_and_end text m l s r b a)
one_break text l m r s (inr a) (inr b) = one_why text r s l m a.go_on (why_of r l (lines text) a.why) (why_of s m (lines text) b.why)
