-- What is told of a text is told of it alone: two reasons at lines are the same reason, at the same line. Of two first
-- lines that may not stand the earlier one would have to stand, since the lines before the later one go on; and at one
-- place, a line that ends what lacks a key has no second key.
-- Of two places the earlier is among the lines before the later (`cuts`, `stands_before`), and the last head has one number
-- (`one_last`).
use Rattle.std.proofs.Common.{◌≡◌, ℕ, ◌+◌, List, [], ◌∷◌, ◌++◌, length, Ok, refl, sym, ap, ◌∙◌, inl, inr, subst, append_assoc}
use Rattle.std.specs.Str.Lines.{lines}
use Rattle.macho_stub_lines.specs.declared.fault.StubRule.{StubRule}
use Rattle.macho_stub_lines.specs.declared.fault.StubRule.TheVariants.{S1, S2, S3}
use Rattle.macho_stub_lines.specs.Bytes.{indent, unspaced, is_passed, is_blank_or_comment, is_key_byte, head, end}
use Rattle.macho_stub_lines.specs.Keys.{Entry, entry_at}
use Rattle.macho_stub.specs.Order.{MayBegin, MayStand, EndsWithout, StandsTwice, IsLastLine, IsWhy, StopsAt, StopsAtEnd, in_column}
use Rattle.macho_stub.specs.steps.Order.{BreaksOff, unread_key}
use Rattle.macho_stub.specs.Documents.{DocumentFields}
use Rattle.macho_stub.specs.Grammar.{IsStubLines}
use Rattle.macho_stub_lines.proofs.Bind.{no_ok}
use Rattle.macho_stub.proofs.Outsides.{dash_no_key}
use Rattle.macho_stub.proofs.TwiceKeys.{said_of, second_key}
use Rattle.macho_stub.proofs.Lasts.{IsHead, Cuts, Same, Before, Behind, cuts, one_last}

-- ---- one place

-- the first lines of those that go on may stand
pub stands_before : (all first rest : List (List ℕ)) (line : List ℕ) → all ≡ first ++ line ∷ rest → MayBegin all → MayStand first line
stands_before all first rest line e g =
    let S : List (List ℕ) → Type 0 = λ t. IsStubLines t g.says in
    record {
      more = rest ++ g.more;
      says = g.says;
      in_grammar = subst S (ap (λ (l : List (List ℕ)). l ++ g.more) e ∙ append_assoc first (line ∷ rest) g.more
          ∙ sym (append_assoc first (line ∷ []) (rest ++ g.more))) g.in_grammar;
    }

-- ---- one reason

key_of_head : (n : ℕ) (said : Entry) → entry_at n (unspaced head) ≡ Ok said → ⊥
unfolding entry_at is_key_byte unspaced indent
key_of_head n said e = no_ok n S1 said e

key_of_end : (n : ℕ) (said : Entry) → entry_at n (unspaced end) ≡ Ok said → ⊥
unfolding entry_at is_key_byte unspaced indent
key_of_end n said e = no_ok n S1 said e

pub ends_no_key : (first : List (List ℕ)) (line : List ℕ) → EndsWithout first line → StandsTwice first line → ⊥
unfolding is_passed unspaced indent is_blank_or_comment
ends_no_key first line w t =
    let M : ℕ → Type 0 = λ n. MayStand first (in_column n unread_key) in
    let said = said_of first line t in
    let key = second_key first line t in
    let K : List ℕ → Type 0 = λ l. entry_at (length first + 1) (unspaced l) ≡ Ok said in
    elim w.lacks [
      | inl i ↦ elim i.1 [ inl m ↦ i.0 unread_key refl refl (subst M m.1 t.another) | inr n ↦ dash_no_key first line n.dash t ]
      | inr d ↦ elim d.1 [
        | inl is ↦ key_of_head (length first + 1) said (subst K is key)
        | inr is ↦ key_of_end (length first + 1) said (subst K is key)
      ]
    ]

-- the three reasons, by their rule
data Why (rule : StubRule) (number : ℕ) (first : List (List ℕ)) (line : List ℕ) : Type 0 where
  Out : rule ≡ S1 → number ≡ length first + 1 → (EndsWithout first line → ⊥) → (StandsTwice first line → ⊥) → Why rule number first line
  Lacking : rule ≡ S2 → IsLastLine IsHead number first → EndsWithout first line → Why rule number first line
  Again : rule ≡ S3 → number ≡ length first + 1 → StandsTwice first line → Why rule number first line

why_of : (rule : StubRule) (number : ℕ) (first : List (List ℕ)) (line : List ℕ) → IsWhy rule number first line → Why rule number first line
why_of S1 number first line w = Out refl w.0 w.1 w.2
why_of S2 number first line w = Lacking refl w.0 w.1
why_of S3 number first line w = Again refl w.0 w.1
why_of rule number first line w = absurd w

one_why : (r s : StubRule) (l m : ℕ) (first : List (List ℕ)) (line : List ℕ) → Why r l first line → Why s m first line → (l ≡ m) × (r ≡ s)
one_why r s l m first line (Out a b c d) (Out e f g h) = (b ∙ sym f, a ∙ sym e)
one_why r s l m first line (Out a b c d) (Lacking e f g) = absurd (c g)
one_why r s l m first line (Out a b c d) (Again e f g) = absurd (d g)
one_why r s l m first line (Lacking a b c) (Out e f g h) = absurd (g c)
one_why r s l m first line (Lacking a b c) (Lacking e f g) = (one_last IsHead l m first b f, a ∙ sym e)
one_why r s l m first line (Lacking a b c) (Again e f g) = absurd (ends_no_key first line c g)
one_why r s l m first line (Again a b c) (Out e f g h) = absurd (h c)
one_why r s l m first line (Again a b c) (Lacking e f g) = absurd (ends_no_key first line g c)
one_why r s l m first line (Again a b c) (Again e f g) = (b ∙ sym f, a ∙ sym e)

-- what is told at lines of a text is one answer
pub one_stop : (texts : List (List ℕ)) (l m : ℕ) (r s : StubRule) → StopsAt texts l r → StopsAt texts m s → (l ≡ m) × (r ≡ s)
one_stop texts l m r s a b = by_cut (cuts a.first a.line a.rest b.first b.line b.rest (sym a.parts ∙ b.parts))
  where
    by_cut : Cuts a.first a.line a.rest b.first b.line b.rest → (l ≡ m) × (r ≡ s)
    by_cut (Same e f) =
        let W : List (List ℕ) → Type 0 = λ first. IsWhy r l first a.line in
        let V : List ℕ → Type 0 = λ line. IsWhy r l b.first line in
        one_why r s l m b.first b.line (why_of r l b.first b.line (subst V f (subst W e a.why))) (why_of s m b.first b.line b.why)
    by_cut (Before more e f) = absurd (a.stuck (stands_before b.first a.first more a.line e b.go_on))
    by_cut (Behind more e f) = absurd (b.stuck (stands_before a.first b.first more b.line e a.go_on))

-- and what is told at a line isn't told at the end
pub no_stop_and_end : (text : List ℕ) (l m : ℕ) (r s : StubRule) → StopsAt (lines text) l r → StopsAtEnd text m s → ⊥
no_stop_and_end text l m r s a b = a.stuck (stands_before (lines text) a.first a.rest a.line a.parts b.go_on)

-- a text that breaks off isn't in the grammar
pub no_break : (text : List ℕ) (l : ℕ) (r : StubRule) → BreaksOff text l r → (says : List DocumentFields) → IsStubLines (lines text) says
    → ⊥
no_break text l r (inl a) says is =
    let S : List (List ℕ) → Type 0 = λ t. IsStubLines t says in
    a.stuck (record {
      more = a.rest;
      says = says;
      in_grammar = subst S (a.parts ∙ sym (append_assoc a.first (a.line ∷ []) a.rest)) is;
    })
no_break text l r (inr a) says is = a.stuck says is
