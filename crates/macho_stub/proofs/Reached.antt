-- Lines that were read without a fault, and where they leave the reading. What may stand behind them in lines of the grammar is what the
-- next step doesn't refuse: if it doesn't, lines are there that finish the text, and what is read is in the grammar; and what is in
-- the grammar is read.
-- The lines that finish the text are those of `Finish`; with them all is read, so these lines are in the grammar (`lines_of`). What a
-- step refuses, no lines of the grammar go on with, since they would be read (`refused`).
use Rattle.std.proofs.Common.{◌≡◌, ℕ, suc, ◌+◌, List, [], ◌∷◌, ◌++◌, length, Ok, refl, sym, ap, ◌∙◌, subst, arith, append_assoc}
use Rattle.macho_stub_lines.specs.Faults.{◌>>=◌, broken}
use Rattle.macho_stub_lines.specs.declared.fault.StubRule.{StubRule}
use Rattle.macho_stub.specs.Documents.{DocumentFields}
use Rattle.macho_stub.specs.steps.Reader.{StateFields, line_step, lines_from, start}
use Rattle.macho_stub.specs.Grammar.{IsStubLines}
use Rattle.macho_stub.proofs.Trees.{to_read, of_read}
use Rattle.macho_stub.specs.Order.{MayBegin, MayStand}
use Rattle.macho_stub_lines.proofs.Bind.{bind_ok, no_ok}
use Rattle.macho_stub.proofs.Fine.{GoodState, line_step_fine}
use Rattle.macho_stub.proofs.Joined.{IsLine, AreLines}
use Rattle.macho_stub.proofs.Found.{lines_found}
use Rattle.macho_stub.proofs.Only.{lines_read}
use Rattle.macho_stub.proofs.Finish.{finishes}
use Rattle.macho_stub_lines.proofs.Runs.{all_append}

-- the lines lead from the start to this state
pub record Reached (first : List (List ℕ)) (state : StateFields) : Type 0 where
  pub leads : (more : List (List ℕ)) → lines_from start 1 (first ++ more) ≡ lines_from state (length first + 1) more
  pub good : GoodState state
  pub are : AreLines first

-- a line more
pub length_more : (first : List (List ℕ)) (text : List ℕ) → length (first ++ text ∷ []) ≡ length first + 1
length_more [] text = refl
length_more (other ∷ first) text = ap suc (length_more first text) ∙ omega arith

-- no line leads to the start
pub reached_start : Reached [] start
reached_start = record { leads = λ more. refl; good = tt; are = tt }

-- a line more leads to where the step over it does
pub reached_more : (first : List (List ℕ)) (state next : StateFields) (text : List ℕ) → Reached first state → IsLine text
    → line_step state (length first + 1) text ≡ Ok next → Reached (first ++ text ∷ []) next
unfolding lines_from
reached_more first state next text r l e = record {
  leads = λ more.
      ap (lines_from start 1) (append_assoc first (text ∷ []) more)
      ∙ r.leads (text ∷ more)
      ∙ ap (λ reading. reading >>= λ s. lines_from s (length first + 1 + 1) more) e
      ∙ ap (λ n. lines_from next (n + 1) more) (sym (length_more first text));
  good = (line_step_fine state (length first + 1) text r.good).ok next e;
  are = all_append IsLine first (text ∷ []) r.are (l, tt);
}

-- lines that are read are in the grammar
lines_of : (texts : List (List ℕ)) (says : List DocumentFields) → lines_from start 1 texts ≡ Ok says → IsStubLines texts says
lines_of texts says e = of_read texts says (lines_found texts says e)

-- lines that were read without a fault begin lines of the grammar
pub goes_on : (first : List (List ℕ)) (state : StateFields) → Reached first state → MayBegin first
goes_on first state r =
    let f = finishes state (length first + 1) r.good in
    record { more = f.more; says = f.says; in_grammar = lines_of (first ++ f.more) f.says (r.leads f.more ∙ f.is) }

-- and a line whose step doesn't fail may stand behind them
pub may_stand : (first : List (List ℕ)) (state next : StateFields) (text : List ℕ) → Reached first state → IsLine text
    → line_step state (length first + 1) text ≡ Ok next → MayStand first text
unfolding lines_from
may_stand first state next text r l e =
    let n = length first + 1 in
    let f = finishes next (n + 1) ((line_step_fine state n text r.good).ok next e) in
    let is = ap (λ reading. reading >>= λ s. lines_from s (n + 1) f.more) e ∙ f.is in
    let S : List (List ℕ) → Type 0 = λ t. IsStubLines t f.says in
    record {
      more = f.more;
      says = f.says;
      in_grammar = subst S (sym (append_assoc first (text ∷ []) f.more))
          (lines_of (first ++ text ∷ f.more) f.says (r.leads (text ∷ f.more) ∙ is));
    }

-- what may stand is not refused
pub stands : (first : List (List ℕ)) (state : StateFields) (text : List ℕ) → Reached first state → MayStand first text
    → (next : StateFields) × (line_step state (length first + 1) text ≡ Ok next)
unfolding lines_from
stands first state text r m =
    let is : lines_from start 1 (first ++ text ∷ m.more) ≡ Ok m.says = ap (lines_from start 1)
    (sym (append_assoc first (text ∷ []) m.more))
    ∙ lines_read ((first ++ text ∷ []) ++ m.more) m.says (to_read ((first ++ text ∷ []) ++ m.more) m.says m.in_grammar) in
    let b = bind_ok (line_step state (length first + 1) text) (λ s. lines_from s (length first + 1 + 1) m.more) m.says
    (sym (r.leads (text ∷ m.more)) ∙ is) in
    (b.0, b.1)

-- what is refused may not stand
pub refused : (first : List (List ℕ)) (state : StateFields) (text : List ℕ) (line : ℕ) (rule : StubRule) → Reached first state
    → line_step state (length first + 1) text ≡ broken line rule → MayStand first text → ⊥
refused first state text line rule r e m = let s = stands first state text r m in no_ok line rule s.0 (sym e ∙ s.1)
