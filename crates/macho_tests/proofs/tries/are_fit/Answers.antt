use Rattle.std.proofs.Common.{◌≡◌, ℕ, false, List, [], bytes_eq, sym, ap, ◌∙◌, arith, inl, inr}
use Rattle.std.proofs.lemmas.Bool.{cases_lt}
use Rattle.std.proofs.lemmas.List.{get_or_default}
use lib.Pointwise.{bytes_decides}
use Rattle.macho_trie.specs.Tables.{name_at}
use Rattle.macho_trie.specs.Symbols.{names_of}
use Rattle.macho_tests.proofs.tries.are_fit.Goals as goal

differ : (a b : List ℕ) → bytes_eq a b ≡ false → a ≡ b → ⊥
differ a b unequal same = let equal = (bytes_decides a b).1 same in cc

pub loop-earlier-preserved : goal.loop-earlier-preserved
loop-earlier-preserved c i h same =
    elim (cases_lt i c.loop-earlier.earlier) [
      | inl before ↦ c.loop-earlier.invariant i before same
      | inr last ↦
          let here : i ≡ c.loop-earlier.earlier = omega arith in
          differ c.name.result.now c.name-in-loop-earlier.result.now (sym c.eq.ensures ∙ c.if-eq.false)
          (c.name.ensures ∙ ap (λ (k : ℕ). name_at (names_of c.args.symbols.now) k) (sym here) ∙ same
          ∙ sym c.name-in-loop-earlier.ensures)
    ]

pub returns-clause-distinct : goal.returns-clause-distinct
returns-clause-distinct c yes_true i j d lt within same =
    c.loop-later.invariant.distinct i j lt (omega (arith, c.len-later-end.ensures))
    (get_or_default (names_of c.args.symbols.now) i [] d (omega arith) ∙ same ∙ sym (get_or_default (names_of c.args.symbols.now) j []
    d within))
