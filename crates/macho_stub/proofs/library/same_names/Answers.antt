use Rattle.std.proofs.Common.{ℕ, List, Bor, sym, arith, add-one}
use Rattle.std.specs.Str.{bytes_eq}
use Rattle.macho_stub.specs.steps.Checks.{same_names}
use Rattle.macho_stub.proofs.Same.{same_more, differs, all_agree, other_length, not_true, not_false}
use Rattle.macho_stub.proofs.library.same_names.Goals as goal

pub returns-then-left-right : goal.returns-then-left-right
unfolding same_names
returns-then-left-right c = sym
    (other_length bytes_eq (λ (n : Bor (List ℕ)). n.now) c.args.left.now c.args.right.now c.if-left-right.true)

pub returns-then-ne : goal.returns-then-ne
unfolding same_names
returns-then-ne c =
    differs bytes_eq (λ (n : Bor (List ℕ)). n.now) c.args.left.now c.args.right.now c.loop-i.i _ _ _ (omega arith) (omega arith)
    (not_true _ c.if-ne.ensures) c.loop-i.invariant

pub loop-i-preserved : goal.loop-i-preserved
loop-i-preserved c =
    rw add-one (same_more bytes_eq (λ (n : Bor (List ℕ)). n.now) c.args.left.now c.args.right.now c.loop-i.i _ _ _ (omega arith)
    (omega arith) (not_false _ c.if-ne.ensures) c.loop-i.invariant)

pub returns : goal.returns
unfolding same_names
returns c = all_agree bytes_eq (λ (n : Bor (List ℕ)). n.now) c.args.left.now c.args.right.now c.loop-i.i _ (omega arith)
    c.if-left-right.false c.loop-i.invariant
