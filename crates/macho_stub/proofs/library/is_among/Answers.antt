use Rattle.std.proofs.Common.{ℕ, List, Bor, sym, arith, add-one}
use Rattle.std.specs.Str.{bytes_eq}
use Rattle.macho_stub.proofs.Same.{sought_more, found_at}
use Rattle.macho_stub.proofs.library.is_among.Goals as goal

pub returns-then-eq : goal.returns-then-eq
returns-then-eq c =
    found_at (λ other. bytes_eq other c.args.name.now) (λ (n : Bor (List ℕ)). n.now) c.args.names.now c.loop-other.other-index _ _
    (omega arith) (sym c.if-eq.ensures) c.loop-other.invariant

pub loop-other-preserved : goal.loop-other-preserved
loop-other-preserved c =
    rw add-one (sought_more (λ other. bytes_eq other c.args.name.now) (λ (n : Bor (List ℕ)). n.now) c.args.names.now
    c.loop-other.other-index _ _ (omega arith) (sym c.if-eq.ensures) c.loop-other.invariant)
