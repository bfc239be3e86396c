use Rattle.std.proofs.Common.{ℕ, [], ◌∷◌, sym, ap, ◌∙◌, arith}
use Rattle.std.proofs.Math.Nat.{mod-eq_of_lt}
use Rattle.macho_bytes.specs.Numbers.{be_bytes}
use Rattle.macho_bytes.specs.Texts.{put}
use Rattle.macho_wire.proofs.number.U8Number.write_big.Goals as goal

pub returns-clause-written : goal.returns-clause-written
unfolding be_bytes
returns-clause-written c =
    c.put_text.ensures ∙ ap (λ (n : ℕ). put c.args.at (n ∷ []) c.args.out.now)
    (sym (mod-eq_of_lt {n = c.args.self} {m = 256} (omega (arith, c.ranges.self.fits))))
