-- A place is rounded up to a power of two: std's word is the definition's, and costs less than the power.
use Rattle.std.proofs.Common.{◌^◌, ◌∙◌, arith}
use Rattle.std.proofs.lemmas.Nat.{pow_pos}
use Rattle.macho_stack.proofs.Multiples.{shifted-is, pow-most}
use Rattle.macho_stack.proofs.members.aligned.Goals as goal
use Rattle.macho_bytes.proofs.Rounding.{rounded-near}

pub next_multiple_of-requires-clause-fits : goal.next_multiple_of-requires-clause-fits
next_multiple_of-requires-clause-fits c =
    let e = c.args.exponent in
    let n = c.args.place in
    let is = shifted-is n e (omega arith) in
    let near = rounded-near (2 ^ e) n (pow_pos e) in
    let most = pow-most e c.requires.small in
    omega (arith, is, near, most)

pub returns : goal.returns
returns c = c.next_multiple_of.ensures.value ∙ shifted-is c.args.place c.args.exponent (omega arith)
