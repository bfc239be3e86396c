-- A name stands from its place to its end.
use Rattle.std.proofs.Common.{◌≡◌, ℕ, ◌+◌, ◌-◌, take, drop, ap, ◌∙◌, arith}
use Rattle.macho_symbol_names.proofs.Strings.{string_stands}
use Rattle.macho_linkedit.proofs.names.Names.name.Goals as goal

pub returns-clause-found : goal.returns-clause-found
returns-clause-found c =
    let s = c.args.self.now.strings.now in
    let at = c.args.at in
    let size = c.string_end.result - at in
    let same : size ≡ at + size - at = omega arith in
    ap (λ (n : ℕ). take n (drop at s)) same ∙ string_stands s at size (ap (λ (n : ℕ). n - at) c.string_end.ensures.is)
