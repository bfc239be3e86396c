use Rattle.std.proofs.Common.{ℕ, ◌+◌, ◌-◌, Bool, arith, sym}
use Rattle.std.specs.List.{slice_range}
use Rattle.std.specs.Str.{bytes_eq}
use Rattle.macho_export_lists.proofs.Indexed.{tried_place, no_place}
use Rattle.macho_export_lists.proofs.parts.is_again.Goals as goal

pub returns-then-eq : goal.returns-then-eq
returns-then-eq c =
    let name = c.args.name.now in
    let part = slice_range name c.args.at (c.args.at + c.args.count) in
    let same : ℕ → Bool = λ k. bytes_eq (slice_range name k (k + c.args.count)) part in
    sym (tried_place same c.args.first (c.args.at - c.args.first) c.loop-earlier.earlier (omega arith) (omega arith) (sym c.if-eq.ensures))

pub returns : goal.returns
returns c =
    let name = c.args.name.now in
    let part = slice_range name c.args.at (c.args.at + c.args.count) in
    let same : ℕ → Bool = λ k. bytes_eq (slice_range name k (k + c.args.count)) part in
    sym (no_place same c.args.first (c.args.at - c.args.first)
    (λ k low high. c.loop-earlier.invariant k low (omega (arith, low, high))))
