-- A path that was looked at is short, and goes behind those before it; at the end these are all.
use Rattle.std.proofs.Common.{ℕ, List, take, get_or, sym, subst, arith, Vec, Global}
use Rattle.std.specs.Prelude.{All}
use Rattle.std.proofs.lemmas.List.{take_all, take_more}
use Rattle.std.proofs.lemmas.List.Elements.{All-push}
use Rattle.macho_linkedit.specs.Counting.{IsPath}
use Rattle.macho_sizing.proofs.counting.check_paths.Goals as goal

pub loop-path-preserved : goal.loop-path-preserved
loop-path-preserved c =
    let xs = c.args.paths.now in
    let i = c.loop-path.path-index in
    let x = c.path-item.result in
    let short : IsPath x = omega (arith, c.len.ensures, c.if-len-ge-PATH_LIMIT.false) in
    subst (λ (ps : List (Vec ℕ Global)). All IsPath ps) (sym (take_more xs i x c.loop-path-test.true))
    (All-push IsPath (take i xs) (get_or xs i x) c.loop-path.invariant (subst IsPath c.path-item.is short))

pub returns-clause-short : goal.returns-clause-short
returns-clause-short c =
    subst (λ (ps : List (Vec ℕ Global)). All IsPath ps) (take_all c.loop-path.path-index c.args.paths.now c.loop-path-test.false)
    c.loop-path.invariant
