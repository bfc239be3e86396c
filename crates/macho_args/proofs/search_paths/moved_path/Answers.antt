-- A path that doesn't begin with `/` stays.
use Rattle.std.proofs.lemmas.Result.{IfOk-weaker}
use Rattle.macho_args.proofs.Moves.{moved-relative}
use Rattle.macho_args.proofs.search_paths.moved_path.Goals as goal

pub returns-in_default-clause-moved : goal.returns-in_default-clause-moved
returns-in_default-clause-moved g c =
    let stays = moved-relative (g.D.Paths.state c.args.paths.now).directories c.args.root.now c.args.path.now in
    IfOk-weaker c.from_str.result _ _ (λ new is. stays _ _ c.in_default.ensures is) c.from_str.ensures.ok
