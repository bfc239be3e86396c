-- `split_once` cuts at the first dot, if there is one.
use Rattle.std.proofs.Common.{lit<, Some, None}
use Rattle.std.proofs.lemmas.Str.Pattern.{split_once_first, split_parts}
use Rattle.macho_args.proofs.Dots.{dotted-none, dotted-first}
use Rattle.macho_args.proofs.version.first_part.Goals as goal

pub returns-in-Some : goal.returns-in-Some
returns-in-Some c =
    let found = split_once_first 46 c.args.text.now (Some (c.in-Some.first, c.in-Some.rest)) c.in-Some.ensures.cases (lit< tt) in
    dotted-first c.args.text.now c.in-Some.first.now c.in-Some.rest.now found.0 found.1 found.2

pub returns-in-None : goal.returns-in-None
returns-in-None c = dotted-none c.args.text.now (split_parts 46 c.args.text.now None c.in-None.ensures.cases (lit< tt))
