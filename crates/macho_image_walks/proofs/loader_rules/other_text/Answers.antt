-- The commands with the numbers 0 and 1 tell whether there is one.
use Rattle.std.proofs.Common.{refl, subst}
use Rattle.macho_model.specs.Loader.{TextIsNotOne}
use Rattle.macho_image_walks.proofs.RuleWalk.{second_text, no_text, one_text}
use Rattle.macho_image_walks.proofs.WordWalk.{some_is}
use Rattle.macho_image_walks.proofs.loader_rules.other_text.Goals as goal

pub returns-in-Some-clause-found : goal.returns-in-Some-clause-found
returns-in-Some-clause-found c place is = second_text c.args.bytes.now place (c.nth-in-Some.ensures.found place is)

pub returns-in-Some-clause-only : goal.returns-in-Some-clause-only
returns-in-Some-clause-only c is =
    one_text c.args.bytes.now c.in-Some._first (c.in-Some.ensures.found c.in-Some._first refl) (c.nth-in-Some.ensures.only is)

pub returns-in-None-clause-found : goal.returns-in-None-clause-found
returns-in-None-clause-found c place is =
    subst (λ p. TextIsNotOne c.args.bytes.now p) (some_is 0 place is) (no_text c.args.bytes.now (c.in-None.ensures.only refl))
