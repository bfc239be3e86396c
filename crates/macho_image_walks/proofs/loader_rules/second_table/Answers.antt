-- The command with the number 1 is a second one.
use Rattle.macho_image_walks.proofs.RuleWalk.{second_of_tables, few_tables}
use Rattle.macho_image_walks.proofs.loader_rules.second_table.Goals as goal

pub returns-clause-found : goal.returns-clause-found
returns-clause-found c place is = second_of_tables c.args.bytes.now place (c.nth.ensures.found place is)

pub returns-clause-only : goal.returns-clause-only
returns-clause-only c is = few_tables c.args.bytes.now (c.nth.ensures.only is)
