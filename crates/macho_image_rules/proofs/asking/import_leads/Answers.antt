-- The import's names are those of its number.
use Rattle.std.proofs.Common.{sym}
use Rattle.macho_image_rules.proofs.Compared.{named}
use Rattle.macho_image_rules.proofs.asking.import_leads.Goals as goal

pub returns-in-Some-clause-found : goal.returns-in-Some-clause-found
returns-in-Some-clause-found c = λ l b p of are names.
    c.bind_leads.ensures.found l b p c.args.id of are
    (named l c.args.names.now c.args.id c.in-Some.wanted.now names c.in-Some.ensures.lookup.3.0 (sym c.in-Some.ensures.lookup.1))

pub returns-in-Some-clause-only : goal.returns-in-Some-clause-only
returns-in-Some-clause-only c = λ l b p of are names has.
    c.bind_leads.ensures.only l b p c.args.id of are
    (named l c.args.names.now c.args.id c.in-Some.wanted.now names c.in-Some.ensures.lookup.3.0 (sym c.in-Some.ensures.lookup.1))
