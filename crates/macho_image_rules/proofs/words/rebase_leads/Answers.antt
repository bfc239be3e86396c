-- Whether a word leads to a target at an address: its value is the address and the addend. A word that binds leads to none.
use Rattle.std.proofs.Common.{◌+◌, ◌%◌, ◌^◌, ◌==◌, eq-eqb}
use Rattle.std.proofs.lemmas.Bool.{OnTrue_from, eqb-true}
use Rattle.macho_verify_laws.specs.InFile.{WordLeads}
use Rattle.macho_image_rules.proofs.Leads.{value_leads, leads_value, bind_leads_not}
use Rattle.macho_image_rules.proofs.words.rebase_leads.Goals as goal

pub returns-in-Rebase-clause-found : goal.returns-in-Rebase-clause-found
returns-in-Rebase-clause-found c = λ l b p t of at.
    let sum = (c.args.x + c.args.addend) % 2 ^ 64 in
    OnTrue_from (c.in-Rebase.value == sum) (WordLeads l b p c.args.line.now.address t c.args.addend) (λ same.
    value_leads l b p t c.args.line.now c.in-Rebase.value c.args.x c.args.addend of at c.in-Rebase.is
    (eqb-true c.in-Rebase.value sum same))

pub returns-in-Rebase-clause-only : goal.returns-in-Rebase-clause-only
returns-in-Rebase-clause-only c = λ l b p t of at leads.
    eq-eqb c.in-Rebase.value ((c.args.x + c.args.addend) % 2 ^ 64)
    (leads_value l b p t c.args.line.now c.in-Rebase.value c.args.x c.args.addend of at c.in-Rebase.is leads)

pub returns-in-Bind-clause-only : goal.returns-in-Bind-clause-only
returns-in-Bind-clause-only c = λ l b p t of at leads.
    absurd (bind_leads_not l b p t c.args.line.now c.in-Bind.import c.in-Bind.addend c.args.x c.args.addend of at c.in-Bind.is leads)
