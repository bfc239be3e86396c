use Rattle.macho_needs.proofs.needs.Needs.lead.Goals as goal

pub returns-else-relocation-clause-leads : goal.returns-else-relocation-clause-leads
returns-else-relocation-clause-leads c l noted is inside =
    rw c.if-relocation.false (c.section_target.ensures (inside c.if-relocation.false))

pub returns-then-relocation-clause-leads : goal.returns-then-relocation-clause-leads
returns-then-relocation-clause-leads c l noted is inside = rw c.if-relocation.true (c.use_symbol.ensures.leads l noted is)
