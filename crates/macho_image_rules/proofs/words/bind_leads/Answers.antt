-- Whether a word binds an import of a link: its entry has the import's names, and the addends are the same. A word that moves with the
-- image binds none.
use Rattle.std.proofs.Common.{map, sym, ◌∙◌, eq-eqb, arith}
use Rattle.std.proofs.lemmas.Bool.{OnTrue_from, OnTrue_at}
use Rattle.macho_model.specs.declared.targets.Target.TheVariants as target
use Rattle.macho_loader.specs.Lists.{import_of}
use Rattle.macho_verify_laws.specs.InFile.{WordLeads}
use Rattle.macho_image_rules.proofs.Leads.{import_leads, leads_import, value_leads_not, read_unsigned}
use Rattle.macho_image_rules.proofs.words.bind_leads.Goals as goal

pub returns-in-Rebase-clause-only : goal.returns-in-Rebase-clause-only
returns-in-Rebase-clause-only c = λ l b p id of are named leads.
    absurd (value_leads_not l b p id c.args.line.now c.in-Rebase.value c.args.addend of c.in-Rebase.is leads)

pub returns-then-cast_unsigned-addend-clause-found : goal.returns-then-cast_unsigned-addend-clause-found
returns-then-cast_unsigned-addend-clause-found c = λ l b p id of are named.
    OnTrue_from c.is_entry.result (WordLeads l b p c.args.line.now.address (target.Import id) c.args.addend) (λ has.
    import_leads l b p id c.args.line.now c.in-Bind.import c.in-Bind.sum c.args.addend (map import_of c.args.imports.now)
    (map (λ n. n.now) c.args.libraries.now) c.args.wanted.now.library.now c.args.wanted.now.name.now of are named c.in-Bind.is
    (sym (read_unsigned b c.args.line.now c.in-Bind.import c.in-Bind.sum c.cast_unsigned.result of c.in-Bind.is c.cast_unsigned.ensures)
    ∙ c.if-cast_unsigned-addend.true)
    (OnTrue_at has c.is_entry.ensures.found))

pub returns-then-cast_unsigned-addend-clause-only : goal.returns-then-cast_unsigned-addend-clause-only
returns-then-cast_unsigned-addend-clause-only c = λ l b p id of are named leads.
    c.is_entry.ensures.only
    (leads_import l b p id c.args.line.now c.in-Bind.import c.in-Bind.sum c.args.addend (map import_of c.args.imports.now)
    (map (λ n. n.now) c.args.libraries.now) c.args.wanted.now.library.now c.args.wanted.now.name.now of are named c.in-Bind.is
    (omega (arith, c.ranges.addend.fits)) leads).entry

pub returns-else-cast_unsigned-addend-clause-only : goal.returns-else-cast_unsigned-addend-clause-only
returns-else-cast_unsigned-addend-clause-only c = λ l b p id of are named leads.
    eq-eqb c.cast_unsigned.result c.args.addend
    (read_unsigned b c.args.line.now c.in-Bind.import c.in-Bind.sum c.cast_unsigned.result of c.in-Bind.is c.cast_unsigned.ensures
    ∙ (leads_import l b p id c.args.line.now c.in-Bind.import c.in-Bind.sum c.args.addend (map import_of c.args.imports.now)
    (map (λ n. n.now) c.args.libraries.now) c.args.wanted.now.library.now c.args.wanted.now.name.now of are named c.in-Bind.is
    (omega (arith, c.ranges.addend.fits)) leads).same)
