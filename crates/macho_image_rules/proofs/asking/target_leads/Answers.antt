-- An import is compared by its names, every other target by its address.
use Rattle.std.proofs.Common.{subst, sym}
use Rattle.std.specs.Bool.{OnTrue}
use Rattle.macho_model.specs.declared.targets.Target.{Target}
use Rattle.macho_verify_laws.specs.InFile.{WordLeads}
use Rattle.macho_image_laws.specs.Leads.{HasPlace}
use Rattle.macho_image_rules.proofs.Compared.{no_import_is, placed_at}
use Rattle.macho_image_rules.proofs.asking.target_leads.Goals as goal

pub returns-in-Import-clause-found : goal.returns-in-Import-clause-found
returns-in-Import-clause-found g c = λ l b p of compared has.
    subst (λ (t : Target). OnTrue c.import_leads.result (WordLeads l b p c.args.line.now.address t c.args.word.now.addend))
    (sym c.in-Import.is) (c.import_leads.ensures.found l b p of compared.image compared.link)

pub returns-in-Import-clause-only : goal.returns-in-Import-clause-only
returns-in-Import-clause-only g c = λ l b p of compared has leads.
    c.import_leads.ensures.only l b p of compared.image compared.link (subst (HasPlace l) c.in-Import.is has)
    (subst (λ (t : Target). WordLeads l b p c.args.line.now.address t c.args.word.now.addend) c.in-Import.is leads)

pub returns-in_default : goal.returns-in_default
returns-in_default g c = record {
  found =
      λ l b p of compared has. c.rebase_leads.ensures.found l b p c.args.word.now.target of
      (placed_at l p (g.P.Places.look c.args.places.now) c.args.word.now.target c.address_of.result compared.whole compared.once
      compared.tells has
      (no_import_is c.args.word.now.target c.in_default.not-Import) c.address_of.ensures.modulo);
  only =
      λ l b p of compared has. c.rebase_leads.ensures.only l b p c.args.word.now.target of
      (placed_at l p (g.P.Places.look c.args.places.now) c.args.word.now.target c.address_of.result compared.whole compared.once
      compared.tells has
      (no_import_is c.args.word.now.target c.in_default.not-Import) c.address_of.ensures.modulo);
}
