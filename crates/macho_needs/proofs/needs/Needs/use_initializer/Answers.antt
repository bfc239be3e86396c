-- The name is noted, and nothing else is asked for.
use Rattle.std.proofs.Common.{◌≡◌, true, refl, ◌∙◌, ap, subst}
use Rattle.macho_model.specs.Uses.{ByInitializer, global_name, target_with}
use Rattle.macho_model.specs.Targets.{target_of_relocation}
use Rattle.macho_model.specs.Consumed.{is_plain_pointer}
use Rattle.macho_answer.specs.Standing.{Stands}
use Rattle.macho_symbols.specs.Kept.{symbol_id}
use Rattle.macho_promise.specs.Noted.{imports_in}
use Rattle.macho_needs.specs.Tables.{Numbered}
use Rattle.macho_needs.specs.steps.Leads.{IsLostBy}
use Rattle.macho_needs.proofs.Using.{names_it, lost_stands}
use Rattle.macho_needs.proofs.Pointers.{symbol_noted, pointer_leads, on_ok_both, if_ok, files_stay}
use Rattle.macho_needs.proofs.needs.Needs.use_initializer.Goals as goal
use Rattle.macho_model.proofs.Sections.{no_addend}
use Rattle.macho_bytes.proofs.Comparing.{if_err}

pub returns-clause-noted : goal.returns-clause-noted
returns-clause-noted c l us s r is next of here =
    let it = names_it l s r c.args.relocation c.args.file of here (no_addend c.args.relocation c.requires.form) c.requires.named in
    on_ok_both c.use_symbol.result
    (λ resolved found. symbol_noted l us (ByInitializer s r)
    (symbol_id c.args.file c.args.relocation.r_symbolnum) c.args.self.now c.use_symbol.new.self is it
    (ap (global_name l) it) resolved found
    (ap (λ (t : Numbered). t.slots) c.use_symbol.ensures.others) (ap (λ (t : Numbered). t.stubs) c.use_symbol.ensures.others)
    (ap (λ (t : Numbered). t.own) c.use_symbol.ensures.others) refl refl)
    (c.use_symbol.ensures.noted l (imports_in l us) is.imports) (c.use_symbol.ensures.found l (imports_in l us) is.imports)

pub returns-clause-leads : goal.returns-clause-leads
returns-clause-leads c l us s r is next of here =
    if_ok (λ t. t ≡ target_with l (imports_in l us) (symbol_id c.args.file c.args.relocation.r_symbolnum))
    (λ t. t ≡ target_of_relocation l s r) c.use_symbol.result
    (λ t e. e ∙ pointer_leads l us (ByInitializer s r) s r c.args.relocation c.args.file next of here c.requires.form c.requires.named refl)
    (c.use_symbol.ensures.leads l (imports_in l us) is.imports)

pub returns-clause-why : goal.returns-clause-why
returns-clause-why c l counts noted s r is there of here =
    if_err (IsLostBy l c.args.file c.args.relocation) (Stands l counts) c.use_symbol.result
    (λ e lost. lost_stands l counts (ByInitializer s r) c.args.file c.args.relocation e there
    (subst (λ q. is_plain_pointer q ≡ true) of c.requires.form)
    (λ extern. names_it l s r c.args.relocation c.args.file of here (no_addend c.args.relocation c.requires.form) extern) lost)
    (c.use_symbol.ensures.why l noted is)

pub returns-clause-kept : goal.returns-clause-kept
returns-clause-kept c inputs keeps =
    files_stay c.use_symbol.result inputs c.args.self.now.resolved c.use_symbol.new.self.resolved
    (symbol_id c.args.file c.args.relocation.r_symbolnum) keeps c.use_symbol.ensures.noted c.use_symbol.ensures.kept
