-- The name is noted, and the target gets a slot.
use Rattle.std.proofs.Common.{◌≡◌, true, Some, refl, ◌∙◌, ap, subst}
use Rattle.std.proofs.lemmas.Result.{err_from_is_err_and}
use Rattle.macho_model.specs.Uses.{ByPersonality, global_name}
use Rattle.macho_model.specs.Targets.{same_target}
use Rattle.macho_model.specs.Consumed.{is_plain_pointer}
use Rattle.macho_symbols.specs.Kept.{symbol_id}
use Rattle.macho_promise.specs.Noted.{imports_in}
use Rattle.macho_needs.specs.Tables.{Numbered, with_some}
use Rattle.macho_needs.proofs.Using.{names_it, lost_stands}
use Rattle.macho_needs.proofs.Pointers.{symbol_noted, pointer_leads, files_stay}
use Rattle.macho_needs.proofs.needs.Needs.use_personality.Goals as goal
use Rattle.macho_model.proofs.Sections.{no_addend}

pub returns-in_err-target-clause-why : goal.returns-in_err-target-clause-why
returns-in_err-target-clause-why c l counts noted s r is there of here =
    let p = err_from_is_err_and c.from_residual.result c.from_residual.ensures.1 in
    rw (p.1, p.2)
    (lost_stands l counts (ByPersonality s r) c.args.file c.args.relocation c.in_err-target.field-0.0 there
    (subst (λ q. is_plain_pointer q ≡ true) of c.requires.form)
    (λ extern. names_it l s r c.args.relocation c.args.file of here (no_addend c.args.relocation c.requires.form) extern)
    (c.in_err-target.ensures.why l noted is))

pub returns-in_err-add_slot-clause-kept : goal.returns-in_err-add_slot-clause-kept
returns-in_err-add_slot-clause-kept c inputs keeps =
    files_stay c.use_symbol.result inputs c.args.self.now.resolved c.use_symbol.new.self.resolved
    (symbol_id c.args.file c.args.relocation.r_symbolnum) keeps c.use_symbol.ensures.noted c.use_symbol.ensures.kept

pub returns-clause-noted : goal.returns-clause-noted
returns-clause-noted c l us s r is next of here =
    let it = names_it l s r c.args.relocation c.args.file of here (no_addend c.args.relocation c.requires.form) c.requires.named in
    let leads = c.in_ok-target.ensures.leads l (imports_in l us) is.imports
    ∙ pointer_leads l us (ByPersonality s r) s r c.args.relocation c.args.file next of here c.requires.form c.requires.named refl in
    let slots = ap (λ (t : Numbered). t.slots) c.in_ok-add_slot.ensures
    ∙ ap (λ (t : Numbered). with_some same_target t.slots (Some c.in_ok-target.target)) c.in_ok-target.ensures.others
    ∙ ap (λ t. with_some same_target c.args.self.now.tables.slots (Some t)) leads in
    symbol_noted l us (ByPersonality s r) (symbol_id c.args.file c.args.relocation.r_symbolnum) c.args.self.now
    (record { resolved = c.use_symbol.new.self.resolved; tables = c.add_slot.new.self })
    is it (ap (global_name l) it) (c.in_ok-target.ensures.noted l (imports_in l us) is.imports)
    (c.in_ok-target.ensures.found l (imports_in l us) is.imports) slots
    (ap (λ (t : Numbered). t.stubs) c.in_ok-add_slot.ensures ∙ ap (λ (t : Numbered). t.stubs) c.in_ok-target.ensures.others)
    (ap (λ (t : Numbered). t.own) c.in_ok-add_slot.ensures ∙ ap (λ (t : Numbered). t.own) c.in_ok-target.ensures.others) refl refl

pub returns-clause-leads : goal.returns-clause-leads
returns-clause-leads c l us s r is next of here =
    c.in_ok-target.ensures.leads l (imports_in l us) is.imports
    ∙ pointer_leads l us (ByPersonality s r) s r c.args.relocation c.args.file next of here c.requires.form c.requires.named refl

pub returns-clause-kept : goal.returns-clause-kept
returns-clause-kept c inputs keeps =
    files_stay c.use_symbol.result inputs c.args.self.now.resolved c.use_symbol.new.self.resolved
    (symbol_id c.args.file c.args.relocation.r_symbolnum) keeps c.use_symbol.ensures.noted c.use_symbol.ensures.kept
