use Rattle.std.proofs.Common.{◌≡◌, ◌==◌, false, refl, ◌∙◌, ap, subst}
use Rattle.std.proofs.lemmas.Bool.{ne_eqb}
use Rattle.std.proofs.lemmas.Result.{err_from_is_err_and}
use Rattle.macho_records.specs.declared.constants.TheConstants.{ARM64_RELOC_ADDEND}
use Rattle.macho_model.specs.Grammar.{IsFile, IsObject}
use Rattle.macho_model.specs.Uses.{ByRelocation}
use Rattle.macho_promise.specs.Noted.{imports_in}
use Rattle.macho_needs.proofs.Using.{use_noted, leads_there, referent_is, addend_noted, lost_stands, names_it, with_use, named_there, files_kept}
use Rattle.macho_needs.proofs.needs.Needs.use_relocation.Goals as goal

pub returns-then-relocation-eq-ARM64_RELOC_ADDEND-clause-noted : goal.returns-then-relocation-eq-ARM64_RELOC_ADDEND-clause-noted
returns-then-relocation-eq-ARM64_RELOC_ADDEND-clause-noted c l us s r is next of here told =
    addend_noted l us s r c.args.self.now c.args.object.now c.args.relocation is of c.if-relocation-eq-ARM64_RELOC_ADDEND.true

pub returns-in_err-target-clause-why : goal.returns-in_err-target-clause-why
returns-in_err-target-clause-why c l counts noted s r is there of here =
    let p = err_from_is_err_and c.from_residual.result c.from_residual.ensures.1 in
    rw (p.1, p.2)
    (lost_stands l counts (ByRelocation s r) c.args.file c.args.relocation c.in_err-target.field-0.0 there refl
    (λ extern. names_it l s r c.args.relocation c.args.file of here (ne_eqb _ _ c.if-relocation-eq-ARM64_RELOC_ADDEND.false) extern)
    (c.in_err-target.ensures.why l noted is))

pub returns-in_err-note-clause-kept : goal.returns-in_err-note-clause-kept
returns-in_err-note-clause-kept c inputs keeps =
    files_kept inputs c.args.self.now.resolved c.lead.new.self.resolved c.args.file c.args.relocation keeps c.in_ok-target.ensures.noted

pub returns-clause-noted : goal.returns-clause-noted
returns-clause-noted c l us s r is next of here told =
    let other : (c.args.relocation.r_type == ARM64_RELOC_ADDEND) ≡ false = ne_eqb _ _ c.if-relocation-eq-ARM64_RELOC_ADDEND.false in
    let whole : IsObject c.args.object.now.bytes =
    subst (λ b. IsFile b c.args.object.now.bytes) c.requires.object c.is_dynamic-object.ensures.kept in
    let leads =
    c.in_ok-target.ensures.leads l (imports_in l us) is.imports (named_there l s r c.args.object.now c.args.relocation whole of other)
    ∙ leads_there l us s r c.args.object.now c.args.relocation c.args.file next of here other in
    let tables = c.in_ok-note.ensures
    ∙ ap (with_use c.args.relocation.r_type c.in_ok-target.target c.args.pointer) c.in_ok-target.ensures.others in
    use_noted l us s r c.args.self.now
    (record {
      resolved = c.lead.new.self.resolved;
      tables = c.note.new.self;
    }) c.args.object.now c.args.relocation c.args.file c.args.pointer
    c.in_ok-target.target is next of here told other (c.in_ok-target.ensures.noted l (imports_in l us) is.imports)
    (c.in_ok-target.ensures.found l (imports_in l us) is.imports) leads tables

pub returns-clause-leads : goal.returns-clause-leads
returns-clause-leads c l us s r is next of here =
    let other : (c.args.relocation.r_type == ARM64_RELOC_ADDEND) ≡ false = ne_eqb _ _ c.if-relocation-eq-ARM64_RELOC_ADDEND.false in
    let whole : IsObject c.args.object.now.bytes =
    subst (λ b. IsFile b c.args.object.now.bytes) c.requires.object c.is_dynamic-object.ensures.kept in
    c.in_ok-target.ensures.leads l (imports_in l us) is.imports (named_there l s r c.args.object.now c.args.relocation whole of other)
    ∙ leads_there l us s r c.args.object.now c.args.relocation c.args.file next of here other
    ∙ referent_is l s r c.args.object.now c.args.relocation of other

pub returns-clause-kept : goal.returns-clause-kept
returns-clause-kept c inputs keeps =
    files_kept inputs c.args.self.now.resolved c.lead.new.self.resolved c.args.file c.args.relocation keeps c.in_ok-target.ensures.noted
