-- There is one signature, or none of the form.
use Rattle.std.proofs.Common.{◌≡◌, map, subst, sym, ◌∙◌, arith, IfOk}
use Rattle.macho_records.specs.declared.constants.TheConstants.{LC_CODE_SIGNATURE}
use Rattle.macho_model.specs.Commands.{numbered}
use Rattle.macho_loader.specs.Lists.{range_of}
use Rattle.macho_retool.specs.steps.Formed.{IsFormIn}
use Rattle.macho_retool.proofs.Found.{form_found, form_missing}
use Rattle.macho_retool.proofs.form.form_of.Goals as goal
use Rattle.macho_retool.proofs.form.form_of.Goals.{in_default, in_default-2}

pub returns-in-len1 : goal.returns-in-len1
returns-in-len1 c =
    let b = c.args.bytes.now in
    let are : c.as_slice.result.now ≡ map (range_of b) (numbered LC_CODE_SIGNATURE b) =
    subst (λ x. c.as_slice.result.now ≡ map (range_of x) (numbered LC_CODE_SIGNATURE x)) c.requires.same
    (c.as_slice.ensures.value ∙ c.in_ok-ranges.ensures) in
    form_found b c.as_slice.result.now _ c.form_in.result are (omega (arith, c.in-len1.len_below, c.in-len1.len_at_least))
    c.form_in.ensures

pub returns : goal.returns
returns c =
    let b = c.args.bytes.now in
    let are : c.as_slice.result.now ≡ map (range_of b) (numbered LC_CODE_SIGNATURE b) =
    subst (λ x. c.as_slice.result.now ≡ map (range_of x) (numbered LC_CODE_SIGNATURE x)) c.requires.same
    (c.as_slice.ensures.value ∙ c.in_ok-ranges.ensures) in
    elim c.if-as_slice-lt1.branch [
      | in_default w ↦ let few = w.in_default in
          subst (λ r. IfOk r (IsFormIn b)) (sym w.result-is) (form_missing b c.as_slice.result.now are (λ one. absurd (omega
          (arith, one, few))))
      | in_default-2 w ↦ let many = w.in_default in
          subst (λ r. IfOk r (IsFormIn b)) (sym w.result-is) (form_missing b c.as_slice.result.now are (λ one. absurd (omega
          (arith, one, many))))
    ]
