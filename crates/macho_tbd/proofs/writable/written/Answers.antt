-- Each test decides a part of what a name must be.
use Rattle.std.proofs.Common.{◌≡◌, Some, None, ℕ, Bool, true, false, List, ◌∙◌, sym, ap, if◌then◌else◌}
use Rattle.std.specs.Str.{is_utf8}
use Rattle.std.proofs.lemmas.Bool.{false_from_ne_true}
use Rattle.std.proofs.lemmas.Str.{IsUtf8-from_is_utf8, is_utf8-from_IsUtf8}
use Rattle.macho_tbd.specs.Writable.{is_writable}
use Rattle.macho_tbd.proofs.Scalars.{no_text, barred, unfit, fits_quotes}
use Rattle.macho_tbd.proofs.writable.written.Goals.{then-has_control-via-then-has_control, then-has_control-via-else-has_control+then-has_both}
use Rattle.macho_tbd.proofs.writable.written.Goals as goal

refused : (name : List ℕ) → is_writable name ≡ false → None ≡ (if is_writable name then Some name else None)
refused name e = ap (λ (t : Bool). if t then Some name else None) (sym e)

taken : (name : List ℕ) → is_writable name ≡ true → Some name ≡ (if is_writable name then Some name else None)
taken name e = ap (λ (t : Bool). if t then Some name else None) (sym e)

pub returns-in_default : goal.returns-in_default
returns-in_default c =
    let name = c.args.name.now in
    refused name (no_text name (false_from_ne_true (is_utf8 name) (λ t. c.in_default.ensures.cases.0 (IsUtf8-from_is_utf8 name t))))

pub returns-then-has_control : goal.returns-then-has_control
returns-then-has_control c =
    let name = c.args.name.now in
    elim c.then-has_control.branch [
      | then-has_control-via-then-has_control w ↦ refused name (barred name (sym c.has_control.ensures ∙ w.if-has_control.true))
      | then-has_control-via-else-has_control+then-has_both w ↦ refused name (unfit name (sym w.has_both.ensures ∙ w.if-has_both.true))
    ]

pub returns : goal.returns
returns c =
    let name = c.args.name.now in
    ap Some c.in-Ok.ensures.cases.0 ∙ taken name (fits_quotes name (is_utf8-from_IsUtf8 name c.in-Ok.ensures.cases.1)
    (sym c.has_control.ensures ∙ c.if-has_control.false) (sym c.has_both.ensures ∙ c.if-has_both.false))
