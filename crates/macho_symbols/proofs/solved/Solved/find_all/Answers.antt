use Rattle.std.proofs.Common.{◌≡◌, ap, sym, subst, ◌∙◌, arith, false, All}
use Rattle.std.proofs.lemmas.List.{length-map, take_all}
use Rattle.macho_export_lists.specs.Entries.{texts_of}
use Rattle.macho_symbols.specs.Kept.{noted_of}
use Rattle.macho_symbols.specs.steps.Targets.{is_missing_in, is_nothing}
use Rattle.macho_symbols.proofs.AskedFor.{missing_at, found_next}
use Rattle.macho_symbols.proofs.solved.Solved.find_all.Goals as goal

pub returns-then-is_nothing-clause-why : goal.returns-then-is_nothing-clause-why
returns-then-is_nothing-clause-why c =
    let s = c.args.self.now in
    missing_at s.files.items
    (noted_of s.imports.items) c.args.names.now c.loop-name.name-index c.name-item.result c.deref.result.now _ c.loop-name-test.true
    c.name-item.is c.deref.ensures.value (c.in_ok-from_slice.ensures.items ∙ c.deref-then-is_nothing.ensures.value
    ∙ sym c.deref.ensures.value)
    (ap is_nothing (sym c.named.ensures) ∙ sym c.is_nothing.ensures ∙ c.if-is_nothing.true)

pub loop-name-preserved : goal.loop-name-preserved
loop-name-preserved c =
    let s = c.args.self.now in
    found_next s.files.items
    (noted_of s.imports.items) c.args.names.now c.loop-name.name-index c.name-item.result c.deref.result.now c.loop-name-test.true
    c.name-item.is c.deref.ensures.value (ap is_nothing (sym c.named.ensures) ∙ sym c.is_nothing.ensures
    ∙ c.if-is_nothing.false) c.loop-name.invariant

pub returns-clause-found : goal.returns-clause-found
returns-clause-found c =
    let vs = c.args.names.now in
    subst (All (λ name. is_missing_in c.args.self.now.files.items name ≡ false))
    (take_all c.loop-name.name-index (texts_of vs) (omega (arith, length-map vs (λ v. v.items))))
    c.loop-name.invariant
