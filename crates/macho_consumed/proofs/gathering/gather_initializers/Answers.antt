use Rattle.std.proofs.Common.{◌∙◌, ◌/◌}
use Rattle.std.proofs.lemmas.Result.{err_from_is_err_and}
use Rattle.macho_model.specs.Objects.{section_at}
use Rattle.macho_consumed.specs.declared.listing.Kind.TheVariants.{Initializers}
use Rattle.macho_consumed.specs.steps.Slots.{SectionFits, slot_rows}
use Rattle.macho_consumed.proofs.InAll.{next_at, no_view, view_section, bad_initializers, more_rows, more_hold}
use Rattle.macho_consumed.proofs.ReadInitializers.{all_named}
use Rattle.macho_consumed.proofs.gathering.gather_initializers.Goals as goal

pub unreachable-requires : goal.unreachable-requires
unreachable-requires c =
    no_view Initializers _ _ (next_at Initializers _ _ _ (c.deref-at-items.ensures.value
    ∙ c.in_ok-refs.ensures) c.loop-at-test.true).0 c.in_default.ensures

pub add_initializers-requires-clause-among : goal.add_initializers-requires-clause-among
add_initializers-requires-clause-among c =
    view_section Initializers _ _ _ (next_at Initializers _ _ _ (c.deref-at-items.ensures.value
    ∙ c.in_ok-refs.ensures) c.loop-at-test.true).0 c.in-Some.ensures

pub add_initializers-requires-clause-named : goal.add_initializers-requires-clause-named
add_initializers-requires-clause-named c =
    all_named c.args.files.now c.args.symbols.now _ _ c.requires (next_at Initializers _ _ _ (c.deref-at-items.ensures.value
    ∙ c.in_ok-refs.ensures) c.loop-at-test.true).0.listed.file c.in-Some.ensures

pub returns-in_err-add_initializers-clause-why : goal.returns-in_err-add_initializers-clause-why
returns-in_err-add_initializers-clause-why c =
    let e = err_from_is_err_and c.from_residual-in_err-add_initializers.result c.from_residual-in_err-add_initializers.ensures.1 in
    rw (e.1, e.2)
    (bad_initializers _ _ _ _ _ (next_at Initializers _ _ _ (c.deref-at-items.ensures.value
    ∙ c.in_ok-refs.ensures) c.loop-at-test.true).1 c.in-Some.ensures c.in_err-add_initializers.ensures.why)

pub loop-at-preserved : goal.loop-at-preserved
loop-at-preserved c = record {
  rows = more_rows (λ b s. slot_rows b s.file s.section ((section_at b s.section).size / 8)) _ _ _ _ _ _ c.loop-at-test.true
      c.in-Some.ensures c.loop-at.invariant.rows c.in_ok-add_initializers.ensures.added;
  fit = more_hold (λ b s. SectionFits c.args.symbols.now b s.file s.section) _ _ _ _ c.loop-at-test.true c.in-Some.ensures
      c.loop-at.invariant.fit c.in_ok-add_initializers.ensures.found;
}
