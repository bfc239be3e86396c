use Rattle.std.proofs.Common.{◌∙◌, ◌/◌}
use Rattle.std.proofs.lemmas.Result.{err_from_is_err_and}
use Rattle.macho_model.specs.Objects.{section_at}
use Rattle.macho_consumed.specs.declared.listing.Kind.TheVariants.{Entries}
use Rattle.macho_consumed.specs.steps.Entries.{SectionKeeps, rows_in}
use Rattle.macho_consumed.proofs.InAll.{next_at, no_view, view_section, bad_entries, more_rows, more_hold}
use Rattle.macho_consumed.proofs.ReadInitializers.{all_named}
use Rattle.macho_consumed.proofs.gathering.gather_entries.Goals as goal

pub unreachable-requires : goal.unreachable-requires
unreachable-requires c =
    no_view Entries _ _ (next_at Entries _ _ _ (c.deref-at-items.ensures.value
    ∙ c.in_ok-refs.ensures) c.loop-at-test.true).0 c.in_default.ensures

pub add_entries-requires-clause-among : goal.add_entries-requires-clause-among
add_entries-requires-clause-among c =
    view_section Entries _ _ _ (next_at Entries _ _ _ (c.deref-at-items.ensures.value
    ∙ c.in_ok-refs.ensures) c.loop-at-test.true).0 c.in-Some.ensures

pub add_entries-requires-clause-named : goal.add_entries-requires-clause-named
add_entries-requires-clause-named c =
    all_named c.args.files.now c.args.symbols.now _ _ c.requires (next_at Entries _ _ _ (c.deref-at-items.ensures.value
    ∙ c.in_ok-refs.ensures) c.loop-at-test.true).0.listed.file c.in-Some.ensures

pub returns-in_err-add_entries-clause-why : goal.returns-in_err-add_entries-clause-why
returns-in_err-add_entries-clause-why c =
    let e = err_from_is_err_and c.from_residual-in_err-add_entries.result c.from_residual-in_err-add_entries.ensures.1 in
    rw (e.1, e.2)
    (bad_entries _ _ _ _ _ (next_at Entries _ _ _ (c.deref-at-items.ensures.value
    ∙ c.in_ok-refs.ensures) c.loop-at-test.true).1 c.in-Some.ensures c.in_err-add_entries.ensures.why)

pub loop-at-preserved : goal.loop-at-preserved
loop-at-preserved c = record {
  rows = more_rows (λ b s. rows_in b s.file s.section ((section_at b s.section).size / 32)) _ _ _ _ _ _ c.loop-at-test.true
      c.in-Some.ensures c.loop-at.invariant.rows c.in_ok-add_entries.ensures.added;
  fit = more_hold (λ b s. SectionKeeps c.args.symbols.now b s.file s.section) _ _ _ _ c.loop-at-test.true c.in-Some.ensures
      c.loop-at.invariant.fit c.in_ok-add_entries.ensures.found;
}
