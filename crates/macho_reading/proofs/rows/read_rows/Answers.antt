-- The rows are the link's. What they use can be noted, since they are rows of the link of the inputs that are viewed, and these are
-- objects.
use Rattle.std.proofs.Common.{List, sym, subst, All}
use Rattle.std.proofs.lemmas.Result.{err_from_is_err_and}
use Rattle.macho_needs.proofs.Using.{link_with}
use Rattle.macho_consumed.specs.declared.rows.Initializer.{Initializer}
use Rattle.macho_consumed.specs.declared.rows.UnwindEntry.{UnwindEntry}
use Rattle.macho_reading.specs.steps.Rows.{IsUsable, IsUsableEntry}
use Rattle.macho_reading.proofs.Usable.{are_kept, is_resolved, are_views_of, objects_read, initializers_usable, entries_usable}
use Rattle.macho_reading.proofs.rows.read_rows.Goals as goal

pub read_initializers-requires : goal.read_initializers-requires
read_initializers-requires c = are_kept c.args.views.now c.args.symbols.now.files c.requires.few c.requires.same

pub returns-in_err-initializers-clause-why : goal.returns-in_err-initializers-clause-why
returns-in_err-initializers-clause-why c l noted views resolved =
    let e = err_from_is_err_and c.from_residual.result c.from_residual.ensures.1 in
    rw (e.1, e.2) (c.in_err-initializers.ensures.why l noted views resolved)

pub read_entries-requires : goal.read_entries-requires
read_entries-requires c = are_kept c.args.views.now c.args.symbols.now.files c.requires.few c.requires.same

pub returns-clause-usable : goal.returns-clause-usable
returns-clause-usable c =
    let same = c.requires.same in
    let l = link_with same.inputs in
    let views = are_views_of c.args.views.now same.inputs same.are in
    let resolved = is_resolved c.args.symbols.now same.inputs same.keeps in
    let read = objects_read c.args.views.now same.inputs same.are c.are_whole.ensures in
    let keeps = resolved.keeps in
    record {
      initializers =
          subst (λ (xs : List Initializer). All (IsUsable c.args.symbols.now) xs) (sym (c.in_ok-initializers.ensures.rows l views))
          (initializers_usable l c.args.symbols.now read keeps
          (c.in_ok-initializers.ensures.keeps l c.args.symbols.now.noted views resolved));
      entries = subst (λ (xs : List UnwindEntry). All (IsUsableEntry c.args.symbols.now) xs) (sym (c.in_ok-entries.ensures.rows l views))
          (entries_usable l c.args.symbols.now read keeps (c.in_ok-entries.ensures.keeps l c.args.symbols.now.noted views resolved));
    }

pub returns-in_err-entries-clause-why : goal.returns-in_err-entries-clause-why
returns-in_err-entries-clause-why c l noted views resolved =
    let e = err_from_is_err_and c.from_residual-in_err-entries.result c.from_residual-in_err-entries.ensures.1 in
    rw (e.1, e.2) (c.in_err-entries.ensures.why l noted views resolved)
