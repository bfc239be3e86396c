use Rattle.std.proofs.Common.{ℕ, map, refl, sym, ap, subst, ◌∙◌}
use Rattle.std.proofs.lemmas.Result.{on_ok_weaker}
use Rattle.macho_model.specs.Needs.{imports_of}
use Rattle.macho_symbols.specs.Entries.{entry_of}
use Rattle.macho_promise_laws.specs.Writing.{FitsRange}
use Rattle.macho_linking.specs.steps.Planned.{placement_of}
use Rattle.macho_linking.proofs.FixupsPut.{AreListed, fit_table, are_of_link, are_tellable, fits_range, fixups_put}
use Rattle.macho_linking.proofs.tables.write_imports.Goals as goal

pub import_table-requires : goal.import_table-requires
import_table-requires c =
    let l = c.requires.link.0 in
    let planned = c.requires.link.1 in
    fit_table l c.args.b.now c.imports-imports.result.now c.deref.result.now c.args.b.now.libraries.now planned
    (record {
      imports_are = c.imports-imports.ensures l (imports_of l) planned.read.resolved;
      own_are = ap (map entry_of) c.deref.ensures.value ∙ c.in_ok-own.ensures;
      libraries_are = refl;
    })

pub write_fixup_table-requires : goal.write_fixup_table-requires
write_fixup_table-requires c =
    let l = c.requires.link.0 in
    let planned = c.requires.link.1 in
    let of_link = are_of_link l c.args.b.now c.imports-imports.result.now c.deref.result.now c.args.b.now.libraries.now planned
    (record {
      imports_are = c.imports-imports.ensures l (imports_of l) planned.read.resolved;
      own_are = ap (map entry_of) c.deref.ensures.value ∙ c.in_ok-own.ensures;
      libraries_are = refl;
    }) in
    record {
      fits = subst (λ (n : ℕ). FitsRange (placement_of c.args.b.now) c.args.run.now c.in_ok-table.table n) (sym c.requires.long)
          (fits_range l c.args.b.now c.args.run.now c.in_ok-table.table planned c.requires.link.2
          (c.in_ok-table.ensures.done l of_link) c.in_ok-table.ensures.fits);
    }

pub returns-clause-done : goal.returns-clause-done
returns-clause-done c l planned run_is =
    let listed : AreListed l c.args.b.now c.imports-imports.result.now c.deref.result.now c.args.b.now.libraries.now = record {
      imports_are = c.imports-imports.ensures l (imports_of l) planned.read.resolved;
      own_are = ap (map entry_of) c.deref.ensures.value ∙ c.in_ok-own.ensures;
      libraries_are = refl;
    } in
    let of_link = are_of_link l c.args.b.now c.imports-imports.result.now c.deref.result.now c.args.b.now.libraries.now planned listed in
    on_ok_weaker c.write_fixup_table.result
    (fixups_put l c.args.b.now c.args.run.now c.in_ok-table.table c.args.out.now c.write_fixup_table.new.out
    (c.in_ok-table.ensures.done l of_link) c.in_ok-table.ensures.fits
    (are_tellable l c.args.b.now c.imports-imports.result.now c.deref.result.now c.args.b.now.libraries.now planned listed))
    c.write_fixup_table.ensures.done
