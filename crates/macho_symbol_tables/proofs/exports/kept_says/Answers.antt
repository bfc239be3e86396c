-- An import has the number of its library.
use Rattle.std.proofs.Common.{◌≡◌, ◌<◌, [], length, subst, sym, ap, ◌∙◌}
use Rattle.std.specs.Prelude.{map}
use Rattle.std.proofs.lemmas.List.{get_or-map}
use Rattle.macho_model.specs.declared.targets.Target.{Target}
use Rattle.macho_symbols.specs.declared.solved.Import.{Import}
use Rattle.macho_linkedit.specs.declared.exports.ExportSays.TheVariants.{Reexport}
use Rattle.macho_symbol_tables.specs.steps.Says.{IsAmong, number_in, library_at, says_kept}
use Rattle.macho_symbol_tables.proofs.exports.kept_says.Goals as goal

pub returns-in-Import : goal.returns-in-Import
returns-in-Import c =
    let imports = c.args.imports.now in
    let names = map (λ n. n.items) c.args.libraries.now in
    let below : c.in-Import.id < length imports = subst (IsAmong (length imports)) c.in-Import.is c.requires.among in
    let library : library_at imports c.in-Import.id ≡ c.deref.result.now =
    get_or-map (λ (i : Import). i.library.items) imports c.in-Import.id c.index-imports-id.result [] below
    ∙ sym c.deref.ensures.value in
    subst (λ (t : Target). Reexport c.library_number.result ≡ says_kept imports names t) (sym c.in-Import.is)
    (ap Reexport (c.library_number.ensures.is ∙ ap (number_in names) (sym library)))
