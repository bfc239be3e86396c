use Rattle.std.proofs.Common.{◌≡◌, ℕ, List, map, ap, subst, ◌∙◌, IfOk}
use Rattle.std.specs.List.{filter_map}
use Rattle.macho_symbols.specs.Kept.{ResolvedRows}
use Rattle.macho_symbols.specs.steps.Solved.{install_name_in}
use Rattle.macho_symbols.proofs.InstallNames.{names_kept}
use Rattle.macho_symbols.proofs.resolved.Resolved.libraries.Goals as goal

pub returns : goal.returns
returns c = λ l noted resolved.
    subst (λ (xs : List (List ℕ)). IfOk c.library_names.result (λ names. map (λ n. n.now) names.items ≡ xs))
    (ap (filter_map install_name_in) (c.deref.ensures.value ∙ ap (λ (r : ResolvedRows). r.files) c.self.view_is ∙ resolved.keeps)
    ∙ names_kept l.inputs) c.library_names.ensures
