-- What is kept of the install names, each once, is what the link needs.
use Rattle.std.proofs.Common.{◌≡◌, ℕ, List, filter, map, ap, refl, subst, ◌∙◌, Bor, IfOk}
use Rattle.std.specs.Str.{bytes_eq}
use Rattle.macho_model.specs.Needs.{distinct, imports_of}
use Rattle.macho_stub_lines.specs.Lists.{texts}
use Rattle.macho_inputs.specs.steps.Libraries.{is_kept}
use Rattle.macho_inputs.proofs.Naming.{needed_are}
use Rattle.macho_inputs.proofs.libraries.needed_libraries.Goals as goal

pub returns : goal.returns
returns c = λ l strips resolved.
    let asked = texts c.in_ok-asked.asked.keys in
    let once = c.in_ok-names-2.ensures ∙ ap (λ (xs : List (Bor (List ℕ))). distinct bytes_eq (texts xs)) c.deref.ensures.value
    ∙ ap (distinct bytes_eq) (c.in_ok-names.ensures l (imports_of l) resolved) in
    subst (λ (xs : List (List ℕ)). IfOk c.kept_names.result (λ kept. map (λ name. name.items) kept.items ≡ xs))
    (ap (λ (xs : List (Bor (List ℕ))). filter (is_kept c.args.dead_strip_dylibs asked) (texts xs)) c.as_slice.ensures.keys
    ∙ ap (filter (is_kept c.args.dead_strip_dylibs asked)) once
    ∙ needed_are l l.inputs c.imports.result.now c.args.dead_strip_dylibs asked refl strips (c.imports.ensures l (imports_of l) resolved)
    c.in_ok-asked.ensures)
    c.kept_names.ensures
