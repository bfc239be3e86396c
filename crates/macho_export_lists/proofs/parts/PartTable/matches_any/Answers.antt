use Rattle.std.proofs.Common.{◌≡◌, ◌<◌, [], length, get_or, sym, ap, ◌∙◌, arith}
use Rattle.std.proofs.lemmas.List.{length-map, get_or-map}
use Rattle.std.proofs.lemmas.List.Folds.{list_any_at}
use Rattle.macho_export_lists.specs.Entries.{texts_of}
use Rattle.macho_export_lists.specs.steps.Indexed.{is_match_of}
use Rattle.macho_export_lists.proofs.parts.PartTable.matches_any.Goals as goal

pub returns-then-matches_one : goal.returns-then-matches_one
returns-then-matches_one c =
    let groups = c.args.self.now.groups.items in
    let at = c.loop-numbers.numbers-index in
    let tests = is_match_of (texts_of c.args.patterns.now) c.args.name.now in
    let within : at < length groups = omega (arith, c.loop-numbers-test.true, ap length c.deref-numbers-items.ensures.value) in
    let item : get_or groups at c.numbers-item.result ≡ c.numbers-item.result =
    ap (λ gs. get_or gs at c.numbers-item.result) (sym c.deref-numbers-items.ensures.value) ∙ sym c.numbers-item.is in
    let numbers : get_or (texts_of groups) at [] ≡ c.deref.result.now =
    get_or-map (λ v. v.items) groups at c.numbers-item.result [] within ∙ ap (λ v. v.items) item ∙ sym c.deref.ensures.value in
    sym (list_any_at tests (texts_of groups) at [] (omega (arith, within, length-map groups (λ v. v.items)))
    (ap tests numbers ∙ sym c.matches_one.ensures ∙ c.if-matches_one.true))
