use Rattle.std.proofs.Common.{◌≡◌, ◌||◌, Bool, true, false, ap, sym, ◌∙◌}
use Rattle.macho_export_lists.specs.Entries.{texts_of}
use Rattle.macho_export_lists.specs.steps.Indexed.{is_match_in}
use Rattle.macho_export_lists.proofs.Indexed.{found}
use Rattle.macho_export_lists.proofs.table.PatternTable.has_match.Goals as goal
use Rattle.macho_export_lists.proofs.table.PatternTable.has_match.Goals.{then-has_match, else-has_match}

joined : (a b c v : Bool) → v ≡ (a || b) → (v || c) ≡ (a || (b || c))
joined true b c v is = ap (λ x. x || c) is
joined false b c v is = ap (λ x. x || c) is

pub returns-then-has_match-2 : goal.returns-then-has_match-2
returns-then-has_match-2 c =
    let patterns = texts_of c.args.patterns.now in
    let name = c.args.name.now in
    let front = is_match_in c.args.self.now.fronts patterns name in
    let middle = is_match_in c.args.self.now.middles patterns name in
    let back = is_match_in c.args.self.now.backs patterns name in
    let either : c.if-has_match.value ≡ (front || middle) = elim c.if-has_match.branch [
      | then-has_match w ↦ w.value-is ∙ w.if-has_match.true ∙ ap (λ a. a || middle) (sym w.if-has_match.true ∙ c.has_match.ensures)
      | else-has_match w ↦ w.value-is ∙ w.has_match-else-has_match.ensures
          ∙ ap (λ a. a || middle) (sym w.if-has_match.false ∙ c.has_match.ensures)
    ] in
    let joins = joined front middle back c.if-has_match.value either in
    c.if-has_match-2.true ∙ ap (λ a. a || back) (sym c.if-has_match-2.true) ∙ joins ∙ found patterns c.args.self.now name c.requires

pub returns-else-has_match-2 : goal.returns-else-has_match-2
returns-else-has_match-2 c =
    let patterns = texts_of c.args.patterns.now in
    let name = c.args.name.now in
    let front = is_match_in c.args.self.now.fronts patterns name in
    let middle = is_match_in c.args.self.now.middles patterns name in
    let back = is_match_in c.args.self.now.backs patterns name in
    let either : c.if-has_match.value ≡ (front || middle) = elim c.if-has_match.branch [
      | then-has_match w ↦ w.value-is ∙ w.if-has_match.true ∙ ap (λ a. a || middle) (sym w.if-has_match.true ∙ c.has_match.ensures)
      | else-has_match w ↦ w.value-is ∙ w.has_match-else-has_match.ensures
          ∙ ap (λ a. a || middle) (sym w.if-has_match.false ∙ c.has_match.ensures)
    ] in
    let joins = joined front middle back c.if-has_match.value either in
    c.has_match-else-has_match-2.ensures ∙ ap (λ a. a || back) (sym c.if-has_match-2.false) ∙ joins
    ∙ found patterns c.args.self.now name c.requires
