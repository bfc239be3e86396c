use Rattle.std.proofs.Common.{ℕ, ◌+◌, List, [], ◌∷◌, ◌++◌, map, take, subst}
use Rattle.macho_export_lists.specs.Entries.{IsListOf}
use Rattle.macho_linking.proofs.OneList.{more_read}
use Rattle.macho_linking.proofs.lists.read_lists.Goals as goal

pub loop-text-preserved : goal.loop-text-preserved
loop-text-preserved c =
    let so_far : List (List ℕ) = take (1 + c.loop-text.text-index) (map (λ text. text.items) c.args.texts.now) in
    let added = c.in_ok-add.ensures.added so_far c.loop-text.invariant in
    subst (λ (ts : List (List ℕ)). IsListOf ts c.add.new.self)
    (more_read c.args.texts.now c.in-Some.others.now c.in-Some.first.now c.text-item.result c.loop-text.text-index
    c.in-Some.ensures.cases.0 c.loop-text-test.true c.text-item.is)
    (subst (λ (t : List ℕ). IsListOf (so_far ++ t ∷ []) c.add.new.self) c.deref-in-loop-text.ensures.value added)
