-- The words are gathered, and then put into order.
use Rattle.std.proofs.Common.{List, IsPermutation, sym, subst, arith}
use Rattle.macho_image_rules.specs.declared.chain.Needed.{Needed}
use Rattle.std.proofs.lemmas.List.Sorted.{length_permutation}
use Rattle.macho_layout.specs.Placements.{placed_of}
use Rattle.macho_image_rules.specs.Needing.{AreNeededBy}
use Rattle.macho_image_rules.proofs.AllNeeded.{gathered_by}
use Rattle.macho_image_rules.proofs.Gathered.{written_over}
use Rattle.macho_image_rules.proofs.needing.needed_words.Goals as goal

pub returns-clause-done : goal.returns-clause-done
returns-clause-done g c = λ l viewed.
    let p = placed_of c.args.placement.now in
    let words = c.in_ok-needed.needed.items in
    let ordered = c.sort_by_address.new.needed in
    let kept = subst (λ (ws : List Needed). IsPermutation ws ordered) c.deref_mut.ensures.value c.sort_by_address.ensures.kept in
    subst (AreNeededBy l p)
    (sym (written_over c.in_ok-needed.needed.len words ordered (omega arith) (length_permutation words ordered kept)))
    (gathered_by l p c.deref.result.now c.deref-2.result.now c.in_ok-pointers.pointers.items c.deref-3.result.now words ordered
    c.deref.ensures.value c.deref-2.ensures.value (c.in_ok-pointers.ensures.done l p viewed c.deref.ensures.value) c.deref-3.ensures.value
    c.in_ok-needed.ensures.done kept)
