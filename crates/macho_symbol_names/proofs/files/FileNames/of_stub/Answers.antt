use Rattle.std.proofs.Common.{[], refl}
use Rattle.macho_symbol_names.specs.steps.Notes.{AreNoted}
use Rattle.macho_symbol_names.proofs.Noting.{none_noted, stub_noted}
use Rattle.macho_symbol_names.proofs.files.FileNames.of_stub.Goals as goal

pub invariant_of-result : goal.invariant_of-result
invariant_of-result c =
    let none : AreNoted c.new-text.result.items c.new-notes.result.items [] = rw
    (c.new-text.ensures.items, c.new-notes.ensures.items) none_noted in
    (c.in_ok-offer_names-2.ensures _ (c.in_ok-offer_names.ensures _ none)).held

pub returns : goal.returns
returns c =
    let none : AreNoted c.new-text.result.items c.new-notes.result.items [] = rw
    (c.new-text.ensures.items, c.new-notes.ensures.items) none_noted in
    let noted = stub_noted _ _ _ _ (c.in_ok-offer_names-2.ensures _ (c.in_ok-offer_names.ensures _ none)) in
    rw (noted.are, c.deref.ensures.value, c.deref-2.ensures.value, c.as_bytes.ensures.value) refl
