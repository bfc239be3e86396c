-- Without a fixup table no page has a chain.
use Rattle.std.proofs.Common.{ℕ, List, length, refl, ap, arith}
use Rattle.macho_model.specs.Chain.{chain_segment, chain_segments}
use Rattle.macho_image_walks.proofs.ChainSets.{page_has_start}
use Rattle.macho_image_walks.proofs.WordWalk.{starts_missing}
use Rattle.macho_loader.proofs.word_rules.first_unfit_word.Goals as goal

pub first_unfit_in-requires-clause-table : goal.first_unfit_in-requires-clause-table
first_unfit_in-requires-clause-table c = c.in-Some.ensures.found c.in-Some.table refl

pub returns-in-None-clause-only : goal.returns-in-None-clause-only
returns-in-None-clause-only c _ number s page a is on =
    let b = c.args.bytes.now in
    let within = page_has_start (chain_segments b) b (chain_segment b (number, s)) page a on in
    let none = ap (λ (xs : List ℕ). length xs) (starts_missing b number (c.in-None.ensures.only refl)) in
    absurd (omega (arith, within, none))
