-- The starts are those of the first table.
use Rattle.std.proofs.Common.{refl, sym, ap, ◌∙◌, ℕ, List, length}
use Rattle.macho_image_walks.proofs.WordWalk.{starts_found, starts_missing}
use Rattle.macho_image_walks.proofs.chain_words.pages_of.Goals as goal

pub returns-in-Some : goal.returns-in-Some
returns-in-Some c =
    c.pages_in.ensures
    ∙ sym (ap (λ (xs : List ℕ). length xs) (starts_found c.args.bytes.now c.args.number c.in-Some.table
    (c.in-Some.ensures.found c.in-Some.table refl)))

pub returns-in-None : goal.returns-in-None
returns-in-None c = sym (ap (λ (xs : List ℕ). length xs) (starts_missing c.args.bytes.now c.args.number (c.in-None.ensures.only refl)))
