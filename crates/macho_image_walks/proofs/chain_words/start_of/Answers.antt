-- The starts are those of the first table; without one there are none.
use Rattle.std.proofs.Common.{◌<◌, ℕ, List, length, slice_index, refl, sym, ap, subst, ◌∙◌, arith}
use Rattle.macho_image_walks.specs.Readings.{table_there}
use Rattle.macho_image_walks.proofs.WordWalk.{starts_found, starts_missing, start_is}
use Rattle.macho_image_walks.proofs.chain_words.start_of.Goals as goal

pub returns-in-Some : goal.returns-in-Some
returns-in-Some c =
    let same = starts_found c.args.bytes.now c.args.number c.in-Some.table (c.in-Some.ensures.found c.in-Some.table refl) in
    c.start_of_page.ensures
    ∙ start_is c.args.bytes.now (table_there c.args.bytes.now c.in-Some.table) c.args.number c.args.page
    (subst (λ xs. c.args.page < length xs) same c.requires)
    ∙ sym (ap (λ (xs : List ℕ). slice_index xs c.args.page) same)

pub returns-in-None : goal.returns-in-None
returns-in-None c =
    let none = ap (λ (xs : List ℕ). length xs) (starts_missing c.args.bytes.now c.args.number (c.in-None.ensures.only refl)) in
    let among = c.requires in
    absurd (omega (arith, none, among))
