-- The segment with the number has one word at the address, or none.
use Rattle.std.proofs.Common.{refl}
use Rattle.macho_image_walks.proofs.LoadedMemory.{none_is_some, made_found, nth_makes_nothing, nth_has_no_word}
use Rattle.macho_image_walks.proofs.fixed.made_of_nth.Goals as goal

pub returns-in-Some-word_of-clause-found : goal.returns-in-Some-word_of-clause-found
returns-in-Some-word_of-clause-found c v is choice gives =
    made_found c.args.bytes.now c.args.number c.in-Some.place c.args.slide choice c.args.word_at c.in-Some-word_of.word v
    (c.in-Some.ensures.found c.in-Some.place refl) (c.in-Some-word_of.ensures.found c.in-Some-word_of.word refl)
    (c.made.ensures.found v is choice gives)

pub returns-in-Some-word_of-clause-only : goal.returns-in-Some-word_of-clause-only
returns-in-Some-word_of-clause-only c is =
    nth_makes_nothing c.args.bytes.now c.args.number c.in-Some.place c.args.slide c.args.addresses.now c.args.word_at c.in-Some-word_of.word
    (c.in-Some.ensures.found c.in-Some.place refl) c.in-Some-word_of.ensures.only (c.made.ensures.only is)

pub returns-in-None-word_of-clause-only : goal.returns-in-None-word_of-clause-only
returns-in-None-word_of-clause-only c _ =
    nth_has_no_word c.args.bytes.now c.args.number c.in-Some.place c.args.slide c.args.addresses.now c.args.word_at
    (c.in-Some.ensures.found c.in-Some.place refl) (λ w has. none_is_some w (c.in-None-word_of.ensures.only w has))
