-- Memory is the covering chain word's byte, or where none covers the segment's.
use Rattle.std.proofs.Common.{refl, arith}
use Rattle.macho_image_walks.proofs.LoadedMemory.{word_byte_held, word_byte_lacks, segment_byte_held, segment_byte_lacks}
use Rattle.macho_image_walks.proofs.mapped.memory_byte.Goals as goal

pub overflow_sub-own-in-Some : goal.overflow_sub-own-in-Some
overflow_sub-own-in-Some c =
    let covers = (c.in-Some.ensures.found c.in-Some.word_at refl).covers in
    omega (arith, covers.1)

pub byte_of_word-requires : goal.byte_of_word-requires
byte_of_word-requires c =
    let covers = (c.in-Some.ensures.found c.in-Some.word_at refl).covers in
    omega (arith, covers.1, covers.2)

pub returns-in-Some-clause-found : goal.returns-in-Some-clause-found
returns-in-Some-clause-found c v is choice gives =
    let behind = c.if-address-slide.false in
    word_byte_held c.args.bytes.now c.args.slide c.args.address c.in-Some.word_at v choice (omega (arith, behind))
    (c.in-Some.ensures.found c.in-Some.word_at refl)
    (c.byte_of_word.ensures.found v is choice gives)

pub returns-in-Some-clause-only : goal.returns-in-Some-clause-only
returns-in-Some-clause-only c is v choice gives held =
    word_byte_lacks c.args.bytes.now c.args.slide c.args.address c.in-Some.word_at v choice (c.in-Some.ensures.found c.in-Some.word_at refl)
    (c.byte_of_word.ensures.only is v choice gives) held

pub returns-in-None-clause-found : goal.returns-in-None-clause-found
returns-in-None-clause-found c v is choice gives =
    let behind = c.if-address-slide.false in
    segment_byte_held c.args.bytes.now c.args.slide c.args.address v choice (omega (arith, behind)) (c.in-None.ensures.only refl)
    (c.segment_byte.ensures.found v is)

pub returns-in-None-clause-only : goal.returns-in-None-clause-only
returns-in-None-clause-only c is v choice gives held =
    segment_byte_lacks c.args.bytes.now c.args.slide c.args.address v choice (c.in-None.ensures.only refl)
    (c.segment_byte.ensures.only is v) held
