-- Four words that begin with `-id` ask for another name of the image's own; five words ask for what their option and number say.
use Rattle.std.proofs.Common.{◌≡◌, ◌∙◌, sym, arith}
use Rattle.std.proofs.lemmas.Slice.Eq.{bytes_eq-Decides}
use Rattle.std.specs.Prelude.{codes}
use Rattle.std.specs.String.{string_bytes}
use Rattle.macho_retool.proofs.Words.{four_words, nothing_asked}
use Rattle.macho_retool.proofs.running.asked_of.Goals as goal

pub returns-in-len4 : goal.returns-in-len4
returns-in-len4 c =
    let option : codes "-id" ≡ string_bytes c.option-item.result =
    sym ((bytes_eq-Decides c.as_str.result.now (codes "-id")).0 (sym c.eq.ensures ∙ c.if-eq.true)) ∙ c.as_str.ensures.value in
    four_words c.args.words.now c.option-item.result c.name-item.result c.image-item.result c.output-item.result (codes "-id")
    c.deref.result.now c.deref-in-len4.result.now c.deref-in-len4-2.result.now c.in-len4.len_at_least c.in-len4.len_below c.option-item.is
    c.name-item.is c.image-item.is c.output-item.is option c.deref.ensures c.deref-in-len4.ensures c.deref-in-len4-2.ensures

pub returns-in-None : goal.returns-in-None
returns-in-None c job asks =
    nothing_asked c.args.words.now c.option-item-then-words-lt6.result c.number-item.result c.deref-in-len5.result.now
    c.deref-in-len5-2.result.now c.numbered.result (omega (arith, c.in-len5.len_at_least)) c.option-item-then-words-lt6.is
    c.number-item.is c.deref-in-len5.ensures c.deref-in-len5-2.ensures c.numbered.ensures.only c.in-None.is job.asked job.image job.output
    asks
