-- The words of the segment that the walk came to fit; behind the last one those of all do.
use Rattle.std.proofs.Common.{refl, arith}
use Rattle.macho_image_walks.specs.declared.walk.Listed.TheVariants as list
use Rattle.macho_image_walks.proofs.UnfitWords.{same_segment_fits, each_word}
use Rattle.macho_loader.proofs.ListWalks.{more_below}
use Rattle.macho_loader.proofs.word_rules.first_unfit_in.Goals as goal

pub loop-step-init : goal.loop-step-init
loop-step-init c =
    let none = c.first-at.ensures.none in
    record {
      at = c.first-at.ensures.at list.Segments c.args.bytes.now;
      blank = c.no_records-blank.ensures;
      fit = λ k lt. absurd (omega (arith, lt, none));
    }

pub unfit_by_record-requires-clause-chained : goal.unfit_by_record-requires-clause-chained
unfit_by_record-requires-clause-chained c =
    record { table = c.requires.table; nth = (c.in-Some.ensures.found c.in-Some.step refl).nth }

pub loop-step-preserved : goal.loop-step-preserved
loop-step-preserved c =
    let step = c.in-Some.ensures.found c.in-Some.step refl in
    record {
      at = step.next;
      blank = c.unfit_by_record.ensures.blank;
      fit = more_below c.loop-step.at.number c.in-Some.step.next.number step.more c.loop-step.invariant.fit
          (λ place nth page. same_segment_fits c.args.bytes.now c.loop-step.at.number place c.in-Some.step.place page nth step.nth
          (c.unfit_by_record.ensures.only c.in_default-unfit_by_record.is page));
    }

pub returns-clause-only : goal.returns-clause-only
returns-clause-only c _ =
    let past = c.step_from.ensures.only c.in_default.is in
    each_word c.args.bytes.now (λ k within place nth. c.loop-step.invariant.fit k (omega (arith, past, nth.within)) place nth)
