-- One section after the other is asked for its pointers.
use Rattle.std.proofs.Common.{◌∙◌, ap, take_all, flat_map}
use Rattle.macho_fields.specs.Pointers.{pointers_in}
use Rattle.macho_image_rules.proofs.Gathered.{pointers_more, section_here}
use Rattle.macho_image_rules.proofs.needing.all_pointers.Goals as goal

pub loop-index-init : goal.loop-index-init
loop-index-init g c = λ l p viewed same. c.new-run.ensures.items

pub loop-index-preserved : goal.loop-index-preserved
loop-index-preserved g c = λ l p viewed same.
    pointers_more l c.args.sections.now c.loop-index.index _ c.loop-index.run.items c.section_pointers.new.run.items c.loop-index-test.true
    (c.loop-index.invariant l p viewed same)
    (c.in_ok-section_pointers.ensures.done l p viewed
    (section_here c.args.sections.now p.sections c.loop-index.index _ same c.loop-index-test.true))

pub returns : goal.returns
returns g c = record {
  done =
      λ l p viewed same. c.loop-index.invariant l p viewed same
      ∙ ap (flat_map (pointers_in l)) (take_all c.loop-index.index c.args.sections.now c.loop-index-test.false);
}
