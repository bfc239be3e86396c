-- The last object makes no call, any other makes one.
use Rattle.std.proofs.Common.{◌∙◌, ap}
use Rattle.macho_job.proofs.Objects.{generated_last, generated_calling}
use Rattle.macho_job.proofs.made.generated_object.Goals as goal
use Rattle.macho_job.proofs.made.generated_object.Goals.{then-index-count+in_ok-push_last, else-index-count+in_ok-push_calling}

pub returns : goal.returns
returns c = elim c.if-index-count.branch [
  | then-index-count+in_ok-push_last w ↦
      ap (λ b. b.items) w.bytes-is
      ∙ generated_last c.args.index c.args.count c.new-bytes.result.items c.push_head.new.bytes.items w.push_last.new.bytes.items
      w.if-index-count.true c.new-bytes.ensures.items c.in_ok-push_head.ensures w.in_ok-push_last.ensures
  | else-index-count+in_ok-push_calling w ↦
      ap (λ b. b.items) w.bytes-is
      ∙ generated_calling c.args.index c.args.count c.new-bytes.result.items c.push_head.new.bytes.items w.push_calling.new.bytes.items
      w.if-index-count.false c.new-bytes.ensures.items c.in_ok-push_head.ensures w.in_ok-push_calling.ensures
]
