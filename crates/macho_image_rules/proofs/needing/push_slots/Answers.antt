-- Each slot's word is pushed behind those before it.
use Rattle.std.proofs.Common.{◌≡◌, ◌∙◌, ◌++◌, ℕ, arith, ap, length}
use Rattle.macho_image_rules.specs.steps.Gathered.{slot_words}
use Rattle.macho_image_rules.proofs.Gathered.{slots_more, no_slots}
use Rattle.macho_image_rules.proofs.needing.push_slots.Goals as goal

pub loop-index-init : goal.loop-index-init
loop-index-init c = no_slots c.args.slots.now c.args.needed.now.items

pub loop-index-preserved : goal.loop-index-preserved
loop-index-preserved c =
    slots_more c.args.slots.now c.loop-index.index _ c.slot_word.result c.args.needed.now.items c.loop-index.needed.items
    c.push.new.self.items c.loop-index-test.true c.loop-index.invariant c.slot_word.ensures c.in_ok-push.ensures.items

pub returns : goal.returns
returns c = record {
  done =
      let all : c.loop-index.index ≡ length c.args.slots.now = omega (arith, c.loop-index-test.false, c.loop-index.auto.index-end) in
      c.loop-index.invariant ∙ ap (λ (n : ℕ). c.args.needed.now.items ++ slot_words c.args.slots.now n) all;
}
