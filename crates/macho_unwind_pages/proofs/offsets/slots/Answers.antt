-- The slots of personality functions, by the numbers of their ids.
--
-- An entry's slot is written at the place of its id. Earlier entries with this id have the same slot, so theirs still
-- stands; other ids have other places, where nothing changes. An entry without a personality asks for nothing. A slot has 32
-- bits, since its address is near. When no entry is left, the first k are all.
use Rattle.std.proofs.Common.{◌-◌, ◌<◌, ◌^◌, get_or, ◌∙◌, refl}
use Rattle.std.proofs.lemmas.List.Elements.{All-set}
use Rattle.macho_unwind_pages.proofs.Gathered.{none}
use Rattle.std.proofs.lemmas.List.{length-set}
use Rattle.macho_unwind_pages.proofs.Told.{slots_more, slots_passed, near_slot, all_done}
use Rattle.macho_unwind_pages.proofs.offsets.slots.Goals as goal
use Rattle.macho_unwind_pages.proofs.offsets.slots.Goals.{in-Some, in_default}
use Rattle.macho_unwind_pages.specs.steps.Plans.{HasSlot}

pub loop-entry-preserved : goal.loop-entry-preserved
loop-entry-preserved c =
    elim c.match-entry.branch [
      | in-Some w ↦ rw w.slots-is record {
        short = All-set (λ slot. slot < 2 ^ 32) c.loop-entry.slots.items w.place-place.result _
            (near_slot c.args.text_start (get_or c.args.run.now c.loop-entry.entry-index none) w.in-Some.personality w.in-Some.is
            (c.requires.near c.loop-entry.entry-index none c.loop-entry-test.true)) c.loop-entry.invariant.short;
        size = length-set c.loop-entry.slots.items w.place-place.result (w.in-Some.personality.slot - c.args.text_start)
            ∙ c.loop-entry.invariant.size;
        all = slots_more c.args.text_start c.args.ids.now c.loop-entry.slots.items _ c.args.run.now c.loop-entry.entry-index _
            w.in-Some.personality w.place-place.result c.loop-entry-test.true w.in-Some.is w.place-place.ensures.place
            c.loop-entry.invariant.size refl c.requires.numbered c.requires.alike c.loop-entry.invariant.all;
      }
      | in_default w ↦ rw w.slots-is record {
        short = c.loop-entry.invariant.short;
        size = c.loop-entry.invariant.size;
        all = slots_passed c.args.text_start c.args.ids.now c.loop-entry.slots.items c.args.run.now c.loop-entry.entry-index _
            c.loop-entry-test.true w.in_default.is c.loop-entry.invariant.all;
      }
    ]

pub returns-clause-done : goal.returns-clause-done
returns-clause-done c =
    all_done (HasSlot c.args.text_start c.args.ids.now c.loop-entry.slots.items) c.args.run.now c.loop-entry.entry-index
    c.loop-entry-test.false c.loop-entry.invariant.all

pub returns-clause-short : goal.returns-clause-short
returns-clause-short c = c.loop-entry.invariant.short
