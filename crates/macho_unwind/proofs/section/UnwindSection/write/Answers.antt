-- The bytes are written at the front.
--
-- A plan's text has the size that the plan says, so it has room; it is put at 0. Without a plan there are no bytes, and nothing changes.
use Rattle.std.proofs.Common.{ℕ, List, length, sym, ap, ◌∙◌, arith}
use Rattle.macho_bytes.specs.Texts.{put}
use Rattle.macho_bytes.proofs.Puts.{put_nothing}
use Rattle.macho_unwind_pages.specs.Plans.{plan_list}
use Rattle.macho_unwind.specs.Texts.{planned_text}
use Rattle.macho_unwind.proofs.Lengths.{length-section}
use Rattle.macho_unwind.proofs.section.UnwindSection.write.Goals as goal

pub write_plan-requires-clause-room : goal.write_plan-requires-clause-room
write_plan-requires-clause-room c =
    let text = ap planned_text (sym c.in-Some.is) ∙ c.self.view_is in
    omega (arith, length-section (plan_list c.in-Some.plan), ap (λ (t : List ℕ). length t) text, c.requires.room)

pub returns-in_default : goal.returns-in_default
returns-in_default c =
    let none = ap planned_text (sym c.in_default.is) ∙ c.self.view_is in
    let out = c.args.out.now in
    sym (put_nothing 0 out (omega arith)) ∙ ap (λ (t : List ℕ). put 0 t out) none
