-- The ids that entries name, rising and each once.
--
-- No entries name none. An entry with an id puts the id in its place among those so far, and then these are the ids of one
-- entry more; an entry without one leaves them. The ids of the first entries are no more than those of all, so where they
-- are more than three, so are those of all, and that is told.
use Rattle.std.proofs.Common.{length, sym, ap, ◌∙◌, arith}
use Rattle.macho_unwind_pages.proofs.Numbers.{ids_of-none, put_more, too_many, ids_of-passed}
use Rattle.macho_unwind_pages.proofs.numbering.personality_ids.Goals as goal
use Rattle.macho_unwind_pages.proofs.numbering.personality_ids.Goals.{in-Some+in_ok-put_id+else-len-gt-MOST_PERSONALITIES, in_default}

pub loop-entry-init : goal.loop-entry-init
loop-entry-init c = record { value = c.new-ids.ensures.items ∙ sym ids_of-none; few = omega (arith, ap length c.new-ids.ensures.items) }

pub returns-then-len-gt-MOST_PERSONALITIES-clause-why :
    goal.returns-then-len-gt-MOST_PERSONALITIES-clause-why
returns-then-len-gt-MOST_PERSONALITIES-clause-why c =
    too_many c.args.entries.now c.loop-entry.ids.items c.put_id.new.ids.items c.loop-entry.entry-index _ c.in-Some.id
    c.loop-entry-test.true c.in-Some.is c.loop-entry.invariant.value c.in_ok-put_id.ensures.done (omega (
      arith,
      c.if-len-gt-MOST_PERSONALITIES.true,
      c.len.ensures,
    ))

pub loop-entry-preserved : goal.loop-entry-preserved
loop-entry-preserved c =
    elim c.match-entry.branch [
      | in-Some+in_ok-put_id+else-len-gt-MOST_PERSONALITIES w ↦ rw w.ids-is record {
        value = put_more c.args.entries.now c.loop-entry.ids.items w.put_id.new.ids.items c.loop-entry.entry-index _ w.in-Some.id
            c.loop-entry-test.true w.in-Some.is c.loop-entry.invariant.value w.in_ok-put_id.ensures.done;
        few = omega (arith, w.if-len-gt-MOST_PERSONALITIES.false, w.len.ensures);
      }
      | in_default w ↦ rw w.ids-is record {
        value = c.loop-entry.invariant.value
            ∙ sym (ids_of-passed c.args.entries.now c.loop-entry.entry-index _ c.loop-entry-test.true w.in_default.is);
        few = c.loop-entry.invariant.few;
      }
    ]
