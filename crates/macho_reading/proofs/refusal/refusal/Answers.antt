-- Behind the look for undefined names rows of symbols are still those of the inputs, so the link is resolved with what is noted then.
use Rattle.macho_reading.proofs.Placed.{still_resolved}
use Rattle.macho_reading.proofs.refusal.refusal.Goals as goal

pub returns-in-Err-clause-told : goal.returns-in-Err-clause-told
returns-in-Err-clause-told c l counts noted views resolved entry lists standing =
    c.in-Err.ensures.why l counts views (record { are = resolved.keeps })

pub returns-in-Err-find_entry-clause-told : goal.returns-in-Err-find_entry-clause-told
returns-in-Err-find_entry-clause-told c l counts noted views resolved entry lists standing =
    let after = c.find_undefined.new.needs.resolved in
    c.in-Err-find_entry.ensures.why l counts after.noted
    (still_resolved l after (c.find_undefined.ensures.kept l.inputs (record { are = resolved.keeps }))) entry

pub returns-in-Err-note_list-clause-told : goal.returns-in-Err-note_list-clause-told
returns-in-Err-note_list-clause-told c l counts noted views resolved entry lists standing =
    let after = c.find_undefined.new.needs.resolved in
    c.in-Err-note_list.ensures.why l counts after.noted
    (still_resolved l after (c.find_undefined.ensures.kept l.inputs (record { are = resolved.keeps }))) lists

pub returns-clause-told : goal.returns-clause-told
returns-clause-told c l counts noted views resolved entry lists standing = c.error_of.ensures l counts standing
