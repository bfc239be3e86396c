-- One entry more puts its personality function behind the others, unless it is there.
use Rattle.std.proofs.Common.{List, ap, ◌∙◌, sym, arith, get_or}
use Rattle.macho_model.specs.declared.targets.Target.{Target}
use Rattle.macho_model.specs.Targets.{same_target}
use Rattle.macho_needs.specs.Tables.{with_some}
use Rattle.macho_sizing.specs.steps.Personalities.{personality_of}
use Rattle.macho_sizing.proofs.PersonalityRows.{no_entry, personalities_more}
use Rattle.macho_sizing.proofs.personalities.count_personalities.Goals as goal

pub loop-entry-preserved : goal.loop-entry-preserved
loop-entry-preserved c m are =
    let entries = c.args.entries.now in
    let k = c.loop-entry.entry-index in
    c.in_ok-note.ensures m are
    ∙ ap (λ (ts : List Target). with_some same_target ts (personality_of m (get_or entries k no_entry))) (c.loop-entry.invariant m are)
    ∙ sym (personalities_more m entries k no_entry (omega arith))
