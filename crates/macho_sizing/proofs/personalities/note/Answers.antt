-- The key of a target is put where the target would be.
use Rattle.std.proofs.Common.{ap, ◌∙◌, sym, map}
use Rattle.std.specs.Prelude.{Option}
use Rattle.indexmap.specs.IndexSet.{insert_key}
use Rattle.macho_model.specs.Targets.{target_of as symbol_target, same_target}
use Rattle.macho_consumed.specs.declared.rows.PersonalityUse.{PersonalityUse}
use Rattle.macho_needs.specs.Tables.{target_of, with_some}
use Rattle.macho_needs.proofs.Mapped.{slot_put}
use Rattle.macho_sizing.specs.steps.Personalities.{personality_named}
use Rattle.macho_sizing.proofs.personalities.note.Goals as goal

pub returns-in_ok-insert : goal.returns-in_ok-insert
unfolding symbol_target
returns-in_ok-insert c = λ l are.
    let seen = map target_of c.args.seen.now.keys in
    ap (map target_of) c.in_ok-insert.ensures.keys ∙ slot_put c.args.seen.now.keys c.key.result
    ∙ ap (insert_key same_target seen) (c.key.ensures ∙ c.target-target.ensures l _ are)
    ∙ ap (λ (p : Option PersonalityUse). with_some same_target seen (personality_named l c.args.entry.file p)) (sym c.in-Some.is)
