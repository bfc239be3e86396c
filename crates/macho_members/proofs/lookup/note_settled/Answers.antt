-- What an input has nothing of changes nothing.
use Rattle.std.proofs.Common.{sym, subst, ap, ◌∙◌}
use Rattle.macho_members.specs.declared.inputs.Asked.TheVariants.{Archive}
use Rattle.std.specs.HashMap.{get}
use Rattle.macho_members.specs.steps.Tables.{same_text, behind, settled_by, Finds}
use Rattle.macho_members.proofs.Noted.{finds_none}
use Rattle.macho_members.proofs.lookup.note_settled.Goals as goal

pub returns-in-Library : goal.returns-in-Library
returns-in-Library c = λ known finds.
    subst (λ x. Finds (get same_text c.args.table.now) (behind known (settled_by x))) (sym c.in-Library.is)
    (finds_none (get same_text c.args.table.now) known finds)

pub returns-else-whole : goal.returns-else-whole
returns-else-whole c = λ known finds.
    subst (λ x. Finds (get same_text c.args.table.now) (behind known (settled_by x)))
    (sym (c.in-Archive.is ∙ ap (λ w. Archive w c.in-Archive.members) c.if-whole.false))
    (finds_none (get same_text c.args.table.now) known finds)
