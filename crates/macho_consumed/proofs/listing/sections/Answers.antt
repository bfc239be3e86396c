use Rattle.std.proofs.Common.{◌++◌, List, Vec, Global, Some, ap, ◌∙◌, sym, append-nil}
use Rattle.macho_consumed.specs.declared.listing.SectionRef.{SectionRef}
use Rattle.macho_consumed.specs.steps.Listed.{refs_of_file}
use Rattle.macho_consumed.proofs.InFiles.{files_none, files_more}
use Rattle.macho_consumed.proofs.listing.sections.Goals as goal
use Rattle.macho_consumed.proofs.listing.sections.Goals.{in-Some+in_ok-add_sections-in-Some, in-None}

pub loop-number-init : goal.loop-number-init
loop-number-init c = c.new-refs.ensures.items ∙ files_none _ _

pub loop-number-preserved : goal.loop-number-preserved
loop-number-preserved c = elim c.match-view_of.branch [
  | in-Some+in_ok-add_sections-in-Some w ↦
      (let more = files_more c.args.kind c.args.files.now c.loop-number.number _ (sym w.in-Some.ensures) in
      ap (λ (v : Vec SectionRef Global). v.items) w.refs-is ∙ w.in_ok-add_sections-in-Some.ensures
      ∙ ap (λ (xs : List SectionRef). xs ++ refs_of_file c.args.kind c.loop-number.number
      (Some w.in-Some.file.now)) c.loop-number.invariant ∙ more)
  | in-None w ↦
      (let more = files_more c.args.kind c.args.files.now c.loop-number.number _ (sym w.in-None.ensures) in
      ap (λ (v : Vec SectionRef Global). v.items) w.refs-is ∙ c.loop-number.invariant ∙ sym (append-nil _) ∙ more)
]
