use Rattle.std.proofs.Common.{◌≡◌, ap, ◌∙◌, sym}
use Rattle.macho_object.specs.Views.{RelocationBytes}
use Rattle.macho_consumed.proofs.InEntries.{gathered, gathered_fits, gathered_row}
use Rattle.macho_consumed.proofs.section.Section.entry.Goals as goal

pub returns-clause-done : goal.returns-clause-done
returns-clause-done c =
    let all = gathered _ _ _ _ _ _ _ _ _ _ _ _ c.in_ok-pointers.ensures.done c.words-words.ensures c.relocation_in.ensures.is
    c.relocation_in-2.ensures.is
    c.in_ok-start.ensures.done c.in_ok-personality.ensures.done c.in_ok-lsda.ensures.done in
    let v : c.self.inside.relocations ≡ c.args.self.now = c.self.view_is in
    gathered_row _ _ _ _ _ _ _ _ _ all (c.self.invariant.numbered ∙ ap (λ (s : RelocationBytes). s.section) v)

pub returns-clause-found : goal.returns-clause-found
returns-clause-found c =
    let all = gathered _ _ _ _ _ _ _ _ _ _ _ _ c.in_ok-pointers.ensures.done c.words-words.ensures c.relocation_in.ensures.is
    c.relocation_in-2.ensures.is
    c.in_ok-start.ensures.done c.in_ok-personality.ensures.done c.in_ok-lsda.ensures.done in
    gathered_fits _ _ _ _ _ _ _ all c.requires.aligned (rw (sym c.is_some.ensures, sym c.is_some-2.ensures) c.if-not-is_clear.ensures)
