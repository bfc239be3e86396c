use Rattle.std.proofs.Common.{ap, sym, ◌∙◌}
use Rattle.macho_symbols.specs.steps.Exporting.{weak_in}
use Rattle.macho_symbols.specs.Kept.{noted_of}
use Rattle.macho_symbols.specs.Targets.{named_in}
use Rattle.macho_symbols.proofs.OpenNames.{weak_is}
use Rattle.macho_symbols.proofs.solved.Solved.export.Goals as goal

pub returns-clause-told : goal.returns-clause-told
returns-clause-told c =
    let row = rw c.deref.ensures.value at c.note_in-note.ensures.row in
    let s = c.args.self.now in
    let name = sym c.in_ok-from_slice.ensures.items in (
      c.lead.ensures ∙ ap (named_in s.files.items (noted_of s.imports.items)) (c.requires.entry.1 ∙ name),
      c.is_weak.ensures
          ∙ weak_is s c.args.name.now c.args.number c.entry-entry.result _ _ c.requires.solved c.requires.entry c.entry-entry.ensures
          (ap (λ r. r.sort) row)
          (ap (λ r. r.weak) row) ∙ ap (weak_in s.files.items) name,
    )
