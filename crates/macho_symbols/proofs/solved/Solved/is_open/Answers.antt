use Rattle.std.proofs.Common.{◌&&◌, ap, sym, ◌∙◌, refl, get_or, [], not}
use Rattle.std.specs.List.{list_any}
use Rattle.std.specs.Str.{bytes_eq}
use Rattle.macho_symbol_names.specs.Events.{event_at}
use Rattle.macho_symbols.specs.Kept.{noted_of}
use Rattle.macho_symbol_names.specs.Tables.{names_of}
use Rattle.macho_symbols.proofs.OpenNames.{open_is, open_shown}
use Rattle.macho_symbols.proofs.solved.Solved.is_open.Goals as goal

pub returns-then-lists : goal.returns-then-lists
returns-then-lists c =
    let row = rw c.deref.ensures.value at c.note_in-note.ensures.row in
    let s = c.args.self.now in
    let name = get_or (names_of s.files.items s.table.entries.items) c.args.number [] in
    c.is_noted.ensures ∙ ap (λ t. t && list_any (bytes_eq name) (noted_of s.imports.items)) (sym c.if-lists.true)
    ∙ sym (open_is s c.args.lists name c.args.number c.entry-entry.result _ c.requires.solved (c.requires.entry, refl) c.entry-entry.ensures
    (sym c.in-Offered.is ∙ ap (λ r. r.sort) row))

pub returns-else-lists : goal.returns-else-lists
returns-else-lists c =
    let row = rw c.deref.ensures.value at c.note_in-note.ensures.row in
    let s = c.args.self.now in
    let name = get_or (names_of s.files.items s.table.entries.items) c.args.number [] in
    c.if-lists.false ∙ ap (λ t. t && list_any (bytes_eq name) (noted_of s.imports.items)) (sym c.if-lists.false)
    ∙ sym (open_is s c.args.lists name c.args.number c.entry-entry.result _ c.requires.solved (c.requires.entry, refl) c.entry-entry.ensures
    (sym c.in-Offered.is ∙ ap (λ r. r.sort) row))

pub returns-in-Nowhere : goal.returns-in-Nowhere
returns-in-Nowhere c =
    let row = rw c.deref.ensures.value at c.note_in-note.ensures.row in
    let s = c.args.self.now in
    let name = get_or (names_of s.files.items s.table.entries.items) c.args.number [] in
    sym (open_is s c.args.lists name c.args.number c.entry-entry.result _ c.requires.solved (c.requires.entry, refl) c.entry-entry.ensures
    (sym c.in-Nowhere.is ∙ ap (λ r. r.sort) row))

pub returns-in_default : goal.returns-in_default
returns-in_default c =
    let row = rw c.deref.ensures.value at c.note_in-note.ensures.row in
    let s = c.args.self.now in
    let name = get_or (names_of s.files.items s.table.entries.items) c.args.number [] in
    let e = event_at s.files.items c.entry-entry.result.file c.entry-entry.result.row in
    ap (λ r. not r.hidden) row
    ∙ sym (open_shown (noted_of s.imports.items) c.args.lists name e e.row.sort (λ x. c.in_default.not-Offered (ap (λ r. r.sort) row ∙ x))
    (λ x. c.in_default.not-Nowhere (ap (λ r. r.sort) row ∙ x)))
    ∙ sym (open_is s c.args.lists name c.args.number c.entry-entry.result e.row.sort c.requires.solved
    (c.requires.entry, refl) c.entry-entry.ensures refl)
