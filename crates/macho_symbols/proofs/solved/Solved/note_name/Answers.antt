use Rattle.std.proofs.Common.{◌≡◌, ap, sym, ◌∙◌, true, false, length, ◌∷◌, ◌++◌, []}
use Rattle.macho_symbols.specs.Kept.{noted_of}
use Rattle.macho_symbols.specs.Targets.{named_in}
use Rattle.macho_symbols.specs.steps.Targets.{is_next, is_nothing}
use Rattle.macho_symbols.proofs.NotingUses.{import_known}
use Rattle.macho_symbols.proofs.AskedFor.{missing_told, nothing_new, one_new, count_is, next_import}
use Rattle.macho_symbols.proofs.solved.Solved.note_name.Goals as goal

pub returns-then-is_nothing-clause-why : goal.returns-then-is_nothing-clause-why
returns-then-is_nothing-clause-why c =
    let s = c.args.self.now in
    missing_told s.files.items (noted_of s.imports.items) c.args.name.now _ c.in_ok-from_slice.ensures.items
    (ap is_nothing (sym c.named-target.ensures) ∙ sym c.is_nothing.ensures ∙ c.if-is_nothing.true)

pub returns-then-not-is_import-clause-noted : goal.returns-then-not-is_import-clause-noted
returns-then-not-is_import-clause-noted c =
    let s = c.args.self.now in
    let something : is_nothing (named_in s.files.items (noted_of s.imports.items) c.args.name.now) ≡ false =
    ap is_nothing (sym c.named-target.ensures) ∙ sym c.is_nothing.ensures ∙ c.if-is_nothing.false in
    let old : is_next (length (noted_of s.imports.items)) (named_in s.files.items (noted_of s.imports.items) c.args.name.now) ≡ false =
    ap (is_next (length (noted_of s.imports.items))) (sym c.named-target.ensures)
    ∙ ap (λ n. is_next n c.named-target.result) (sym (count_is s c.len.result c.len.ensures))
    ∙ sym c.is_import.ensures ∙ c.if-not-is_import.true in
    nothing_new s c.args.name.now c.requires something old

-- a name that leads to an import has an entry
pub unreachable-requires : goal.unreachable-requires
unreachable-requires c =
    let s = c.args.self.now in
    let new : is_next (length (noted_of s.imports.items)) c.named-target.result ≡ true =
    ap (λ n. is_next n c.named-target.result) (sym (count_is s c.len.result c.len.ensures)) ∙ sym c.is_import.ensures
    ∙ c.if-not-is_import.false in
    let nowhere = rw c.deref.ensures.value at c.in_default.ensures.none in
    import_known s c.args.name.now _ c.requires nowhere
    (sym c.named-target.ensures ∙ next_import (length (noted_of s.imports.items)) c.named-target.result new)

pub note-requires-clause-import : goal.note-requires-clause-import
note-requires-clause-import c =
    let s = c.args.self.now in
    let new : is_next (length (noted_of s.imports.items)) c.named-target.result ≡ true =
    ap (λ n. is_next n c.named-target.result) (sym (count_is s c.len.result c.len.ensures)) ∙ sym c.is_import.ensures
    ∙ c.if-not-is_import.false in
    ap (named_in s.files.items (noted_of s.imports.items)) c.in_ok-from_slice-2.ensures.items ∙ sym c.named-target.ensures
    ∙ next_import (length (noted_of s.imports.items)) c.named-target.result new

pub returns-clause-noted : goal.returns-clause-noted
returns-clause-noted c =
    let s = c.args.self.now in
    let something : is_nothing (named_in s.files.items (noted_of s.imports.items) c.args.name.now) ≡ false =
    ap is_nothing (sym c.named-target.ensures) ∙ sym c.is_nothing.ensures ∙ c.if-is_nothing.false in
    let new : is_next (length (noted_of s.imports.items)) (named_in s.files.items (noted_of s.imports.items) c.args.name.now) ≡ true =
    ap (is_next (length (noted_of s.imports.items))) (sym c.named-target.ensures)
    ∙ ap (λ n. is_next n c.named-target.result) (sym (count_is s c.len.result c.len.ensures))
    ∙ sym c.is_import.ensures ∙ c.if-not-is_import.false in
    one_new s c.note.new.self c.args.name.now c.in_ok-note.ensures.solved c.in_ok-note.ensures.grown something new
    (c.in_ok-note.ensures.noted ∙ ap (λ n. noted_of s.imports.items ++ n ∷ []) c.in_ok-from_slice-2.ensures.items)
