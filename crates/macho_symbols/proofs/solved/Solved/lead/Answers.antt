use Rattle.std.proofs.Common.{get_or, [], ap, sym, ◌∙◌, refl}
use Rattle.macho_model.specs.declared.targets.Target.TheVariants as target
use Rattle.macho_symbol_names.specs.Events.{event_at}
use Rattle.macho_symbol_names.specs.Tables.{names_of}
use Rattle.macho_symbols.specs.Kept.{noted_of}
use Rattle.macho_symbols.specs.Targets.{base_target}
use Rattle.macho_symbols.proofs.Leading.{leads, leads_itself, common_ids}
use Rattle.macho_symbols.proofs.solved.Solved.lead.Goals as goal

pub own_target-requires-clause-commons : goal.own_target-requires-clause-commons
own_target-requires-clause-commons c = rw (c.deref-in_default-2.ensures.value, c.deref-in_default.ensures.value)
    (common_ids _ c.requires.solved)

pub returns-in-Offered : goal.returns-in-Offered
returns-in-Offered c =
    let row = rw c.deref.ensures.value at c.note_in.ensures.row in
    ap target.Import c.number_of_import.ensures
    ∙ sym (leads _ _ _ _ _ c.requires.solved (c.requires.entry, refl) c.entry-entry.ensures (sym c.in-Offered.is ∙ ap (λ r. r.sort) row))

pub returns-in-Nowhere : goal.returns-in-Nowhere
returns-in-Nowhere c =
    let row = rw c.deref.ensures.value at c.note_in.ensures.row in
    c.base_target.ensures ∙ ap base_target c.entry_name.ensures
    ∙ sym (leads _ _ _ _ _ c.requires.solved (c.requires.entry, refl) c.entry-entry.ensures (sym c.in-Nowhere.is ∙ ap (λ r. r.sort) row))

pub returns-in_default : goal.returns-in_default
returns-in_default c =
    let row = rw c.deref.ensures.value at c.note_in.ensures.row in
    let own = rw c.deref-in_default.ensures.value at c.own_target.ensures in
    let sort = ap (λ r. r.sort) row in
    let s = c.args.self.now in
    let name = get_or (names_of s.files.items s.table.entries.items) c.args.number [] in
    own
    ∙ sym (leads_itself s.files.items (noted_of s.imports.items) name
    (event_at s.files.items c.entry-entry.result.file c.entry-entry.result.row)
    _ (λ e. c.in_default.not-Offered (sort ∙ e)) (λ e. c.in_default.not-Nowhere (sort ∙ e)))
    ∙ sym (leads s name c.args.number _ _ c.requires.solved (c.requires.entry, refl) c.entry-entry.ensures refl)
