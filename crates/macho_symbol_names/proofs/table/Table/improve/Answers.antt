use Rattle.std.proofs.Common.{ap, sym, ◌∙◌, refl}
use Rattle.macho_symbol_names.proofs.Chains.{name_of_entry}
use Rattle.macho_symbol_names.proofs.FoundRows.{same_grown}
use Rattle.macho_symbol_names.proofs.Improving.{names_stay, stays_best, is_better, table_stays}
use Rattle.macho_symbol_names.proofs.Taking.{takes_better, refuses_row}
use Rattle.macho_symbol_names.proofs.table.Table.improve.Goals as goal

pub returns-then-not-beats-clause-done : goal.returns-then-not-beats-clause-done
returns-then-not-beats-clause-done c =
    let entry = c.entry-entry.ensures in
    takes_better _ _ _ _ _ _ _ _ c.requires.global c.requires.entry
    (stays_best _ _ _ _ _ (rw (← entry) (sym c.if-not-beats.ensures)) (rw (← entry) (sym c.if-are_strong.ensures))) c.requires.table

pub returns-then-not-beats-clause-grown : goal.returns-then-not-beats-clause-grown
returns-then-not-beats-clause-grown c = same_grown _ _ _ refl

pub returns-clause-grown : goal.returns-clause-grown
returns-clause-grown c =
    same_grown _ _ _ (names_stay _ _ _ _ (sym c.requires.entry.1 ∙ name_of_entry _ _ _ _ c.requires.entry.0))

pub returns-clause-table : goal.returns-clause-table
returns-clause-table c =
    table_stays _ _ _ _ _ c.requires.table (ap (λ e. e.next) c.entry-entry.ensures)
    (sym c.requires.entry.1 ∙ name_of_entry _ _ _ _ c.requires.entry.0)
    (c.requires.file, c.requires.row) c.requires.entry.0 (ap (λ e. e.tag) c.entry-entry.ensures)

pub returns-clause-done : goal.returns-clause-done
returns-clause-done c =
    let entry = c.entry-entry.ensures in
    let table =
    table_stays _ _ _ _ _ c.requires.table (ap (λ e. e.next) c.entry-entry.ensures)
    (sym c.requires.entry.1 ∙ name_of_entry _ _ _ _ c.requires.entry.0)
    (c.requires.file, c.requires.row) c.requires.entry.0 (ap (λ e. e.tag) c.entry-entry.ensures) in
    takes_better _ _ _ _ _ _ _ _ c.requires.global c.requires.entry
    (is_better _ _ _ _ _ _ (rw (← entry) (sym c.if-not-beats.ensures)) (rw (← entry) (sym c.if-are_strong.ensures))
    (rw (← entry) refl)) table

pub returns-then-are_strong-clause-why : goal.returns-then-are_strong-clause-why
returns-then-are_strong-clause-why c =
    let entry = c.entry-entry.ensures in
    refuses_row _ _ _ _ _ _ _ c.requires.global c.requires.entry
    (c.in_ok-from_slice.ensures.items ∙ c.name_in.ensures, ap (λ e. e.file) entry, refl, rw (← entry) (sym c.if-are_strong.ensures))
