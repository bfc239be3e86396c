-- The text of each refusal is that of its row.
use Rattle.macho_report.proofs.refusals.print_of_name.Goals as goal

pub returns-in-DuplicateSymbol : goal.returns-in-DuplicateSymbol
returns-in-DuplicateSymbol g c =
    rw c.in-DuplicateSymbol.is (rw (c.deref.ensures.value, c.path.ensures, c.path-in-DuplicateSymbol.ensures) at c.print_duplicate.ensures)

pub returns-in-UndefinedSymbol : goal.returns-in-UndefinedSymbol
returns-in-UndefinedSymbol g c =
    rw c.in-UndefinedSymbol.is
    (rw (c.deref-in-UndefinedSymbol.ensures.value, c.path-in-UndefinedSymbol.ensures) at c.print_undefined.ensures)

pub returns-in-EntryNotDefined : goal.returns-in-EntryNotDefined
returns-in-EntryNotDefined g c = rw c.in-EntryNotDefined.is (rw c.deref-in-EntryNotDefined.ensures.value at c.print_named.ensures)

pub returns-in-ExportListMissing : goal.returns-in-ExportListMissing
returns-in-ExportListMissing g c =
    rw c.in-ExportListMissing.is (rw c.deref-in-ExportListMissing.ensures.value at c.print_named-in-ExportListMissing.ensures)
