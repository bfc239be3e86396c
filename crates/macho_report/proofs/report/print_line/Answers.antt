-- The text of each fault is that of its row.
use Rattle.macho_report.proofs.report.print_line.Goals as goal

pub returns-in-MissingFile : goal.returns-in-MissingFile
returns-in-MissingFile g c = rw c.in-MissingFile.is (rw c.word_name-name.ensures at c.print_named.ensures)

pub returns-in-Read : goal.returns-in-Read
returns-in-Read g c = rw c.in-Read.is (rw c.word_name-name-in-Read.ensures at c.print_named-in-Read.ensures)

pub returns-in-UnknownKind : goal.returns-in-UnknownKind
returns-in-UnknownKind g c = rw c.in-UnknownKind.is (rw c.word_name-name-in-UnknownKind.ensures at c.print_named-in-UnknownKind.ensures)

pub returns-in-Input : goal.returns-in-Input
returns-in-Input g c = rw c.in-Input.is c.print_error.ensures

pub returns-in-Link : goal.returns-in-Link
returns-in-Link g c = rw c.in-Link.is c.print_error-in-Link.ensures

pub returns-in-Write : goal.returns-in-Write
returns-in-Write g c = rw c.in-Write.is c.print_text.ensures

pub returns-in-Print : goal.returns-in-Print
returns-in-Print g c = rw c.in-Print.is c.print_text-in-Print.ensures

pub returns-in-OutOfMemory : goal.returns-in-OutOfMemory
returns-in-OutOfMemory g c = rw c.in-OutOfMemory.is c.print_text-in-OutOfMemory.ensures
