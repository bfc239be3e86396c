use Rattle.macho_fixups.proofs.EntryTexts.{long_entry, short_entry}
use Rattle.macho_fixups.proofs.imports.write_entry.Goals as goal

pub returns-then-format-eq-IMPORT_ADDEND_FORMAT-clause-written : goal.returns-then-format-eq-IMPORT_ADDEND_FORMAT-clause-written
returns-then-format-eq-IMPORT_ADDEND_FORMAT-clause-written c =
    (long_entry c.args.format c.args.at c.entry_word.result c.addend_word-addend.result c.args.entry c.args.out.now c.put_little.new.out
    c.put_little-then-format-eq-IMPORT_ADDEND_FORMAT.new.out c.if-format-eq-IMPORT_ADDEND_FORMAT.true c.requires.room
    c.entry_word.ensures.is
    c.addend_word-addend.ensures.is c.put_little.ensures.written c.put_little-then-format-eq-IMPORT_ADDEND_FORMAT.ensures.written).0

pub returns-then-format-eq-IMPORT_ADDEND_FORMAT-clause-long : goal.returns-then-format-eq-IMPORT_ADDEND_FORMAT-clause-long
returns-then-format-eq-IMPORT_ADDEND_FORMAT-clause-long c =
    (long_entry c.args.format c.args.at c.entry_word.result c.addend_word-addend.result c.args.entry c.args.out.now c.put_little.new.out
    c.put_little-then-format-eq-IMPORT_ADDEND_FORMAT.new.out c.if-format-eq-IMPORT_ADDEND_FORMAT.true c.requires.room
    c.entry_word.ensures.is
    c.addend_word-addend.ensures.is c.put_little.ensures.written c.put_little-then-format-eq-IMPORT_ADDEND_FORMAT.ensures.written).1

pub returns-else-format-eq-IMPORT_ADDEND_FORMAT-clause-written : goal.returns-else-format-eq-IMPORT_ADDEND_FORMAT-clause-written
returns-else-format-eq-IMPORT_ADDEND_FORMAT-clause-written c =
    (short_entry c.args.format c.args.at c.entry_word.result c.args.entry c.args.out.now c.put_little.new.out
    c.if-format-eq-IMPORT_ADDEND_FORMAT.false c.entry_word.ensures.is c.put_little.ensures.written).0

pub returns-else-format-eq-IMPORT_ADDEND_FORMAT-clause-long : goal.returns-else-format-eq-IMPORT_ADDEND_FORMAT-clause-long
returns-else-format-eq-IMPORT_ADDEND_FORMAT-clause-long c =
    (short_entry c.args.format c.args.at c.entry_word.result c.args.entry c.args.out.now c.put_little.new.out
    c.if-format-eq-IMPORT_ADDEND_FORMAT.false c.entry_word.ensures.is c.put_little.ensures.written).1
