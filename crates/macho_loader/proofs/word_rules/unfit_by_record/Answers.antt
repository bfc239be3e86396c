-- Where the record has no start, no page has a word that fails.
use Rattle.macho_loader.proofs.BlankRecords.{fit_without}
use Rattle.macho_loader.proofs.word_rules.unfit_by_record.Goals as goal

pub holds-requires-clause-table : goal.holds-requires-clause-table
holds-requires-clause-table c = c.requires.chained.table

pub returns-then-holds-clause-only : goal.returns-then-holds-clause-only
returns-then-holds-clause-only c _ page =
    fit_without c.args.bytes.now c.args.segment.number c.args.segment.place page (c.holds.ensures.without c.if-holds.true)
