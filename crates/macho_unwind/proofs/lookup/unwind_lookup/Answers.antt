-- Look-up answers what the bytes say.
--
-- Each step was told exactly: the tables, the page entry, the page, the function, the encoding, the personality and the
-- LSDA. These are the parts of a finding, so the answer is one. There is one finding at most, so any other is the answer.
use Rattle.std.proofs.Common.{Some, ap, rules}
use Rattle.macho_unwind.proofs.Uniqueness.{finds-unique}
use Rattle.macho_unwind.proofs.lookup.unwind_lookup.Goals as goal

pub returns-clause-found : goal.returns-clause-found
returns-clause-found c = search rules

pub returns-clause-only : goal.returns-clause-only
returns-clause-only c x finds = ap Some (finds-unique c.args.bytes.now c.args.offset _ x (returns-clause-found c) finds)
