-- What the offsets or the unwind information are refused for stands by their own contracts.
use Rattle.macho_linking.proofs.refused.told_of.Goals as goal

pub returns-in-Err-clause-why : goal.returns-in-Err-clause-why
returns-in-Err-clause-why g c l looked met = c.in-Err.ensures.why l looked

pub returns-in-Err-write_unwind-clause-why : goal.returns-in-Err-write_unwind-clause-why
returns-in-Err-write_unwind-clause-why g c l looked met = c.in-Err-write_unwind.ensures.why l looked
