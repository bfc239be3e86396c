use Rattle.macho_fixups.proofs.ChainWrites.{WordsSoFar}
use Rattle.macho_fixups.proofs.chains.write_chains.Given as goal

-- the words so far are written
abbrev pub invariant-loop-index : goal.invariant-loop-index
invariant-loop-index l = WordsSoFar l.segments l.fixups l.number l.index l.initial.out l.out
