use Rattle.macho_trie.specs.steps.Stacks.{DoRiseUpTo}
use Rattle.macho_trie.proofs.names.first_bytes_rise.Given as goal

-- the first bytes rise so far
abbrev pub invariant-loop-label : goal.invariant-loop-label
invariant-loop-label l = DoRiseUpTo l.edges l.label-index l.least
