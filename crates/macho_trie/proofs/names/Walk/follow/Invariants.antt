use Rattle.macho_trie.specs.steps.Stacks.{IsFollowed, work_left}
use Rattle.macho_trie.proofs.names.Walk.follow.Given as goal

-- the walk so far
abbrev pub invariant-loop-next : goal.invariant-loop-next
invariant-loop-next l = IsFollowed l.initial.self.bytes.now l.initial.lines.are_kept l.self l.lines

abbrev pub decreases-loop-next : goal.decreases-loop-next
decreases-loop-next l = work_left l.self
