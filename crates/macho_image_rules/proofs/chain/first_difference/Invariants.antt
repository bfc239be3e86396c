-- What holds before a needed word: those before it are the words on the chains up to a place.
use Rattle.std.proofs.Common.{map}
use Rattle.macho_image_rules.specs.steps.Merged.{IsMerged}
use Rattle.macho_image_rules.proofs.chain.first_difference.Given as goal

abbrev pub invariant-loop-word : goal.invariant-loop-word
invariant-loop-word l = IsMerged (map (λ x. x.address) l.lines) (map (λ n. n.address) l.needed) l.met l.word-index
