use Rattle.std.proofs.Common.{◌≡◌, true}
use Rattle.macho_trie.specs.steps.Building.{names_in, rows_in, open_in, deepest, ClosedAs}
use Rattle.macho_trie.proofs.build.Builder.close_to.Given as goal

abbrev pub invariant-loop-depth : goal.invariant-loop-depth
invariant-loop-depth l = record {
  depth : l.depth ≡ deepest (open_in l.self);
  names : names_in l.self ≡ names_in l.fn.self;
  closed : ClosedAs (names_in l.self) l.symbol true l.least (rows_in l.fn.self) (open_in l.fn.self) (rows_in l.self) (open_in l.self);
}

abbrev pub decreases-loop-depth : goal.decreases-loop-depth
decreases-loop-depth l = l.depth
