use Rattle.std.proofs.Common.{◌-◌, length, arith, ap, ◌∙◌}
use Rattle.macho_trie.specs.Symbols.{names_of}
use Rattle.macho_trie.specs.steps.Building.{names_in, rows_in, open_in}
use Rattle.macho_trie.proofs.Stepping.{item_ok, item_plain, items_less, built_first, built_next, finished_items}
use Rattle.macho_trie.proofs.build.table_of.Goals as goal

pub arrive-requires-clause-here : goal.arrive-requires-clause-here
arrive-requires-clause-here c =
    (item_ok (names_of c.args.symbols.now) (names_in c.in_ok-builder.builder) c.args.sorted.now (length c.args.sorted.now - 1)
    c.in_ok-builder.ensures.names c.requires.sorted (omega arith)).here

pub arrive-requires-clause-long : goal.arrive-requires-clause-long
arrive-requires-clause-long c =
    ap length (item_ok (names_of c.args.symbols.now) (names_in c.in_ok-builder.builder) c.args.sorted.now (length c.args.sorted.now - 1)
    c.in_ok-builder.ensures.names c.requires.sorted (omega arith)).name

pub loop-left-init : goal.loop-left-init
loop-left-init c = record {
  within = omega arith;
  names = c.in_ok-arrive.ensures.names ∙ c.in_ok-builder.ensures.names;
  built = built_first (names_of c.args.symbols.now) (names_in c.arrive.new.self) c.args.sorted.now (rows_in c.in_ok-builder.builder)
      (rows_in c.arrive.new.self)
      (open_in c.in_ok-builder.builder) (open_in c.arrive.new.self) c.requires.sorted c.requires.some c.in_ok-builder.ensures.empty.0
      c.in_ok-builder.ensures.empty.1 (c.in_ok-arrive.ensures.names ∙ c.in_ok-builder.ensures.names) c.in_ok-arrive.ensures.done;
}

pub step-requires-clause-next : goal.step-requires-clause-next
step-requires-clause-next c =
    (item_ok (names_of c.args.symbols.now) (names_in c.loop-left.builder) c.args.sorted.now c.loop-left.left
    c.loop-left.invariant.names c.requires.sorted c.loop-left.invariant.within).name

pub step-requires-clause-plain : goal.step-requires-clause-plain
step-requires-clause-plain c =
    item_plain (names_of c.args.symbols.now) c.args.sorted.now c.loop-left.left c.requires.plain c.requires.sorted
    c.loop-left.invariant.within

pub step-requires-clause-name : goal.step-requires-clause-name
step-requires-clause-name c =
    (item_ok (names_of c.args.symbols.now) (names_in c.loop-left.builder) c.args.sorted.now (c.loop-left.left - 1)
    c.loop-left.invariant.names c.requires.sorted (omega (arith, c.loop-left.invariant.within))).name

pub step-requires-clause-here : goal.step-requires-clause-here
step-requires-clause-here c =
    (item_ok (names_of c.args.symbols.now) (names_in c.loop-left.builder) c.args.sorted.now (c.loop-left.left - 1)
    c.loop-left.invariant.names c.requires.sorted (omega (arith, c.loop-left.invariant.within))).here

pub step-requires-clause-less : goal.step-requires-clause-less
step-requires-clause-less c =
    items_less (names_of c.args.symbols.now) c.args.sorted.now c.loop-left.left c.requires.sorted c.loop-left.invariant.within (omega arith)

pub loop-left-preserved : goal.loop-left-preserved
loop-left-preserved c = record {
  within = omega (arith, c.loop-left.invariant.within);
  names = c.in_ok-step.ensures.names ∙ c.loop-left.invariant.names;
  built = built_next (names_of c.args.symbols.now) (names_in c.step.new.self) c.args.sorted.now c.loop-left.left (rows_in
      c.loop-left.builder)
      (rows_in c.step.new.self) (open_in c.loop-left.builder) (open_in c.step.new.self) c.requires.sorted c.loop-left.invariant.within
      (omega arith)
      c.loop-left.invariant.built (c.in_ok-step.ensures.names ∙ c.loop-left.invariant.names) c.in_ok-step.ensures.done;
}

pub finish-requires-clause-name : goal.finish-requires-clause-name
finish-requires-clause-name c =
    (item_ok (names_of c.args.symbols.now) (names_in c.loop-left.builder) c.args.sorted.now 0
    c.loop-left.invariant.names c.requires.sorted (omega (arith, c.loop-left.invariant.within))).name

pub finish-requires-clause-plain : goal.finish-requires-clause-plain
finish-requires-clause-plain c =
    item_plain (names_of c.args.symbols.now) c.args.sorted.now 0 c.requires.plain c.requires.sorted (omega (
      arith,
      c.loop-left.invariant.within,
    ))

pub returns : goal.returns
returns c =
    finished_items (λ v. v.items) c.finish.result (names_of c.args.symbols.now) (names_in c.loop-left.builder) c.args.sorted.now
    c.loop-left.left
    (rows_in c.loop-left.builder) (open_in c.loop-left.builder) c.requires.sorted c.requires.some (omega arith) c.loop-left.invariant.built
    c.loop-left.invariant.names c.finish.ensures
