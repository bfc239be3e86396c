use Rattle.macho_trie.specs.steps.Building.{names_in, rows_in, open_in}
use Rattle.macho_trie.proofs.Stepping.{names_less, ready_all, steps_as}
use Rattle.macho_trie.proofs.build.Builder.step.Goals as goal

pub close_to-requires-clause-above : goal.close_to-requires-clause-above
close_to-requires-clause-above c =
    let less = names_less (names_in c.args.self.now) c.args.symbol c.args.above c.shared_length-shared.result c.args.name.now
    c.args.next.now
    c.requires.name c.requires.next c.requires.less c.shared_length-shared.ensures in
    less.parts

pub arrive-requires-clause-ready : goal.arrive-requires-clause-ready
arrive-requires-clause-ready c =
    let less = names_less (names_in c.args.self.now) c.args.symbol c.args.above c.shared_length-shared.result c.args.name.now
    c.args.next.now
    c.requires.name c.requires.next c.requires.less c.shared_length-shared.ensures in
    ready_all (names_in c.args.self.now) (names_in c.close_to.new.self) c.args.symbol c.args.above c.shared_length-shared.result
    (rows_in c.close_to.new.self)
    (open_in c.close_to.new.self) c.in_ok-close_to.ensures.names c.in_ok-close_to.ensures.closed.closed c.in_ok-close_to.ensures.depth less

pub returns-clause-done : goal.returns-clause-done
returns-clause-done c =
    let less = names_less (names_in c.args.self.now) c.args.symbol c.args.above c.shared_length-shared.result c.args.name.now
    c.args.next.now
    c.requires.name c.requires.next c.requires.less c.shared_length-shared.ensures in
    steps_as (names_in c.args.self.now) (names_in c.close_to.new.self) (names_in c.arrive.new.self) c.args.symbol c.args.above
    c.shared_length-shared.result
    (rows_in c.args.self.now) (rows_in c.close_to.new.self) (rows_in c.arrive.new.self) (open_in c.args.self.now) (open_in
    c.close_to.new.self)
    (open_in c.arrive.new.self) c.arrive.result c.in_ok-close_to.ensures.names less c.in_ok-close_to.ensures.closed
    c.in_ok-close_to.ensures.depth
    c.arrive.ensures.done c.arrive.ensures.names
