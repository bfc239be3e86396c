use Rattle.std.proofs.Common.{ap, arith}
use Rattle.macho_trie.specs.steps.Building.{names_in, rows_in, open_in}
use Rattle.macho_trie.specs.Symbols.{names_of}
use Rattle.macho_trie.proofs.Closing.{few_children, last_two, next_group, closed_after}
use Rattle.macho_trie.proofs.build.Builder.close.Goals as goal

pub overflow_cast-node : goal.overflow_cast-node
overflow_cast-node c =
    let at = last_two (names_in c.args.self.now) c.args.symbol c.args.is_terminal c.args.least (rows_in c.args.self.now)
    c.args.self.now.nodes.items
    c.pop.new.self.items c.pop-2.new.self.items c.in-Some.node c.in-Some-pop.next c.in-Some.ensures.items c.in-Some-pop.ensures.items
    c.requires.closing in
    omega (arith, few_children c.in-Some.node _ at.group)

pub adopt-requires : goal.adopt-requires
adopt-requires c =
    let at = last_two (names_in c.args.self.now) c.args.symbol c.args.is_terminal c.args.least (rows_in c.args.self.now)
    c.args.self.now.nodes.items
    c.pop.new.self.items c.pop-2.new.self.items c.in-Some.node c.in-Some-pop.next c.in-Some.ensures.items c.in-Some-pop.ensures.items
    c.requires.closing in
    few_children c.in-Some-pop.next _ (next_group _ _ _ _ _ _ _ _ at)

pub returns-clause-closed : goal.returns-clause-closed
returns-clause-closed c =
    closed_after (names_in c.args.self.now) (names_in c.adopt.new.self) c.args.symbol c.args.is_terminal c.args.least
    c.max-start.result
    c.args.self.now.rows.items c.push.new.self.items c.adopt.new.self.rows.items c.args.self.now.nodes.items c.pop.new.self.items
    c.pop-2.new.self.items
    (open_in c.adopt.new.self) c.in-Some.node c.in-Some-pop.next c.in-Some.ensures.items c.in-Some-pop.ensures.items c.requires.closing
    c.requires.plain
    c.max-start.ensures c.in_ok-push.ensures.items (ap (λ v. v.items)
    c.in_ok-adopt.ensures.same.0) c.in_ok-adopt.ensures.done
    (ap (λ s. names_of s.now) c.in_ok-adopt.ensures.same.1)
