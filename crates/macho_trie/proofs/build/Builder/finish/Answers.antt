use Rattle.std.proofs.Common.{◌≡◌, length, ap, arith, rules}
use Rattle.macho_trie.specs.steps.Building.{names_in, rows_in, open_in}
use Rattle.macho_trie.proofs.Rooting.{root_of_opened, root_of_closed}
use Rattle.macho_trie.proofs.build.Builder.finish.Goals as goal

pub close_root-requires : goal.close_root-requires
close_root-requires c =
    let empty : length c.args.name.now ≡ 0 = search rules in
    root_of_opened (names_in c.args.self) c.args.symbol (rows_in c.args.self) (open_in c.args.self) c.requires.opened
    (omega (arith, ap length c.requires.name))

pub close_root-requires-2 : goal.close_root-requires-2
close_root-requires-2 c =
    root_of_closed (names_in c.close_to.new.self) c.args.symbol (rows_in c.close_to.new.self) (open_in c.close_to.new.self)
    c.in_ok-close_to.ensures.closed.closed
    c.in_ok-close_to.ensures.depth
