use Rattle.std.proofs.Common.{slice_index}
use Rattle.std.proofs.lemmas.Result.{on_ok_weaker}
use Rattle.macho_trie.specs.steps.Layouts.{names_at, says_at}
use Rattle.macho_trie.proofs.Cursor.{row_sound}
use Rattle.macho_trie.proofs.Spells.{node_written}
use Rattle.macho_trie.proofs.layout.Layout.write_node.Goals as goal

pub write_terminal-requires : goal.write_terminal-requires
write_terminal-requires c = (row_sound (names_at c.args.self.now) c.args.self.now.rows.now c.args.row _ c.requires.sound.trees
    c.requires.here).symbol

pub returns : goal.returns
returns c =
    on_ok_weaker c.write_edges.result (λ edges. node_written (says_at c.args.self.now) (slice_index c.args.places.now) c.args.row
    (names_at c.args.self.now) c.args.self.now.rows.now c.args.out.now.items c.write_terminal.new.out.items c.push.new.self.items
    c.write_edges.new.out.items c.requires.sound c.requires.here c.in_ok-write_terminal.ensures c.in_ok-push.ensures.items edges)
    c.write_edges.ensures
