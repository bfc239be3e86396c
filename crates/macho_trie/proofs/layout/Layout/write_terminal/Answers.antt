use Rattle.std.proofs.Common.{ap, sym, ◌≡◌, true, ◌∙◌, arith, rules}
use Rattle.std.proofs.lemmas.List.{length-map}
use Rattle.std.proofs.lemmas.Result.{on_ok_weaker}
use Rattle.macho_trie.specs.Says.{said_of}
use Rattle.macho_trie.specs.steps.Layouts.{says_at}
use Rattle.macho_trie.proofs.Sizes.{says_is}
use Rattle.macho_trie.proofs.Spells.{terminal_spelled}
use Rattle.macho_trie.proofs.layout.Layout.write_terminal.Goals as goal

pub returns : goal.returns
returns c =
    let marked : c.args.row.is_terminal ≡ true = search rules in
    let is = says_is c.args.self.now.symbols.now.items.items c.args.row.symbol c.index.result.now
    (omega (arith, c.requires, length-map c.args.self.now.symbols.now.items.items (λ i. i.name.now))) in
    on_ok_weaker c.write_export.result (λ after. terminal_spelled (says_at c.args.self.now) c.args.row _ c.in_ok-part.part
    c.args.out.now.items
    c.write_uleb.new.out.items c.write_export.new.out.items marked (is ∙ ap (λ s. said_of s.says) (sym c.index.ensures))
    c.in_ok-part.ensures
    c.in_ok-write_uleb.ensures.done after) c.write_export.ensures
