use Rattle.std.proofs.Common.{ap, sym, ◌≡◌, true, ◌∙◌, arith, rules}
use Rattle.std.proofs.lemmas.List.{length-map}
use Rattle.std.proofs.lemmas.Result.{IfOk-weaker}
use Rattle.macho_trie.specs.Says.{said_of}
use Rattle.macho_trie.specs.steps.Layouts.{says_at}
use Rattle.macho_trie.proofs.Sizes.{terminal_is, says_is}
use Rattle.macho_trie.proofs.layout.Layout.terminal_size.Goals as goal

pub returns : goal.returns
returns c =
    let marked : c.args.row.is_terminal ≡ true = search rules in
    let is = says_is c.args.self.now.symbols.now.items.items c.args.row.symbol c.index.result.now
    (omega (arith, c.requires, length-map c.args.self.now.symbols.now.items.items (λ i. i.name.now))) in
    let size = terminal_is (says_at c.args.self.now) c.args.row _ c.in_ok-part.part c.uleb_size.result marked
    (is ∙ ap (λ s. said_of s.says) (sym c.index.ensures)) c.in_ok-part.ensures c.uleb_size.ensures in
    IfOk-weaker c.added.result _ _ (λ n h. h ∙ size) c.added.ensures
