use Rattle.std.proofs.Common.{◌≡◌, ℕ, ◌∷◌, length, refl, sym, ap, ◌∙◌, arith}
use Rattle.std.proofs.lemmas.List.{length-reverse}
use Rattle.macho_trie.specs.steps.Building.{names_in, rows_in, open_in}
use Rattle.macho_trie.specs.Tables.{name_at}
use Rattle.macho_trie.specs.declared.build.Open.{Open}
use Rattle.macho_trie.proofs.Closing.{reverse-last}
use Rattle.macho_trie.proofs.Rooting.{arrives_as, arrives_deeper}
use Rattle.macho_trie.proofs.build.Builder.arrive.Goals as goal

pub returns-in_ok-push-clause-done : goal.returns-in_ok-push-clause-done
returns-in_ok-push-clause-done c =
    let count : c.len-opened.result ≡ length (rows_in c.args.self.now)
    = omega (arith, c.len-opened.ensures, c.args.self.now.rows.ok.0, length-reverse c.args.self.now.rows.items) in
    let deeper = arrives_deeper (names_in c.args.self.now) (name_at (names_in c.args.self.now) c.args.symbol) (rows_in c.args.self.now)
    (open_in c.args.self.now) (length (rows_in c.args.self.now)) c.requires.ready (omega arith) in
    let put = reverse-last c.args.self.now.nodes.items c.push.new.self.items _ c.in_ok-push.ensures.items in
    let node : Open = record { depth = c.args.size; children = 0; opened = c.len-opened.result } in
    let same : node ≡ record {
      depth = length (name_at (names_in c.args.self.now) c.args.symbol);
      children = 0;
      opened = length
          (rows_in c.args.self.now);
    }
    = ap (λ (d : ℕ). let o : Open = record { depth = d; children = 0; opened = c.len-opened.result } in o) c.requires.long
    ∙ ap (λ (n : ℕ). let o : Open = record {
      depth = length (name_at (names_in c.args.self.now) c.args.symbol);
      children = 0;
      opened =
          n;
    } in o) count in
    arrives_as (names_in c.args.self.now) _ c.args.symbol (rows_in c.args.self.now) _ (open_in c.args.self.now) _ c.requires.here refl
    refl c.requires.ready
    (put ∙ ap (λ (o : Open). o ∷ open_in c.args.self.now) same ∙ sym deeper)
