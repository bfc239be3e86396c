use Rattle.std.proofs.Common.{◌-◌, ap, ◌∙◌, List, ℕ, take, drop, length, drop-drop}
use Rattle.std.proofs.lemmas.List.{take_rest}
use Rattle.macho_export_lists.proofs.patterns.behind.Goals as goal

pub returns : goal.returns
returns c =
    let text = c.args.text.now in
    let rest = take_rest text c.args.at in
    ap (λ (xs : List ℕ). take (length xs - c.args.more) (drop c.args.more xs)) rest ∙ take_rest (drop c.args.at text) c.args.more
    ∙ drop-drop c.args.more c.args.at text
