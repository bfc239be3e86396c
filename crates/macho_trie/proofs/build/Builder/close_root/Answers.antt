use Rattle.std.proofs.Common.{List, ◌≡◌, length, ◌≤◌, sym, subst, ap, ◌∙◌, arith}
use Rattle.std.specs.List.{All}
use Rattle.std.proofs.lemmas.List.{length-map, with_items_is}
use Rattle.macho_trie.specs.steps.Building.{numbered, numbered_rows, names_in, rows_in}
use Rattle.macho_trie.specs.declared.table.Row.{Row}
use Rattle.macho_trie.proofs.Closing.{few_children}
use Rattle.macho_trie.proofs.Rooting.{last_root, rooted_closed, rooted_after}
use Rattle.macho_trie.proofs.Numbering.{ends_within}
use Rattle.macho_trie.proofs.build.Builder.close_root.Goals as goal

pub overflow_cast-root : goal.overflow_cast-root
overflow_cast-root c =
    let at = last_root (names_in c.args.self) c.args.symbol c.args.is_terminal (rows_in c.args.self) c.args.self.nodes.items
    c.pop.new.self.items c.in-Some.root
    c.in-Some.ensures.items c.requires in
    omega (arith, few_children c.in-Some.root _ at.group)

pub number_ends-requires : goal.number_ends-requires
number_ends-requires c =
    let A : List Row → Type 0 = λ rs. All (λ row. row.after ≤ length rs) rs in
    subst A (sym (c.deref_mut.ensures.value ∙ c.reverse.ensures.items)) (ends_within (names_in c.args.self) _
    (rooted_closed (names_in c.args.self) c.args.symbol c.args.is_terminal
    c.args.self.rows.items c.push.new.self.items c.args.self.nodes.items c.pop.new.self.items c.in-Some.root c.in-Some.ensures.items
    c.requires
    c.in_ok-push.ensures.items))

pub returns : goal.returns
returns c =
    let all = c.deref_mut.ensures.value ∙ c.reverse.ensures.items in
    let numbered_all = c.number_ends.ensures ∙ ap (λ (rs : List Row). numbered_rows (length rs) rs) all in
    let long : length c.number_ends.new.rows ≡ c.reverse.new.self.len
    = ap length c.number_ends.ensures ∙ length-map c.deref_mut.result.now (numbered (length c.deref_mut.result.now))
    ∙ ap length c.deref_mut.ensures.value ∙ sym c.reverse.new.self.ok.0 in
    rooted_after (names_in c.args.self) c.args.symbol c.args.is_terminal c.args.self.rows.items c.push.new.self.items _
    c.args.self.nodes.items
    c.pop.new.self.items c.in-Some.root c.in-Some.ensures.items c.requires
    c.in_ok-push.ensures.items
    (with_items_is c.reverse.new.self c.number_ends.new.rows long ∙ numbered_all)
