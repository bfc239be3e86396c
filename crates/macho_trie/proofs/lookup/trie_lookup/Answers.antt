use Rattle.std.proofs.Common.{◌≡◌, length, sym, ◌∙◌, eq-eqb}
use Rattle.std.proofs.lemmas.Bool.{eqb-true}
use Rattle.macho_trie.proofs.Finding.{nothing_found, answer_is, found_at_end, none_beyond, step_back, step_on}
use Rattle.macho_trie.proofs.lookup.trie_lookup.Goals as goal

pub returns-in_err-export-clause-only : goal.returns-in_err-export-clause-only
returns-in_err-export-clause-only c x f =
    absurd (nothing_found c.args.bytes.now c.nodes.rest.now c.nodes.at x c.in_err-export.ensures.seen (c.nodes.invariant.on x f))

pub returns-then-is_empty-clause-found : goal.returns-then-is_empty-clause-found
returns-then-is_empty-clause-found c =
    let end : length c.nodes.rest.now ≡ 0 = eqb-true _ 0 (sym c.is_empty.ensures ∙ c.if-is_empty.true) in
    found_at_end c.args.bytes.now c.nodes.rest.now c.args.name.now c.nodes.at c.in_ok-export.export c.in_ok-export.step
    c.in_ok-export.ensures.seen end c.nodes.invariant.back

pub returns-then-is_empty-clause-only : goal.returns-then-is_empty-clause-only
returns-then-is_empty-clause-only c x f =
    let end : length c.nodes.rest.now ≡ 0 = eqb-true _ 0 (sym c.is_empty.ensures ∙ c.if-is_empty.true) in
    answer_is c.args.bytes.now c.nodes.rest.now c.nodes.at x _ c.in_ok-export.step c.in_ok-export.ensures.seen
    c.in_ok-export.ensures.part end
    (c.nodes.invariant.on x f)

pub returns-in_err-child-clause-only : goal.returns-in_err-child-clause-only
returns-in_err-child-clause-only c x f =
    absurd (none_beyond c.args.bytes.now c.nodes.rest.now c.nodes.at x _ c.in_ok-export.step c.in_ok-export.ensures.seen c.in_err-child.was
    (λ end. let yes = eq-eqb (length c.nodes.rest.now) 0 end in cc) (c.nodes.invariant.on x f))

pub nodes-preserved : goal.nodes-preserved
nodes-preserved c = record {
  back = λ x f. c.nodes.invariant.back x (step_back c.args.bytes.now c.nodes.rest.now c.nodes.at c.in_ok-child.child
      c.in_ok-child.length x _ c.in_ok-export.step
      c.in_ok-export.ensures.seen c.in_ok-child.was f);
  on = λ x f. step_on c.args.bytes.now c.nodes.rest.now c.nodes.at c.in_ok-child.child c.in_ok-child.length x _ c.in_ok-export.step
      c.in_ok-export.ensures.seen c.in_ok-child.was c.in_ok-export.ensures.part (c.nodes.invariant.on x f);
}
