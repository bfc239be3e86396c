-- The range of the one trie passes the file, or its bytes are listed, or they are malformed at a node.
use Rattle.std.proofs.Common.{◌≡◌, ◌+◌, ◌≤◌, ◌⊎◌, length, map, sym, subst, ◌∙◌, arith, inl, inr}
use Rattle.macho_trie.specs.Walks.{IsMalformedAt}
use Rattle.macho_trie.specs.Lists.{line_of, AreExports, IsListOf}
use Rattle.macho_trie.specs.declared.names.TrieNames.TheVariants.{Listed}
use Rattle.macho_inspect.specs.Tries.{trie_of}
use Rattle.macho_inspect.proofs.Tries.{trie_of_one, range_is, passes_the_file, right_with_one, wrong_node}
use Rattle.macho_inspect.proofs.exports.exports_in.Goals as goal
use Rattle.macho_inspect.proofs.exports.exports_in.Goals.{else-range-gt0-via-then-range-gt0+else-end-bytes, else-range-gt0-via-else-range-gt0}

pub returns-then-end-bytes : goal.returns-then-end-bytes
returns-then-end-bytes c =
    let some = c.if-range-gt0.true in
    let past = c.if-end-bytes.true in
    passes_the_file c.args.bytes.now c.args.range c.requires (omega (arith, some)) (omega (arith, past))

pub returns-in_ok-export_lines-in-Listed : goal.returns-in_ok-export_lines-in-Listed
returns-in_ok-export_lines-in-Listed c =
    let b = c.args.bytes.now in
    let range = c.args.range in
    let whole : (range.size ≡ 0) ⊎ (range.at + range.size ≤ length b) = elim c.else-range-gt0.branch [
      | else-range-gt0-via-then-range-gt0+else-end-bytes w ↦ let le = w.if-end-bytes.false in inr (omega (arith, le))
      | else-range-gt0-via-else-range-gt0 w ↦ let none = w.if-range-gt0.false in inl (omega (arith, none))
    ] in
    let told : IsListOf c.range_from.result.now (Listed c.in-Listed.names) =
    subst (λ r. IsListOf c.range_from.result.now r) c.in-Listed.is c.in_ok-names.ensures in
    let trie : c.range_from.result.now ≡ trie_of b =
    c.range_from.ensures ∙ range_is b range c.requires ∙ sym (trie_of_one b c.requires.command c.requires.one) in (
      subst (λ xs. AreExports (trie_of b) xs) (sym c.in_ok-export_lines-in-Listed.ensures)
          (subst (λ xs. AreExports xs (map line_of c.in-Listed.names.items)) trie told.0),
      λ place. right_with_one b place range c.requires whole
          (λ n wrong. told.1 n (subst (λ xs. IsMalformedAt xs n) (sym c.range_from.ensures) wrong)),
    )

pub returns-in-Malformed : goal.returns-in-Malformed
returns-in-Malformed c =
    let b = c.args.bytes.now in
    let range = c.args.range in
    let whole : (range.size ≡ 0) ⊎ (range.at + range.size ≤ length b) = elim c.else-range-gt0.branch [
      | else-range-gt0-via-then-range-gt0+else-end-bytes w ↦ let le = w.if-end-bytes.false in inr (omega (arith, le))
      | else-range-gt0-via-else-range-gt0 w ↦ let none = w.if-range-gt0.false in inl (omega (arith, none))
    ] in
    let wrong : IsMalformedAt c.range_from.result.now c.in-Malformed.place =
    subst (λ r. IsListOf c.range_from.result.now r) c.in-Malformed.is c.in_ok-names.ensures in
    wrong_node b range c.in-Malformed.place c.saturating_add.result c.requires whole
    (subst (λ xs. IsMalformedAt xs c.in-Malformed.place) c.range_from.ensures wrong) c.saturating_add.ensures
