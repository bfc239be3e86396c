use Rattle.std.proofs.Common.{false, length, sym, ◌∙◌, arith}
use Rattle.std.proofs.lemmas.List.{ext_get_or, length-map, get_or-map}
use Rattle.macho_trie.specs.steps.Building.{numbered, numbered_rows}
use Rattle.macho_trie.specs.declared.table.Row.{Row}
use Rattle.macho_trie.proofs.build.number_ends.Goals as goal

none : Row
none = record { symbol = 0; is_terminal = false; children = 0; start = 0; length = 0; after = 0 }

pub returns : goal.returns
returns c =
    let n = length c.args.rows.now in
    ext_get_or none c.loop-place.rows (numbered_rows n c.args.rows.now)
    (c.loop-place.invariant.long ∙ sym (length-map c.args.rows.now (numbered n)))
    (λ i within. c.loop-place.invariant.done i none (omega (arith, within, c.loop-place-test.false, c.loop-place.invariant.long))
    ∙ sym (get_or-map (numbered n) c.args.rows.now i none none (omega (arith, within, c.loop-place.invariant.long))))
