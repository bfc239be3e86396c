use Rattle.std.proofs.Common.{◌-◌, ◌*◌, length, slice_index, sum}
use Rattle.macho_trie.specs.steps.Layouts.{AreLowWidths, AreSizes}
use Rattle.macho_trie.proofs.layout.Layout.lay_out.Given as goal

abbrev pub invariant-looks : goal.invariant-looks
invariant-looks l = record {
  low : AreLowWidths l.self l.widths.items;
  sizes : AreSizes l.self (slice_index l.widths.items) l.sizes.items;
}

-- the widths' sum rises with each look, and each width is at most ten
abbrev pub decreases-looks : goal.decreases-looks
decreases-looks l = 10 * length l.self.rows.now - sum l.widths.items
