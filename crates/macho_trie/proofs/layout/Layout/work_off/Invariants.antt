use Rattle.std.proofs.Common.{◌≡◌, ◌⊎◌, ◌-◌, ◌*◌, ◌+◌, ◌<◌, length, sum, slice_index}
use Rattle.macho_trie.specs.steps.Layouts.{ArePlaces, AreSizes, AreListed, AreLowWidths, IsNarrow}
use Rattle.macho_trie.proofs.Looks.{rank}
use Rattle.macho_trie.proofs.layout.Layout.work_off.Given as goal

-- the places and sizes are those under the widths; the list is the first one, or some edge has grown
abbrev pub invariant-list : goal.invariant-list
invariant-list l = record {
  placed : ArePlaces l.self (slice_index l.widths) l.places.items;
  sizes : AreSizes l.self (slice_index l.widths) l.sizes;
  low : AreLowWidths l.self l.widths;
  listed : AreListed (length l.self.rows.now) l.list.items;
  grown : ((l.widths ≡ l.initial.widths) × IsNarrow l.places.items l.widths (slice_index l.list.items 0))
      ⊎ (sum l.initial.widths < sum l.widths);
}

-- widths grow, or the list comes out empty
abbrev pub decreases-list : goal.decreases-list
decreases-list l = 2 * (10 * length l.self.rows.now - sum l.widths) + rank l.list.items
