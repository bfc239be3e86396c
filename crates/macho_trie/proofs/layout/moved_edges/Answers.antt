-- The edges whose child has moved.
--
-- A child that is added stands behind all that are listed. Where no place differs, none is added.
use Rattle.std.proofs.Common.{ℕ, ◌-◌, List, length, slice_index, sym, ap}
use Rattle.macho_trie.proofs.Listing.{below_more, below_push, listed_push}
use Rattle.macho_trie.proofs.layout.moved_edges.Goals.{then-places-child+in_ok-push, else-places-child}
use Rattle.macho_trie.proofs.layout.moved_edges.Goals as goal

pub loop-child-preserved : goal.loop-child-preserved
loop-child-preserved c =
    let places = c.args.places.now in
    let k = c.loop-child.child in
    let xs = c.loop-child.moved.items in
    let before = c.loop-child.invariant in
    elim c.if-places-child.branch [
      | then-places-child+in_ok-push w ↦ rw (w.moved-is, w.in_ok-push.ensures.items) (record {
        list = listed_push (length places - 1) k xs before.list before.front c.loop-child.auto.child c.loop-child-test.true;
        front = below_push k xs before.front;
        none = λ e. absurd (w.if-places-child.true (ap (λ (ys : List ℕ). slice_index ys k) (sym e)));
      })
      | else-places-child w ↦ rw w.moved-is (record {
        list = before.list;
        front = below_more k xs before.front;
        none = before.none;
      })
    ]
