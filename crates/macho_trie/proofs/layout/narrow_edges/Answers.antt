-- The edges that are too narrow.
--
-- A child that is added stands behind all that are listed. One that isn't added has the width that it needs.
use Rattle.std.proofs.Common.{ℕ, ◌+◌, ◌<◌, ◌≤◌, List, length, slice_index, subst, arith, inl, inr}
use Rattle.std.proofs.lemmas.Bool.{cases_lt}
use Rattle.std.proofs.lemmas.List.Elements.{All-push}
use Rattle.macho_trie.specs.steps.Layouts.{IsNarrow, needed}
use Rattle.macho_trie.proofs.Listing.{below_more, below_push, listed_push, pushed_some}
use Rattle.macho_trie.proofs.layout.narrow_edges.Goals.{then-widths-child+in_ok-push, else-widths-child}
use Rattle.macho_trie.proofs.layout.narrow_edges.Goals as goal

wide_more : (places widths : List ℕ) (k : ℕ) → ((j : ℕ) → 1 ≤ j → j < k → needed places j ≤ slice_index widths j)
    → needed places k ≤ slice_index widths k → (j : ℕ) → 1 ≤ j → j < k + 1
    → needed places j ≤ slice_index widths j
wide_more places widths k before here j low high =
    elim (cases_lt j k) [
      | inl less ↦ before j low less
      | inr most ↦ subst (λ (i : ℕ). needed places i ≤ slice_index widths i) (omega arith) here
    ]

pub loop-child-preserved : goal.loop-child-preserved
loop-child-preserved c =
    let places = c.args.places.now in
    let widths = c.args.widths.now in
    let k = c.loop-child.child in
    let xs = c.loop-child.narrow.items in
    let before = c.loop-child.invariant in
    elim c.if-widths-child.branch [
      | then-widths-child+in_ok-push w ↦ rw (w.narrow-is, w.in_ok-push.ensures.items) (record {
        all = All-push (IsNarrow places widths) xs k before.all (record {
          child = c.loop-child.auto.child;
          within = c.loop-child-test.true;
          narrow = omega (arith, w.if-widths-child.true, c.uleb_size.ensures);
        });
        list = listed_push (length widths) k xs before.list before.front c.loop-child.auto.child c.loop-child-test.true;
        front = below_push k xs before.front;
        none = λ e. absurd (pushed_some xs k e);
      })
      | else-widths-child w ↦ rw w.narrow-is (record {
        all = before.all;
        list = before.list;
        front = below_more k xs before.front;
        none = λ e. wide_more places widths k (before.none e) (omega (arith, w.if-widths-child.false, c.uleb_size.ensures));
      })
    ]
