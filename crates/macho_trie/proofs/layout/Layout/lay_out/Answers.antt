use Rattle.std.proofs.Common.{length, slice_index, sum, ap, sym, subst, ◌∙◌, arith, List, ℕ}
use Rattle.std.proofs.lemmas.List.{length-replicate, with_items_is}
use Rattle.macho_trie.specs.steps.Layouts.{size_at, tree_at, AreLow, AreLowWidths, AreSizes, ArePlaces}
use Rattle.std.proofs.lemmas.Bool.{eqb-true}
use Rattle.macho_trie.proofs.Widths.{low_first}
use Rattle.macho_trie.proofs.Parents.{length-sizes}
use Rattle.macho_trie.proofs.Looks.{seen_by, seen_short, none_narrow, fewer_left}
use Rattle.macho_trie.proofs.layout.Layout.lay_out.Goals as goal
use Rattle.macho_bytes.proofs.Comparing.{no_elements}

pub sizes-requires-clause-widths : goal.sizes-requires-clause-widths
sizes-requires-clause-widths c =
    ap length (c.deref.ensures.value ∙ c.in_ok-widths.ensures.items_if_clones_equal (λ y e. e))
    ∙ length-replicate (length c.args.self.now.rows.now) 1

pub sizes-requires-clause-parents : goal.sizes-requires-clause-parents
sizes-requires-clause-parents c =
    ap length (c.deref_mut.ensures.value ∙ c.in_ok-parents.ensures.items_if_clones_equal (λ y e. e))
    ∙ length-replicate (length c.args.self.now.rows.now) 0

pub looks-init : goal.looks-init
looks-init c =
    let is = c.in_ok-widths.ensures.items_if_clones_equal (λ y e. e) in
    let A : List ℕ → Type 0 = λ ws. AreLow (size_at c.args.self.now) (tree_at c.args.self.now) ws in
    let S : List ℕ → Type 0 = λ ws. AreSizes c.args.self.now (slice_index ws) c.in_ok-sizes.sizes.items in
    record {
      low = record {
        long = ap length is ∙ length-replicate (length c.args.self.now.rows.now) 1;
        low = subst A (sym is) (low_first (size_at c.args.self.now) (tree_at c.args.self.now) (length c.args.self.now.rows.now));
      };
      sizes = subst S c.deref.ensures.value c.in_ok-sizes.ensures.sizes;
    }

pub narrow_edges-requires : goal.narrow_edges-requires
narrow_edges-requires c =
    let seen = seen_by c.args.self.now c.looks.widths.items c.looks.sizes.items c.deref-in-looks.result.now c.deref-in-looks-3.result.now
    c.deref-in-looks-2.result.now c.in_ok-places.places.items c.deref-in-looks.ensures.value c.deref-in-looks-3.ensures.value
    c.deref-in-looks-2.ensures.value c.looks.invariant.sizes c.in_ok-places.ensures in
    seen_short c.args.self.now c.looks.widths.items c.deref-in-looks-3.result.now c.deref-in-looks-2.result.now
    c.in_ok-places.places.items seen c.looks.invariant.low.long

pub returns-then-is_empty : goal.returns-then-is_empty
returns-then-is_empty c =
    let seen = seen_by c.args.self.now c.looks.widths.items c.looks.sizes.items c.deref-in-looks.result.now c.deref-in-looks-3.result.now
    c.deref-in-looks-2.result.now c.in_ok-places.places.items c.deref-in-looks.ensures.value c.deref-in-looks-3.ensures.value
    c.deref-in-looks-2.ensures.value c.looks.invariant.sizes c.in_ok-places.ensures in
    none_narrow c.args.self.now c.looks.widths.items c.deref-in-looks-3.result.now c.deref-in-looks-2.result.now
    c.in_ok-places.places.items seen
    c.looks.invariant.low.long c.looks.invariant.low.low (c.in_ok-list.ensures.none
    (let none = eqb-true _ 0 (sym c.is_empty.ensures ∙ c.if-is_empty.true) in no_elements c.in_ok-list.list.items (omega (
      arith,
      none,
      c.in_ok-list.list.ok.0,
    ))))

pub work_off-requires-clause-places : goal.work_off-requires-clause-places
work_off-requires-clause-places c =
    let seen = seen_by c.args.self.now c.looks.widths.items c.looks.sizes.items c.deref-in-looks.result.now c.deref-in-looks-3.result.now
    c.deref-in-looks-2.result.now c.in_ok-places.places.items c.deref-in-looks.ensures.value c.deref-in-looks-3.ensures.value
    c.deref-in-looks-2.ensures.value c.looks.invariant.sizes c.in_ok-places.ensures in
    let P : List ℕ → Type 0 = λ ws. ArePlaces c.args.self.now (slice_index ws) c.in_ok-places.places.items in
    subst P (sym c.deref_mut-in-looks-2.ensures.value) seen.under

pub looks-smaller : goal.looks-smaller
looks-smaller c =
    let low = c.in_ok-work_off.ensures.low in
    let same = with_items_is c.looks.widths c.work_off.new.widths (omega (
      arith,
      low.long,
      c.looks.invariant.low.long,
      c.looks.widths.ok.0,
    )) in
    let less = fewer_left c.args.self.now c.looks.widths.items c.work_off.new.widths low.long low.low (omega (
      arith,
      c.in_ok-work_off.ensures.grown,
      ap sum c.deref_mut-in-looks-2.ensures.value,
    )) in
    omega (arith, ap sum same, less)

pub looks-preserved : goal.looks-preserved
looks-preserved c =
    let low = c.in_ok-work_off.ensures.low in
    let same = with_items_is c.looks.widths c.work_off.new.widths (omega (
      arith,
      low.long,
      c.looks.invariant.low.long,
      c.looks.widths.ok.0,
    )) in
    let sizes_same = with_items_is c.looks.sizes c.work_off.new.sizes (omega (
      arith,
      length-sizes c.args.self.now (slice_index c.work_off.new.widths) c.work_off.new.sizes c.in_ok-work_off.ensures.sizes,
      length-sizes c.args.self.now (slice_index c.looks.widths.items) c.looks.sizes.items c.looks.invariant.sizes,
      c.looks.sizes.ok.0,
    )) in
    let W : List ℕ → Type 0 = λ ws. AreLowWidths c.args.self.now ws in
    let S : List ℕ → Type 0 = λ ws. AreSizes c.args.self.now (slice_index ws) c.work_off.new.sizes in
    record {
      low = subst W (sym same) low;
      sizes = sizes_same ∙ subst S (sym same) c.in_ok-work_off.ensures.sizes;
    }
