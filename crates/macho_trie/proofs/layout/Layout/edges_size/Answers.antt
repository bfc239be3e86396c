use Rattle.std.proofs.Common.{◌-◌, ◌+◌, ◌≡◌, suc, ℕ, slice_index, arith, subst}
use Rattle.macho_trie.specs.Symbols.{names_of}
use Rattle.macho_trie.specs.Tables.{row_at}
use Rattle.macho_trie.proofs.Cursor.{IsCursor}
use Rattle.macho_trie.proofs.Sizes.{IsCounted, counted_first, counted_more, counted_at}
use Rattle.macho_trie.proofs.Parents.{naming_first, naming_more, naming_last}
use Rattle.macho_trie.proofs.layout.Layout.edges_size.Goals as goal

pub loop-edge-init : goal.loop-edge-init
loop-edge-init c = record {
  counted = counted_first (names_of c.args.self.now.symbols.now) c.args.self.now.rows.now (slice_index c.args.widths.now) c.args.row _
      c.requires.sound c.requires.here (omega arith);
  named = naming_first (names_of c.args.self.now.symbols.now) c.args.self.now.rows.now c.args.row _ c.args.parents.now (omega arith);
}

pub bounds-self-child : goal.bounds-self-child
bounds-self-child c =
    (counted_at (names_of c.args.self.now.symbols.now) c.args.self.now.rows.now (slice_index c.args.widths.now) c.args.row _
    c.loop-edge.child c.loop-edge.size
    c.requires.sound (omega arith) c.loop-edge.invariant.counted).within

pub bounds-widths-child : goal.bounds-widths-child
bounds-widths-child c =
    omega (
      arith,
      (counted_at (names_of c.args.self.now.symbols.now) c.args.self.now.rows.now (slice_index c.args.widths.now) c.args.row _
          c.loop-edge.child
          c.loop-edge.size c.requires.sound (omega arith) c.loop-edge.invariant.counted).within,
    )

pub bounds-parents-child : goal.bounds-parents-child
bounds-parents-child c =
    omega (
      arith,
      (counted_at (names_of c.args.self.now.symbols.now) c.args.self.now.rows.now (slice_index c.args.widths.now) c.args.row _
          c.loop-edge.child
          c.loop-edge.size c.requires.sound (omega arith) c.loop-edge.invariant.counted).within,
      c.loop-edge.invariant.named.long,
      c.requires.parents,
    )

pub loop-edge-preserved : goal.loop-edge-preserved
loop-edge-preserved c =
    let left : ℕ = (row_at c.args.self.now.rows.now c.args.row).children - c.loop-edge.edge in
    let next : ℕ = (row_at c.args.self.now.rows.now c.args.row).children - (c.loop-edge.edge + 1) in
    let one : left ≡ suc next = omega arith in
    let more = counted_more (names_of c.args.self.now.symbols.now) c.args.self.now.rows.now (slice_index c.args.widths.now) c.args.row
    left next c.loop-edge.child c.loop-edge.size c.requires.sound one c.loop-edge.invariant.counted in
    let S : ℕ → Type 0 = λ n. IsCounted (names_of c.args.self.now.symbols.now) c.args.self.now.rows.now (slice_index c.args.widths.now)
    c.args.row next (row_at c.args.self.now.rows.now c.loop-edge.child).after n in
    record {
      counted = subst S (omega arith) more;
      named = naming_more (names_of c.args.self.now.symbols.now) c.args.self.now.rows.now c.args.row left next c.loop-edge.child
          c.args.parents.now c.loop-edge.parents one (subst (λ (k : ℕ). IsCursor (names_of c.args.self.now.symbols.now)
          c.args.self.now.rows.now k c.loop-edge.child (row_at c.args.self.now.rows.now c.loop-edge.child)) (omega arith)
          (counted_at (names_of c.args.self.now.symbols.now) c.args.self.now.rows.now (slice_index c.args.widths.now) c.args.row left
          c.loop-edge.child c.loop-edge.size c.requires.sound (omega arith) c.loop-edge.invariant.counted))
          c.requires.parents c.loop-edge.invariant.named;
    }

pub returns-clause-named : goal.returns-clause-named
returns-clause-named c =
    naming_last c.args.self.now c.args.row ((row_at c.args.self.now.rows.now c.args.row).children - c.loop-edge.edge) c.loop-edge.child
    c.args.parents.now c.loop-edge.parents (omega arith) c.loop-edge.invariant.named
