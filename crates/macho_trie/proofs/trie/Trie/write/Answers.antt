use Rattle.std.proofs.Common.{ℕ, List, length, slice_index, arith, ap, ◌∙◌}
use Rattle.macho_trie.specs.Encoding.{tree_bytes}
use Rattle.macho_trie.specs.steps.Layouts.{says_at, tree_at}
use Rattle.macho_trie.specs.declared.layout.Layout.{Layout}
use Rattle.macho_trie.proofs.Encodes.{places_long, length_is, text_long, is_text}
use Rattle.macho_trie.proofs.trie.Trie.write.Goals as goal

pub spell-requires-clause-places : goal.spell-requires-clause-places
spell-requires-clause-places c =
    let l : Layout = record { symbols = c.args.symbols; rows = c.deref.result } in
    omega (arith, places_long l c.in_ok-places.places.items c.in_ok-places.ensures, ap length c.deref-2.ensures.value)

pub spell-requires-clause-room : goal.spell-requires-clause-room
spell-requires-clause-room c =
    let l : Layout = record { symbols = c.args.symbols; rows = c.deref.result } in
    let same = ap (λ (ps : List ℕ). tree_bytes (says_at l) (slice_index ps) 0 (tree_at l)) c.deref-2.ensures.value in
    c.requires.room _ (length_is c.args.self.now l c.in_ok-places.places.items _ c.deref.ensures.value c.in_ok-places.ensures same)

pub index-size-requires : goal.index-size-requires
index-size-requires c =
    let l : Layout = record { symbols = c.args.symbols; rows = c.deref.result } in
    omega (
      arith,
      c.len.ensures,
      c.args.self.now.rows.ok.0,
      c.in_ok-places.places.ok.0,
      places_long l c.in_ok-places.places.items c.in_ok-places.ensures,
      ap length c.deref.ensures.value,
    )

pub returns-clause-done : goal.returns-clause-done
returns-clause-done c =
    let l : Layout = record { symbols = c.args.symbols; rows = c.deref.result } in
    let same = ap (λ (ps : List ℕ). tree_bytes (says_at l) (slice_index ps) 0 (tree_at l)) c.deref-2.ensures.value in
    let long = ap length same ∙ text_long c.args.self.now l c.in_ok-places.places.items c.len.result c.index-size.result.now _
    c.deref.ensures.value c.in_ok-places.ensures (omega (arith, c.len.ensures, c.args.self.now.rows.ok.0)) c.index-size.ensures in
    record {
      text = tree_bytes (says_at l) (slice_index c.deref-2.result.now) 0 (tree_at l);
      says = is_text c.args.self.now l c.in_ok-places.places.items _ c.requires.trie c.deref.ensures.value c.in_ok-places.ensures same
          (omega (arith, long));
      long = long;
      is = c.in_ok-spell.ensures.done;
    }
