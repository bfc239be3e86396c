use Rattle.std.proofs.Common.{ℕ, List, ◌++◌, length, take, drop, slice_index, arith, ap, ◌∙◌}
use Rattle.macho_trie.specs.Symbols.{symbols_of, names_of}
use Rattle.macho_trie.specs.Tries.{IsTextOf}
use Rattle.macho_bytes.specs.Texts.{put}
use Rattle.macho_trie.specs.Encoding.{tree_bytes}
use Rattle.macho_trie.specs.steps.Layouts.{says_at, tree_at}
use Rattle.macho_trie.specs.declared.layout.Layout.{Layout}
use Rattle.macho_trie.proofs.Encodes.{places_long, text_long, is_text, put_over}
use Rattle.macho_trie.proofs.trie.Trie.encode.Goals as goal

pub index-requires : goal.index-requires
index-requires c =
    let l : Layout = record { symbols = c.args.symbols; rows = c.deref.result } in
    omega (
      arith,
      c.len.ensures,
      c.args.self.now.rows.ok.0,
      c.in_ok-places.places.ok.0,
      places_long l c.in_ok-places.places.items c.in_ok-places.ensures,
      ap length c.deref.ensures.value,
    )

pub spell-requires-clause-places : goal.spell-requires-clause-places
spell-requires-clause-places c =
    let l : Layout = record { symbols = c.args.symbols; rows = c.deref.result } in
    omega (arith, places_long l c.in_ok-places.places.items c.in_ok-places.ensures, ap length c.deref-2.ensures.value)

pub spell-requires-clause-room : goal.spell-requires-clause-room
spell-requires-clause-room c =
    let l : Layout = record { symbols = c.args.symbols; rows = c.deref.result } in
    let same = ap (λ (ps : List ℕ). tree_bytes (says_at l) (slice_index ps) 0 (tree_at l)) c.deref-2.ensures.value in
    let long = ap length same ∙ text_long c.args.self.now l c.in_ok-places.places.items c.len.result c.index.result.now _
    c.deref.ensures.value c.in_ok-places.ensures (omega (arith, c.len.ensures, c.args.self.now.rows.ok.0)) c.index.ensures in
    omega (arith, long, c.in_ok-bytes.ensures.len, c.deref_mut.ensures.len, ap length c.deref_mut.ensures.value)

text : (c : goal.After-drop-places-2) → IsTextOf c.args.self.now (names_of c.args.symbols.now) (symbols_of c.args.symbols.now)
    (take c.in_ok-bytes.bytes.len (c.spell.new.out ++ drop (length c.spell.new.out) c.in_ok-bytes.bytes.items))
text c =
    let l : Layout = record { symbols = c.args.symbols; rows = c.deref.result } in
    let same = ap (λ (ps : List ℕ). tree_bytes (says_at l) (slice_index ps) 0 (tree_at l)) c.deref-2.ensures.value in
    let long = ap length same ∙ text_long c.args.self.now l c.in_ok-places.places.items c.len.result c.index.result.now _
    c.deref.ensures.value c.in_ok-places.ensures (omega (arith, c.len.ensures, c.args.self.now.rows.ok.0)) c.index.ensures in
    let whole = put_over (tree_bytes (says_at l) (slice_index c.deref-2.result.now) 0 (tree_at l)) c.in_ok-bytes.bytes.items c.spell.new.out
    c.in_ok-bytes.bytes.len
    (c.in_ok-spell.ensures.done ∙ ap (λ (b : List ℕ). put 0 (tree_bytes (says_at l) (slice_index c.deref-2.result.now) 0 (tree_at l)) b)
    c.deref_mut.ensures.value) (omega (arith, long, c.in_ok-bytes.ensures.len, c.in_ok-bytes.bytes.ok.0))
    (omega (arith, c.in_ok-bytes.bytes.ok.0)) in
    is_text c.args.self.now l c.in_ok-places.places.items _ c.requires c.deref.ensures.value c.in_ok-places.ensures (whole ∙ same)
    (omega (arith, ap length whole, long))

pub returns-clause-empty : goal.returns-clause-empty
returns-clause-empty c = (text c).empty

pub returns-clause-tree : goal.returns-clause-tree
returns-clause-tree c = (text c).tree

pub returns-clause-length : goal.returns-clause-length
returns-clause-length c = (text c).size

pub returns-clause-found : goal.returns-clause-found
returns-clause-found c = (text c).found

pub returns-clause-only : goal.returns-clause-only
returns-clause-only c = (text c).only
