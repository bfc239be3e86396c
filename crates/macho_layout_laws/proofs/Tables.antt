-- The tables of `__LINKEDIT`.
--
-- Each begins at the least multiple of its alignment behind the one before it: the first at the segment's file offset, which is a
-- multiple of pages. So they rise, from the offset to the end of the signature, which is the end of the file.
use Rattle.std.proofs.Common.{◌≡◌, ℕ, ◌+◌, ◌-◌, ◌%◌, ◌^◌, List, [], ◌∷◌, map, refl, sym, ap, ◌∙◌, arith, add-zero}
use Rattle.std.proofs.lemmas.Nat.{pow_pos}
use Rattle.macho_bytes.specs.Numbers.{rounded_up}
use Rattle.macho_model.specs.declared.placed.Counts.{Counts}
use Rattle.macho_model.specs.declared.placed.Linkedit.{Linkedit}
use Rattle.macho_model.specs.Segments.{SEGMENT_PAGE}
use Rattle.macho_model.specs.Spans.{range_span, piece}
use Rattle.macho_model.specs.Placement.{Piece}
use Rattle.macho_model.specs.steps.Outputs.{POINTER_EXPONENT}
use Rattle.macho_stack.specs.Blocks.{StandLeast}
use Rattle.macho_stack.proofs.Multiples.{rounded-same, multiple-weaker}
use Rattle.macho_stack.specs.Tables.{tables_at, symbols_start, signature_start}
use Rattle.macho_layout_laws.proofs.Stacks.{piece_block}
use Rattle.macho_model.specs.Rooms.{fixup_room}

-- the pieces of tables from an offset on
abbrev pub pieces_from : ℕ → Linkedit → List Piece
pieces_from offset t =
    record { start = offset; size = 0; exponent = 0 } ∷ piece POINTER_EXPONENT (range_span t.fixups) ∷ piece 0 (range_span t.trie)
    ∷ piece POINTER_EXPONENT (range_span t.symtab) ∷ piece 0 (range_span t.strtab) ∷ piece 4 (range_span t.signature) ∷ []

one_up : (n m : ℕ) → n ≡ m → n ≡ rounded_up (2 ^ 0) m
one_up n m e = omega (arith, e)

back : (a b : ℕ) → a + (a + b - a) ≡ a + b
back a b = omega arith

-- they stand one behind the other
pub tables_stack : (counts : Counts) (offset pages : ℕ) → offset % SEGMENT_PAGE ≡ 0
    → StandLeast offset (map piece_block (pieces_from offset (tables_at counts offset pages))) (tables_at counts offset pages).signature.end
tables_stack counts offset pages whole =
    let t : Linkedit = tables_at counts offset pages in
    let room : ℕ = fixup_room counts pages in
    let eight : offset % 2 ^ 3 ≡ 0 = multiple-weaker 3 14 offset (omega arith) whole in
    let start : ℕ = symbols_start counts offset pages in
    let last : ℕ = signature_start counts offset pages in (
      one_up offset offset refl,
      (
        sym (ap (rounded_up (2 ^ 3)) (add-zero offset) ∙ rounded-same (2 ^ 3) offset (pow_pos 3) eight),
        (
          one_up t.trie.start (t.fixups.start + (t.fixups.end - t.fixups.start)) (omega arith),
          (
            ap (rounded_up 8) (omega arith),
            (
              one_up t.strtab.start (t.symtab.start + (t.symtab.end - t.symtab.start)) (omega arith),
              (ap (rounded_up 16) (omega arith), omega arith),
            ),
          ),
        ),
      ),
    )
