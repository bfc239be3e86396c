-- Stubs that were written as one block are parts that were written one after the other.
--
-- The first n stubs of the block are its first 12 * n bytes. One more stub is put where these end, so what is put is the first
-- 12 * (n + 1) bytes. Each stub's part stands at the block's place and 12 bytes for each stub before it, which is its place in the
-- file.
use Rattle.std.proofs.Common.{◌≡◌, ℕ, zero, suc, ◌+◌, ◌*◌, ◌-◌, ◌<◌, ◌≤◌, List, [], ◌∷◌, ◌++◌, length, get_or, take, drop, take_all, slice_range, refl, sym, ap, subst, ◌∙◌, arith}
use borrow.Rule.Slice.PartMut.{put_mid}
use Rattle.std.proofs.Math.Seq.{take-add}
use Rattle.std.proofs.lemmas.List.{take_more, get_or_default, length-take, length-drop}
use Rattle.macho_bytes.specs.Texts.{Part, put}
use Rattle.macho_bytes.proofs.Puts.{put-put, put_nothing}
use Rattle.macho_bytes.proofs.Writes.{put_mid-whole}
use Rattle.macho_model.specs.declared.placed.Stub.{Stub}
use Rattle.macho_model.specs.Placement.{Placed}
use Rattle.macho_model.specs.Addresses.{offset_in_file}
use Rattle.macho_model.specs.WrittenSum.{STUB_SIZE}
use Rattle.macho_placed_laws.specs.Parts.{written}
use Rattle.macho_fields.specs.Through.{StubsAreSet}
use Rattle.macho_contents.specs.Fitting.{StubsFit}
use Rattle.macho_contents.specs.Filled.{ArePartsOf, IsStubPart, StubsAreFilled}
use Rattle.macho_contents.proofs.Firsts.{parts_more, written_more}

-- the first stubs of a block as parts
pub record ArePieces (p : Placed) (at room : ℕ) (block old : List ℕ) (n : ℕ) : Type 0 where
  pub parts : List Part
  pub each : ArePartsOf (IsStubPart p room) (take n p.stubs) parts
  pub same : written parts old ≡ put at (take (STUB_SIZE * n) block) old

abbrev pub piece : List ℕ → ℕ → List ℕ
piece block n = slice_range block (STUB_SIZE * n) (STUB_SIZE * n + STUB_SIZE)

piece_long : (block : List ℕ) (n : ℕ) → STUB_SIZE * n + STUB_SIZE ≤ length block → length (piece block n) ≡ STUB_SIZE
piece_long block n fits =
    omega (
      arith,
      length-take (STUB_SIZE * n + STUB_SIZE - STUB_SIZE * n) (drop (STUB_SIZE * n) block),
      length-drop (STUB_SIZE * n) block,
      fits,
    )

front_more : (block : List ℕ) (n : ℕ) → take (STUB_SIZE * n) block ++ piece block n ≡ take (STUB_SIZE * (n + 1)) block
front_more block n =
    let wide : STUB_SIZE * n + STUB_SIZE - STUB_SIZE * n ≡ STUB_SIZE = omega arith in
    let next : STUB_SIZE * n + STUB_SIZE ≡ STUB_SIZE * (n + 1) = omega arith in
    ap (λ (m : ℕ). take (STUB_SIZE * n) block ++ take m (drop (STUB_SIZE * n) block)) wide
    ∙ sym (take-add (STUB_SIZE * n) STUB_SIZE block) ∙ ap (λ (m : ℕ). take m block) next

one_piece : (p : Placed) (at room n : ℕ) (d : Stub) (block old : List ℕ) → length block ≡ STUB_SIZE * length p.stubs
    → StubsAreSet p p.stubs block
    → ((k : ℕ) (e : Stub) → k < length p.stubs → offset_in_file p (get_or p.stubs k e).address ≡ at + STUB_SIZE * k)
    → at + length block ≤ length old → length old ≡ room → n < length p.stubs → ArePieces p at room block old n
    → ArePieces p at room block old (n + 1)
one_piece p at room n d block old long set row fits is low before = record {
  parts = before.parts ++ part ∷ [];
  each = subst (λ (ss : List Stub). ArePartsOf (IsStubPart p room) ss (before.parts ++ part ∷ [])) (sym (take_more p.stubs n d low))
      (parts_more (IsStubPart p room) (take n p.stubs) before.parts (get_or p.stubs n d) part before.each (record {
        place = sym (row n d low);
        ends = omega (arith, size, low, long, fits, is);
        set = set n d low;
      }));
  same =
      written_more before.parts part old ∙ ap (put (at + STUB_SIZE * n) (piece block n)) before.same
      ∙ put-put at (at + STUB_SIZE * n) (take (STUB_SIZE * n) block) (piece block n) old (omega (arith, front)) (omega
      (arith, size, low, long, fits))
      ∙ ap (λ (t : List ℕ). put at t old) (front_more block n);
}
  where
    part : Part
    part = record { at = at + STUB_SIZE * n; text = piece block n }

    size : length (piece block n) ≡ STUB_SIZE
    size = piece_long block n (omega (arith, low, long))

    front : length (take (STUB_SIZE * n) block) ≡ STUB_SIZE * n
    front = omega (arith, length-take (STUB_SIZE * n) block, low, long)

pieces : (p : Placed) (at room : ℕ) (d : Stub) (block old : List ℕ) → length block ≡ STUB_SIZE * length p.stubs
    → StubsAreSet p p.stubs block
    → ((k : ℕ) (e : Stub) → k < length p.stubs → offset_in_file p (get_or p.stubs k e).address ≡ at + STUB_SIZE * k)
    → at + length block ≤ length old → length old ≡ room
    → (n : ℕ) → n ≤ length p.stubs → ArePieces p at room block old n
pieces p at room d block old long set row fits is zero low = record {
  parts = [];
  each = tt;
  same = sym (put_nothing at old (omega (arith, fits)));
}
pieces p at room d block old long set row fits is (suc n) low =
    let next : n + 1 ≡ suc n = omega arith in
    subst (ArePieces p at room block old) next
    (one_piece p at room n d block old long set row fits is (omega (arith, low))
    (pieces p at room d block old long set row fits is n (omega (arith, low))))

-- THE block, as parts
pub block_filled : (p : Placed) (at k : ℕ) (d : Stub) (block old : List ℕ) → StubsFit p (length old) → 1 ≤ length p.stubs
    → at ≡ offset_in_file p (get_or p.stubs 0 d).address → k ≡ length block → length block ≡ STUB_SIZE * length p.stubs
    → StubsAreSet p p.stubs block
    → StubsAreFilled p old (put_mid at k old block)
block_filled p at k d block old fit some is same_long long set = record {
  parts = all.parts;
  each = subst (λ ss. ArePartsOf (IsStubPart p (length old)) ss all.parts) (take_all (length p.stubs) p.stubs (omega arith)) all.each;
  same = put_mid-whole at k old block block same_long fits refl
      ∙ ap (λ (t : List ℕ). put at t old) (sym (take_all (STUB_SIZE * length p.stubs) block (omega (arith, long)))) ∙ sym all.same;
}
  where
    fits : at + length block ≤ length old
    fits = omega (arith, fit.ends d some, is, long)

    row : (j : ℕ) (e : Stub) → j < length p.stubs → offset_in_file p (get_or p.stubs j e).address ≡ at + STUB_SIZE * j
    row j e low =
        let first : get_or p.stubs 0 e ≡ get_or p.stubs 0 d = get_or_default p.stubs 0 e d some in
        fit.row j e low ∙ ap (λ (s : Stub). offset_in_file p s.address + STUB_SIZE * j) first ∙ ap (λ (m : ℕ). m + STUB_SIZE * j) (sym is)

    all : ArePieces p at (length old) block old (length p.stubs)
    all = pieces p at (length old) d block old long set row fits refl (length p.stubs) (omega arith)
