-- A text with zeros behind it, written in two pieces.
--
-- The text is copied to its place, and the bytes behind it, up to an end, are filled with zeros. The two pieces are put
-- next to each other, so they are one put of both.
use Rattle.std.proofs.Common.{◌≡◌, ℕ, ◌+◌, ◌≤◌, List, ◌++◌, length, take, drop, replicate, refl, sym, ap, ◌∙◌, arith}
use Rattle.std.proofs.lemmas.List.{length-replicate, length-take, length-drop}
use borrow.Rule.Slice.PartMut.{put_mid}
use Rattle.macho_bytes.specs.Texts.{put}
use Rattle.macho_bytes.proofs.Puts.{put-put, length-put}
use Rattle.macho_bytes.proofs.Writes.{put_mid-whole}

-- a text copied to `&mut out[at..end]`, and m zeros filled in behind it
pub put_mid-filled : (at k m : ℕ) (text out copied filled : List ℕ) → k ≡ length text → at + length text + m ≤ length out → copied ≡ text
    → filled ≡ replicate (length (take m (drop (at + length text) (put_mid at k out copied)))) 0
    → put_mid (at + length text) m (put_mid at k out copied) filled ≡ put at (text ++ replicate m 0) out
put_mid-filled at k m text out copied filled here room is zeros =
    put_mid-whole (at + length text) m (put_mid at k out copied) gap filled (sym count) (omega (arith, long, count))
    (zeros ∙ ap (λ (n : ℕ). replicate n 0) whole)
    ∙ ap (put (at + length text) gap) first
    ∙ put-put at (at + length text) text gap out refl (omega (arith, count))
  where
    gap : List ℕ
    gap = replicate m 0

    count : length gap ≡ m
    count = length-replicate m 0

    first : put_mid at k out copied ≡ put at text out
    first = put_mid-whole at k out text copied here (omega arith) is

    long : length (put_mid at k out copied) ≡ length out
    long = ap length first ∙ length-put at text out (omega arith)

    whole : length (take m (drop (at + length text) (put_mid at k out copied))) ≡ m
    whole = omega (
      arith,
      long,
      length-take m (drop (at + length text) (put_mid at k out copied)),
      length-drop (at + length text)
          (put_mid at k out copied),
    )
