-- Text behind text, from the start of a list on.
--
-- What is written so far is one text put at 0. The next text is put where it ends, and two puts next to each other are one.
use Rattle.std.proofs.Common.{◌≡◌, ℕ, ◌+◌, ◌≤◌, List, ◌++◌, length, take, drop, ap, ◌∙◌, arith}
use Rattle.std.proofs.Math.Seq.{take-append_seam, drop-length}
use Rattle.std.proofs.lemmas.List.{length-append}
use Rattle.macho_bytes.specs.Texts.{put}
use Rattle.macho_bytes.proofs.Puts.{put-put}

-- A text is put at 0, and ends at a place.
pub record IsPutUpTo (before now text : List ℕ) (at : ℕ) : Type 0 where
  pub is : now ≡ put 0 text before
  pub long : length text ≡ at

-- a text put where the last one ends makes one text with it, which ends behind both
pub put_next : (before now after text more : List ℕ) (at to : ℕ) → IsPutUpTo before now text at
    → after ≡ put at more now → to ≡ at + length more → to ≤ length before
    → IsPutUpTo before after (text ++ more) to
put_next before now after text more at to so_far written ends room = record {
  is = written ∙ ap (put at more) so_far.is ∙ put-put 0 at text more before (omega (arith, so_far.long)) (omega (arith, ends, room));
  long = omega (arith, length-append text more, so_far.long, ends);
}

-- the first bytes of what was written back are the text, where it has the length of what stood there
pub written_back : (text old now : List ℕ) (count : ℕ) → now ≡ text → length text ≡ length old → count ≡ length old
    → take count (now ++ drop (length now) old) ≡ text
written_back text old now count is same long =
    ap (λ (n : ℕ). take n (now ++ drop (length now) old)) (omega (arith, long, same, ap (λ (t : List ℕ). length t) is))
    ∙ take-append_seam now (drop (length now) old) ∙ is
