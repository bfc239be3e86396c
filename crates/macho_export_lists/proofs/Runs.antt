-- Bytes of a pattern that are no stars. Some of such bytes that stand together are such bytes, at the sum of both places. What is
-- in front of the first star of an end of a pattern has no star, and stands in the pattern where that end begins.
use Rattle.std.proofs.Common.{◌≡◌, ℕ, ◌+◌, ◌-◌, ◌<◌, ◌≤◌, ◌==◌, List, length, get_or, take, drop, ap, sym, ◌∙◌, arith, length-take-le, length-drop, drop-drop}
use Rattle.std.proofs.lemmas.List.{get_or-take, get_or-drop}
use Rattle.std.specs.List.{slice_range}
use Rattle.memchr.specs.Find.{NoneBefore, Passes, is_byte}
use Rattle.memchr.proofs.lemmas.MatchLemmas.{OccursAt-from_part}
use Rattle.macho_model.specs.ExportLists.{STAR}
use Rattle.macho_export_lists.specs.steps.Ends.{IsRun, IsTail}
use Rattle.macho_export_lists.proofs.Matching.{starless}

-- some of the bytes
pub run_part : (run pattern : List ℕ) (i w : ℕ) → i + w ≤ length run → IsRun run pattern → IsRun (slice_range run i (i + w)) pattern
run_part run pattern i w within r = record {
  at = r.at + i;
  occurs = record {
    fits = omega (arith, long, within, r.occurs.fits);
    reads = λ j h. ap (λ k. get_or pattern k 0) (plus j) ∙ r.occurs.reads (i + j) (omega (arith, h, long, within))
        ∙ sym (same j 0 (omega (arith, h, long)));
  };
  plain = λ k d h. ap (λ b. b == STAR) (same k d (omega (arith, h, long))) ∙ r.plain (i + k) d (omega (arith, h, long, within));
}
  where
    size : i + w - i ≡ w
    size = omega arith

    long : length (slice_range run i (i + w)) ≡ w
    long = length-take-le (i + w - i) (drop i run) (omega (arith, within, length-drop i run)) ∙ size

    plus : (j : ℕ) → r.at + i + j ≡ r.at + (i + j)
    plus j = omega arith

    same : (k d : ℕ) → k < w → get_or (slice_range run i (i + w)) k d ≡ get_or run (i + k) d
    same k d h = get_or-take (i + w - i) (drop i run) k d (omega (arith, h)) ∙ get_or-drop i run k d

-- the bytes in front of the first star of an end
pub run_between : (pattern left : List ℕ) (star : ℕ) → IsTail left pattern
    → NoneBefore (Passes (is_byte STAR) left) 0 (length left) star → IsRun (take star left) pattern
run_between pattern left star t first = record {
  at = t.at;
  occurs = OccursAt-from_part pattern (take star left) t.at
      (omega (arith, short, first.high, ap length t.is, length-drop t.at pattern))
      (ap (λ n. take n (drop t.at pattern)) short ∙ ap (take star) (sym t.is));
  plain = starless left star first;
}
  where
    short : length (take star left) ≡ star
    short = length-take-le star left (omega (arith, first.high))

-- an end of an end
pub tail_more : (text left more : List ℕ) (n : ℕ) → IsTail left text → more ≡ drop n left → IsTail more text
tail_more text left more n t is = record { at = t.at + n; is = is ∙ ap (drop n) t.is ∙ drop-drop n t.at text }
