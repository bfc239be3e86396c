-- A buffer that was written whole.
use Rattle.std.proofs.Common.{◌≡◌, ℕ, List, ◌++◌, length, take, drop, sym, ap, ◌∙◌}
use Rattle.std.proofs.Math.Seq.{take-append_seam}

-- a buffer into which so many bytes were written, as many as it has, is these bytes
pub whole_buffer : (now old : List ℕ) (len : ℕ) → length now ≡ len → take len (now ++ drop (length now) old) ≡ now
whole_buffer now old len long = ap (λ (n : ℕ). take n (now ++ drop (length now) old)) (sym long)
    ∙ take-append_seam now (drop (length now) old)
