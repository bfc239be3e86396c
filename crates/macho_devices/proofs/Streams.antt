-- What a row of reads, or of writes, has done to a stream whose bytes are known.
--
-- Reads: the bytes read so far and those that are left make up those at the start. A read that gives none, into a
-- buffer with room, says that none are left; then all are read. Writes: the bytes written so far and the rest make
-- up all, and the stream has grown by those written. A write takes the front of the rest; where no rest is left,
-- the stream has grown by all.
use Rattle.std.proofs.Common.{◌≡◌, ℕ, List, ◌++◌, take, drop, Option, Some, None, ap, sym, ◌∙◌, append_assoc}
use Rattle.std.specs.Io.KnownBytes.{Appends}
use Rattle.std.proofs.lemmas.List.{take-append-drop}

pub appends_more : (a b c : Option (List ℕ)) (xs ys : List ℕ) → Appends a b xs → Appends b c ys → Appends a c (xs ++ ys)
appends_more None b c xs ys p q = tt
appends_more (Some x) None c xs ys p q = absurd p
appends_more (Some x) (Some y) None xs ys p q = absurd q
appends_more (Some x) (Some y) (Some z) xs ys p q = q ∙ ap (λ w. w ++ ys) p ∙ append_assoc x xs ys

-- so far the front of the bytes is written, and the rest is left
pub record Written (old now : Option (List ℕ)) (bytes rest : List ℕ) : Type 0 where
  pub front : List ℕ
  pub split : bytes ≡ front ++ rest
  pub appended : Appends old now front

pub written_more : (old now next : Option (List ℕ)) (bytes rest : List ℕ) (n : ℕ)
    → Written old now bytes rest → Appends now next (take n rest) → Written old next bytes (drop n rest)
written_more old now next bytes rest n so_far more =
    record {
      front = so_far.front ++ take n rest;
      split =
          so_far.split
          ∙ ap (λ r. so_far.front ++ r) (sym (take-append-drop n rest))
          ∙ sym (append_assoc so_far.front (take n rest) (drop n rest));
      appended = appends_more old now next so_far.front (take n rest) so_far.appended more;
    }
