-- A file and the signature behind what it signs.
--
-- The digests of the pages below a limit are made of bytes below it alone. So files that agree below the limit have the
-- same signature: the bytes in front of it by themselves, the file before it is put, and the file that has it.
use Rattle.std.proofs.Common.{◌≡◌, ℕ, ◌+◌, ◌*◌, ◌<◌, ◌≤◌, List, ◌++◌, length, get_or, drop, slice_range, refl, sym, ap, subst, ◌∙◌, arith, min}
use Rattle.std.proofs.lemmas.List.{length-append, ext_get_or, get_or_append_left}
use Rattle.std.proofs.lemmas.List.Edits.{get_or-between}
use Rattle.std.proofs.Math.Seq.{take-append_seam, drop-append-add}
use Rattle.sha2.specs.Sha256.{sha256}
use Rattle.macho_bytes.specs.Texts.{put, Stands}
use Rattle.macho_bytes.proofs.Puts.{length-put, put_stands, get_or-put_below}
use Rattle.macho_model.specs.WrittenSum.{SIGNED_PAGE}
use Rattle.macho_model.specs.Signature.{Signed, page_digest, signature_text}
use Rattle.macho_signature.proofs.Pages.{page_digests-alike}
use Rattle.macho_signature.proofs.Anew.{length-range}

-- two files agree below a limit
pub record AgreeBelow (limit : ℕ) (b c : List ℕ) : Type 0 where
  pub first : limit ≤ length b
  pub second : limit ≤ length c
  pub same : (i : ℕ) → i < limit → get_or b i 0 ≡ get_or c i 0

range-alike : (limit : ℕ) (b c : List ℕ) (from to : ℕ) → AgreeBelow limit b c → to ≤ limit → slice_range b from to ≡ slice_range c from to
range-alike limit b c from to alike below =
    ext_get_or 0 (slice_range b from to) (slice_range c from to)
    (omega (arith, length-range b from to, length-range c from to, alike.first, alike.second))
    (λ i lt.
    let inside : from + i < to = omega (arith, length-range b from to) in
    get_or-between b from to i 0 inside ∙ alike.same (from + i) (omega arith) ∙ sym (get_or-between c from to i 0 inside))

digest-alike : (limit : ℕ) (b c : List ℕ) (k : ℕ) → AgreeBelow limit b c → page_digest b k limit ≡ page_digest c k limit
unfolding page_digest
digest-alike limit b c k alike = ap sha256 (range-alike limit b c (SIGNED_PAGE * k) (min (SIGNED_PAGE * (k + 1)) limit) alike (omega arith))

-- they have the same signature
pub signature-alike : (s : Signed) (b c : List ℕ) → AgreeBelow s.limit b c → signature_text s b ≡ signature_text s c
unfolding signature_text
signature-alike s b c alike = rw (page_digests-alike b c s.limit (λ k. digest-alike s.limit b c k alike)) refl

-- a text put at the front of what is behind some bytes
put-behind : (front text rest : List ℕ) → front ++ put 0 text rest ≡ put (length front) text (front ++ rest)
unfolding put
put-behind front text rest =
    let from : 0 + length text ≡ length text = omega arith in
    ap (λ (n : ℕ). front ++ (text ++ drop n rest)) from
    ∙ sym (ap (λ (t : List ℕ). t ++ (text ++ drop (length front + length text) (front ++ rest))) (take-append_seam front rest)
    ∙ ap (λ (t : List ℕ). front ++ (text ++ t)) (drop-append-add front rest (length text)))

-- the signature put behind what it signs
pub file_signed : (s : Signed) (front rest file : List ℕ) → s.limit ≡ length front → file ≡ front ++ rest → front
    ++ put 0 (signature_text s front) rest ≡ put s.limit (signature_text s file) file
file_signed s front rest file limit is =
    put-behind front (signature_text s front) rest
    ∙ ap (λ (t : List ℕ). put (length front) t (front ++ rest)) (signature-alike s front (front ++ rest) alike)
    ∙ ap (λ (n : ℕ). put n (signature_text s (front ++ rest)) (front ++ rest)) (sym limit)
    ∙ ap (λ (b : List ℕ). put s.limit (signature_text s b) b) (sym is)
  where
    alike : AgreeBelow s.limit front (front ++ rest)
    alike = record {
      first = omega arith;
      second = omega (arith, length-append front rest);
      same = λ i lt. sym (get_or_append_left front rest 0 i (omega arith));
    }

-- it stands in the file that has it, as that file's own
pub signed_stands : (s : Signed) (file now : List ℕ) → s.limit + length (signature_text s file) ≤ length file
    → now ≡ put s.limit (signature_text s file) file
    → Stands now (record { at = s.limit; text = signature_text s now })
signed_stands s file now fits is =
    let alike : AgreeBelow s.limit file now = record {
      first = omega arith;
      second = omega (arith, ap length is, length-put s.limit (signature_text s file) file fits);
      same = λ i lt. sym (ap (λ (b : List ℕ). get_or b i 0) is ∙ get_or-put_below s.limit (signature_text s file) file i fits lt);
    } in
    let there = subst (λ (b : List ℕ). Stands b (record { at = s.limit; text = signature_text s file })) (sym is)
    (put_stands s.limit (signature_text s file) file fits) in
    subst (λ (t : List ℕ). Stands now (record { at = s.limit; text = t })) (signature-alike s file now alike) there
