-- Signing the pages that hold a UUID makes the signature right again.
--
-- A text of 16 bytes that is put at a place changes the bytes of the pages from the place's up to its last byte's, and
-- of no other page: so every other page has the digest that it had. The list of all digests is those before these pages,
-- theirs, and those behind. Where the old list stands in the signature, putting the middle ones anew leaves the first
-- and the last as they are, and gives the new list whole.
use Rattle.std.proofs.Common.{◌≡◌, ℕ, ◌+◌, ◌-◌, ◌*◌, ◌<◌, ◌≤◌, ◌⊎◌, ◌≢◌, List, ◌++◌, length, get_or, slice_range, slice_index, slice_set, drop, ◌%◌, inl, inr, refl, sym, ap, subst, ◌∙◌, arith, min}
use Rattle.std.proofs.lemmas.Bool.{cases_lt}
use Rattle.std.proofs.lemmas.List.{length-append, ext_get_or, get_or_append_left, get_or-append_right, length-take, length-drop, length-set, get_or-set_same, get_or-set_other}
use Rattle.std.proofs.lemmas.List.FromFn.{get_or-map-range_with_len}
use Rattle.std.proofs.lemmas.Bool.Decides.{nat_tests}
use Rattle.std.proofs.lemmas.List.Edits.{get_or-between}
use Rattle.sha2.specs.Sha256.{sha256}
use Rattle.macho_bytes.specs.Texts.{put, Stands}
use Rattle.macho_bytes.proofs.Puts.{length-put, is_put, get_or-put_in, get_or-put_below, get_or-put_above}
use Rattle.macho_model.specs.WrittenSum.{SIGNED_PAGE}
use Rattle.macho_model.specs.Signature.{page_digest, page_count, uuid_written}
use Rattle.macho_signature.specs.Pages.{digests_of, first_page, last_page, digests_from}
use Rattle.macho_signature.proofs.Pages.{length-digests, digests_all, digests_join, digests_agree}
use Rattle.macho_model.specs.steps.Signature.{uuid_byte}
use Rattle.macho_bytes.proofs.Comparing.{same_or_not}
use Rattle.macho_model.proofs.Sections.{length-uuid}

-- the bytes of a UUID that stay
other_byte : (i byte : ℕ) → i ≢ 6 → i ≢ 8 → uuid_byte i byte ≡ byte
other_byte i byte six eight = grind (arith, nat_tests)

-- a UUID of 16 bytes with the bits of version and variant set is the one that is written
pub uuid_written-is : (uuid : List ℕ) → length uuid ≡ 16
    → slice_set (slice_set uuid 6 (0x30 + slice_index uuid 6 % 16)) 8 (0x80 + slice_index uuid 8 % 64) ≡ uuid_written uuid
unfolding uuid_written
uuid_written-is uuid sixteen =
    ext_get_or 0 (slice_set six 8 eighth) (uuid_written uuid) (long ∙ sym (length-uuid uuid))
    (λ i lt. each i (omega (arith, long)) ∙ sym (get_or-map-range_with_len (λ k. uuid_byte k (slice_index uuid k)) 0 16 i i 0
    (omega (arith, long)) (omega arith)))
  where
    sixth : ℕ
    sixth = 0x30 + slice_index uuid 6 % 16

    eighth : ℕ
    eighth = 0x80 + slice_index uuid 8 % 64

    six : List ℕ
    six = slice_set uuid 6 sixth

    long : length (slice_set six 8 eighth) ≡ 16
    long = length-set six 8 eighth ∙ length-set uuid 6 sixth ∙ sixteen

    -- byte 6, byte 8, and the others
    each : (i : ℕ) → i < 16 → get_or (slice_set six 8 eighth) i 0 ≡ uuid_byte i (get_or uuid i 0)
    each i lt =
        let Same : ℕ → Type 0 = λ k. get_or (slice_set six 8 eighth) k 0 ≡ uuid_byte k (get_or uuid k 0) in
        let at_six : Same 6 = get_or-set_other six 8 6 eighth 0 (λ e. omega arith) ∙ get_or-set_same uuid 6 sixth 0 (omega arith) in
        let at_eight : Same 8 = get_or-set_same six 8 eighth 0 (omega (arith, length-set uuid 6 sixth)) in
        elim (same_or_not i 6) [
          | inl is ↦ subst Same (sym is) at_six
          | inr not_six ↦
              elim (same_or_not i 8) [
                | inl is ↦ subst Same (sym is) at_eight
                | inr not_eight ↦
                    get_or-set_other six 8 i eighth 0 not_eight ∙ get_or-set_other uuid 6 i sixth 0 not_six
                    ∙ sym (other_byte i (get_or uuid i 0) not_six not_eight)
              ]
        ]

-- the bytes of a range
pub length-range : (bytes : List ℕ) (from to : ℕ) → length (slice_range bytes from to) ≡ min (to - from) (length bytes - from)
length-range bytes from to = length-take (to - from) (drop from bytes) ∙ ap (λ (n : ℕ). min (to - from) n) (length-drop from bytes)

-- a range that a put leaves alone
range-put_other : (at : ℕ) (text bytes : List ℕ) (from to : ℕ) → at + length text ≤ length bytes → (to ≤ at) ⊎ (at + length text ≤ from)
    → slice_range (put at text bytes) from to ≡ slice_range bytes from to
range-put_other at text bytes from to fits beside =
    ext_get_or 0 (slice_range (put at text bytes) from to) (slice_range bytes from to) same_long same
  where
    long : length (put at text bytes) ≡ length bytes
    long = length-put at text bytes fits

    same_long : length (slice_range (put at text bytes) from to) ≡ length (slice_range bytes from to)
    same_long = length-range (put at text bytes) from to ∙ ap (λ (n : ℕ). min (to - from) (n - from)) long
        ∙ sym (length-range bytes from to)

    same : (i : ℕ) → i < length (slice_range (put at text bytes) from to)
        → get_or (slice_range (put at text bytes) from to) i 0 ≡ get_or (slice_range bytes from to) i 0
    same i lt =
        let inside : from + i < to = omega (arith, length-range (put at text bytes) from to) in
        get_or-between (put at text bytes) from to i 0 inside
        ∙ elim beside [
          | inl before ↦ get_or-put_below at text bytes (from + i) fits (omega arith)
          | inr after ↦ get_or-put_above at text bytes (from + i) fits (omega arith)
        ]
        ∙ sym (get_or-between bytes from to i 0 inside)

-- the digest of a page that a put leaves alone
digest-put_other : (at : ℕ) (text bytes : List ℕ) (k limit : ℕ) → at + length text ≤ length bytes
    → (SIGNED_PAGE * (k + 1) ≤ at) ⊎ (at + length text ≤ SIGNED_PAGE * k)
    → page_digest (put at text bytes) k limit ≡ page_digest bytes k limit
unfolding page_digest
digest-put_other at text bytes k limit fits beside =
    ap sha256 (range-put_other at text bytes (SIGNED_PAGE * k) (min (SIGNED_PAGE * (k + 1)) limit) fits (elim beside [
      | inl before ↦ inl (omega arith)
      | inr after ↦ inr after
    ]))

-- a middle text put anew over a text that stands
put-middle : (at place : ℕ) (x y z new bytes : List ℕ) → Stands bytes (record { at = at; text = x ++ (y ++ z) }) → place ≡ at + length x
    → length new ≡ length y
    → put place new bytes ≡ put at (x ++ (new ++ z)) bytes
put-middle at place x y z new bytes s here long =
    is_put at (x ++ (new ++ z)) bytes (put place new bytes) (omega (arith, whole, s.within, old)) (length-put place new bytes fits)
    inside (λ i below. get_or-put_below place new bytes i fits (omega arith))
    (λ i above. get_or-put_above place new bytes i fits (omega (arith, whole)))
  where
    old : length (x ++ (y ++ z)) ≡ length x + (length y + length z)
    old = length-append x (y ++ z) ∙ ap (λ (n : ℕ). length x + n) (length-append y z)

    whole : length (x ++ (new ++ z)) ≡ length x + (length new + length z)
    whole = length-append x (new ++ z) ∙ ap (λ (n : ℕ). length x + n) (length-append new z)

    fits : place + length new ≤ length bytes
    fits = omega (arith, s.within, old)

    was : (i : ℕ) → i < length (x ++ (y ++ z)) → get_or bytes (at + i) 0 ≡ get_or (x ++ (y ++ z)) i 0
    was i lt =
        sym (get_or-between bytes at (at + length (x ++ (y ++ z))) i 0 (omega arith))
        ∙ ap (λ (t : List ℕ). get_or t i 0) s.same

    inside : (i : ℕ) → at ≤ i → i < at + length (x ++ (new ++ z)) → get_or (put place new bytes) i 0 ≡ get_or (x ++ (new ++ z)) (i - at) 0
    inside i from to =
        let there : at + (i - at) ≡ i = omega arith in
        let held = ap (λ (k : ℕ). get_or bytes k 0) (sym there) ∙ was (i - at) (omega (arith, old, whole)) in
        elim (cases_lt i place) [
          | inl lt ↦
              get_or-put_below place new bytes i fits lt ∙ held
              ∙ get_or_append_left x (y ++ z) 0 (i - at) (omega arith)
              ∙ sym (get_or_append_left x (new ++ z) 0 (i - at) (omega arith))
          | inr le ↦
              elim (cases_lt i (place + length new)) [
                | inl lt ↦
                    get_or-put_in place new bytes i fits le lt
                    ∙ ap (λ (k : ℕ). get_or new k 0) (omega arith)
                    ∙ sym (get_or_append_left new z 0 (i - at - length x) (omega arith))
                    ∙ sym (get_or-append_right x (new ++ z) (length x) (i - at) 0 refl (omega arith))
                | inr past ↦
                    get_or-put_above place new bytes i fits past ∙ held
                    ∙ get_or-append_right x (y ++ z) (length x) (i - at) 0 refl (omega arith)
                    ∙ get_or-append_right y z (length y) (i - at - length x) 0 refl (omega arith)
                    ∙ ap (λ (k : ℕ). get_or z k 0) (omega arith)
                    ∙ sym (get_or-append_right new z (length new) (i - at - length x) 0 refl (omega arith))
                    ∙ sym (get_or-append_right x (new ++ z) (length x) (i - at) 0 refl (omega arith))
              ]
        ]

-- the digests of all pages, in three runs
digests_split : (b : List ℕ) (first middle behind : ℕ) → page_count (length b) ≡ first + (middle + behind)
    → digests_of b ≡ digests_from b 0 first ++ (digests_from b first middle ++ digests_from b (first + middle) behind)
digests_split b first middle behind is =
    let from : 0 + first ≡ first = omega arith in
    sym (digests_all b) ∙ ap (digests_from b 0) is ∙ digests_join b 0 first (middle + behind)
    ∙ ap (λ (k : ℕ). digests_from b 0 first ++ digests_from b k (middle + behind)) from
    ∙ ap (λ (t : List ℕ). digests_from b 0 first ++ t) (digests_join b first middle behind)

-- THE signature is right again
pub signed_anew : (signed uuid signature : List ℕ) (hashes place : ℕ) → length uuid ≡ 16
    → SIGNED_PAGE * (last_page place + 1) ≤ length signed
    → Stands signature (record { at = hashes; text = digests_of signed })
    → put (hashes + 32 * first_page place) (digests_from (put place uuid signed) (first_page place)
    (last_page place + 1 - first_page place)) signature
    ≡ put hashes (digests_of (put place uuid signed)) signature
signed_anew signed uuid signature hashes place sixteen whole right =
    put-middle hashes (hashes + 32 * first) front (digests_from signed first middle) rest (digests_from now first middle) signature
    (subst (λ (t : List ℕ). Stands signature (record { at = hashes; text = t })) (digests_split signed first middle behind count) right)
    (omega (arith, length-digests signed 0 first)) (length-digests now first middle ∙ sym (length-digests signed first middle))
    ∙ ap (λ (t : List ℕ). put hashes t signature) (ap (λ (t : List ℕ). t ++ (digests_from now first middle ++ rest)) before
    ∙ ap (λ (t : List ℕ). digests_from now 0 first ++ (digests_from now first middle ++ t)) after
    ∙ sym (digests_split now first middle behind (ap page_count long ∙ count)))
  where
    now : List ℕ
    now = put place uuid signed

    first : ℕ
    first = first_page place

    middle : ℕ
    middle = last_page place + 1 - first_page place

    behind : ℕ
    behind = page_count (length signed) - (first + middle)

    front : List ℕ
    front = digests_from signed 0 first

    rest : List ℕ
    rest = digests_from signed (first + middle) behind

    fits : place + length uuid ≤ length signed
    fits = omega arith

    long : length now ≡ length signed
    long = length-put place uuid signed fits

    count : page_count (length signed) ≡ first + (middle + behind)
    count = omega arith

    -- a page that does not hold the UUID has the digest that it had
    alike : (k : ℕ) → (SIGNED_PAGE * (k + 1) ≤ place) ⊎ (place + length uuid ≤ SIGNED_PAGE * k)
        → page_digest signed k (length signed) ≡ page_digest now k (length now)
    alike k beside = sym (ap (page_digest now k) long ∙ digest-put_other place uuid signed k (length signed) fits beside)

    before : front ≡ digests_from now 0 first
    before = digests_agree signed now 0 first (λ k from to. alike k (inl (omega arith)))

    after : rest ≡ digests_from now (first + middle) behind
    after = digests_agree signed now (first + middle) behind (λ k from to. alike k (inr (omega arith)))
