-- The text of a signature is its four parts, put one behind the other.
--
-- Super blob, code directory, identifier and digests have 20, 88, a multiple of 16 and 32 bytes a page. Each is put where
-- the one before it ends, and puts next to each other are one put of the joined texts. What is signed stands in front of
-- the signature, so the digests of a file are those of the bytes in front of its signature, before and after it is put.
use Rattle.std.proofs.Common.{◌≡◌, ℕ, ◌+◌, ◌-◌, ◌*◌, ◌≤◌, List, [], ◌∷◌, ◌++◌, length, replicate, ap, ◌∙◌, arith}
use Rattle.std.proofs.lemmas.List.{length-append, length-replicate}
use Rattle.macho_bytes.specs.Numbers.{big, row_bytes}
use Rattle.macho_bytes.specs.Texts.{put}
use Rattle.macho_bytes.proofs.Numbers.{length-row_big}
use Rattle.macho_bytes.proofs.Puts.{put-put}
use Rattle.macho_model.specs.Signature.{Signed, DIRECTORY_PLACE, identifier_text, page_count, page_digests, signature_text}
use Rattle.macho_signature.specs.Sizes.{identifier_size, digests_offset, signature_size, directory_size, directory_for}
use Rattle.macho_signature.proofs.Pages.{length-page_digests}
use Rattle.macho_bytes.specs.Spellings.{spelling}
use Rattle.macho_wire.specs.Spellings.{code_directory_rows}

-- the identifier's bytes
pub length-identifier : (name : List ℕ) → length (identifier_text name) ≡ identifier_size (length name)
length-identifier name =
    let gap : ℕ = identifier_size (length name) - length name in
    let zeros : List ℕ = replicate gap 0 in
    let count : length zeros ≡ gap = length-replicate gap 0 in
    omega (arith, length-append name zeros, count)

-- the bytes of the whole text
pub length-signature : (s : Signed) (b : List ℕ) → length (spelling code_directory_rows (directory_for s)) ≡ 88
    → length (signature_text s b) ≡ signature_size (length s.name) s.limit
unfolding signature_text spelling
length-signature s b directory =
    let head : List ℕ = row_bytes big 4 (0xfade0cc0 ∷ (DIRECTORY_PLACE + directory_size s) ∷ 1 ∷ 0 ∷ DIRECTORY_PLACE ∷ []) in
    let front = head ++ spelling code_directory_rows (directory_for s) in
    omega (
      arith,
      length-row_big 4 (0xfade0cc0 ∷ (DIRECTORY_PLACE + directory_size s) ∷ 1 ∷ 0 ∷ DIRECTORY_PLACE ∷ []),
      directory,
      length-identifier s.name,
      length-page_digests b s.limit,
      length-append head (spelling code_directory_rows (directory_for s)),
      length-append front (identifier_text s.name),
      length-append (front ++ identifier_text s.name) (page_digests b s.limit),
    )

-- the four parts, put one behind the other
pub signature_put : (s : Signed) (b : List ℕ) (size at : ℕ) (digests before headed directed named now : List ℕ)
    → length (spelling code_directory_rows (directory_for s)) ≡ 88 → size ≡ signature_size (length s.name) s.limit
    → at ≡ digests_offset (length s.name)
    → size ≤ length before → digests ≡ page_digests b s.limit
    → headed ≡ put 0 (row_bytes big 4 (0xfade0cc0 ∷ size ∷ 1 ∷ 0 ∷ DIRECTORY_PLACE ∷ [])) before
    → directed ≡ put DIRECTORY_PLACE (spelling code_directory_rows (directory_for s)) headed
    → named ≡ put 108 (identifier_text s.name) directed
    → now ≡ put at digests named → now ≡ put 0 (signature_text s b) before
unfolding signature_text spelling
signature_put s b size at digests before headed directed named now directory sized offset room are first second third fourth =
    fourth ∙ ap (put at digests) three
    ∙ put-put 0 at (front ++ directory_text ++ identifier_text s.name) digests before
    (omega (arith, offset, two_long, length-identifier s.name, three_long))
    (omega (arith, offset, sized, digests_long))
    ∙ ap (λ (t : List ℕ). put 0 (front ++ directory_text ++ identifier_text s.name ++ t) before) are
    ∙ ap (λ (n : ℕ). put 0 (row_bytes big 4 (0xfade0cc0 ∷ n ∷ 1 ∷ 0 ∷ DIRECTORY_PLACE ∷ []) ++ directory_text
    ++ identifier_text s.name ++ page_digests b s.limit) before) whole
  where
    front : List ℕ
    front = row_bytes big 4 (0xfade0cc0 ∷ size ∷ 1 ∷ 0 ∷ DIRECTORY_PLACE ∷ [])

    directory_text : List ℕ
    directory_text = spelling code_directory_rows (directory_for s)

    whole : size ≡ DIRECTORY_PLACE + directory_size s
    whole = omega (arith, sized, length-identifier s.name)

    front_long : length front ≡ 20
    front_long = length-row_big 4 (0xfade0cc0 ∷ size ∷ 1 ∷ 0 ∷ DIRECTORY_PLACE ∷ [])

    digests_long : length digests ≡ 32 * page_count s.limit
    digests_long = ap length are ∙ length-page_digests b s.limit

    two_long : length (front ++ directory_text) ≡ 108
    two_long = omega (arith, length-append front directory_text, front_long, directory)

    three_long : length (front ++ directory_text ++ identifier_text s.name) ≡ 108 + length (identifier_text s.name)
    three_long = omega (arith, length-append (front ++ directory_text) (identifier_text s.name), two_long)

    two : directed ≡ put 0 (front ++ directory_text) before
    two = second ∙ ap (put DIRECTORY_PLACE directory_text) first
        ∙ put-put 0 DIRECTORY_PLACE front directory_text before (omega (arith, front_long)) (omega (arith, directory, sized, room))

    three : named ≡ put 0 (front ++ directory_text ++ identifier_text s.name) before
    three = third ∙ ap (put 108 (identifier_text s.name)) two
        ∙ put-put 0 108 (front ++ directory_text) (identifier_text s.name) before (omega (arith, two_long))
        (omega (arith, length-identifier s.name, sized, room))
