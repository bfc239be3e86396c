-- A signature and its digests, by computing from the bytes of a small file.
--
-- Its 128 bytes in front of the signature are one page: a header with two commands, `__TEXT` and the signature's, and eight zeros. The
-- digest of the page was made by another program. Two changes: of the digest its last byte, and of the page a zero behind the commands,
-- with the digest as before. Each leaves all the rest, and neither file is signed.
use Rattle.std.proofs.Common.{◌≡◌, ℕ, List, [], ◌∷◌, ◌++◌, length, get_or, replicate, refl, ap, sym, ◌∙◌, subst, arith}
use Rattle.std.specs.Prelude.{codes, slice_index, slice_range}
use Rattle.sha2.specs.Sha256.{sha256, compress, rounds, schedule, first_words, hash_after, digest_bytes}
use Rattle.macho_bytes.specs.Numbers.{le_at, le_bytes, be_at, be_bytes, row_bytes}
use Rattle.macho_bytes.specs.Layouts.{reading}
use Rattle.macho_records.specs.declared.header.SegmentCommand.{SegmentCommand}
use Rattle.macho_model.specs.Commands.{header_of, commands_from, commands_of, commands_end}
use Rattle.macho_model.specs.Links.{Link}
use Rattle.macho_model.specs.Segments.{TEXT}
use Rattle.macho_model.specs.Images.{Table, segments_of, segments_named, signatures_of}
use Rattle.macho_model.specs.Signature.{page_digest, page_digests, signature_text, signed_of, IsSigned}
use Rattle.macho_model_checks.proofs.Examples.{words8, words, name16, changed}
use Rattle.macho_model_checks.proofs.ExampleLinks.{executable_of}
use Rattle.macho_model_checks.proofs.ExampleCall.{big_words}
use Rattle.macho_bytes.specs.Spellings.{spelling}

abbrev pub signing : Link
signing = executable_of []

-- the page: header, `__TEXT` of the first 128 bytes, the signature of 156 bytes at 128, zeros
unfoldable pub page_signed : List ℕ
page_signed =
    words (0xfeedfacf ∷ 0x0100000c ∷ 0 ∷ 2 ∷ 2 ∷ 88 ∷ 0x200085 ∷ 0 ∷ [])
    ++ words (0x19 ∷ 72 ∷ []) ++ name16 (codes "__TEXT") ++ words8 (0x100000000 ∷ 0x4000 ∷ 0 ∷ 128 ∷ []) ++ words (5 ∷ 5 ∷ 0 ∷ 0 ∷ [])
    ++ words (0x1d ∷ 16 ∷ 128 ∷ 156 ∷ []) ++ replicate 8 0

-- its SHA-256, as Python's `hashlib` tells it
unfoldable pub digest_of_page : List ℕ
digest_of_page =
    big_words (0xd35149af ∷ 0x1d322def ∷ 0x1aedfeba ∷ 0x001f64fa ∷ 0x5ba01c1a ∷ 0x2d91e214 ∷ 0x24f15597 ∷ 0x8a372f77 ∷ [])

-- the signature: super blob, code directory, identifier, the digest
unfoldable pub small_signed : List ℕ
small_signed =
    page_signed ++ big_words (0xfade0cc0 ∷ 156 ∷ 1 ∷ 0 ∷ 20 ∷ [])
    ++ big_words (0xfade0c02 ∷ 136 ∷ 0x20400 ∷ 0x20002 ∷ 104 ∷ 88 ∷ 0 ∷ 1 ∷ 128 ∷ []) ++ 32 ∷ 2 ∷ 0 ∷ 12 ∷ []
    ++ big_words (0 ∷ 0 ∷ 0 ∷ 0 ∷ 0 ∷ 0 ∷ 0 ∷ 0 ∷ 0 ∷ 128 ∷ 0 ∷ 1 ∷ []) ++ codes "out" ++ replicate 13 0 ++ digest_of_page

abbrev pub text_signed : SegmentCommand
text_signed = record {
  cmd = 0x19;
  cmdsize = 72;
  segname = name16 (codes "__TEXT");
  vmaddr = 0x100000000;
  vmsize = 0x4000;
  fileoff = 0;
  filesize = 128;
  maxprot = 5;
  initprot = 5;
  nsects = 0;
  flags = 0;
}

abbrev pub table_signed : Table
table_signed = record { at = 128; size = 156 }

-- THE file is signed
pub small_is_signed : IsSigned signing small_signed
unfolding sha256 compress rounds schedule first_words hash_after digest_bytes header_of commands_from commands_of commands_end segments_of
    signatures_of reading spelling le_at le_bytes be_at be_bytes row_bytes words8 words name16 big_words page_signed digest_of_page
    small_signed page_digest page_digests signature_text
small_is_signed = record { limit = 128; size = 156; one = refl; ends = refl; text = text_signed; text_is = refl; says = refl }

-- what a file with these commands is signed by
says_of : (b : List ℕ) → signatures_of b ≡ table_signed ∷ [] → segments_named TEXT b ≡ text_signed ∷ [] → IsSigned signing b
    → slice_range b 128 (length b) ≡ signature_text (signed_of signing text_signed 128) b
says_of b one text signed =
    let same : table_signed ≡ record { at = signed.limit; size = signed.size } =
    ap (λ (ts : List Table). get_or ts 0 (record { at = signed.limit; size = signed.size })) (sym one ∙ signed.one) in
    let limit : signed.limit ≡ 128 = ap (λ (t : Table). t.at) (sym same) in
    let segment : signed.text ≡ text_signed = ap (λ (ss : List SegmentCommand). get_or ss 0 signed.text) (sym signed.text_is ∙ text) in
    subst (λ (n : ℕ). slice_range b n (length b) ≡ signature_text (signed_of signing text_signed n) b) limit
    (subst (λ (s : SegmentCommand). slice_range b signed.limit (length b) ≡ signature_text (signed_of signing s signed.limit) b) segment
    signed.says)

-- of the digest its last byte, 0x77
unfoldable pub with_another_digest : List ℕ
with_another_digest = changed small_signed 283 (0x78 ∷ [])

other_digest_facts : (signatures_of with_another_digest ≡ table_signed ∷ []) × (segments_named TEXT with_another_digest ≡ text_signed ∷ [])
    × (slice_index (slice_range with_another_digest 128 (length with_another_digest)) 155 ≡ 0x78)
    × (slice_index (signature_text (signed_of signing text_signed 128) with_another_digest) 155 ≡ 0x77)
unfolding sha256 compress rounds schedule first_words hash_after digest_bytes header_of commands_from commands_of commands_end segments_of
    signatures_of reading spelling le_at le_bytes be_at be_bytes row_bytes words8 words name16 big_words page_signed digest_of_page
    small_signed page_digest page_digests signature_text changed with_another_digest
other_digest_facts = (refl, refl, refl, refl)

pub digest_is_asked : IsSigned signing with_another_digest → ⊥
digest_is_asked signed =
    let byte = ap (λ (t : List ℕ). slice_index t 155) (says_of with_another_digest other_digest_facts.0 other_digest_facts.1 signed) in
    omega (arith, byte, other_digest_facts.2, other_digest_facts.3)

-- of the page a byte behind the commands: its digest is another one
unfoldable pub with_another_page : List ℕ
with_another_page = changed small_signed 120 (1 ∷ [])

other_page_facts : (signatures_of with_another_page ≡ table_signed ∷ []) × (segments_named TEXT with_another_page ≡ text_signed ∷ [])
    × (slice_index (slice_range with_another_page 128 (length with_another_page)) 155 ≡ 0x77)
    × (slice_index (signature_text (signed_of signing text_signed 128) with_another_page) 155 ≡ 0xd1)
unfolding sha256 compress rounds schedule first_words hash_after digest_bytes header_of commands_from commands_of commands_end segments_of
    signatures_of reading spelling le_at le_bytes be_at be_bytes row_bytes words8 words name16 big_words page_signed digest_of_page
    small_signed page_digest page_digests signature_text changed with_another_page
other_page_facts = (refl, refl, refl, refl)

pub page_is_asked : IsSigned signing with_another_page → ⊥
page_is_asked signed =
    let byte = ap (λ (t : List ℕ). slice_index t 155) (says_of with_another_page other_page_facts.0 other_page_facts.1 signed) in
    omega (arith, byte, other_page_facts.2, other_page_facts.3)
