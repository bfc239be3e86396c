-- The UUID of an image, and its signature: a code directory with a SHA-256 digest (FIPS 180-4) of each 4 KiB page of the file
-- in front of it (`cs_blobs.h` of xnu). Its numbers are big-endian.
use Rattle.std.specs.Prelude.{◌≡◌, ℕ, ◌+◌, ◌*◌, ◌-◌, ◌/◌, ◌%◌, ◌==◌, if◌then◌else◌, Bool, List, [], ◌∷◌, ◌++◌, length, map, min, replicate, slice_index, slice_range}
use Rattle.std.specs.List.{flat_map, range_with_len}
use Rattle.sha2.specs.Sha256.{sha256}
use Rattle.macho_records.specs.Numbers.{big, row_bytes, rounded_up}
use Rattle.macho_records.specs.ByteLayouts.{reading}
use Rattle.macho_records.specs.CommandLayouts.{uuid_command}
use Rattle.macho_records.specs.declared.constants.TheConstants.{LC_UUID}
use Rattle.macho_records.specs.declared.header.SegmentCommand.{SegmentCommand}
use Rattle.macho_model.specs.Commands.{numbered}
use Rattle.macho_model.specs.Links.{Link}
use Rattle.macho_model.specs.Segments.{TEXT}
use Rattle.macho_model.specs.WrittenSum.{SIGNED_PAGE, DIGEST_SIZE}
use Rattle.macho_model.specs.Images.{signatures_of, segments_named}
use Rattle.macho_model.specs.Faults.{last_part}

-- the 16 bytes of a UUID as they are written: version 3 in the upper half of byte 6, variant 10 in the highest bits of byte 8 (RFC 9562)
unfoldable pub uuid_written : List ℕ → List ℕ
uuid_written uuid =
    map (λ k. let byte = slice_index uuid k in if k == 6 then 0x30 + byte % 16 else if k == 8 then 0x80 + byte % 64 else byte)
    (range_with_len 0 16)

-- the file has one UUID command, which holds this UUID
abbrev pub UuidSays : List ℕ → List ℕ → Type 0
UuidSays uuid b = map (λ c. (reading uuid_command b c.at).uuid) (numbered LC_UUID b) ≡ uuid_written uuid ∷ []

-- the digest of page k of the bytes below a limit; the last page is cut there
unfoldable pub page_digest : List ℕ → ℕ → ℕ → List ℕ
page_digest b k limit = sha256 (slice_range b (SIGNED_PAGE * k) (min (SIGNED_PAGE * (k + 1)) limit))

abbrev pub page_count : ℕ → ℕ
page_count limit = (limit + (SIGNED_PAGE - 1)) / SIGNED_PAGE

unfoldable pub page_digests : List ℕ → ℕ → List ℕ
page_digests b limit = flat_map (λ k. page_digest b k limit) (range_with_len 0 (page_count limit))

-- a name with at least one NUL behind it, filled with zeros to a multiple of 16 bytes
abbrev pub identifier_text : List ℕ → List ℕ
identifier_text name = name ++ replicate (rounded_up 16 (length name + 1) - length name) 0

-- What is signed: the name of the file, whether it is an executable, the file range of its `__TEXT`, and the limit of the
-- signed bytes.
pub record Signed : Type 0 where
  pub name : List ℕ
  pub executable : Bool
  pub text_offset : ℕ
  pub text_size : ℕ
  pub limit : ℕ

-- the super blob has a head of three words and one index of two: the code directory's type and place
abbrev pub DIRECTORY_PLACE : ℕ
DIRECTORY_PLACE = 20

-- the bytes of a code directory in front of its identifier
abbrev pub DIRECTORY_HEAD : ℕ
DIRECTORY_HEAD = 88

-- The bytes of a signature. The super blob (`CSMAGIC_EMBEDDED_SIGNATURE`): its length, and one blob by its type and place. The code
-- directory (`CSMAGIC_CODEDIRECTORY`): its length, version and flags (`CS_ADHOC`, `CS_LINKER_SIGNED`), the places of digests and
-- identifier, no special digests, the number of digests and the limit; the size and type of a digest (`CS_HASHTYPE_SHA256`), no platform,
-- pages of 2 ^ 12 bytes; four fields that are not used, and no limit of 64 bits; the file range of `__TEXT`, and an executable's
-- `CS_EXECSEG_MAIN_BINARY`. Then the identifier and the digests.
unfoldable pub signature_text : Signed → List ℕ → List ℕ
signature_text s b =
    let digests : ℕ = DIRECTORY_HEAD + length (identifier_text s.name) in
    let size : ℕ = digests + DIGEST_SIZE * page_count s.limit in
    row_bytes big 4 (0xfade0cc0 ∷ (DIRECTORY_PLACE + size) ∷ 1 ∷ 0 ∷ DIRECTORY_PLACE ∷ [])
    ++ (row_bytes big 4 (0xfade0c02 ∷ size ∷ 0x20400 ∷ 0x20002 ∷ digests ∷ DIRECTORY_HEAD ∷ 0 ∷ page_count s.limit ∷ s.limit ∷ [])
    ++ row_bytes big 1 (DIGEST_SIZE ∷ 2 ∷ 0 ∷ 12 ∷ []) ++ row_bytes big 4 (0 ∷ 0 ∷ 0 ∷ 0 ∷ [])
    ++ row_bytes big 8 (0 ∷ s.text_offset ∷ s.text_size ∷ (if s.executable then 1 else 0) ∷ []))
    ++ identifier_text s.name ++ page_digests b s.limit

-- what is signed of an image: all bytes in front of the signature, under the last part of the output's path
abbrev pub signed_of : Link → SegmentCommand → ℕ → Signed
signed_of l text limit = record {
  name = last_part l.output;
  executable = l.executable;
  text_offset = text.fileoff;
  text_size = text.filesize;
  limit = limit;
}

-- The file is signed: its signature is that of its own bytes.
pub record IsSigned (l : Link) (b : List ℕ) : Type 0 where
  -- the place of the signature, where the signed bytes end, and its size
  pub limit : ℕ
  pub size : ℕ
  -- the file has this signature alone
  pub one : signatures_of b ≡ record { at = limit; size = size } ∷ []
  -- the signature ends the file
  pub ends : length b ≡ limit + size
  -- the segment `__TEXT`, of which there is one
  pub text : SegmentCommand
  pub text_is : segments_named TEXT b ≡ text ∷ []
  -- the signature's bytes are those of `signature_text`, for what stands in front of it
  pub says : slice_range b limit (length b) ≡ signature_text (signed_of l text limit) b
