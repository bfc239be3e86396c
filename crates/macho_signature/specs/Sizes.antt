-- How long a signature is, and what one says, by the numbers that are known before its bytes (`cs_blobs.h` of xnu).
use Rattle.std.specs.Prelude.{ℕ, ◌+◌, ◌*◌, if◌then◌else◌, length}
use Rattle.macho_bytes.specs.Numbers.{rounded_up}
use Rattle.macho_bytes.specs.Layouts.{size_of}
use Rattle.macho_wire.specs.Layouts.{code_directory}
use Rattle.macho_wire.specs.declared.signature.CodeDirectory.{CodeDirectory}
use Rattle.macho_model.specs.WrittenSum.{SIGNATURE_FIXED, DIGEST_SIZE}
use Rattle.macho_model.specs.Signature.{Signed, page_count, identifier_text}
use Rattle.macho_signature.specs.declared.signature.Signer.{Signer}

-- the bytes of an identifier, by those of its name: at least one NUL, filled to a multiple of 16
abbrev pub identifier_size : ℕ → ℕ
identifier_size name = rounded_up 16 (name + 1)

-- where the digests begin in a signature: behind super blob, code directory and identifier
abbrev pub digests_offset : ℕ → ℕ
digests_offset name = SIGNATURE_FIXED + identifier_size name

-- the bytes of a signature, by those of its name and by its limit
abbrev pub signature_size : ℕ → ℕ → ℕ
signature_size name limit = digests_offset name + DIGEST_SIZE * page_count limit

-- what a signer says of so many bytes
abbrev pub signed_by : Signer → ℕ → Signed
signed_by signer limit = record {
  name = signer.identifier.now;
  executable = signer.executable;
  text_offset = signer.text_offset;
  text_size = signer.text_size;
  limit = limit;
}

-- the bytes of a code directory with its identifier and its digests
abbrev pub directory_size : Signed → ℕ
directory_size s = size_of code_directory + length (identifier_text s.name) + DIGEST_SIZE * page_count s.limit

-- its magic is `CSMAGIC_CODEDIRECTORY`, its flags `CS_ADHOC` and `CS_LINKER_SIGNED`, an executable's `CS_EXECSEG_MAIN_BINARY`
abbrev pub directory_for : Signed → CodeDirectory
directory_for s = record {
  magic = 0xfade0c02;
  length = directory_size s;
  version = 0x20400;
  flags = 0x20002;
  hash_offset = size_of code_directory + length (identifier_text s.name);
  ident_offset = size_of code_directory;
  special_slots = 0;
  code_slots = page_count s.limit;
  code_limit = s.limit;
  hash_size = DIGEST_SIZE;
  -- `CS_HASHTYPE_SHA256`, and pages of 2 ^ 12 bytes
  hash_type = 2;
  platform = 0;
  page_exponent = 12;
  spare = 0;
  scatter_offset = 0;
  team_offset = 0;
  spare2 = 0;
  code_limit64 = 0;
  exec_base = s.text_offset;
  exec_limit = s.text_size;
  exec_flags = if s.executable then 1 else 0;
}
