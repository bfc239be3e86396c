-- Parts of the definitions of `Signature`, by names that proofs use.
use Rattle.std.specs.Prelude.{ℕ, ◌+◌, ◌%◌, ◌==◌, if◌then◌else◌}

-- the 16 bytes of a UUID as they are written: version 3 in the upper half of byte 6, the variant 10 in the highest bits of
-- byte 8 (RFC 9562)
abbrev pub uuid_byte : ℕ → ℕ → ℕ
uuid_byte k byte = if k == 6 then 0x30 + byte % 16 else if k == 8 then 0x80 + byte % 64 else byte
