-- Stubs: three instructions that go on to an import through its slot; and where an image begins.
-- the bytes of a stub
pub use Rattle.macho_model.specs.WrittenSum.{STUB_SIZE}
use Rattle.std.specs.Prelude.{ℕ, ◌^◌, Bool, if◌then◌else◌}

-- how far an ADRP reaches forward, from the start of its page
abbrev pub ADRP_REACH : ℕ
ADRP_REACH = 2 ^ 32

-- the address of an image's first byte before it slides: an executable leaves the first 4 GiB unmapped
abbrev pub start_address : Bool → ℕ
start_address executable = if executable then 2 ^ 32 else 0
