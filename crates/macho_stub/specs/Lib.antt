pub mod Documents
pub mod Grammar
pub mod Places
pub mod Library
pub mod Rules
pub mod Order
pub mod Answer
pub mod steps
-- definitions of the crate below, which clauses of this one cite
pub use Rattle.macho_stub_lines.specs.Bytes
pub use Rattle.macho_stub_lines.specs.Slices
pub use Rattle.macho_stub_lines.specs.Spelling
pub use Rattle.macho_stub_lines.specs.FlowLists
pub use Rattle.macho_stub_lines.specs.Values
pub use Rattle.macho_stub_lines.specs.Keys
pub use Rattle.macho_stub_lines.specs.Faults
