pub mod Layouts
pub mod Spellings
pub mod Flags
pub mod Texts
pub mod Segments
pub mod Sections
pub mod Symbols
-- layouts and records of the crate below, which clauses of this one and above cite
pub use Rattle.macho_wire.specs.Layouts as CommandLayouts
pub use Rattle.macho_wire.specs.Spellings as CommandSpellings
pub use Rattle.macho_wire.specs.Relocations
pub use Rattle.macho_wire.specs.declared.commands.BuildToolVersion
pub use Rattle.macho_wire.specs.declared.commands.BuildVersionCommand
pub use Rattle.macho_wire.specs.declared.commands.DylibCommand
pub use Rattle.macho_wire.specs.declared.commands.DylinkerCommand
pub use Rattle.macho_wire.specs.declared.commands.EntryPointCommand
pub use Rattle.macho_wire.specs.declared.commands.LinkeditDataCommand
pub use Rattle.macho_wire.specs.declared.commands.RpathCommand
pub use Rattle.macho_wire.specs.declared.commands.UuidCommand
pub use Rattle.macho_wire.specs.declared.fixups.ChainedFixupsHeader
pub use Rattle.macho_wire.specs.declared.fixups.ChainedStartsInSegment
pub use Rattle.macho_wire.specs.declared.relocations.RelocationInfo
pub use Rattle.macho_wire.specs.declared.signature.CodeDirectory
pub use Rattle.macho_wire.specs.declared.unwind.UnwindInfoEntry
pub use Rattle.macho_bytes.specs.Layouts as ByteLayouts
pub use Rattle.macho_bytes.specs.Spellings as ByteSpellings
pub use Rattle.macho_bytes.specs.Texts as ByteTexts
pub use Rattle.macho_bytes.specs.Numbers
