pub mod Entries
pub mod Exported
pub mod Kept
pub mod Targets
pub mod Told
pub mod steps
-- why symbols are refused, of the crate below
pub use Rattle.macho_symbol_names.specs.declared.fault.SymbolFault
