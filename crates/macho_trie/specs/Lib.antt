pub mod Exports
pub mod Nodes
pub mod Lookup
pub mod Walks
pub mod Lists
pub mod Says
pub mod Symbols
pub mod Trees
pub mod Tables
pub mod Sorting
pub mod Encoding
pub mod Tries
pub mod Laws
-- definitions of the crate below, which clauses of this one cite
pub use Rattle.macho_bytes.specs.Uleb
pub mod steps
