pub mod Whole
pub mod Pieces
pub mod Exactly
pub mod Slices
pub mod Contents
pub mod Behind
pub mod Standing
pub mod Zeros
pub mod Lengths
pub mod Linked
-- what crates above take of those below
pub use Rattle.macho_contents.proofs.Fit
pub use Rattle.macho_synthetic.proofs.Fitting
pub use Rattle.macho_synthetic.proofs.Sound
pub use Rattle.macho_synthetic.proofs.Nothing
pub use Rattle.macho_writing_laws.proofs.Segments
pub use Rattle.macho_writing_laws.proofs.Entries as FoundEntries
pub use Rattle.macho_writing_laws.proofs.Heads
pub use Rattle.macho_writing_laws.proofs.Plain
pub use Rattle.macho_writing_laws.proofs.TableRooms
pub use Rattle.macho_writing_laws.proofs.Tables as FoundTables
pub use Rattle.macho_writing_laws.proofs.Inside
pub use Rattle.macho_writing_laws.proofs.Places as FoundPlaces
pub use Rattle.macho_writing_laws.proofs.Sizes as FoundSizes
pub use Rattle.macho_writing_laws.proofs.Placed
pub use Rattle.macho_writing_laws.proofs.Pointers
pub use Rattle.macho_writing_laws.proofs.Template
pub use Rattle.macho_writing_laws.proofs.Slots
pub use Rattle.macho_writing_laws.proofs.Stubs
pub use Rattle.macho_writing_laws.proofs.Rows
pub use Rattle.macho_writing_laws.proofs.Files
