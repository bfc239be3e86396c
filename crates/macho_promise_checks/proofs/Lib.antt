pub mod FactsCall
pub mod PlacedCall
pub mod HeadCall
pub mod FixupsCall
pub mod ComposedCall
pub mod ChangesCall
pub mod ChangesContent
pub mod FixupWords
