pub mod Multiples
pub mod Lists
pub mod StackRows
pub mod Stacking
pub mod Ranks
pub mod Adding
pub mod Starting
pub mod RowSteps
