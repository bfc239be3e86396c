mod Ascending
mod AskedFor
mod ExportedLink
mod InOrder
mod InstallNames
mod OpenNames
pub mod Bridge
pub mod ChosenOnes
pub mod Classes
pub mod Defined
pub mod Greatest
pub mod Leading
pub mod Offering
pub mod Targeted
pub mod UsesHere
pub mod ListsMore
pub mod NotingUses
