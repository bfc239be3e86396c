mod Zipped
mod Mapped
mod Marking
mod Reading
mod Elsewhere
mod Zerofill
mod Standing
mod Unfilled
mod Plainly
mod Stubbed
pub mod Chained
pub mod Entries
pub mod Found
pub mod Leads
pub mod Merged
pub mod AllNeeded
pub mod Compared
pub mod Differing
pub mod Gathered
pub mod Sites
