pub mod Lists
pub mod Agree
pub mod Found
pub mod Rooms
pub mod Writes
pub mod Moved
pub mod Known
pub mod Told
pub mod Places
pub mod Splices
pub mod Same
pub mod TablesSame
pub mod Chains
pub mod Accepts
pub mod Memories
pub mod Retooled
mod Words
pub mod Rows
