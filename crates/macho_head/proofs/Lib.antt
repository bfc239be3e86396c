pub mod Split
pub mod Made
pub mod Joined
pub mod Sums
pub mod Signing
