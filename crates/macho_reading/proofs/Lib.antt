pub mod Refusals
pub mod Following
pub mod Used
pub mod Usable
pub mod Named
pub mod Finished
pub mod Placed
