pub mod Looks
pub mod Filling
pub mod Faults
pub mod Pointers
pub mod Reads
pub mod Through
pub mod Laws
pub mod steps
